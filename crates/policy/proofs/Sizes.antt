-- Where entries stand in a table of n rows. Assumes nothing.
use Prim.Native.Nat.{ℕ, ◌+◌, ◌*◌, ◌<◌, ◌≤◌}
use native.Mathlib.Nat.{mul-le-mul_left, mul-le-mul_right}
use native.Mathlib.Omega.{arith}

pub square : (n : ℕ) {t u : ℕ} → t < n → u < n → t * n + u < n * n
square n lt lu = omega (arith, mul-le-mul_right n lt)

pub small : (n : ℕ) → n ≤ 16 → n * n ≤ 256
small n h = omega (arith, mul-le-mul_left n h)
