use Prim.Native.Nat.{ℕ, ◌-◌, ◌<◌, ◌≤◌}
use mathlib.Core.Path.{◌≡◌}
use mathlib.Core.Bool.{true}
use Rattle.rules.specs.Policy.{policy_of, law_at}
use Rattle.policy.proofs.laws_ok.Given as goal

abbrev pub invariant-loop-w : goal.invariant-loop-w
invariant-loop-w l = (l.w ≤ l.n) × (l.ok ≡ true) × ((k : ℕ) → k < l.w → law_at (policy_of l.p) l.t l.u k ≡ true)

abbrev pub decreases-loop-w : goal.decreases-loop-w
decreases-loop-w l = l.n - l.w

abbrev pub invariant-loop-u : goal.invariant-loop-u
invariant-loop-u l = (l.u ≤ l.n) × (l.ok ≡ true) × ((j : ℕ) → j < l.u → (k : ℕ) → k < l.n → law_at (policy_of l.p) l.t j k ≡ true)

abbrev pub decreases-loop-u : goal.decreases-loop-u
decreases-loop-u l = l.n - l.u

abbrev pub invariant-laws : goal.invariant-laws
invariant-laws l = (l.t ≤ l.n) × (l.ok ≡ true) × ((i : ℕ) → i < l.t → (j : ℕ) → j < l.n → (k : ℕ) → k < l.n → law_at (policy_of l.p) i j k ≡ true)

abbrev pub decreases-laws : goal.decreases-laws
decreases-laws l = l.n - l.t
