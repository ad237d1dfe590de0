-- The number of a fault leads back to it. Assumes nothing.
use Prim.Native.Nat.{ℕ, ◌-◌, ◌<◌, ◌≤◌}
use native.Mathlib.Omega.{arith}
use mathlib.Core.Path.{◌≡◌, sym}
use mathlib.Core.List.{[], ◌∷◌}
use lib.ListN.{get_or-eq_default}
use Rattle.rules.specs.declared.Stop.TheVariants.{AssignTag, StoreTag, EmitTag, Index, Divisor, Room, Frames}
use Rattle.layout.specs.Answers.{stop_from}
use Rattle.eval.proofs.stop_of.Goals as goal

first : (n : ℕ) → n < 3 → AssignTag ≡ stop_from n
unfolding stop_from
first n l =
    let e : n - 2 ≡ 0 = omega arith in
    rw e

last : (n : ℕ) → 8 ≤ n → Frames ≡ stop_from n
unfolding stop_from
last n l =
    let m : 6 ≤ n - 2 = omega arith in
    sym (get_or-eq_default (AssignTag ∷ StoreTag ∷ EmitTag ∷ Index ∷ Divisor ∷ Room ∷ []) Frames m)

pub returns-in-3 : goal.returns-in-3
unfolding stop_from
returns-in-3 c = rw c.in-3.is

pub returns-in-4 : goal.returns-in-4
unfolding stop_from
returns-in-4 c = rw c.in-4.is

pub returns-in-5 : goal.returns-in-5
unfolding stop_from
returns-in-5 c = rw c.in-5.is

pub returns-in-6 : goal.returns-in-6
unfolding stop_from
returns-in-6 c = rw c.in-6.is

pub returns-in-7 : goal.returns-in-7
unfolding stop_from
returns-in-7 c = rw c.in-7.is

pub returns-in-0 : goal.returns-in-0
returns-in-0 c = first _ (omega arith)

pub returns-in_default : goal.returns-in_default
returns-in_default c = last _ (omega arith)
