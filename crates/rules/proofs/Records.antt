-- The records that a viewer sees, as more are written. Assumes nothing.
use Prim.Native.Nat.{ℕ}
use mathlib.Core.Path.{◌≡◌, refl}
use mathlib.Core.Bool.{Bool, true, false}
use mathlib.Core.List.{List, [], ◌∷◌, ◌++◌, append-nil}
use Rattle.rules.specs.Policy.{Policy, under}
use Rattle.rules.specs.Memory.{Record, out}
use Rattle.rules.specs.Views.{keep, seen}

module _ (P : Policy) (A : ℕ) where
  keep_append : (b : Bool) (x : Record) (r q : List Record) → keep b x r ++ q ≡ keep b x (r ++ q)
  keep_append true x r q = refl
  keep_append false x r q = refl

  pub seen_append : (r q : List Record) → seen P A (r ++ q) ≡ seen P A r ++ seen P A q
  seen_append [] q = refl
  seen_append (out port v ∷ r) q = rw (seen_append r q, keep_append)

  pub seen_hidden : (r : List Record) (port v : ℕ) → under P (P.clearance port) A ≡ false
      → seen P A (r ++ (out port v ∷ [])) ≡ seen P A r
  seen_hidden r port v e = rw (seen_append, e, append-nil)
