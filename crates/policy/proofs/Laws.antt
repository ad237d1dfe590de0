-- The laws over all triples of tags, from what the loops find at a pair and at one triple. Assumes nothing.
use Prim.Native.Nat.{ℕ, ◌<◌}
use mathlib.Core.Path.{◌≡◌, refl, sym, ◌∙◌}
use mathlib.Core.Bool.{Bool, true, false, ◌&&◌}
use lib.Dec.{eqb}
use Rattle.rules.specs.Policy.{Policy, law_at, laws_ok}
use Rattle.rules.proofs.Tests.{and_left, and_right, and_both, fails}
use Rattle.rules.proofs.Checks.{all, not_every}
use Rattle.policy.specs.Laws.{pair_laws, associates}

-- ---- one triple

pub law_holds : (P : Policy) (t u w : ℕ) → pair_laws P t u ≡ true → associates P t u w ≡ true → law_at P t u w ≡ true
unfolding law_at pair_laws
law_holds P t u w e a =
    let e1 = and_left _ _ e in
    and_both (and_both (and_both (and_left _ _ e1) a) (and_right _ _ e1)) (and_right _ _ e)

-- a law left out of those that fail
more_fails : (a c i z : Bool) → (a && i && z) ≡ false → (a && c && i && z) ≡ false
more_fails false c i z e = refl
more_fails true false i z e = refl
more_fails true true i z e = e

pub no_pair : (P : Policy) (t u w : ℕ) → pair_laws P t u ≡ false → law_at P t u w ≡ false
unfolding law_at pair_laws
no_pair P t u w e =
    more_fails (eqb (P.join t u) (P.join u t)) (associates P t u w) (eqb (P.join t t) t) (eqb (P.join 0 t) t) e

pub no_triple : (P : Policy) (t u w : ℕ) → associates P t u w ≡ false → law_at P t u w ≡ false
unfolding law_at
no_triple P t u w e = fails _ λ h. h ∙ sym (and_right _ _ (and_left _ _ (and_left _ _ h))) ∙ e

-- ---- all of them

pub laws_hold : (P : Policy) → ((t : ℕ) → t < P.tags → (u : ℕ) → u < P.tags → (w : ℕ) → w < P.tags → law_at P t u w ≡ true) → laws_ok P ≡ true
unfolding laws_ok
laws_hold P h = all _ _ λ t lt. all _ _ λ u lu. all _ _ (h t lt u lu)

pub law_broken : (P : Policy) (t u w : ℕ) → t < P.tags → u < P.tags → w < P.tags → law_at P t u w ≡ false → laws_ok P ≡ false
unfolding laws_ok
law_broken P t u w lt lu lw e = not_every _ t _ lt (not_every _ u _ lu (not_every _ w _ lw e))
