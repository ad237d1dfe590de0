-- What a statement or a repeated test asks once its expression is evaluated. Assumes nothing.
use Prim.Native.Nat.{ℕ, ◌<◌}
use native.Mathlib.Omega.{arith}
use mathlib.Core.Path.{◌≡◌, refl, sym, ◌∙◌}
use mathlib.Core.Bool.{Bool, true, false}
use mathlib.Core.List.{List}
use lib.Dec.{eqb}
use borrow.Author.Tests.{eqb-true, eqb-false}
use Rattle.rules.specs.declared.Stop.TheVariants.{EmitTag}
use Rattle.rules.specs.declared.Place.{Place}
use Rattle.rules.specs.Steps.{Valued, allow, assigns, emits, chooses, loops, tests}
use Rattle.std.specs.Prelude.{Ok}
use Rattle.rules.specs.declared.Frame.TheVariants.{Join, Loop}
use Rattle.rules.specs.declared.Act.TheVariants.{Passes, Pushes, Records, Stops}
use Rattle.rules.specs.declared.Again.TheVariants.{Repeats, Leaves}
use Rattle.rules.specs.Bytes.{byte}
use Rattle.rules.specs.Policy.{Policy, policy_of, under}
use Rattle.rules.specs.Recipe.{Recipe}
use Rattle.rules.specs.Memory.{Memory, value_of, tag_of}
use Rattle.layout.specs.declared.Tables.{Tables}
use Rattle.layout.specs.Tables.{join_in, clearance_in}
use Rattle.layout.specs.Places.{Ready}
use Rattle.steps.specs.Asks.{Written, Done}
use Rattle.steps.proofs.Asked.{test_true, test_false, join_is, join_good, clearance_is, clearance_good, lies_under, lies_off}

module _ (P : Policy) (R : Recipe) (m : Memory) (b : ℕ) {o : Valued} where
  pub did_as : (i : ℕ) (h : Written) (u v : List ℕ) (q : Place) → o ≡ Ok q → Done (assigns P R m b i (Ok q)) h u v → Done (assigns P R m b i o) h u v
  did_as i h u v q e d = rw e d

  module _ (v : Place) (e : o ≡ Ok v) where
    pub chooses_no : (a c : ℕ) → v.value ≡ 0 → chooses P R m b a c o ≡ Pushes (Join b) c (P.join b v.tag)
    unfolding value_of tag_of
    chooses_no a c z = rw (e, test_false z a c)

    pub chooses_yes : (a c : ℕ) → (v.value ≡ 0 → ⊥) → chooses P R m b a c o ≡ Pushes (Join b) a (P.join b v.tag)
    unfolding value_of tag_of
    chooses_yes a c n = rw (e, test_true n a c)

    pub loops_no : (s a : ℕ) → v.value ≡ 0 → loops P R m b s a o ≡ Passes
    unfolding value_of tag_of
    loops_no s a z = rw (e, test_false z (Pushes (Loop s b) a (P.join b v.tag)) Passes)

    pub loops_yes : (s a : ℕ) → (v.value ≡ 0 → ⊥) → loops P R m b s a o ≡ Pushes (Loop s b) a (P.join b v.tag)
    unfolding value_of tag_of
    loops_yes s a n = rw (e, test_true n (Pushes (Loop s b) a (P.join b v.tag)) Passes)

    pub tests_no : (a : ℕ) → v.value ≡ 0 → tests P R m b a o ≡ Leaves
    unfolding value_of tag_of
    tests_no a z = rw (e, test_false z (Repeats a (P.join b v.tag)) Leaves)

    pub tests_yes : (a : ℕ) → (v.value ≡ 0 → ⊥) → tests P R m b a o ≡ Repeats a (P.join b v.tag)
    unfolding value_of tag_of
    tests_yes a n = rw (e, test_true n (Repeats a (P.join b v.tag)) Leaves)

    pub emits_no : (port : ℕ) → under P (P.join b v.tag) (P.clearance port) ≡ false → emits P R m b port o ≡ Stops EmitTag
    unfolding value_of tag_of allow
    emits_no port f = rw (e, f)

    pub emits_yes : (port : ℕ) → under P (P.join b v.tag) (P.clearance port) ≡ true → emits P R m b port o ≡ Records port v.value
    unfolding value_of tag_of allow
    emits_yes port f = rw (e, f)

-- ---- emission

module _ {r p : List ℕ} {t : Tables} {u : List ℕ} (a : Ready r p t u) (v : Place) {b port : ℕ} (hb : b < byte p 6) (hp : port < byte p 7) (hv : v.tag < byte p 6) where
  pub emit_given : (b < 16) × (v.tag < 16) × (join_in t b v.tag < 16) × (port < 16) × (clearance_in t port < 16)
  emit_given =
      let few = a.policy.few_tags in
      (omega (arith, few), omega (arith, few), omega (arith, few, join_good a hb hv refl), omega (arith, a.policy.few_ports), omega (arith, few, clearance_good a hp))

  module _ {d : Bool} (q : d ≡ eqb (join_in t (join_in t b v.tag) (clearance_in t port)) (clearance_in t port)) where
    pub emit_on : d ≡ true → under (policy_of p) ((policy_of p).join b v.tag) ((policy_of p).clearance port) ≡ true
    emit_on e =
        rw (join_is a hb hv refl, clearance_is a hp) at (lies_under a (join_good a hb hv refl) (clearance_good a hp) refl (eqb-true _ _ (sym q ∙ e)))

    pub emit_off : d ≡ false → under (policy_of p) ((policy_of p).join b v.tag) ((policy_of p).clearance port) ≡ false
    emit_off e =
        rw (join_is a hb hv refl, clearance_is a hp) at (lies_off a (join_good a hb hv refl) (clearance_good a hp) refl (eqb-false _ _ (sym q ∙ e)))
