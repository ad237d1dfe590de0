-- The order of a recipe's checks: which of them decides where a test of the header fails, and the whole by its parts. Assumes nothing.
use Prim.Native.Nat.{ℕ, ◌+◌, ◌*◌, ◌<◌, ◌≤◌}
use native.Mathlib.Omega.{arith}
use mathlib.Core.Path.{◌≡◌, refl, sym}
use mathlib.Core.Bool.{Bool, true, false, ◌&&◌}
use mathlib.Core.List.{List}
use lib.ListN.{length}
use borrow.Author.Tests.{eqb-true, le-leb, lt-leb, eq-eqb, ne_eqb}
use Rattle.rules.specs.declared.Refusal.TheVariants.{RecipeLength, RecipeMark, RecipeVersion, RecipeHeader}
use Rattle.rules.specs.Checks.{Checked, require, ◌and_then◌, up_to}
use Rattle.std.specs.Prelude.{Ok, Err}
use Rattle.rules.specs.Bytes.{half}
use Rattle.rules.specs.Recipe.{recipe_of, mark_ok, zeros_ok, counts_ok, check_expr, check_stmt, check_header, check_recipe}
use Rattle.rules.proofs.Checks.{required, second}

-- ---- tests

-- one that fails, whatever was tested before it
pub any_and_false : (a : Bool) → (a && false) ≡ false
any_and_false true = refl
any_and_false false = refl

-- ---- the header, test by test

pub too_short : (r : List ℕ) → length r < 16 → Err RecipeLength ≡ check_header r
unfolding check_header require ◌and_then◌
too_short r h = rw (lt-leb _ _ h)

module _ (r : List ℕ) (long : 16 ≤ length r) where
  pub no_mark : mark_ok r ≡ false → Err RecipeMark ≡ check_header r
  unfolding check_header require ◌and_then◌
  no_mark h = rw (le-leb _ _ long, h)

  module _ (mark : mark_ok r ≡ true) where
    pub no_version : (half r 3 ≡ 1 → ⊥) → Err RecipeVersion ≡ check_header r
    unfolding check_header require ◌and_then◌
    no_version h = rw (le-leb _ _ long, mark, ne_eqb _ _ h)

    module _ (version : half r 3 ≡ 1) where
      pub no_zeros : zeros_ok r ≡ false → Err RecipeHeader ≡ check_header r
      unfolding check_header require ◌and_then◌
      no_zeros h = rw (le-leb _ _ long, mark, eq-eqb _ _ version, h)

      module _ (zeros : zeros_ok r ≡ true) where
        pub no_counts : counts_ok (recipe_of r) ≡ false → Err RecipeHeader ≡ check_header r
        unfolding check_header require ◌and_then◌
        no_counts h = rw (le-leb _ _ long, mark, eq-eqb _ _ version, zeros, h)

        module _ (counts : counts_ok (recipe_of r) ≡ true) where
          pub no_length : (length r ≡ 16 + 8 * half r 6 + 8 * half r 8 → ⊥) → Err RecipeLength ≡ check_header r
          unfolding check_header require ◌and_then◌
          no_length h = rw (le-leb _ _ long, mark, eq-eqb _ _ version, zeros, counts, ne_eqb _ _ h)

          pub header : length r ≡ 16 + 8 * half r 6 + 8 * half r 8 → Ok tt ≡ check_header r
          unfolding check_header require ◌and_then◌
          header h = rw (le-leb _ _ long, mark, eq-eqb _ _ version, zeros, counts, eq-eqb _ _ h)

-- ---- the whole

pub exact : (r : List ℕ) → check_header r ≡ Ok tt → length r ≡ 16 + 8 * half r 6 + 8 * half r 8
unfolding check_header
exact r h = eqb-true _ _ (required _ _ (second _ _ (second _ _ (second _ _ (second _ _ h)))))

pub whole : (r : List ℕ)
    → check_header r and_then (up_to (half r 6) (check_expr (recipe_of r)) and_then up_to (half r 8) (check_stmt (recipe_of r))) ≡ check_recipe r
unfolding check_recipe
whole r = refl

-- ---- the end of a loop upwards

pub finished : (n i : ℕ) (f : ℕ → Checked) → up_to i f ≡ Ok tt → i ≤ n → n ≤ i → Ok tt ≡ up_to n f
finished n i f e h l =
    let q : n ≡ i = omega arith in
    rw q (sym e)
