-- The spread by the operands' spreads, and what the loop over the expressions knows when it asks for one. Assumes nothing.
use Prim.Native.Nat.{ℕ, zero, suc, ◌+◌, ◌*◌, ◌<◌, ◌≤◌}
use native.Mathlib.Decide.{dec_lt}
use native.Mathlib.Omega.{arith}
use mathlib.Core.Path.{◌≡◌, refl, sym, ◌∙◌}
use mathlib.Core.Bool.{true}
use mathlib.Core.List.{List}
use lib.ListN.{length}
use borrow.Author.Tests.{leb-true, lt-leb}
use Rattle.rules.specs.declared.Expr.{Expr}
use Rattle.rules.specs.declared.Expr.TheVariants.{Constant, Variable, Cell, Unary, Binary, BadExpr}
use Rattle.rules.specs.declared.Refusal.TheVariants.{WideExpression}
use Rattle.std.specs.Prelude.{Ok, Err}
use Rattle.rules.specs.Checks.{up_to}
use Rattle.rules.specs.Recipe.{Recipe, recipe_of, expr_ok, spread_by, spread_within, spread, check_expr}
use Rattle.rules.specs.Accepted.{ExprOk}
use Rattle.rules.proofs.Checks.{required, first, second, passes, fails, next, up_each, up_stops}
use Rattle.rules.proofs.Accepts.{expr_ok_lem}
use Rattle.recipe.specs.Reached.{Reached}

by_same : (f g : ℕ → ℕ) (v e : ℕ) (x : Expr) → ExprOk v e x → ((a : ℕ) → a < e → f a ≡ g a) → spread_by f x ≡ spread_by g x
unfolding spread_by
by_same f g v e (Constant w) below h = refl
by_same f g v e (Variable x) below h = refl
by_same f g v e (Cell i) below h = rw (h i below)
by_same f g v e (Unary op a) below h = rw (h a below)
by_same f g v e (Binary op a b) below h = rw (h a below.0, h b below.1)
by_same f g v e BadExpr below h = refl

-- any depth above the number gives the same
module _ (R : Recipe) (n : ℕ) (ok : (a : ℕ) → a ≤ n → ExprOk R.vars a (R.expr_at a)) where
  within_same : (d d' e : ℕ) → e < d → e < d' → e ≤ n → spread_within R d e ≡ spread_within R d' e
  unfolding spread_within
  within_same zero d' e h h' l = absurd (omega arith)
  within_same (suc d) zero e h h' l = absurd (omega arith)
  within_same (suc d) (suc d') e h h' l =
      by_same _ _ R.vars e (R.expr_at e) (ok e l) λ a k. within_same d d' a (omega arith) (omega arith) (omega arith)

  by_operands : spread R n ≡ spread_by (λ a. spread R a) (R.expr_at n)
  unfolding spread_within
  by_operands =
      by_same _ _ R.vars n (R.expr_at n) (ok n (omega arith)) λ a k. within_same n (suc a) a k (omega arith) (omega arith)

-- ---- what is known at expression e

module _ {r : List ℕ} {e : ℕ} (w : Reached r e) where
  pub lower : {a : ℕ} → a < e → Reached r a
  lower h =
      record {
        long = omega (arith, w.long);
        ok = λ b l. w.ok b (omega arith);
        narrow = λ b l. w.narrow b (omega arith);
      }

  pub operands : {x : Expr} → x ≡ (recipe_of r).expr_at e → ExprOk (recipe_of r).vars e x
  operands q = rw q (w.ok e (omega arith))

  pub spread_is : {x : Expr} → x ≡ (recipe_of r).expr_at e → spread_by (λ a. spread (recipe_of r) a) x ≡ spread (recipe_of r) e
  spread_is q = rw q (sym (by_operands (recipe_of r) e w.ok))

-- the loop's invariant, and the test of expression e itself
pub reached : (r : List ℕ) (e : ℕ) → 16 + 8 * e + 7 < length r → up_to e (check_expr (recipe_of r)) ≡ Ok tt
    → expr_ok (recipe_of r).vars e ((recipe_of r).expr_at e) ≡ true → Reached r e
reached r e long before own =
    record {
      long = long;
      ok = λ a l. by_place a l (dec_lt a e);
      narrow = λ a l. leb-true _ _ (required _ _ (second _ _ (each a l)));
    }
  where
    R : Recipe
    R = recipe_of r

    each : (a : ℕ) → a < e → check_expr R a ≡ Ok tt
    each = up_each e (check_expr R) before

    by_place : (a : ℕ) → a ≤ e → Dec (a < e) → ExprOk R.vars a (R.expr_at a)
    by_place a l (yes h) = expr_ok_lem _ _ _ (required _ _ (first _ _ (each a h)))
    by_place a l (no h) =
        let q : a ≡ e = omega arith in
        rw q (expr_ok_lem _ _ _ own)

-- the first expression that is wide decides
pub too_wide : (R : Recipe) (n e : ℕ) → e < n → up_to e (check_expr R) ≡ Ok tt → expr_ok R.vars e (R.expr_at e) ≡ true → 256 < spread R e
    → up_to n (check_expr R) ≡ Err (WideExpression e)
too_wide R n e l before ok wide = up_stops n e _ l before (next _ (passes _ ok) ∙ fails _ (lt-leb _ _ wide))
