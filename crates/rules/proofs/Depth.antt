-- Evaluation does not depend on its depth bound, where operands have lower numbers than their users. Assumes nothing.
use Prim.Native.Nat.{ℕ, zero, suc, ◌<◌}
use native.Mathlib.Omega.{arith}
use mathlib.Core.Path.{◌≡◌, refl, ap, ap₂}
use Rattle.rules.specs.declared.Expr.{Expr}
use Rattle.rules.specs.declared.Expr.TheVariants.{Constant, Variable, Cell, Unary, Binary, BadExpr}
use Rattle.rules.specs.Steps.{Valued, cell_of, unary_of, binary_of, value_by, value_within, eval}
use Rattle.rules.specs.Policy.{Policy}
use Rattle.rules.specs.Recipe.{Recipe}
use Rattle.rules.specs.Memory.{Memory}
use Rattle.rules.specs.Accepted.{ExprOk}

module _ (P : Policy) (R : Recipe) (ordered : (e : ℕ) → e < R.exprs → ExprOk R.vars e (R.expr_at e)) (m : Memory) where
  -- an expression looks at lower ones alone
  by_lower : (f g : ℕ → Valued) (e : ℕ) (x : Expr) → ExprOk R.vars e x → ((a : ℕ) → a < e → f a ≡ g a) → value_by P R m f x ≡ value_by P R m g x
  by_lower f g e (Constant w) below h = refl
  by_lower f g e (Variable x) below h = refl
  by_lower f g e (Cell i) below h = ap (cell_of P R m) (h i below)
  by_lower f g e (Unary op a) below h = ap (unary_of op) (h a below)
  by_lower f g e (Binary op a b) below h = ap₂ (binary_of P op) (h a below.0) (h b below.1)
  by_lower f g e BadExpr below h = absurd below

  pub any_depth : (d d' e : ℕ) → e < d → e < d' → e < R.exprs → value_within P R m d e ≡ value_within P R m d' e
  unfolding value_within
  any_depth zero d' e h h' l = absurd (omega arith)
  any_depth (suc d) zero e h h' l = absurd (omega arith)
  any_depth (suc d) (suc d') e h h' l =
      by_lower _ _ e (R.expr_at e) (ordered e l) λ a k. any_depth d d' a (omega arith) (omega arith) (omega arith)

  -- an expression's value follows from its operands' values
  pub eval_is : (e : ℕ) → e < R.exprs → eval P R m e ≡ value_by P R m (eval P R m) (R.expr_at e)
  unfolding value_within
  eval_is e l = by_lower _ _ e (R.expr_at e) (ordered e l) λ a k. any_depth e (suc a) a k (omega arith) (omega arith)
