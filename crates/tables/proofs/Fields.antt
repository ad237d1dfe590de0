-- What a record's fields say: numbers that are no kind, and unused fields. Assumes nothing.
use Prim.Native.Nat.{ℕ, zero, suc, ◌≤◌}
use native.Mathlib.Omega.{arith}
use mathlib.Core.Path.{◌≡◌, refl}
use mathlib.Core.Bool.{Bool, true, false, ◌&&◌}
use lib.Dec.{eqb}
use lib.ListN.{get_or-eq_default}
use Rattle.rules.specs.declared.Expr.TheVariants.{Constant, Variable, Cell, BadExpr}
use Rattle.rules.specs.Recipe.{expr_if, unary_expr, binary_expr, expr_of}

-- k is none of the numbers below n, as the last arm of a `match` knows it; omega takes no more than six such facts at once
abbrev pub Other : (n k : ℕ) → Type 0
Other zero k = Unit {0}
Other (suc n) k = Other n k × (k ≡ n → ⊥)

pub past : (n k : ℕ) → Other n k → n ≤ k
past zero k h = omega arith
past (suc n) k h = omega (arith, past n k h.0, h.1)

-- ---- the first of two tests

pub and_true : (a b : Bool) → a ≡ true → (a && b) ≡ b
and_true a b h = rw h

pub and_false : (a b : Bool) → a ≡ false → (a && b) ≡ false
and_false a b h = rw h

pub ruleset tests = (and_true, and_false)

-- ---- kinds of expressions: kind 0 is none, and `grind` enters no list that begins with a constant

module _ (operator a b : ℕ) where
  pub constant : expr_of 1 operator a b ≡ expr_if (eqb operator 0 && eqb a 0) (Constant b)
  unfolding expr_of
  constant = refl

  pub variable : expr_of 2 operator a b ≡ expr_if (eqb operator 0 && eqb b 0) (Variable a)
  unfolding expr_of
  variable = refl

  pub cell : expr_of 3 operator a b ≡ expr_if (eqb operator 0 && eqb b 0) (Cell a)
  unfolding expr_of
  cell = refl

  pub unary : expr_of 4 operator a b ≡ expr_if (eqb b 0) (unary_expr operator a)
  unfolding expr_of
  unary = refl

  pub binary : expr_of 5 operator a b ≡ binary_expr operator a b
  unfolding expr_of
  binary = refl

pub no_expr : (k operator a b : ℕ) → (1 ≤ k → 6 ≤ k) → expr_of k operator a b ≡ BadExpr
unfolding expr_of
no_expr zero operator a b h = refl
no_expr (suc k) operator a b h = let l : 6 ≤ suc k = h (omega arith) in rw get_or-eq_default

pub ruleset kinds = (constant, variable, cell, unary, binary, no_expr)
