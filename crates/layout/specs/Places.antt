-- The places while a run lasts: one array of answers. Place i of the memory stands at i, the constant of expression e at
-- 1088 + e, with tag 0. Assumes nothing.
use Rattle.std.specs.Prelude.{ℕ, zero, suc, ◌+◌, ◌/◌, ◌<◌, ◌≡◌, List, [], ◌∷◌, get_or}
use Rattle.rules.specs.declared.Place.{Place}
use Rattle.rules.specs.Steps.{Valued, eval}
use Rattle.rules.specs.declared.Expr.{Expr}
use Rattle.rules.specs.declared.Expr.TheVariants.{Constant, Variable, Cell, Unary, Binary, BadExpr}
use Rattle.rules.specs.Bytes.{Bytes, byte}
use Rattle.rules.specs.Policy.{policy_of}
use Rattle.rules.specs.Recipe.{Recipe, recipe_of}
use Rattle.rules.specs.Memory.{Memory, ◌#◌, count}
use Rattle.rules.specs.Accepted.{WellFormed, LawfulPolicy, PortsOk}
use Rattle.layout.specs.declared.Tables.{Tables}
use Rattle.layout.specs.Tables.{Decoded}
use Rattle.layout.specs.Answers.{answer_of, worth_of}

abbrev pub place_in : (u : List ℕ) (i : ℕ) → Place
place_in u i = worth_of (get_or u i 0)

unfoldable pub held_from : (u : List ℕ) (i n : ℕ) → Memory
held_from u i zero = []
held_from u i (suc n) = place_in u i ∷ held_from u (suc i) n

abbrev pub held_in : Recipe → List ℕ → Memory
held_in R u = held_from u 0 (count R)

abbrev pub ConstantAs : (u : List ℕ) (e : ℕ) → Expr → Type 0
ConstantAs u e (Constant w) = place_in u (1088 + e) ≡ (w # 0)
ConstantAs u e (Variable x) = Unit {0}
ConstantAs u e (Cell i) = Unit {0}
ConstantAs u e (Unary op a) = Unit {0}
ConstantAs u e (Binary op a b) = Unit {0}
ConstantAs u e BadExpr = Unit {0}

-- t and u hold the accepted recipe r and policy p, and a memory whose tags are the policy's
pub record Ready (r p : List ℕ) (t : Tables) (u : List ℕ) : Type 0 where
  pub bytes : Bytes r
  pub recipe : WellFormed r
  pub policy : LawfulPolicy p
  pub ports : PortsOk (recipe_of r) (byte p 7)
  pub decoded : Decoded (policy_of p) (recipe_of r) t
  pub constants : (e : ℕ) → e < (recipe_of r).exprs → ConstantAs u e ((recipe_of r).expr_at e)
  pub tags_below : (i : ℕ) → i < count (recipe_of r) → get_or u i 0 / 4294967296 < byte p 6

-- the value of an expression over the places in u
abbrev pub value_in : (r p u : List ℕ) → ℕ → Valued
value_in r p u e = eval (policy_of p) (recipe_of r) (held_in (recipe_of r) u) e

-- x is the answer of expression e, for all accepted tables that t and u hold
abbrev pub Answered : (t : Tables) (u : List ℕ) (e x : ℕ) → Type 0
Answered t u e x = (r p : List ℕ) → Ready r p t u → e < (recipe_of r).exprs → x ≡ answer_of (value_in r p u e)

-- x is the value of expression e, or its fault, for all accepted tables that t and u hold
abbrev pub Evaluated : (t : Tables) (u : List ℕ) (e : ℕ) → Valued → Type 0
Evaluated t u e x = (r p : List ℕ) → Ready r p t u → e < (recipe_of r).exprs → x ≡ value_in r p u e

-- there are accepted tables that t and u hold, and e is one of their expressions
pub record ExprGiven (t : Tables) (u : List ℕ) (e : ℕ) : Type 0 where
  pub recipe : List ℕ
  pub policy : List ℕ
  pub ready : Ready recipe policy t u
  pub there : e < (recipe_of recipe).exprs
