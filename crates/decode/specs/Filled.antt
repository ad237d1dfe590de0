-- How much of an array is filled, and that what was filled before stays. An array is filled upwards, so nothing is said of what
-- stands above. Assumes nothing.
use Rattle.std.specs.Prelude.{ℕ, ◌+◌, ◌*◌, ◌<◌, ◌≡◌, List, length, get_or}
use Rattle.rules.specs.declared.Expr.{Expr}
use Rattle.rules.specs.declared.Stmt.{Stmt}
use Rattle.rules.specs.Bytes.{byte, whole}
use Rattle.rules.specs.Policy.{policy_of}
use Rattle.rules.specs.Recipe.{Recipe, recipe_of}
use Rattle.rules.specs.Memory.{◌#◌}
use Rattle.layout.specs.Tables.{node_of, node_at, record_of, record_at, operator_of, leaf, both_leaves, form_by, form_of, operand_of, left_of, right_of, ExprAs, kind_of, first_of, second_of, third_of, StmtAs}
use Rattle.layout.specs.Places.{place_in, ConstantAs}
use Rattle.layout.specs.declared.Operator.{Operator}
use Rattle.layout.specs.declared.Node.{Node}
use Rattle.layout.specs.declared.Record.{Record}

-- ---- nodes and records

-- an operator k and its operands
abbrev pub one_operand : Recipe → (k : Operator) (a : ℕ) → Node
one_operand R k a = node_of (form_by (leaf (R.expr_at a))) k (operand_of R (leaf (R.expr_at a)) a) 0

abbrev pub two_operands : Recipe → (k : Operator) (a b : ℕ) → Node
two_operands R k a b = node_of (form_by (both_leaves R a b)) k (operand_of R (both_leaves R a b) a) (operand_of R (both_leaves R a b) b)

abbrev pub expr_node : Recipe → (e : ℕ) → Expr → Node
expr_node R e x = node_of (form_of R x) (operator_of x) (left_of R e x) (right_of R x)

abbrev pub stmt_record : Stmt → Record
stmt_record x = record_of (kind_of x) (first_of x) (second_of x) (third_of x)

-- v is as long as t, and as t below lo
pub record Kept (lo : ℕ) (t v : List ℕ) : Type 0 where
  pub long : length v ≡ length t
  pub below : (i : ℕ) → i < lo → get_or v i 0 ≡ get_or t i 0

-- ---- the tables

-- the first n of each kind
abbrev pub ExprsAs : (r : List ℕ) (n : ℕ) (exprs : List Node) → Type 0
ExprsAs r n exprs = (e : ℕ) → e < n → ExprAs (recipe_of r) (node_at exprs e) e ((recipe_of r).expr_at e)

abbrev pub StmtsAs : (r : List ℕ) (n : ℕ) (stmts : List Record) → Type 0
StmtsAs r n stmts = (s : ℕ) → s < n → StmtAs (record_at stmts s) ((recipe_of r).stmt_at s)

abbrev pub RowAs : (p : List ℕ) (a n : ℕ) (joins : List ℕ) → Type 0
RowAs p a n joins = (b : ℕ) → b < n → get_or joins (16 * a + b) 0 ≡ (policy_of p).join a b

abbrev pub JoinsAs : (p : List ℕ) (n : ℕ) (joins : List ℕ) → Type 0
JoinsAs p n joins = (a : ℕ) → a < n → RowAs p a (byte p 6) joins

abbrev pub ClearancesAs : (p : List ℕ) (n : ℕ) (clearances : List ℕ) → Type 0
ClearancesAs p n clearances = (port : ℕ) → port < n → get_or clearances port 0 ≡ (policy_of p).clearance port

-- ---- the places

abbrev pub PlacesAs : (m : List ℕ) (n : ℕ) (u : List ℕ) → Type 0
PlacesAs m n u = (i : ℕ) → i < n → place_in u i ≡ (whole m (5 * i) # byte m (5 * i + 4))

abbrev pub ConstantsAs : (r : List ℕ) (n : ℕ) (u : List ℕ) → Type 0
ConstantsAs r n u = (e : ℕ) → e < n → ConstantAs u e ((recipe_of r).expr_at e)
