-- What the decoded tables hold: a node for each expression, a record for each statement, the policy's joins and clearances, the
-- numbers of variables and of cells. The join of tags a and b stands at 16 a + b. Assumes nothing.
use Rattle.std.specs.Prelude.{ℕ, ◌+◌, ◌*◌, ◌<◌, ◌≡◌, Bool, true, false, List, get_or, replicate, ◌&&◌}
use Rattle.rules.specs.declared.UnaryOp.{UnaryOp}
use Rattle.rules.specs.declared.UnaryOp.TheVariants.{Negate, Not, Absolute}
use Rattle.rules.specs.declared.BinaryOp.{BinaryOp}
use Rattle.rules.specs.declared.BinaryOp.TheVariants.{Add, Sub, Mul, Div, Rem, Less, LessEq, Equal, NotEqual}
use Rattle.rules.specs.declared.Expr.{Expr}
use Rattle.rules.specs.declared.Expr.TheVariants.{Constant, Variable, Cell, Unary, Binary, BadExpr}
use Rattle.rules.specs.declared.Stmt.{Stmt}
use Rattle.rules.specs.declared.Stmt.TheVariants.{Skip, Assign, Store, Then, If, While, Emit, BadStmt}
use Rattle.rules.specs.Policy.{Policy}
use Rattle.rules.specs.Recipe.{Recipe}
use Rattle.layout.specs.declared.Record.{Record}
use Rattle.layout.specs.declared.Form.{Form}
use Rattle.layout.specs.declared.Form.TheVariants.{Leaf, Flat, Deep}
use Rattle.layout.specs.declared.Operator.{Operator}
use Rattle.layout.specs.declared.Operator.TheVariants as operator
use Rattle.layout.specs.declared.Node.{Node}
use Rattle.layout.specs.declared.Tables.{Tables}

-- ---- records

abbrev pub record_of : (kind first second third : ℕ) → Record
record_of k a b c = record { kind = k; first = a; second = b; third = c }

-- the record at i
abbrev pub record_at : List Record → ℕ → Record
record_at l i = get_or l i (record_of 0 0 0 0)

-- ---- an expression: its form, its operator and its operands

abbrev pub node_of : (form : Form) (operator : Operator) (first second : ℕ) → Node
node_of f k a b = record { form = f; operator = k; first = a; second = b }

-- the node at i
abbrev pub node_at : List Node → ℕ → Node
node_at l i = get_or l i (node_of Leaf operator.Cell 0 0)

abbrev pub unary_operator : UnaryOp → Operator
unary_operator Negate = operator.Negate
unary_operator Not = operator.Not
unary_operator Absolute = operator.Absolute

abbrev pub binary_operator : BinaryOp → Operator
binary_operator Add = operator.Add
binary_operator Sub = operator.Sub
binary_operator Mul = operator.Mul
binary_operator Div = operator.Div
binary_operator Rem = operator.Rem
binary_operator Less = operator.Less
binary_operator LessEq = operator.LessEq
binary_operator Equal = operator.Equal
binary_operator NotEqual = operator.NotEqual

-- an operator reads a cell, or is one of the language's
pub data Shape : Type 0 where
  of_cell : Shape
  of_unary : UnaryOp → Shape
  of_binary : BinaryOp → Shape

abbrev pub shape_of : Operator → Shape
shape_of operator.Cell = of_cell
shape_of operator.Negate = of_unary Negate
shape_of operator.Not = of_unary Not
shape_of operator.Absolute = of_unary Absolute
shape_of operator.Add = of_binary Add
shape_of operator.Sub = of_binary Sub
shape_of operator.Mul = of_binary Mul
shape_of operator.Div = of_binary Div
shape_of operator.Rem = of_binary Rem
shape_of operator.Less = of_binary Less
shape_of operator.LessEq = of_binary LessEq
shape_of operator.Equal = of_binary Equal
shape_of operator.NotEqual = of_binary NotEqual

abbrev pub takes_two : Shape → Bool
takes_two of_cell = false
takes_two (of_unary op) = false
takes_two (of_binary op) = true

abbrev pub has_two : Operator → Bool
has_two k = takes_two (shape_of k)

-- a leaf has none, and keeps Cell
abbrev pub operator_of : Expr → Operator
operator_of (Constant w) = operator.Cell
operator_of (Variable x) = operator.Cell
operator_of (Cell i) = operator.Cell
operator_of (Unary op a) = unary_operator op
operator_of (Binary op a b) = binary_operator op
operator_of BadExpr = operator.Cell

-- a leaf has a place; a constant has one of its own
abbrev pub leaf : Expr → Bool
leaf (Constant w) = true
leaf (Variable x) = true
leaf (Cell i) = false
leaf (Unary op a) = false
leaf (Binary op a b) = false
leaf BadExpr = true

abbrev pub place_of : (e : ℕ) → Expr → ℕ
place_of e (Constant w) = 1088 + e
place_of e (Variable x) = x
place_of e (Cell i) = 0
place_of e (Unary op a) = 0
place_of e (Binary op a b) = 0
place_of e BadExpr = 0

abbrev pub both_leaves : Recipe → (a b : ℕ) → Bool
both_leaves R a b = leaf (R.expr_at a) && leaf (R.expr_at b)

-- an expression is flat if its operands are leaves
abbrev pub flat : Recipe → Expr → Bool
flat R (Constant w) = true
flat R (Variable x) = true
flat R (Cell i) = leaf (R.expr_at i)
flat R (Unary op a) = leaf (R.expr_at a)
flat R (Binary op a b) = both_leaves R a b
flat R BadExpr = true

abbrev pub form_by : (flat : Bool) → Form
form_by true = Flat
form_by false = Deep

abbrev pub form_of : Recipe → Expr → Form
form_of R (Constant w) = Leaf
form_of R (Variable x) = Leaf
form_of R (Cell i) = form_by (flat R (Cell i))
form_of R (Unary op a) = form_by (flat R (Unary op a))
form_of R (Binary op a b) = form_by (flat R (Binary op a b))
form_of R BadExpr = Leaf

-- a flat expression names its operands' places, a deep one the operands
abbrev pub operand_of : Recipe → (flat : Bool) → ℕ → ℕ
operand_of R true a = place_of a (R.expr_at a)
operand_of R false a = a

abbrev pub left_of : Recipe → (e : ℕ) → Expr → ℕ
left_of R e (Constant w) = 1088 + e
left_of R e (Variable x) = x
left_of R e (Cell i) = operand_of R (flat R (Cell i)) i
left_of R e (Unary op a) = operand_of R (flat R (Unary op a)) a
left_of R e (Binary op a b) = operand_of R (flat R (Binary op a b)) a
left_of R e BadExpr = 0

abbrev pub right_of : Recipe → Expr → ℕ
right_of R (Constant w) = 0
right_of R (Variable x) = 0
right_of R (Cell i) = 0
right_of R (Unary op a) = 0
right_of R (Binary op a b) = operand_of R (flat R (Binary op a b)) b
right_of R BadExpr = 0

-- a node f is that of expression e, which is x
pub record ExprAs (R : Recipe) (f : Node) (e : ℕ) (x : Expr) : Type 0 where
  pub form : f.form ≡ form_of R x
  pub operator : f.operator ≡ operator_of x
  pub left : f.first ≡ left_of R e x
  pub right : f.second ≡ right_of R x

-- ---- a statement: its kind and what it names

abbrev pub kind_of : Stmt → ℕ
kind_of Skip = 0
kind_of (Assign x e) = 1
kind_of (Store i e) = 2
kind_of (Then a c) = 3
kind_of (If e a c) = 4
kind_of (While e a) = 5
kind_of (Emit port e) = 6
kind_of BadStmt = 0

abbrev pub first_of : Stmt → ℕ
first_of Skip = 0
first_of (Assign x e) = x
first_of (Store i e) = i
first_of (Then a c) = a
first_of (If e a c) = e
first_of (While e a) = e
first_of (Emit port e) = e
first_of BadStmt = 0

abbrev pub second_of : Stmt → ℕ
second_of Skip = 0
second_of (Assign x e) = e
second_of (Store i e) = e
second_of (Then a c) = c
second_of (If e a c) = a
second_of (While e a) = a
second_of (Emit port e) = port
second_of BadStmt = 0

abbrev pub third_of : Stmt → ℕ
third_of Skip = 0
third_of (Assign x e) = 0
third_of (Store i e) = 0
third_of (Then a c) = 0
third_of (If e a c) = c
third_of (While e a) = 0
third_of (Emit port e) = 0
third_of BadStmt = 0

-- a record f is that of statement x
pub record StmtAs (f : Record) (x : Stmt) : Type 0 where
  pub kind : f.kind ≡ kind_of x
  pub first : f.first ≡ first_of x
  pub second : f.second ≡ second_of x
  pub third : f.third ≡ third_of x

-- ---- both tables

-- tables with nothing decoded: leaves and zeros throughout
abbrev pub no_tables : Tables
no_tables =
    record {
      exprs = replicate 1024 (node_of Leaf operator.Cell 0 0);
      stmts = replicate 512 (record_of 0 0 0 0);
      joins = replicate 256 0;
      clearances = replicate 16 0;
      vars = 0;
      cells = 0;
    }

abbrev pub expr_node : Tables → ℕ → Node
expr_node t e = node_at t.exprs e

abbrev pub stmt_record : Tables → ℕ → Record
stmt_record t s = record_at t.stmts s

abbrev pub join_in : Tables → (a b : ℕ) → ℕ
join_in t a b = get_or t.joins (16 * a + b) 0

abbrev pub clearance_in : Tables → (port : ℕ) → ℕ
clearance_in t port = get_or t.clearances port 0

pub record Decoded (P : Policy) (R : Recipe) (t : Tables) : Type 0 where
  pub exprs_as : (e : ℕ) → e < R.exprs → ExprAs R (expr_node t e) e (R.expr_at e)
  pub stmts_as : (s : ℕ) → s < R.stmts → StmtAs (stmt_record t s) (R.stmt_at s)
  pub joins_as : (a b : ℕ) → a < P.tags → b < P.tags → join_in t a b ≡ P.join a b
  pub clearances_as : (port : ℕ) → port < P.ports → clearance_in t port ≡ P.clearance port
  pub vars_as : t.vars ≡ R.vars
  pub cells_as : t.cells ≡ R.cells
