-- The recipe table: how its bytes are read, and its check by itself (16 to 22). Assumes nothing.
use Rattle.std.specs.Prelude.{ℕ, zero, suc, ◌+◌, ◌*◌, Bool, true, false, List, [], ◌∷◌, leb, ltb, eqb, length, get_or, ◌&&◌}
use Rattle.rules.specs.declared.UnaryOp.TheVariants.{Negate, Not, Absolute}
use Rattle.rules.specs.declared.BinaryOp.TheVariants.{Add, Sub, Mul, Div, Rem, Less, LessEq, Equal, NotEqual}
use Rattle.rules.specs.declared.Expr.{Expr}
use Rattle.rules.specs.declared.Expr.TheVariants.{Constant, Variable, Cell, Unary, Binary, BadExpr}
use Rattle.rules.specs.declared.Stmt.{Stmt}
use Rattle.rules.specs.declared.Stmt.TheVariants.{Skip, Assign, Store, Then, If, While, Emit, BadStmt}
use Rattle.rules.specs.declared.Refusal.TheVariants.{RecipeLength, RecipeMark, RecipeVersion, RecipeHeader, BadExpression, WideExpression, BadStatement, BadPort}
use Rattle.rules.specs.Checks.{Checked, require, ◌and_then◌, up_to}
use Rattle.rules.specs.Bytes.{byte, half, whole}

pub record Recipe : Type 0 where
  pub exprs : ℕ
  pub stmts : ℕ
  pub vars : ℕ
  pub cells : ℕ
  pub expr_at : ℕ → Expr
  pub stmt_at : ℕ → Stmt

-- ---- reading

-- an unused field is zero
unfoldable pub expr_if : Bool → Expr → Expr
expr_if true x = x
expr_if false x = BadExpr

unfoldable pub stmt_if : Bool → Stmt → Stmt
stmt_if true x = x
stmt_if false x = BadStmt

unfoldable pub unary_expr : (operator a : ℕ) → Expr
unary_expr operator a = get_or (Unary Negate a ∷ Unary Not a ∷ Unary Absolute a ∷ []) operator BadExpr

unfoldable pub binary_expr : (operator a b : ℕ) → Expr
binary_expr operator a b = get_or
    (Binary Add a b ∷ Binary Sub a b ∷ Binary Mul a b ∷ Binary Div a b ∷ Binary Rem a b
    ∷ Binary Less a b ∷ Binary LessEq a b ∷ Binary Equal a b ∷ Binary NotEqual a b ∷ []) operator BadExpr

-- an expression by its fields, for kinds 0 to 5
unfoldable pub expr_of : (kind operator a b : ℕ) → Expr
expr_of kind operator a b = get_or
    (BadExpr
    ∷ expr_if (eqb operator 0 && eqb a 0) (Constant b)
    ∷ expr_if (eqb operator 0 && eqb b 0) (Variable a)
    ∷ expr_if (eqb operator 0 && eqb b 0) (Cell a)
    ∷ expr_if (eqb b 0) (unary_expr operator a)
    ∷ binary_expr operator a b ∷ []) kind BadExpr

-- a statement by its fields, for kinds 0 to 6
unfoldable pub stmt_of : (kind port a b c : ℕ) → Stmt
stmt_of kind port a b c = get_or
    (stmt_if (eqb port 0 && eqb a 0 && eqb b 0 && eqb c 0) Skip
    ∷ stmt_if (eqb port 0 && eqb c 0) (Assign a b)
    ∷ stmt_if (eqb port 0 && eqb c 0) (Store a b)
    ∷ stmt_if (eqb port 0 && eqb c 0) (Then a b)
    ∷ stmt_if (eqb port 0) (If a b c)
    ∷ stmt_if (eqb port 0 && eqb c 0) (While a b)
    ∷ stmt_if (eqb b 0 && eqb c 0) (Emit port a) ∷ []) kind BadStmt

-- the record of 8 bytes that begins at byte i
unfoldable pub expr : List ℕ → ℕ → Expr
expr r i = expr_of (byte r i) (byte r (i + 1)) (half r (i + 2)) (whole r (i + 4))

unfoldable pub stmt : List ℕ → ℕ → Stmt
stmt r i = stmt_of (byte r i) (byte r (i + 1)) (half r (i + 2)) (half r (i + 4)) (half r (i + 6))

abbrev pub recipe_of : List ℕ → Recipe
recipe_of r =
    record {
      exprs = half r 6;
      stmts = half r 8;
      vars = half r 10;
      cells = half r 12;
      expr_at = λ e. expr r (16 + 8 * e);
      stmt_at = λ s. stmt r (16 + 8 * half r 6 + 8 * s);
    }

-- ---- the header

unfoldable pub mark_ok : List ℕ → Bool
mark_ok r = eqb (byte r 0) 0x52 && eqb (byte r 1) 0x4A && eqb (byte r 2) 0x52

unfoldable pub zeros_ok : List ℕ → Bool
zeros_ok r = eqb (byte r 5) 0 && eqb (half r 14) 0

unfoldable pub counts_ok : Recipe → Bool
counts_ok R = leb R.exprs 1024 && leb 1 R.stmts && leb R.stmts 512 && leb R.vars 64 && leb R.cells 1024

-- ---- expressions

-- expression e names what is there: variables below v, operands lower than itself
unfoldable pub expr_ok : (v e : ℕ) → Expr → Bool
expr_ok v e (Constant w) = true
expr_ok v e (Variable x) = ltb x v
expr_ok v e (Cell i) = ltb i e
expr_ok v e (Unary op a) = ltb a e
expr_ok v e (Binary op a b) = ltb a e && ltb b e
expr_ok v e BadExpr = false

-- the spread by the operands' spreads, a shared operand counted at each use
unfoldable pub spread_by : (ℕ → ℕ) → Expr → ℕ
spread_by on (Constant w) = 1
spread_by on (Variable x) = 1
spread_by on (Cell i) = 1 + on i
spread_by on (Unary op a) = 1 + on a
spread_by on (Binary op a b) = 1 + on a + on b
spread_by on BadExpr = 1

-- operands have lower numbers: the expression's own number and one is depth enough
unfoldable pub spread_within : Recipe → (depth : ℕ) → ℕ → ℕ
spread_within R zero e = 0
spread_within R (suc d) e = spread_by (λ a. spread_within R d a) (R.expr_at e)

abbrev pub spread : Recipe → ℕ → ℕ
spread R e = spread_within R (suc e) e

abbrev pub check_expr : Recipe → ℕ → Checked
check_expr R e = require (expr_ok R.vars e (R.expr_at e)) (BadExpression e) and_then require (leb (spread R e) 256) (WideExpression e)

-- ---- statements

-- statement s names what is there: variables, expressions, and statements lower than itself
unfoldable pub stmt_ok : (v e s : ℕ) → Stmt → Bool
stmt_ok v e s Skip = true
stmt_ok v e s (Assign x a) = ltb x v && ltb a e
stmt_ok v e s (Store i a) = ltb i e && ltb a e
stmt_ok v e s (Then a b) = ltb a s && ltb b s
stmt_ok v e s (If a b c) = ltb a e && ltb b s && ltb c s
stmt_ok v e s (While a b) = ltb a e && ltb b s
stmt_ok v e s (Emit port a) = ltb a e
stmt_ok v e s BadStmt = false

abbrev pub check_stmt : Recipe → ℕ → Checked
check_stmt R s = require (stmt_ok R.vars R.exprs s (R.stmt_at s)) (BadStatement s)

-- ---- the whole check

-- before the records: 16 (short), 17, 18, 19, 16 (length)
unfoldable pub check_header : List ℕ → Checked
check_header r =
    let R = recipe_of r in
    require (leb 16 (length r)) RecipeLength
    and_then require (mark_ok r) RecipeMark
    and_then require (eqb (half r 3) 1) RecipeVersion
    and_then require (zeros_ok r && counts_ok R) RecipeHeader
    and_then require (eqb (length r) (16 + 8 * R.exprs + 8 * R.stmts)) RecipeLength

unfoldable pub check_recipe : List ℕ → Checked
check_recipe r =
    let R = recipe_of r in
    check_header r and_then up_to R.exprs (check_expr R) and_then up_to R.stmts (check_stmt R)

-- ---- its ports against a policy of so many ports (26)

unfoldable pub port_ok : (ports : ℕ) → Stmt → Bool
port_ok ports (Emit port a) = ltb port ports
port_ok ports Skip = true
port_ok ports (Assign x a) = true
port_ok ports (Store i a) = true
port_ok ports (Then a b) = true
port_ok ports (If a b c) = true
port_ok ports (While a b) = true
port_ok ports BadStmt = true

unfoldable pub check_ports : Recipe → (ports : ℕ) → Checked
check_ports R ports = up_to R.stmts (λ s. require (port_ok ports (R.stmt_at s)) (BadPort s))
