-- What acceptance says, as propositions: a well-formed recipe, a lawful policy, ports that are there, a well-tagged memory.
-- Assumes nothing.
use Rattle.std.specs.Prelude.{ℕ, ◌+◌, ◌*◌, ◌<◌, ◌≤◌, ◌≡◌, List, length}
use Rattle.rules.specs.declared.Expr.{Expr}
use Rattle.rules.specs.declared.Expr.TheVariants.{Constant, Variable, Cell, Unary, Binary, BadExpr}
use Rattle.rules.specs.declared.Stmt.{Stmt}
use Rattle.rules.specs.declared.Stmt.TheVariants.{Skip, Assign, Store, Then, If, While, Emit, BadStmt}
use Rattle.rules.specs.Bytes.{byte, half}
use Rattle.rules.specs.Policy.{Policy, policy_of}
use Rattle.rules.specs.Recipe.{Recipe, recipe_of, spread}
use Rattle.rules.specs.Memory.{tag_of, place_at, count, places_of}

-- ---- the recipe

-- expression e is none that is missing, and names variables below v and operands lower than itself
abbrev pub ExprOk : (v e : ℕ) → Expr → Type 0
ExprOk v e (Constant w) = Unit {0}
ExprOk v e (Variable x) = x < v
ExprOk v e (Cell i) = i < e
ExprOk v e (Unary op a) = a < e
ExprOk v e (Binary op a b) = (a < e) × (b < e)
ExprOk v e BadExpr = ⊥

-- statement s is none that is missing, and names variables, expressions, and statements lower than itself
abbrev pub StmtOk : (v e s : ℕ) → Stmt → Type 0
StmtOk v e s Skip = Unit {0}
StmtOk v e s (Assign x a) = (x < v) × (a < e)
StmtOk v e s (Store i a) = (i < e) × (a < e)
StmtOk v e s (Then a b) = (a < s) × (b < s)
StmtOk v e s (If a b c) = (a < e) × (b < s) × (c < s)
StmtOk v e s (While a b) = (a < e) × (b < s)
StmtOk v e s (Emit port a) = a < e
StmtOk v e s BadStmt = ⊥

pub record Counts (R : Recipe) : Type 0 where
  pub few_exprs : R.exprs ≤ 1024
  pub some_stmt : 1 ≤ R.stmts
  pub few_stmts : R.stmts ≤ 512
  pub few_vars : R.vars ≤ 64
  pub few_cells : R.cells ≤ 1024

-- the records of a recipe
pub record Ordered (R : Recipe) : Type 0 where
  pub exprs_ok : (e : ℕ) → e < R.exprs → ExprOk R.vars e (R.expr_at e)
  pub stmts_ok : (s : ℕ) → s < R.stmts → StmtOk R.vars R.exprs s (R.stmt_at s)

pub record WellFormed (r : List ℕ) : Type 0 where
  pub mark : (byte r 0 ≡ 0x52) × (byte r 1 ≡ 0x4A) × (byte r 2 ≡ 0x52)
  pub version : half r 3 ≡ 1
  pub zeros : (byte r 5 ≡ 0) × (half r 14 ≡ 0)
  pub counts : Counts (recipe_of r)
  pub long : length r ≡ 16 + 8 * half r 6 + 8 * half r 8
  pub ordered : Ordered (recipe_of r)
  pub narrow : (e : ℕ) → e < half r 6 → spread (recipe_of r) e ≤ 256

-- an emit names one of so many ports
abbrev pub PortOk : (ports : ℕ) → Stmt → Type 0
PortOk ports (Emit port a) = port < ports
PortOk ports Skip = Unit {0}
PortOk ports (Assign x a) = Unit {0}
PortOk ports (Store i a) = Unit {0}
PortOk ports (Then a b) = Unit {0}
PortOk ports (If a b c) = Unit {0}
PortOk ports (While a b) = Unit {0}
PortOk ports BadStmt = Unit {0}

abbrev pub PortsOk : Recipe → (ports : ℕ) → Type 0
PortsOk R ports = (s : ℕ) → s < R.stmts → PortOk ports (R.stmt_at s)

-- ---- the policy

-- the laws of 25
pub record Laws (P : Policy) : Type 0 where
  pub commutes : (t u : ℕ) → t < P.tags → u < P.tags → P.join t u ≡ P.join u t
  pub associates : (t u w : ℕ) → t < P.tags → u < P.tags → w < P.tags → P.join (P.join t u) w ≡ P.join t (P.join u w)
  pub itself : (t : ℕ) → t < P.tags → P.join t t ≡ t
  pub zero_least : (t : ℕ) → t < P.tags → P.join 0 t ≡ t

pub record LawfulPolicy (p : List ℕ) : Type 0 where
  pub mark : (byte p 0 ≡ 0x52) × (byte p 1 ≡ 0x4A) × (byte p 2 ≡ 0x50)
  pub version : half p 3 ≡ 1
  pub zero_byte : byte p 5 ≡ 0
  pub some_tag : 1 ≤ byte p 6
  pub few_tags : byte p 6 ≤ 16
  pub few_ports : byte p 7 ≤ 16
  pub long : length p ≡ 8 + byte p 6 * byte p 6 + byte p 7
  pub entries : (i : ℕ) → i < byte p 6 * byte p 6 + byte p 7 → byte p (8 + i) < byte p 6
  pub laws : Laws (policy_of p)

-- ---- the memory

pub record WellTagged (R : Recipe) (tags : ℕ) (m : List ℕ) : Type 0 where
  pub long : length m ≡ 5 * count R
  pub tags_below : (i : ℕ) → i < count R → tag_of (place_at (places_of R m) i) < tags

-- ---- all three together

pub record Accepted (r p m : List ℕ) : Type 0 where
  pub recipe : WellFormed r
  pub policy : LawfulPolicy p
  pub ports : PortsOk (recipe_of r) (byte p 7)
  pub memory : WellTagged (recipe_of r) (byte p 6) m
