-- Evaluation and one step. Assumes nothing.
use Rattle.std.specs.Prelude.{ℕ, zero, suc, ◌+◌, ◌*◌, Bool, true, false, List, [], ◌∷◌, ◌++◌, ltb, leb, length, Result, Ok, Err, Option, Some, None}
use Rattle.rules.specs.declared.UnaryOp.{UnaryOp}
use Rattle.rules.specs.declared.BinaryOp.{BinaryOp}
use Rattle.rules.specs.declared.Expr.{Expr}
use Rattle.rules.specs.declared.Expr.TheVariants.{Constant, Variable, Cell, Unary, Binary, BadExpr}
use Rattle.rules.specs.declared.Stmt.{Stmt}
use Rattle.rules.specs.declared.Stmt.TheVariants.{Skip, Assign, Store, Then, If, While, Emit, BadStmt}
use Rattle.rules.specs.declared.Stop.{Stop}
use Rattle.rules.specs.declared.Stop.TheVariants.{AssignTag, StoreTag, EmitTag, Index, Divisor, Room, Frames}
use Rattle.rules.specs.declared.Place.{Place}
use Rattle.rules.specs.declared.Frame.{Frame}
use Rattle.rules.specs.declared.Frame.TheVariants.{Next, Join, Loop}
use Rattle.rules.specs.declared.Act.{Act}
use Rattle.rules.specs.declared.Act.TheVariants.{Passes, Pushes, Writes, Records, Stops}
use Rattle.rules.specs.declared.Again.{Again}
use Rattle.rules.specs.declared.Again.TheVariants.{Repeats, Leaves, Fails}
use Rattle.rules.specs.Operators.{unary, binary, divides}
use Rattle.rules.specs.Policy.{Policy, under}
use Rattle.rules.specs.Recipe.{Recipe}
use Rattle.rules.specs.Memory.{Memory, ◌#◌, value_of, tag_of, place_at, write, Record, out}

-- ---- expressions

-- evaluation gives a value with its tag, or ends the run
abbrev pub Valued : Type 0
Valued = Result Place Stop

unfoldable pub given : Bool → Stop → Valued → Valued
given true h o = o
given false h o = Err h

abbrev pub unary_of : UnaryOp → Valued → Valued
unary_of op (Err h) = Err h
unary_of op (Ok p) = Ok (unary op (value_of p) # tag_of p)

abbrev pub binary_of : Policy → BinaryOp → (left right : Valued) → Valued
binary_of P op (Err h) o = Err h
binary_of P op (Ok p) (Err h) = Err h
binary_of P op (Ok p) (Ok q) =
    given (divides op (value_of q)) Divisor (Ok (binary op (value_of p) (value_of q) # P.join (tag_of p) (tag_of q)))

module _ (P : Policy) (R : Recipe) (m : Memory) where
  -- an index below 0 is a word above every number of cells
  abbrev pub cell_of : (index : Valued) → Valued
  cell_of (Err h) = Err h
  cell_of (Ok i) =
      let p = place_at m (R.vars + value_of i) in
      given (ltb (value_of i) R.cells) Index (Ok (value_of p # P.join (tag_of p) (tag_of i)))

  -- an expression by what its operands give; no accepted recipe has a BadExpr
  abbrev pub value_by : (ℕ → Valued) → Expr → Valued
  value_by on (Constant w) = Ok (w # 0)
  value_by on (Variable x) = Ok (place_at m x)
  value_by on (Cell i) = cell_of (on i)
  value_by on (Unary op a) = unary_of op (on a)
  value_by on (Binary op a b) = binary_of P op (on a) (on b)
  value_by on BadExpr = Ok (0 # 0)

  -- operands have lower numbers: the expression's own number and one is depth enough
  unfoldable pub value_within : (depth : ℕ) → ℕ → Valued
  value_within zero e = Ok (0 # 0)
  value_within (suc d) e = value_by (λ a. value_within d a) (R.expr_at e)

  abbrev pub eval : ℕ → Valued
  eval e = value_within (suc e) e

-- ---- what a statement asks of the state

-- zero is false, all else true
unfoldable pub test : {A : Type 0} → (value : ℕ) → (yes-case no-case : A) → A
test zero x y = y
test (suc v) x y = x

unfoldable pub allow : Bool → Stop → Act → Act
allow true h a = a
allow false h a = Stops h

-- a statement is begun under branch tag b, over the memory m
module _ (P : Policy) (R : Recipe) (m : Memory) (b : ℕ) where
  abbrev pub assigns : (x : ℕ) → Valued → Act
  assigns x (Err h) = Stops h
  assigns x (Ok p) = allow (under P b (tag_of (place_at m x))) AssignTag (Writes x (value_of p # P.join b (tag_of p)))

  abbrev pub stores : (index value : Valued) → Act
  stores (Err h) o = Stops h
  stores (Ok i) (Err h) = Stops h
  stores (Ok i) (Ok p) =
      let b' = P.join b (tag_of i) in
      let x = R.vars + value_of i in
      allow (ltb (value_of i) R.cells) Index
      (allow (under P b' (tag_of (place_at m x))) StoreTag (Writes x (value_of p # P.join b' (tag_of p))))

  abbrev pub emits : (port : ℕ) → Valued → Act
  emits port (Err h) = Stops h
  emits port (Ok p) = allow (under P (P.join b (tag_of p)) (P.clearance port)) EmitTag (Records port (value_of p))

  abbrev pub chooses : (yes-branch no-branch : ℕ) → Valued → Act
  chooses a c (Err h) = Stops h
  chooses a c (Ok p) = Pushes (Join b) (test (value_of p) a c) (P.join b (tag_of p))

  abbrev pub loops : (s body : ℕ) → Valued → Act
  loops s a (Err h) = Stops h
  loops s a (Ok p) = test (value_of p) (Pushes (Loop s b) a (P.join b (tag_of p))) Passes

  -- no accepted recipe has a BadStmt
  abbrev pub begins : (s : ℕ) → Stmt → Act
  begins s Skip = Passes
  begins s (Assign x e) = assigns x (eval P R m e)
  begins s (Store i e) = stores (eval P R m i) (eval P R m e)
  begins s (Then a c) = Pushes (Next c) a b
  begins s (If e a c) = chooses a c (eval P R m e)
  begins s (While e a) = loops s a (eval P R m e)
  begins s (Emit port e) = emits port (eval P R m e)
  begins s BadStmt = Passes

-- ---- what a repeated test asks

-- the test and the body of a while
pub data Loops : Type 0 where
  loop_of : (condition body : ℕ) → Loops
  no_loop : Loops

abbrev pub loop_in : Stmt → Loops
loop_in (While e a) = loop_of e a
loop_in Skip = no_loop
loop_in (Assign x e) = no_loop
loop_in (Store i e) = no_loop
loop_in (Then a c) = no_loop
loop_in (If e a c) = no_loop
loop_in (Emit port e) = no_loop
loop_in BadStmt = no_loop

module _ (P : Policy) (R : Recipe) (m : Memory) (b : ℕ) where
  abbrev pub tests : (body : ℕ) → Valued → Again
  tests a (Err h) = Fails h
  tests a (Ok p) = test (value_of p) (Repeats a (P.join b (tag_of p))) Leaves

  -- the statement of a Loop frame is a while
  abbrev pub repeats : Loops → Again
  repeats (loop_of e a) = tests a (eval P R m e)
  repeats no_loop = Leaves

-- ---- one step

-- the branch tag, the statement to begin or none, the stack with its top first, the memory and the records
pub data State : Type 0 where
  state : (branch : ℕ) (waiting : Option ℕ) (stack : List Frame) (memory : Memory) (records : List Record) → State

abbrev pub memory_in : State → Memory
memory_in (state b w l m r) = m

abbrev pub records_in : State → List Record
records_in (state b w l m r) = r

-- a step leads to the next state, or ends the run early at a statement; or nothing is left to do
pub data Turn : Type 0 where
  Goes : State → Turn
  Halts : Stop → (place : ℕ) → Turn
  Finished : Turn

unfoldable pub check : Bool → Stop → (place : ℕ) → Turn → Turn
check true h s x = x
check false h s x = Halts h s

-- from branch tag b, stack l, memory m and records r, with so many bytes of record room
module _ (R : Recipe) (room s b : ℕ) (l : List Frame) (m : Memory) (r : List Record) where
  -- beginning statement s
  abbrev pub performs : Act → Turn
  performs Passes = Goes (state b None l m r)
  performs (Pushes f a t) = check (ltb (length l) R.stmts) Frames s (Goes (state t (Some a) (f ∷ l) m r))
  performs (Writes i p) = Goes (state b None l (write m i p) r)
  performs (Records port v) =
      check (leb (5 * length r + 5) room) Room s (Goes (state b None l m (r ++ (out port v ∷ []))))
  performs (Stops h) = Halts h s

  -- taking Loop(s, t), which lay above l
  abbrev pub takes : (t : ℕ) → Again → Turn
  takes t (Repeats a u) = Goes (state u (Some a) (Loop s t ∷ l) m r)
  takes t Leaves = Goes (state t None l m r)
  takes t (Fails h) = Halts h s

abbrev pub step : Policy → Recipe → (room : ℕ) → State → Turn
step P R room (state b (Some s) l m r) = performs R room s b l m r (begins P R m b s (R.stmt_at s))
step P R room (state b None (Next a ∷ l) m r) = Goes (state b (Some a) l m r)
step P R room (state b None (Join t ∷ l) m r) = Goes (state t None l m r)
step P R room (state b None (Loop s t ∷ l) m r) = takes R room s b l m r t (repeats P R m b (loop_in (R.stmt_at s)))
step P R room (state b None [] m r) = Finished
