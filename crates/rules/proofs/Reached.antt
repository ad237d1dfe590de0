-- No fallback shows: in every state that a run of accepted bytes comes to, what is named is there. Assumes nothing.
use Prim.Native.Nat.{ℕ, zero, suc, ◌<◌}
use native.Mathlib.Nat.{not-suc-le-zero}
use native.Mathlib.Omega.{arith}
use mathlib.Core.Path.{◌≡◌, refl, subst}
use mathlib.Core.List.{List}
use lib.ListN.{length}
use Rattle.rules.specs.declared.UnaryOp.{UnaryOp}
use Rattle.rules.specs.declared.BinaryOp.{BinaryOp}
use Rattle.rules.specs.declared.Expr.{Expr}
use Rattle.rules.specs.declared.Expr.TheVariants.{Constant, Variable, Cell, Unary, Binary, BadExpr}
use Rattle.rules.specs.declared.Frame.{Frame}
use Rattle.std.specs.Prelude.{Option, Some, None}
use Rattle.rules.specs.Bytes.{Bytes}
use Rattle.rules.specs.Policy.{Policy, policy_of}
use Rattle.rules.specs.Recipe.{Recipe, recipe_of}
use Rattle.rules.specs.Memory.{Memory, count, places_of}
use Rattle.rules.specs.Steps.{State, state, Turn, Goes, step}
use Rattle.rules.specs.Run.{start}
use Rattle.rules.specs.Accepted.{ExprOk, StmtOk, Ordered, Accepted}
use Rattle.rules.proofs.Standing.{Sound, FramesOk, StandingIn, Keeps, goes, keeps_step, standing_start}
use Rattle.rules.proofs.Bytes.{sound, length_places, places_ok}

-- the states that a run comes to
pub data Reached (P : Policy) (R : Recipe) (room : ℕ) (x : State) : State → Type 0 where
  at_first : Reached P R room x x
  after : {y z : State} → Reached P R room x y → step P R room y ≡ Goes z → Reached P R room x z

-- evaluation of an expression finds a record of its kind at every number, and every variable in the memory
pub data Found (R : Recipe) (m : Memory) : ℕ → Type 0 where
  constant : {e w : ℕ} → R.expr_at e ≡ Constant w → Found R m e
  variable : {e x : ℕ} → R.expr_at e ≡ Variable x → x < length m → Found R m e
  cell : {e i : ℕ} → R.expr_at e ≡ Cell i → Found R m i → Found R m e
  unary : {e a : ℕ} {op : UnaryOp} → R.expr_at e ≡ Unary op a → Found R m a → Found R m e
  binary : {e a b : ℕ} {op : BinaryOp} → R.expr_at e ≡ Binary op a b → Found R m a → Found R m b → Found R m e

-- the statement to begin is in the table and names what is there
abbrev pub WaitingThere : Recipe → Option ℕ → Type 0
WaitingThere R (Some s) = (s < R.stmts) × StmtOk R.vars R.exprs s (R.stmt_at s)
WaitingThere R None = Unit {0}

-- so do the frames, whose loops are whiles; the memory has all its places; every expression is found
pub record There (P : Policy) (R : Recipe) (w : Option ℕ) (l : List Frame) (m : Memory) : Type 0 where
  pub waiting : WaitingThere R w
  pub frames : FramesOk P R l
  pub complete : length m ≡ count R
  pub values : (e : ℕ) → e < R.exprs → Found R m e

abbrev pub ThereIn : Policy → Recipe → State → Type 0
ThereIn P R (state b w l m r) = There P R w l m

module _ (R : Recipe) (m : Memory) (ordered : Ordered R) (complete : length m ≡ count R) where
  by_kind : (e : ℕ) (x : Expr) → R.expr_at e ≡ x → ExprOk R.vars e x → ((a : ℕ) → a < e → Found R m a) → Found R m e
  by_kind e (Constant w) q h on = constant q
  by_kind e (Variable x) q h on = variable q (omega arith)
  by_kind e (Cell i) q h on = cell q (on i h)
  by_kind e (Unary op a) q h on = unary q (on a h)
  by_kind e (Binary op a b) q h on = binary q (on a h.0) (on b h.1)
  by_kind e BadExpr q h on = absurd h

  found_below : (n e : ℕ) → e < n → e < R.exprs → Found R m e
  found_below zero e h l = absurd (not-suc-le-zero h)
  found_below (suc n) e h l = by_kind e (R.expr_at e) refl (ordered.exprs_ok e l) λ a k. found_below n a (omega arith) (omega arith)

  found : (e : ℕ) → e < R.exprs → Found R m e
  found e l = found_below (suc e) e (omega arith) l

pub standing_after : {P : Policy} {R : Recipe} {room : ℕ} {t : Turn} {z : State} → Keeps P R room t → t ≡ Goes z → StandingIn P R room z
standing_after {P} {R} {room} {t} {z} k q = of_state z (subst (Keeps P R room) q k)
  where
    of_state : (z : State) → Keeps P R room (Goes z) → StandingIn P R room z
    of_state (state b w l m r) (goes g) = g

module _ {P : Policy} {R : Recipe} (ok : Sound P R) (room : ℕ) where
  pub standing_reached : {x y : State} → StandingIn P R room x → Reached P R room x y → StandingIn P R room y
  standing_reached g at_first = g
  standing_reached g (after {y = y} c q) = standing_after (keeps_step ok room y (standing_reached g c)) q

  there : (x : State) → StandingIn P R room x → ThereIn P R x
  there (state b (Some s) l m r) g =
      record {
        waiting = (g.waiting, ok.ordered.stmts_ok s g.waiting);
        frames = g.frames;
        complete = g.complete;
        values = found R m ok.ordered g.complete;
      }
  there (state b None l m r) g =
      record { waiting = tt; frames = g.frames; complete = g.complete; values = found R m ok.ordered g.complete }

pub no_fallback : (r p m : List ℕ) → Bytes r → Bytes m → Accepted r p m → (room : ℕ) (x : State)
    → Reached (policy_of p) (recipe_of r) room (start (recipe_of r) (places_of (recipe_of r) m)) x → ThereIn (policy_of p) (recipe_of r) x
no_fallback r p m br bm a room x c =
    let ok = sound r p m br a in
    let fine = places_ok (recipe_of r) (policy_of p) m bm ok.lawful.some_tag a.memory in
    there ok room x (standing_reached ok room (standing_start ok room (places_of (recipe_of r) m) (length_places _ m) fine) c)
