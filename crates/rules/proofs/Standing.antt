-- What holds of every state that a run of accepted tables comes to: its tags are the policy's, its values are words, what it
-- names is in the tables, and its records fit the room. Assumes nothing.
use Prim.Native.Nat.{ℕ, zero, suc, ◌+◌, ◌*◌, ◌^◌, ◌<◌, ◌≤◌}
use native.Mathlib.Omega.{arith}
use mathlib.Core.Path.{◌≡◌, refl, ap, ◌∙◌}
use mathlib.Core.Bool.{Bool, true, false}
use mathlib.Core.List.{List, [], ◌∷◌, ◌++◌}
use lib.Dec.{eqb}
use lib.ListN.{length, length-append, length-set}
use lib.Seq.{get_or-set_same, get_or-set_other}
use borrow.Author.Tests.{ltb-true, leb-true, eqb-true, eqb-false}
use Rattle.words.proofs.Bounds.{negated_below, denied_below, absolute_below, sum_below, difference_below, product_below, quotient_below, remainder_below, less_below, less_equal_below, equal_below, not_equal_below}
use Rattle.rules.specs.declared.UnaryOp.{UnaryOp}
use Rattle.rules.specs.declared.UnaryOp.TheVariants.{Negate, Not, Absolute}
use Rattle.rules.specs.declared.BinaryOp.{BinaryOp}
use Rattle.rules.specs.declared.BinaryOp.TheVariants.{Add, Sub, Mul, Div, Rem, Less, LessEq, Equal, NotEqual}
use Rattle.rules.specs.declared.Expr.{Expr}
use Rattle.rules.specs.declared.Expr.TheVariants.{Constant, Variable, Cell, Unary, Binary, BadExpr}
use Rattle.rules.specs.declared.Stmt.{Stmt}
use Rattle.rules.specs.declared.Stmt.TheVariants.{Skip, Assign, Store, Then, If, While, Emit, BadStmt}
use Rattle.rules.specs.declared.Stop.{Stop}
use Rattle.rules.specs.declared.Place.{Place}
use Rattle.rules.specs.Steps.{Valued, given, unary_of, binary_of, cell_of, value_by, value_within, eval, allow, assigns, stores, emits, chooses, loops, begins, loop_of, loop_in, tests, repeats, State, state, Turn, Goes, Halts, Finished, check, performs, takes, step}
use Rattle.std.specs.Prelude.{Ok, Err, Option, Some, None}
use Rattle.rules.specs.declared.Frame.{Frame}
use Rattle.rules.specs.declared.Frame.TheVariants.{Next, Join, Loop}
use Rattle.rules.specs.declared.Act.{Act}
use Rattle.rules.specs.declared.Act.TheVariants.{Passes, Pushes, Writes, Records, Stops}
use Rattle.rules.specs.declared.Again.{Again}
use Rattle.rules.specs.declared.Again.TheVariants.{Repeats, Leaves, Fails}
use Rattle.rules.specs.declared.End.{End}
use Rattle.rules.specs.declared.End.TheVariants.{Done, Budget, Stopped, Refused}
use Rattle.rules.specs.Operators.{unary, binary}
use Rattle.rules.specs.Policy.{Policy}
use Rattle.rules.specs.Recipe.{Recipe}
use Rattle.rules.specs.Memory.{Memory, ◌#◌, value_of, tag_of, place_at, write, count, Record, out}
use Rattle.rules.specs.Run.{Result, result, follow, run, start}
use Rattle.rules.specs.Accepted.{StmtOk, Ordered}
use Rattle.rules.proofs.Tests.{picked}
use Rattle.rules.proofs.Tags.{Lawful, Good}

-- ---- what acceptance gives

-- a constant is a word
abbrev pub WordIn : Expr → Type 0
WordIn (Constant w) = w < 2 ^ 32
WordIn (Variable x) = Unit {0}
WordIn (Cell i) = Unit {0}
WordIn (Unary op a) = Unit {0}
WordIn (Binary op a b) = Unit {0}
WordIn BadExpr = Unit {0}

pub record Sound (P : Policy) (R : Recipe) : Type 0 where
  pub lawful : Lawful P
  pub ordered : Ordered R
  pub some_stmt : 1 ≤ R.stmts
  pub words : (e : ℕ) → WordIn (R.expr_at e)

-- ---- what holds of a state

-- one of the policy's tags, and a word
pub record PlaceOk (P : Policy) (p : Place) : Type 0 where
  pub good : Good P (tag_of p)
  pub word : value_of p < 2 ^ 32

-- what lies outside the memory reads as 0 with tag 0, which is such a place too
pub record PlacesOk (P : Policy) (m : Memory) : Type 0 where
  pub ok : (i : ℕ) → PlaceOk P (place_at m i)

abbrev pub WordsOk : List Record → Type 0
WordsOk [] = Unit {0}
WordsOk (out port v ∷ r) = (v < 2 ^ 32) × WordsOk r

-- the statement is a while
pub record IsLoop (R : Recipe) (s : ℕ) : Type 0 where
  pub condition : ℕ
  pub body : ℕ
  pub there : loop_in (R.stmt_at s) ≡ loop_of condition body

abbrev pub FrameOk : Policy → Recipe → Frame → Type 0
FrameOk P R (Next a) = a < R.stmts
FrameOk P R (Join t) = Good P t
FrameOk P R (Loop s t) = (s < R.stmts) × Good P t × IsLoop R s

abbrev pub FramesOk : Policy → Recipe → List Frame → Type 0
FramesOk P R [] = Unit {0}
FramesOk P R (f ∷ l) = FrameOk P R f × FramesOk P R l

abbrev pub WaitingOk : Recipe → Option ℕ → Type 0
WaitingOk R (Some s) = s < R.stmts
WaitingOk R None = Unit {0}

pub record Standing (P : Policy) (R : Recipe) (room b : ℕ) (w : Option ℕ) (l : List Frame) (m : Memory) (r : List Record) : Type 0 where
  pub branch : Good P b
  pub waiting : WaitingOk R w
  pub frames : FramesOk P R l
  pub depth : length l ≤ R.stmts
  pub complete : length m ≡ count R
  pub places : PlacesOk P m
  pub words : WordsOk r
  pub fits : 5 * length r ≤ room

abbrev pub StandingIn : Policy → Recipe → (room : ℕ) → State → Type 0
StandingIn P R room (state b w l m r) = Standing P R room b w l m r

-- a step keeps it so
pub data Keeps (P : Policy) (R : Recipe) (room : ℕ) : Turn → Type 0 where
  goes : {b : ℕ} {w : Option ℕ} {l : List Frame} {m : Memory} {r : List Record} → Standing P R room b w l m r → Keeps P R room (Goes (state b w l m r))
  halts : {h : Stop} {s : ℕ} → s < R.stmts → Keeps P R room (Halts h s)
  finishes : Keeps P R room Finished

-- ---- what a statement and a repeated test ask

pub data ActOk (P : Policy) (R : Recipe) : Act → Type 0 where
  passes : ActOk P R Passes
  pushes : (f : Frame) {a t : ℕ} → FrameOk P R f → a < R.stmts → Good P t → ActOk P R (Pushes f a t)
  writes : {i : ℕ} {p : Place} → i < count R → PlaceOk P p → ActOk P R (Writes i p)
  records : {port v : ℕ} → v < 2 ^ 32 → ActOk P R (Records port v)
  stops : {h : Stop} → ActOk P R (Stops h)

pub data AgainOk (P : Policy) (R : Recipe) : Again → Type 0 where
  repeats_ok : {a t : ℕ} → a < R.stmts → Good P t → AgainOk P R (Repeats a t)
  leaves : AgainOk P R Leaves
  fails : {h : Stop} → AgainOk P R (Fails h)

-- ---- values

unary_below : (op : UnaryOp) (a : ℕ) → unary op a < 2 ^ 32
unfolding unary
unary_below Negate a = negated_below a
unary_below Not a = denied_below a
unary_below Absolute a = absolute_below a

binary_below : (op : BinaryOp) (a b : ℕ) → binary op a b < 2 ^ 32
unfolding binary
binary_below Add a b = sum_below a b
binary_below Sub a b = difference_below a b
binary_below Mul a b = product_below a b
binary_below Div a b = quotient_below a b
binary_below Rem a b = remainder_below a b
binary_below Less a b = less_below a b
binary_below LessEq a b = less_equal_below a b
binary_below Equal a b = equal_below a b
binary_below NotEqual a b = not_equal_below a b

-- a fault, or a place
pub data Proper (P : Policy) : Valued → Type 0 where
  fault : {h : Stop} → Proper P (Err h)
  value : {p : Place} → PlaceOk P p → Proper P (Ok p)

place# : {P : Policy} {v t : ℕ} → Good P t → v < 2 ^ 32 → PlaceOk P (v # t)
unfolding value_of tag_of
place# g l = record { good = g; word = l }

module _ {P : Policy} {R : Recipe} (ok : Sound P R) where
  open ok.lawful use {some_tag, join_below}

  nothing_there : PlaceOk P (0 # 0)
  nothing_there = place# some_tag (omega arith)

  proper_given : (a : Bool) (h : Stop) {p : Place} → PlaceOk P p → Proper P (given a h (Ok p))
  unfolding given
  proper_given true h k = value k
  proper_given false h k = fault

  proper_unary : (op : UnaryOp) {o : Valued} → Proper P o → Proper P (unary_of op o)
  proper_unary op fault = fault
  proper_unary op (value k) = value (place# k.good (unary_below op _))

  proper_binary : (op : BinaryOp) {o u : Valued} → Proper P o → Proper P u → Proper P (binary_of P op o u)
  proper_binary op fault j = fault
  proper_binary op (value k) fault = fault
  proper_binary op (value k) (value j) = proper_given _ _ (place# (join_below _ _ k.good j.good) (binary_below op _ _))

  module _ {m : Memory} (fine : PlacesOk P m) where
    proper_cell : {o : Valued} → Proper P o → Proper P (cell_of P R m o)
    proper_cell fault = fault
    proper_cell (value {p = i} k) =
        let q = fine.ok (R.vars + value_of i) in
        proper_given _ _ (place# (join_below _ _ q.good k.good) q.word)

    proper_by : {f : ℕ → Valued} → ((a : ℕ) → Proper P (f a)) → (x : Expr) → WordIn x → Proper P (value_by P R m f x)
    proper_by on (Constant w) l = value (place# some_tag l)
    proper_by on (Variable x) l = value (fine.ok x)
    proper_by on (Cell i) l = proper_cell (on i)
    proper_by on (Unary op a) l = proper_unary op (on a)
    proper_by on (Binary op a b) l = proper_binary op (on a) (on b)
    proper_by on BadExpr l = value nothing_there

    proper_within : (d e : ℕ) → Proper P (value_within P R m d e)
    unfolding value_within
    proper_within zero e = value nothing_there
    proper_within (suc d) e = proper_by (proper_within d) (R.expr_at e) (ok.words e)

    pub proper : (e : ℕ) → Proper P (eval P R m e)
    proper e = proper_within (suc e) e

  -- ---- acts

  act_allow : (a : Bool) (h : Stop) {x : Act} → (a ≡ true → ActOk P R x) → ActOk P R (allow a h x)
  unfolding allow
  act_allow true h k = k refl
  act_allow false h k = stops

  module _ {s b : ℕ} {m : Memory} (ls : s < R.stmts) (gb : Good P b) (fine : PlacesOk P m) where
    act_assigns : (x : ℕ) {o : Valued} → x < R.vars → Proper P o → ActOk P R (assigns P R m b x o)
    act_assigns x l fault = stops
    act_assigns x l (value k) = act_allow _ _ λ _. writes (omega arith) (place# (join_below _ _ gb k.good) k.word)

    act_stores : {i o : Valued} → Proper P i → Proper P o → ActOk P R (stores P R m b i o)
    act_stores fault k = stops
    act_stores (value j) fault = stops
    act_stores (value {p = i} j) (value k) =
        act_allow _ _ λ e. act_allow _ _ λ _.
        let l : value_of i < R.cells = ltb-true _ _ e in
        writes (omega arith) (place# (join_below _ _ (join_below _ _ gb j.good) k.good) k.word)

    act_emits : (port : ℕ) {o : Valued} → Proper P o → ActOk P R (emits P R m b port o)
    act_emits port fault = stops
    act_emits port (value k) = act_allow _ _ λ _. records k.word

    act_chooses : (a c : ℕ) {o : Valued} → a < R.stmts → c < R.stmts → Proper P o → ActOk P R (chooses P R m b a c o)
    act_chooses a c la lc fault = stops
    act_chooses a c la lc (value {p = p} k) =
        pushes (Join b) gb (picked (λ (x : ℕ). x < R.stmts) (value_of p) la lc) (join_below _ _ gb k.good)

    act_loops : (a : ℕ) {o : Valued} → a < R.stmts → IsLoop R s → Proper P o → ActOk P R (loops P R m b s a o)
    act_loops a la w fault = stops
    act_loops a la w (value k) = picked (ActOk P R) _ (pushes (Loop s b) (ls, gb, w) la (join_below _ _ gb k.good)) passes

    act_begins : (c : Stmt) → R.stmt_at s ≡ c → StmtOk R.vars R.exprs s c → ActOk P R (begins P R m b s c)
    act_begins Skip q h = passes
    act_begins (Assign x e) q h = act_assigns x h.0 (proper fine e)
    act_begins (Store i e) q h = act_stores (proper fine i) (proper fine e)
    act_begins (Then a c) q h =
        let la : a < R.stmts = omega arith in
        let lc : c < R.stmts = omega arith in
        pushes (Next c) lc la gb
    act_begins (If e a c) q h = act_chooses a c (omega arith) (omega arith) (proper fine e)
    act_begins (While e a) q h = act_loops a (omega arith) (record { condition = e; body = a; there = ap loop_in q }) (proper fine e)
    act_begins (Emit port e) q h = act_emits port (proper fine e)
    act_begins BadStmt q h = passes

    pub act_ok : ActOk P R (begins P R m b s (R.stmt_at s))
    act_ok = act_begins (R.stmt_at s) refl (ok.ordered.stmts_ok s ls)

    again_tests : (a : ℕ) {o : Valued} → a < R.stmts → Proper P o → AgainOk P R (tests P R m b a o)
    again_tests a la fault = fails
    again_tests a la (value k) = picked (AgainOk P R) _ (repeats_ok la (join_below _ _ gb k.good)) leaves

    again_repeats : (c : Stmt) → StmtOk R.vars R.exprs s c → AgainOk P R (repeats P R m b (loop_in c))
    again_repeats Skip h = leaves
    again_repeats (Assign x e) h = leaves
    again_repeats (Store i e) h = leaves
    again_repeats (Then a c) h = leaves
    again_repeats (If e a c) h = leaves
    again_repeats (While e a) h = again_tests a (omega arith) (proper fine e)
    again_repeats (Emit port e) h = leaves
    again_repeats BadStmt h = leaves

    pub again_ok : AgainOk P R (repeats P R m b (loop_in (R.stmt_at s)))
    again_ok = again_repeats (R.stmt_at s) (ok.ordered.stmts_ok s ls)

-- ---- steps

-- a place written
write_at : {P : Policy} (m : Memory) (i : ℕ) (p : Place) (j : ℕ) (t : Bool) → eqb j i ≡ t → i < length m → PlaceOk P p → PlacesOk P m → PlaceOk P (place_at (write m i p) j)
write_at m i p j true e l k fine =
    let q : j ≡ i = eqb-true j i e in
    rw (q, get_or-set_same m i p (0 # 0) l) k
write_at m i p j false e l k fine = rw (get_or-set_other m i j p (0 # 0) (eqb-false j i e)) (fine.ok j)

words_more : (r : List Record) (port v : ℕ) → WordsOk r → v < 2 ^ 32 → WordsOk (r ++ (out port v ∷ []))
words_more [] port v w l = (l, tt)
words_more (out p x ∷ r) port v w l = (w.0, words_more r port v w.1 l)

module _ {P : Policy} {R : Recipe} {room : ℕ} where
  keeps_check : (a : Bool) (h : Stop) {s : ℕ} → s < R.stmts → {x : Turn} → (a ≡ true → Keeps P R room x) → Keeps P R room (check a h s x)
  unfolding check
  keeps_check true h l k = k refl
  keeps_check false h l k = halts l

  module _ {b : ℕ} {w : Option ℕ} {l : List Frame} {m : Memory} {r : List Record} (g : Standing P R room b w l m r) where
    -- the same memory and records, with another branch tag, statement to begin and stack
    pub moved : (b' : ℕ) (w' : Option ℕ) (l' : List Frame) → Good P b' → WaitingOk R w' → FramesOk P R l' → length l' ≤ R.stmts
        → Standing P R room b' w' l' m r
    moved b' w' l' gb wk fk d =
        record { branch = gb; waiting = wk; frames = fk; depth = d; complete = g.complete; places = g.places; words = g.words; fits = g.fits }

    pub written : {i : ℕ} (p : Place) → i < count R → PlaceOk P p → Standing P R room b None l (write m i p) r
    written {i} p li k =
        record {
          branch = g.branch;
          waiting = tt;
          frames = g.frames;
          depth = g.depth;
          complete = length-set m i p ∙ g.complete;
          places = record { ok = λ j. write_at m i p j (eqb j i) refl (omega (arith, g.complete)) k g.places };
          words = g.words;
          fits = g.fits;
        }

    pub recorded : (port v : ℕ) → v < 2 ^ 32 → 5 * length r + 5 ≤ room → Standing P R room b None l m (r ++ (out port v ∷ []))
    recorded port v k c =
        record {
          branch = g.branch;
          waiting = tt;
          frames = g.frames;
          depth = g.depth;
          complete = g.complete;
          places = g.places;
          words = words_more r port v g.words k;
          fits = rw (length-append r (out port v ∷ [])) (omega arith);
        }

    keeps_performs : {s : ℕ} → s < R.stmts → {x : Act} → ActOk P R x → Keeps P R room (performs R room s b l m r x)
    keeps_performs ls passes = goes (moved b None l g.branch tt g.frames g.depth)
    keeps_performs ls (pushes f {a = a} {t = t} k la gt) =
        keeps_check _ _ ls λ e.
        let d : length l < R.stmts = ltb-true _ _ e in
        goes (moved t (Some a) (f ∷ l) gt la (k, g.frames) (omega arith))
    keeps_performs ls (writes {p = p} li k) = goes (written p li k)
    keeps_performs ls (records {port = port} {v = v} k) = keeps_check _ _ ls λ e. goes (recorded port v k (leb-true _ _ e))
    keeps_performs ls stops = halts ls

    keeps_takes : (s t : ℕ) → FrameOk P R (Loop s t) → length l < R.stmts → {x : Again} → AgainOk P R x → Keeps P R room (takes R room s b l m r t x)
    keeps_takes s t f d (repeats_ok {a = a} {t = u} la gu) = goes (moved u (Some a) (Loop s t ∷ l) gu la (f, g.frames) (omega arith))
    keeps_takes s t f d leaves = goes (moved t None l f.1 tt g.frames g.depth)
    keeps_takes s t f d fails = halts f.0

module _ {P : Policy} {R : Recipe} (ok : Sound P R) where
  pub keeps_step : (room : ℕ) (x : State) → StandingIn P R room x → Keeps P R room (step P R room x)
  keeps_step room (state b (Some s) l m r) g = keeps_performs g g.waiting (act_ok ok g.waiting g.branch g.places)
  keeps_step room (state b None (Next a ∷ l) m r) g =
      goes (moved g b (Some a) l g.branch g.frames.0 g.frames.1 (omega (arith, g.depth)))
  keeps_step room (state b None (Join t ∷ l) m r) g =
      goes (moved g t None l g.frames.0 tt g.frames.1 (omega (arith, g.depth)))
  keeps_step room (state b None (Loop s t ∷ l) m r) g =
      let below = moved g b None l g.branch tt g.frames.1 (omega (arith, g.depth)) in
      keeps_takes below s t g.frames.0 (omega (arith, g.depth)) (again_ok ok g.frames.0.0 g.branch g.places)
  keeps_step room (state b None [] m r) g = finishes

  -- ---- runs

  pub standing_start : (room : ℕ) (m : Memory) → length m ≡ count R → PlacesOk P m → StandingIn P R room (start R m)
  standing_start room m c fine =
      record {
        branch = ok.lawful.some_tag;
        waiting = omega (arith, ok.some_stmt);
        frames = tt;
        depth = omega arith;
        complete = c;
        places = fine;
        words = tt;
        fits = omega arith;
      }

-- a run gives no refusal, and stops at a statement of the recipe
abbrev pub EndOk : Recipe → End → Type 0
EndOk R Done = Unit {0}
EndOk R Budget = Unit {0}
EndOk R (Stopped h s) = s < R.stmts
EndOk R (Refused x) = ⊥

-- what a run leaves
pub record Left (P : Policy) (R : Recipe) (room : ℕ) (e : End) (m : Memory) (r : List Record) : Type 0 where
  pub ends_at : EndOk R e
  pub complete : length m ≡ count R
  pub places : PlacesOk P m
  pub words : WordsOk r
  pub fits : 5 * length r ≤ room

abbrev pub LeftBy : Policy → Recipe → (room : ℕ) → Result → Type 0
LeftBy P R room (result e k m r) = Left P R room e m r

module _ {P : Policy} {R : Recipe} (ok : Sound P R) (room : ℕ) where
  left : {b : ℕ} {w : Option ℕ} {l : List Frame} {m : Memory} {r : List Record} → (e : End) → EndOk R e → Standing P R room b w l m r → Left P R room e m r
  left e k g = record { ends_at = k; complete = g.complete; places = g.places; words = g.words; fits = g.fits }

  left_follow : (n k : ℕ) (x : State) {t : Turn} → StandingIn P R room x → Keeps P R room t → LeftBy P R room (follow P R room n k x t)
  unfolding follow
  left_follow zero k (state b w l m r) g finishes = left Done tt g
  left_follow zero k (state b w l m r) g (goes h) = left Budget tt g
  left_follow zero k (state b w l m r) g (halts h) = left Budget tt g
  left_follow (suc n) k (state b w l m r) g finishes = left Done tt g
  left_follow (suc n) k (state b w l m r) g (goes {b = b'} {w = w'} {l = l'} {m = m'} {r = r'} h) =
      let y = state b' w' l' m' r' in
      left_follow n (suc k) y h (keeps_step ok room y h)
  left_follow (suc n) k (state b w l m r) g (halts {h = h} {s = s} l') = left (Stopped h s) l' g

  pub left_run : (n k : ℕ) (x : State) → StandingIn P R room x → LeftBy P R room (run P R room n k x)
  left_run n k x g = left_follow n k x g (keeps_step ok room x g)
