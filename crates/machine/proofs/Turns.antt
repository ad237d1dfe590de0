-- One turn of the loop is one step of the run. Assumes nothing.
use Prim.Native.Nat.{ℕ, zero, suc, ◌+◌, ◌-◌, ◌*◌, ◌/◌, ◌%◌, ◌<◌, ◌≤◌}
use native.Mathlib.Nat.{not-suc-le-zero}
use native.Mathlib.Numerals.{add-one, sub-one}
use native.Mathlib.Omega.{arith}
use mathlib.Core.Path.{◌≡◌, refl, sym, ap, ◌∙◌, subst}
use mathlib.Core.Bool.{Bool, true, false}
use mathlib.Core.List.{List, [], ◌∷◌}
use lib.ListN.{length, get_or, set, length-set}
use borrow.Author.Tests.{lt-ltb, le-ltb, le-leb, lt-leb}
use Rattle.rules.specs.declared.Stop.{Stop}
use Rattle.rules.specs.declared.Stop.TheVariants.{Room, Frames}
use Rattle.rules.specs.declared.Frame.{Frame}
use Rattle.rules.specs.declared.Frame.TheVariants.{Next, Join, Loop}
use Rattle.std.specs.Prelude.{Option, Some, None, Ok, Err}
use Rattle.rules.specs.declared.Act.{Act}
use Rattle.rules.specs.declared.Act.TheVariants.{Passes, Pushes, Writes, Records, Stops}
use Rattle.rules.specs.declared.Again.{Again}
use Rattle.rules.specs.declared.Again.TheVariants.{Repeats, Leaves, Fails}
use Rattle.rules.specs.declared.End.{End}
use Rattle.rules.specs.declared.End.TheVariants.{Done, Budget, Stopped}
use Rattle.rules.specs.Policy.{Policy, policy_of}
use Rattle.rules.specs.Recipe.{Recipe, recipe_of}
use Rattle.rules.specs.Memory.{Memory, value_of, tag_of, count, Record}
use Rattle.rules.specs.declared.Stmt.{Stmt}
use Rattle.rules.specs.declared.Stmt.TheVariants.{Skip, Assign, Store, Then, If, While, Emit, BadStmt}
use Rattle.rules.specs.Bytes.{byte}
use Rattle.rules.specs.Accepted.{StmtOk, PortOk}
use Rattle.layout.specs.declared.Record as decoded
use Rattle.layout.specs.declared.Tables.{Tables}
use Rattle.layout.specs.Tables.{stmt_record, StmtAs}
use Rattle.rules.specs.Steps.{State, state, Turn, Goes, Halts, Finished, eval, begins, Loops, loop_of, no_loop, tests, repeats, loop_in, check, performs, takes, step}
use Rattle.rules.specs.Run.{Result, ends, follow, run, start}
use Rattle.rules.specs.Judged.{outcome_of, written_back}
use Rattle.rules.proofs.Standing.{Standing, FrameOk, ActOk, writes, keeps_step, act_ok, standing_start}
use Rattle.rules.proofs.Reached.{standing_after}
use Rattle.memory.specs.Layout.{recorded, Holds}
use Rattle.memory.proofs.Records.{none_held, length_held, more_held}
use Rattle.layout.specs.Places.{held_in, Ready}
use Rattle.layout.specs.Answers.{answer_of}
use Rattle.layout.proofs.Places.{held_length, held_write, sound_ready, places_ready, ready_write}
use Rattle.layout.proofs.Answers.{worth_back}
use Rattle.steps.specs.Asks as asks
use Rattle.steps.proofs.Statements.{stmt_from, stmt_is, stmt_ok_lem, port_ok_lem}
use Rattle.machine.specs.Frames.{word_of, Held, none, more}
use Rattle.machine.specs.Turns.{RunAs}
use Rattle.machine.proofs.Frames.{frames_length, pushed, Turned, at_stmt, at_top, by_stmt, low_number, Top, top_next, top_join, top_loop, top_none}

-- ---- a run by its first step

module _ (P : Policy) (R : Recipe) (room : ℕ) where
  run_go : (f k : ℕ) (x : State) {y : State} → 0 < f → step P R room x ≡ Goes y → run P R room f k x ≡ run P R room (f - 1) (k + 1) y
  unfolding follow
  run_go zero k x h e = absurd (not-suc-le-zero h)
  run_go (suc f) k x h e = rw (e, sub-one (suc f), add-one k)

  run_stop : (f k : ℕ) (x : State) {h : Stop} {s : ℕ} → 0 < f → step P R room x ≡ Halts h s → run P R room f k x ≡ ends (Stopped h s) (k + 1) x
  unfolding follow
  run_stop zero k x h e = absurd (not-suc-le-zero h)
  run_stop (suc f) k x h e = rw (e, add-one k)

  run_done : (f k : ℕ) (x : State) → step P R room x ≡ Finished → run P R room f k x ≡ ends Done k x
  unfolding follow
  run_done zero k x e = rw e
  run_done (suc f) k x e = rw e

-- with something left to do
pub data Moves : Turn → Type 0 where
  goes : {y : State} → Moves (Goes y)
  halts : {h : Stop} {s : ℕ} → Moves (Halts h s)

moves_check : (b : Bool) (h : Stop) (s : ℕ) {x : Turn} → Moves x → Moves (check b h s x)
unfolding check
moves_check true h s k = k
moves_check false h s k = halts

module _ (R : Recipe) (room s b : ℕ) (l : List Frame) (m : Memory) (r : List Record) where
  pub moves_performs : (x : Act) → Moves (performs R room s b l m r x)
  moves_performs Passes = goes
  moves_performs (Pushes f a t) = moves_check _ _ _ goes
  moves_performs (Writes i p) = goes
  moves_performs (Records port v) = moves_check _ _ _ goes
  moves_performs (Stops h) = halts

  moves_takes : (t : ℕ) (x : Again) → Moves (takes R room s b l m r t x)
  moves_takes t (Repeats a u) = goes
  moves_takes t Leaves = goes
  moves_takes t (Fails h) = halts

pub moves_frame : (P : Policy) (R : Recipe) (room b : ℕ) (f : Frame) (l : List Frame) (m : Memory) (r : List Record)
    → Moves (step P R room (state b None (f ∷ l) m r))
moves_frame P R room b (Next a) l m r = goes
moves_frame P R room b (Join t) l m r = goes
moves_frame P R room b (Loop s t) l m r = moves_takes R room s b l m r t (repeats P R m b (loop_in (R.stmt_at s)))

run_spent : (P : Policy) (R : Recipe) (room k : ℕ) (x : State) {t : Turn} → Moves t → follow P R room 0 k x t ≡ ends Budget k x
unfolding follow
run_spent P R room k x goes = refl
run_spent P R room k x halts = refl

no_stop : {h : asks.Written} {x : Stop} → h ≡ Err x → h ≡ Ok tt → ⊥
no_stop e f = cc

same_stop : {h : asks.Written} {x y : Stop} → h ≡ Err x → h ≡ Err y → x ≡ y
same_stop e f = cc

-- with a kind that is not the empty word's, something is left to do
moves_now : (P : Policy) (R : Recipe) (room tag : ℕ) (m : Memory) (c : List Record) {t : Tables} {st : List ℕ} {d kind s : ℕ} {w : Option ℕ} {l : List Frame}
    → Turned t st d kind s w → Held st d l → (kind ≡ 10 → ⊥) → Moves (step P R room (state tag w l m c))
moves_now P R room tag m c {s = s} (at_stmt e) h n = moves_performs R room s tag _ m c (begins P R m tag s (R.stmt_at s))
moves_now P R room tag m c (at_top e f) (none b) n = absurd (n (omega arith))
moves_now P R room tag m c (at_top e f) (more x b h) n = moves_frame P R room tag x _ m c

-- ---- a loop's statement by its record

abbrev Looping : Loops → Type 0
Looping (loop_of c b) = Unit {0}
Looping no_loop = ⊥

not_looping : {c b : ℕ} → no_loop ≡ loop_of c b → ⊥
not_looping e = subst Looping (sym e) tt

while_as : {f : decoded.Record} {c b : ℕ} (x : Stmt) → StmtAs f x → loop_in x ≡ loop_of c b → x ≡ While f.first f.second
while_as Skip h k = absurd (not_looping k)
while_as (Assign x e) h k = absurd (not_looping k)
while_as (Store i e) h k = absurd (not_looping k)
while_as (Then a c) h k = absurd (not_looping k)
while_as (If e a c) h k = absurd (not_looping k)
while_as (While e a) h k = rw (h.first, h.second)
while_as (Emit port e) h k = absurd (not_looping k)
while_as BadStmt h k = absurd (not_looping k)

-- ---- states by their parts

step_at : (P : Policy) (R : Recipe) (room tag : ℕ) (m : Memory) (c : List Record) {w w' : Option ℕ} {l l' : List Frame} → w ≡ w' → l ≡ l'
    → step P R room (state tag w l m c) ≡ step P R room (state tag w' l' m c)
step_at P R room tag m c {w' = w'} {l = l} e f = ap (λ x. step P R room (state tag x l m c)) e ∙ ap (λ x. step P R room (state tag w' x m c)) f

goes_as : {m : Memory} {c : List Record} {b b' : ℕ} {w w' : Option ℕ} {l l' : List Frame} → b ≡ b' → w ≡ w' → l ≡ l'
    → Goes (state b w l m c) ≡ Goes (state b' w' l' m c)
goes_as e f h = rw (e, f, h)

-- ---- what the loop holds

-- the whole run, from the places in u₀
abbrev whole : (r p u₀ q₀ : List ℕ) (B : ℕ) → Result
whole r p u₀ q₀ B = run (policy_of p) (recipe_of r) (length q₀) B 0 (start (recipe_of r) (held_in (recipe_of r) u₀))

-- what is left to run from the state that the loop holds is the whole run
pub record Stands (r p : List ℕ) (t : Tables) (u₀ q₀ u q st : List ℕ) (B taken k d kind s tag : ℕ) : Type 0 where
  pub ready : Ready r p t u
  pub records : List Record
  pub held : Holds q₀ q records k
  pub few : k ≤ taken
  pub within : taken ≤ B
  pub size : length st ≡ 513
  pub all_places : length u ≡ 2112
  pub same_room : length q ≡ length q₀
  pub waiting : Option ℕ
  pub frames : List Frame
  pub stack : Held st d frames
  pub turned : Turned t st d kind s waiting
  pub standing : Standing (policy_of p) (recipe_of r) (length q₀) tag waiting frames (held_in (recipe_of r) u) records
  pub rest : whole r p u₀ q₀ B ≡ run (policy_of p) (recipe_of r) (length q₀) (B - taken) taken (state tag waiting frames (held_in (recipe_of r) u) records)

-- the loop's state as it is first
pub starts : {r p : List ℕ} {t : Tables} {u q st : List ℕ} {B kind s : ℕ} → Ready r p t u → length u ≡ 2112 → length st ≡ 513 → get_or st 0 0 ≡ 81920
    → s ≡ (recipe_of r).stmts - 1 → kind ≡ (stmt_record t s).kind → Stands r p t u q u q st B 0 0 0 kind s 0
starts {r} {p} {t} {u} {q} {st} {B} {kind} {s} a all size low e k =
    let R = recipe_of r in
    let z : B - 0 ≡ B = omega arith in
    record {
      ready = a;
      records = [];
      held = none_held q;
      few = omega arith;
      within = omega arith;
      size = size;
      all_places = all;
      same_room = refl;
      waiting = Some s;
      frames = [];
      stack = none low;
      turned = at_stmt k;
      standing = rw e (standing_start (sound_ready a) (length q) (held_in R u) (held_length u 0 (count R)) (places_ready a));
      rest = rw (z, e);
    }

module _ {r p : List ℕ} {t : Tables} {u₀ q₀ u q st : List ℕ} {B taken k d kind s tag : ℕ} (g : Stands r p t u₀ q₀ u q st B taken k d kind s tag) where
  abbrev P : Policy
  P = policy_of p

  abbrev R : Recipe
  R = recipe_of r

  abbrev pub held_now : Memory
  held_now = held_in R u

  abbrev pub branch_now : ℕ
  branch_now = tag

  abbrev now : State
  now = state tag g.waiting g.frames (held_in R u) g.records

  abbrev stepped : Turn
  stepped = step P R (length q₀) now

  -- ---- bounds

  pub depth_below : d ≤ R.stmts
  depth_below = rw (frames_length g.stack) at g.standing.depth

  pub branch_low : tag < 16
  branch_low = omega (arith, g.standing.branch, g.ready.policy.few_tags)

  pub stmt_low : s < 512
  stmt_low = low_number g.ready g.standing.waiting g.turned

  -- ---- ends

  ended : {e : End} {steps : ℕ} → run P R (length q₀) (B - taken) taken now ≡ ends e steps now → RunAs r p t u₀ q₀ B (outcome_of e steps k) u q
  unfolding written_back
  ended e =
      record {
        left = rw (g.rest ∙ e) (record { outcome_is = rw g.held.counted; memory_is = refl; room_is = rw g.held.counted g.held.bytes });
        ready = g.ready;
      }

  pub done : 9 < kind → RunAs r p t u₀ q₀ B (outcome_of Done taken k) u q
  done h =
      let z = top_none g.ready g.standing.waiting g.turned g.stack g.standing.frames h in
      ended (run_done P R (length q₀) (B - taken) taken now (rw (z.0, z.1)))

  -- the budget is used up
  module _ (z : taken ≡ B) where
    pub done_spent : 9 < kind → RunAs r p t u₀ q₀ B (outcome_of Done B k) u q
    done_spent h = subst (λ n. RunAs r p t u₀ q₀ B (outcome_of Done n k) u q) z (done h)

    pub spent : (kind ≡ 10 → ⊥) → RunAs r p t u₀ q₀ B (outcome_of Budget B k) u q
    spent m =
        let none : B - taken ≡ 0 = omega arith in
        subst (λ n. RunAs r p t u₀ q₀ B (outcome_of Budget n k) u q) z
        (ended (rw none (run_spent P R (length q₀) taken now (moves_now P R (length q₀) tag (held_in R u) g.records g.turned g.stack m))))

  module _ (less : taken < B) where
    some_left : 0 < B - taken
    some_left = omega arith

    pub halted : {h : Stop} {i : ℕ} → stepped ≡ Halts h i → RunAs r p t u₀ q₀ B (outcome_of (Stopped h i) (taken + 1) k) u q
    halted e = ended (run_stop P R (length q₀) (B - taken) taken now some_left e)

    -- ---- the next turn

    pub moved : {u' q' st' : List ℕ} {k' d' kind' s' tag' : ℕ} {w' : Option ℕ} {l' : List Frame} {c : List Record}
        → stepped ≡ Goes (state tag' w' l' (held_in R u') c)
        → Holds q₀ q' c k' → k' ≤ k + 1 → length st' ≡ 513 → length u' ≡ 2112 → Ready r p t u' → Held st' d' l' → Turned t st' d' kind' s' w'
        → Stands r p t u₀ q₀ u' q' st' B (taken + 1) k' d' kind' s' tag'
    moved {w' = w'} {l' = l'} {c = c} e h few size all ready stack turned =
        let z : B - taken - 1 ≡ B - (taken + 1) = omega arith in
        let after = standing_after (keeps_step (sound_ready g.ready) (length q₀) now g.standing) e in
        record {
          ready = ready;
          records = c;
          held = h;
          few = omega (arith, g.few);
          within = omega arith;
          size = size;
          all_places = all;
          same_room = length_held h (rw h.counted at after.fits);
          waiting = w';
          frames = l';
          stack = stack;
          turned = turned;
          standing = after;
          rest = g.rest ∙ run_go P R (length q₀) (B - taken) taken now some_left e ∙ rw z;
        }

    -- the places, the records and the stack stay
    pub stays : {kind' s' tag' d' : ℕ} {w' : Option ℕ} {l' : List Frame} → stepped ≡ Goes (state tag' w' l' (held_in R u) g.records)
        → Held st d' l' → Turned t st d' kind' s' w' → Stands r p t u₀ q₀ u q st B (taken + 1) k d' kind' s' tag'
    stays e stack turned = moved e g.held (omega arith) g.size g.all_places g.ready stack turned

    -- a statement asks a
    module _ {a : Act} (asked : stepped ≡ performs R (length q₀) s tag g.frames (held_in R u) g.records a) where
      pub passes_on : a ≡ Passes → {kind' s' : ℕ} → kind' ≡ get_or st d 0 / 8192 → s' ≡ get_or st d 0 / 16 % 512
          → Stands r p t u₀ q₀ u q st B (taken + 1) k d kind' s' tag
      passes_on e x y = stays (rw e at asked) g.stack (at_top x y)

      pub stops_at : {h : Stop} → a ≡ Stops h → RunAs r p t u₀ q₀ B (outcome_of (Stopped h s) (taken + 1) k) u q
      stops_at e = halted (rw e at asked)

      module _ {f : Frame} {n b : ℕ} (e : a ≡ Pushes f n b) where
        pub pushes_on : {w kind' s' tag' : ℕ} → d < R.stmts → w ≡ word_of f → s' ≡ n → tag' ≡ b → kind' ≡ (stmt_record t s').kind
            → Stands r p t u₀ q₀ u q (set st (d + 1) w) B (taken + 1) k (d + 1) kind' s' tag'
        unfolding check
        pushes_on {w} l j i h x =
            moved ((rw (e, frames_length g.stack, lt-ltb d R.stmts l) at asked) ∙ rw (i, h))
            g.held (omega arith) (length-set st (d + 1) w ∙ g.size) g.all_places g.ready
            (pushed g.stack f w j (omega (arith, g.size, l, g.ready.recipe.counts.few_stmts))) (at_stmt x)

        pub full : R.stmts ≤ d → RunAs r p t u₀ q₀ B (outcome_of (Stopped Frames s) (taken + 1) k) u q
        unfolding check
        full l = halted (rw (e, frames_length g.stack, le-ltb d R.stmts l) at asked)

      module _ {port w : ℕ} (e : a ≡ Records port w) where
        pub records_on : 5 * k + 5 ≤ length q₀ → {kind' s' : ℕ} → kind' ≡ get_or st d 0 / 8192 → s' ≡ get_or st d 0 / 16 % 512
            → Stands r p t u₀ q₀ u (recorded q (5 * k) port w) st B (taken + 1) (k + 1) d kind' s' tag
        unfolding check
        records_on l x y =
            moved (rw (e, g.held.counted, le-leb (5 * k + 5) (length q₀) l) at asked)
            (more_held port w g.held l) (omega arith) g.size g.all_places g.ready g.stack (at_top x y)

        pub no_room : length q₀ < 5 * k + 5 → RunAs r p t u₀ q₀ B (outcome_of (Stopped Room s) (taken + 1) k) u q
        unfolding check
        no_room l = halted (rw (e, g.held.counted, lt-leb (5 * k + 5) (length q₀) l) at asked)

    -- a statement asked a, and steps did it
    module _ {h : asks.Written} {u' : List ℕ} where
      pub wrote_on : (a : Act) → stepped ≡ performs R (length q₀) s tag g.frames (held_in R u) g.records a → ActOk P R a → asks.Done a h u u' → h ≡ Ok tt
          → {kind' s' : ℕ} → kind' ≡ get_or st d 0 / 8192 → s' ≡ get_or st d 0 / 16 % 512 → Stands r p t u₀ q₀ u' q st B (taken + 1) k d kind' s' tag
      unfolding value_of tag_of
      wrote_on Passes e ok did z x y = absurd did
      wrote_on (Pushes f n b) e ok did z x y = absurd did
      wrote_on (Writes i v) e (writes l fine) did z x y =
          let z = answer_of (Ok v) in
          let w = held_write R g.ready.recipe.counts u g.all_places i z l in
          let low : z / 4294967296 < byte p 6 = omega (arith, fine.word, fine.good) in
          moved (e ∙ rw (did.1, w, worth_back v fine.word)) g.held (omega arith) g.size
          (rw did.1 (length-set u i z ∙ g.all_places))
          (rw did.1 (ready_write g.ready g.all_places i z l low))
          g.stack (at_top x y)
      wrote_on (Records port v) e ok did z x y = absurd did
      wrote_on (Stops n) e ok did z x y = absurd (no_stop did.0 z)

      pub refused : (a : Act) → stepped ≡ performs R (length q₀) s tag g.frames (held_in R u) g.records a → asks.Done a h u u' → {n : Stop} → h ≡ Err n
          → RunAs r p t u₀ q₀ B (outcome_of (Stopped n s) (taken + 1) k) u' q
      refused Passes e did z = absurd did
      refused (Pushes f m b) e did z = absurd did
      refused (Writes i v) e did z = absurd (no_stop z did.0)
      refused (Records port v) e did z = absurd did
      refused (Stops x) e did z = rw (same_stop z did.0, did.1) (halted e)

    -- ---- a statement is begun

    module _ {c : ℕ} (low : c < 7) (e : kind ≡ c) where
      here : (g.waiting ≡ Some s) × (kind ≡ (stmt_record t s).kind)
      here = by_stmt g.turned g.stack (omega arith)

      pub there : s < R.stmts
      there = rw here.0 at g.standing.waiting

      kind_as : (stmt_record t s).kind ≡ c
      kind_as = sym here.1 ∙ e

      abbrev pub named : decoded.Record
      named = stmt_record t s

      -- what the statement asks
      abbrev pub asks_now : Act
      asks_now = begins P R (held_in R u) tag s (stmt_from c named.first named.second named.third)

      pub begun : stepped ≡ performs R (length q₀) s tag g.frames (held_in R u) g.records (begins P R (held_in R u) tag s (stmt_from c named.first named.second named.third))
      begun = rw (here.0, stmt_is g.ready there kind_as)

      pub act_fits : ActOk P R (begins P R (held_in R u) tag s (stmt_from c named.first named.second named.third))
      act_fits = rw (stmt_is g.ready there kind_as) at (act_ok (sound_ready g.ready) there g.standing.branch g.standing.places)

      pub fails_with : {h : Stop} → begins P R (held_in R u) tag s (stmt_from c named.first named.second named.third) ≡ Stops h
          → RunAs r p t u₀ q₀ B (outcome_of (Stopped h s) (taken + 1) k) u q
      fails_with e = stops_at begun e

      pub names : StmtOk R.vars R.exprs s (stmt_from c named.first named.second named.third)
      names = stmt_ok_lem g.ready there kind_as

      pub port_names : PortOk (byte p 7) (stmt_from c named.first named.second named.third)
      port_names = port_ok_lem g.ready there kind_as

    -- ---- a frame is taken

    next_top : kind ≡ 7 → Top g.ready st d g.waiting g.frames (Next s)
    next_top e = top_next g.ready g.standing.waiting g.turned g.stack g.standing.frames e

    pub next_some : kind ≡ 7 → 0 < d
    next_some e = (next_top e).some

    pub next_there : kind ≡ 7 → s < R.stmts
    next_there e = (rw (next_top e).frames_are at g.standing.frames).0

    pub next_on : kind ≡ 7 → {kind' : ℕ} → kind' ≡ (stmt_record t s).kind → Stands r p t u₀ q₀ u q st B (taken + 1) k (d - 1) kind' s tag
    next_on e x =
        let z = next_top e in
        stays (step_at P R (length q₀) tag (held_in R u) g.records z.waits z.frames_are) z.below (at_stmt x)

    join_top : kind ≡ 8 → Top g.ready st d g.waiting g.frames (Join (get_or st d 0 % 16))
    join_top e = top_join g.ready g.standing.waiting g.turned g.stack g.standing.frames e

    pub join_some : kind ≡ 8 → 0 < d
    join_some e = (join_top e).some

    pub join_on : kind ≡ 8 → {kind' s' tag' : ℕ} → tag' ≡ get_or st d 0 % 16 → kind' ≡ get_or st (d - 1) 0 / 8192 → s' ≡ get_or st (d - 1) 0 / 16 % 512
        → Stands r p t u₀ q₀ u q st B (taken + 1) k (d - 1) kind' s' tag'
    join_on e h x y =
        let z = join_top e in
        stays (step_at P R (length q₀) tag (held_in R u) g.records z.waits z.frames_are ∙ goes_as (sym h) refl refl) z.below (at_top x y)

    module _ (e : kind ≡ 9) where
      top : Top g.ready st d g.waiting g.frames (Loop s (get_or st d 0 % 16))
      top = top_loop g.ready g.standing.waiting g.turned g.stack g.standing.frames e

      pub some : 0 < d
      some = top.some

      frame_fine : FrameOk P R (Loop s (get_or st d 0 % 16))
      frame_fine = (rw top.frames_are at g.standing.frames).0

      pub loop_there : s < R.stmts
      loop_there = frame_fine.0

      abbrev pub test_at : ℕ
      test_at = (stmt_record t s).first

      abbrev pub body_at : ℕ
      body_at = (stmt_record t s).second

      is_while : R.stmt_at s ≡ While test_at body_at
      is_while = while_as (R.stmt_at s) (g.ready.decoded.stmts_as s loop_there) frame_fine.2.there

      pub loop_names : (test_at < R.exprs) × (body_at < s)
      loop_names = rw is_while at (g.ready.recipe.ordered.stmts_ok s loop_there)

      took : stepped ≡ takes R (length q₀) s tag top.rest (held_in R u) g.records (get_or st d 0 % 16) (tests P R (held_in R u) tag body_at (eval P R (held_in R u) test_at))
      took = step_at P R (length q₀) tag (held_in R u) g.records top.waits top.frames_are ∙ ap (λ x. takes R (length q₀) s tag top.rest (held_in R u) g.records (get_or st d 0 % 16) (repeats P R (held_in R u) tag (loop_in x))) is_while

      pub repeats_on : {b : ℕ} → tests P R (held_in R u) tag body_at (eval P R (held_in R u) test_at) ≡ Repeats body_at b
          → {kind' s' tag' : ℕ} → s' ≡ body_at → tag' ≡ b → kind' ≡ (stmt_record t s').kind → Stands r p t u₀ q₀ u q st B (taken + 1) k d kind' s' tag'
      repeats_on a i h x = stays ((rw a at took) ∙ goes_as (sym h) (ap Some (sym i)) (sym top.frames_are)) g.stack (at_stmt x)

      pub leaves_on : tests P R (held_in R u) tag body_at (eval P R (held_in R u) test_at) ≡ Leaves
          → {kind' s' tag' : ℕ} → tag' ≡ get_or st d 0 % 16 → kind' ≡ get_or st (d - 1) 0 / 8192 → s' ≡ get_or st (d - 1) 0 / 16 % 512
          → Stands r p t u₀ q₀ u q st B (taken + 1) k (d - 1) kind' s' tag'
      leaves_on a h x y = stays ((rw a at took) ∙ goes_as (sym h) refl refl) top.below (at_top x y)

      pub fails_at : {h : Stop} → tests P R (held_in R u) tag body_at (eval P R (held_in R u) test_at) ≡ Fails h
          → RunAs r p t u₀ q₀ B (outcome_of (Stopped h s) (taken + 1) k) u q
      fails_at a = halted (rw a at took)
