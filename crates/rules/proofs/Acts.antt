-- What two runs in the same place ask of their states, and what one run on a hidden branch asks. Assumes nothing.
use Prim.Native.Nat.{ℕ}
use mathlib.Core.Path.{◌≡◌, refl}
use mathlib.Core.Bool.{Bool, true, false}
use Rattle.rules.specs.declared.Stmt.{Stmt}
use Rattle.rules.specs.declared.Stmt.TheVariants.{Skip, Assign, Store, Then, If, While, Emit, BadStmt}
use Rattle.rules.specs.declared.Stop.{Stop}
use Rattle.rules.specs.declared.Place.{Place}
use Rattle.rules.specs.Steps.{Valued, allow, assigns, stores, emits, chooses, loops, begins, Loops, loop_of, no_loop, tests, repeats}
use Rattle.rules.specs.declared.Frame.{Frame}
use Rattle.rules.specs.declared.Act.{Act}
use Rattle.rules.specs.declared.Act.TheVariants.{Passes, Pushes, Writes, Records, Stops}
use Rattle.rules.specs.declared.Again.{Again}
use Rattle.rules.specs.declared.Again.TheVariants.{Repeats, Leaves, Fails}
use Rattle.rules.specs.Policy.{Policy, under}
use Rattle.rules.specs.Recipe.{Recipe}
use Rattle.rules.specs.Memory.{Memory, ◌#◌, tag_of, place_at}
use Rattle.rules.proofs.Tests.{picked, both_picked}
use Rattle.rules.proofs.Tags.{Viewer, Good, High, high_left, high_right, high_under, under_is}
use Rattle.rules.proofs.Agree.{Agree, apart, same, agree_under, good_left, agree_sym, Alike, alike_sym, good_at, Meets, fault_left, fault_right, values, meets_eval, Fine, fault, value, fine_eval}
use Rattle.rules.proofs.Pairs.{FrameGood, FrameHigh, Restores, by_join, by_loop}

module _ {P : Policy} (W : Viewer P) where
  -- a hidden place of the memory is written with a hidden tag
  pub record Hides (m : Memory) (i : ℕ) (p : Place) : Type 0 where
    pub old : High W (tag_of (place_at m i))
    pub new : High W (tag_of p)

  -- the port is hidden from the viewer
  pub record Unseen (port : ℕ) : Type 0 where
    pub clearance : High W (P.clearance port)

  -- a hidden branch is entered, whose frame gives b back, or passed by
  pub data Branches (b : ℕ) : Act → Type 0 where
    enters : {f : Frame} {a t : ℕ} → Restores W b f → High W t → Branches b (Pushes f a t)
    passes : Branches b Passes

  -- acts of two runs in the same place under branch tag b, over memories m and k
  pub data Acts (b : ℕ) (m k : Memory) : Act → Act → Type 0 where
    stop_left : {h : Stop} {y : Act} → Acts b m k (Stops h) y
    stop_right : {h : Stop} {x : Act} → Acts b m k x (Stops h)
    pass : Acts b m k Passes Passes
    push : {f : Frame} {a t : ℕ} → FrameGood W f → Good P t → Acts b m k (Pushes f a t) (Pushes f a t)
    write_same : {i : ℕ} {p q : Place} → Agree W p q → Acts b m k (Writes i p) (Writes i q)
    write_apart : {i j : ℕ} {p q : Place} → Hides m i p → Hides k j q → Acts b m k (Writes i p) (Writes j q)
    say_same : {port v : ℕ} → Acts b m k (Records port v) (Records port v)
    say_apart : {port v w : ℕ} → Unseen port → Acts b m k (Records port v) (Records port w)
    branch : {x y : Act} → Branches b x → Branches b y → Acts b m k x y

  -- an act of one run on a hidden branch, over the memory m
  pub data Quiet (m : Memory) : Act → Type 0 where
    stop : {h : Stop} → Quiet m (Stops h)
    pass : Quiet m Passes
    push : {f : Frame} {a t : ℕ} → FrameHigh W f → High W t → Quiet m (Pushes f a t)
    write : {i : ℕ} {p : Place} → Hides m i p → Quiet m (Writes i p)
    say : {port v : ℕ} → Unseen port → Quiet m (Records port v)

  -- a repeated test that is hidden
  pub data Hushed : Again → Type 0 where
    repeat : {a t : ℕ} → High W t → Hushed (Repeats a t)
    leave : Hushed Leaves
    fail : {h : Stop} → Hushed (Fails h)

  -- repeated tests of two runs in the same place
  pub data Agains : Again → Again → Type 0 where
    fail_left : {h : Stop} {y : Again} → Agains (Fails h) y
    fail_right : {h : Stop} {x : Again} → Agains x (Fails h)
    repeat : {a t : ℕ} → Good P t → Agains (Repeats a t) (Repeats a t)
    leave : Agains Leaves Leaves
    hush : {x y : Again} → Hushed x → Hushed y → Agains x y

module _ {P : Policy} {W : Viewer P} where
  open W.lawful use {join_below, clearance_below}

  -- ---- tests and checks

  both_allow : {b : ℕ} {m k : Memory} (a c : Bool) (h : Stop) {x y : Act} → (a ≡ true → c ≡ true → Acts W b m k x y)
      → Acts W b m k (allow a h x) (allow c h y)
  unfolding allow
  both_allow true true h f = f refl refl
  both_allow true false h f = stop_right
  both_allow false c h f = stop_left

  quiet_allow : {m : Memory} (a : Bool) (h : Stop) {x : Act} → (a ≡ true → Quiet W m x) → Quiet W m (allow a h x)
  unfolding allow
  quiet_allow true h f = f refl
  quiet_allow false h f = stop

  -- ---- hidden writes and records

  hides : {b : ℕ} {m k : Memory} (i v : ℕ) {t : ℕ} → High W b → Good P t → Alike W m k → under P b (tag_of (place_at m i)) ≡ true
      → Hides W m i (v # P.join b t)
  unfolding tag_of
  hides i v h g s e = record { old = high_under h (good_at s i) (under_is P _ _ e); new = high_left h g }

  unseen : {t port : ℕ} → High W t → under P t (P.clearance port) ≡ true → Unseen W port
  unseen {t} {port} h e = record { clearance = high_under h (clearance_below port) (under_is P _ _ e) }

  -- ---- both runs in the same place

  module _ (R : Recipe) (s : ℕ) {b : ℕ} {m k : Memory} (gb : Good P b) (mk : Alike W m k) where
    both_assigns : (x : ℕ) {o u : Valued} → Meets W o u → Acts W b m k (assigns P R m b x o) (assigns P R k b x u)
    both_assigns x fault_left = stop_left
    both_assigns x fault_right = stop_right
    both_assigns x (values a) = both_allow _ _ _ λ _ _. write_same (agree_under gb a)

    -- where the index is hidden, each run writes a hidden cell of its own
    both_stores : {i j o u : Valued} → Meets W i j → Meets W o u → Acts W b m k (stores P R m b i o) (stores P R k b j u)
    both_stores fault_left c = stop_left
    both_stores fault_right c = stop_right
    both_stores (values a) fault_left = stop_left
    both_stores (values a) fault_right = stop_right
    both_stores (values (same g)) (values c) =
        both_allow _ _ _ λ _ _. both_allow _ _ _ λ _ _. write_same (agree_under (join_below _ _ gb g) c)
    both_stores (values (apart h j)) (values c) =
        both_allow _ _ _ λ _ _. both_allow _ _ _ λ e f.
        write_apart (hides _ _ (high_right gb h) (good_left c) mk e) (hides _ _ (high_right gb j) (good_left (agree_sym c)) (alike_sym mk) f)

    -- a record of a hidden value goes to a hidden port
    both_emits : (port : ℕ) {o u : Valued} → Meets W o u → Acts W b m k (emits P R m b port o) (emits P R k b port u)
    both_emits port fault_left = stop_left
    both_emits port fault_right = stop_right
    both_emits port (values (same g)) = both_allow _ _ _ λ _ _. say_same
    both_emits port (values (apart h j)) = both_allow _ _ _ λ e _. say_apart (unseen (high_right gb h) e)

    both_chooses : (a c : ℕ) {o u : Valued} → Meets W o u → Acts W b m k (chooses P R m b a c o) (chooses P R k b a c u)
    both_chooses a c fault_left = stop_left
    both_chooses a c fault_right = stop_right
    both_chooses a c (values (same g)) = push gb (join_below _ _ gb g)
    both_chooses a c (values (apart h j)) = branch (enters by_join (high_right gb h)) (enters by_join (high_right gb j))

    both_loops : (a : ℕ) {o u : Valued} → Meets W o u → Acts W b m k (loops P R m b s a o) (loops P R k b s a u)
    both_loops a fault_left = stop_left
    both_loops a fault_right = stop_right
    both_loops a (values (same g)) = both_picked (Acts W b m k) _ (push gb (join_below _ _ gb g)) pass
    both_loops a (values (apart h j)) =
        branch (picked (Branches W b) _ (enters by_loop (high_right gb h)) passes) (picked (Branches W b) _ (enters by_loop (high_right gb j)) passes)

    pub both_begins : (c : Stmt) → Acts W b m k (begins P R m b s c) (begins P R k b s c)
    both_begins Skip = pass
    both_begins (Assign x e) = both_assigns x (meets_eval R mk e)
    both_begins (Store i e) = both_stores (meets_eval R mk i) (meets_eval R mk e)
    both_begins (Then a c) = push tt gb
    both_begins (If e a c) = both_chooses a c (meets_eval R mk e)
    both_begins (While e a) = both_loops a (meets_eval R mk e)
    both_begins (Emit port e) = both_emits port (meets_eval R mk e)
    both_begins BadStmt = pass

    both_tests : (a : ℕ) {o u : Valued} → Meets W o u → Agains W (tests P R m b a o) (tests P R k b a u)
    both_tests a fault_left = fail_left
    both_tests a fault_right = fail_right
    both_tests a (values (same g)) = both_picked (Agains W) _ (repeat (join_below _ _ gb g)) leave
    both_tests a (values (apart h j)) =
        hush (picked (Hushed W) _ (repeat (high_right gb h)) leave) (picked (Hushed W) _ (repeat (high_right gb j)) leave)

    pub both_repeats : (c : Loops) → Agains W (repeats P R m b c) (repeats P R k b c)
    both_repeats (loop_of e a) = both_tests a (meets_eval R mk e)
    both_repeats no_loop = leave

  -- ---- one run on a hidden branch

  module _ (R : Recipe) (s : ℕ) {b : ℕ} {m k : Memory} (hb : High W b) (mk : Alike W m k) where
    quiet_assigns : (x : ℕ) {o : Valued} → Fine P o → Quiet W m (assigns P R m b x o)
    quiet_assigns x fault = stop
    quiet_assigns x (value g) = quiet_allow _ _ λ e. write (hides x _ hb g mk e)

    quiet_stores : {i o : Valued} → Fine P i → Fine P o → Quiet W m (stores P R m b i o)
    quiet_stores fault c = stop
    quiet_stores (value g) fault = stop
    quiet_stores (value g) (value c) = quiet_allow _ _ λ _. quiet_allow _ _ λ e. write (hides _ _ (high_left hb g) c mk e)

    quiet_emits : (port : ℕ) {o : Valued} → Fine P o → Quiet W m (emits P R m b port o)
    quiet_emits port fault = stop
    quiet_emits port (value g) = quiet_allow _ _ λ e. say (unseen (high_left hb g) e)

    quiet_chooses : (a c : ℕ) {o : Valued} → Fine P o → Quiet W m (chooses P R m b a c o)
    quiet_chooses a c fault = stop
    quiet_chooses a c (value g) = push hb (high_left hb g)

    quiet_loops : (a : ℕ) {o : Valued} → Fine P o → Quiet W m (loops P R m b s a o)
    quiet_loops a fault = stop
    quiet_loops a (value g) = picked (Quiet W m) _ (push hb (high_left hb g)) pass

    pub quiet_begins : (c : Stmt) → Quiet W m (begins P R m b s c)
    quiet_begins Skip = pass
    quiet_begins (Assign x e) = quiet_assigns x (fine_eval R mk e)
    quiet_begins (Store i e) = quiet_stores (fine_eval R mk i) (fine_eval R mk e)
    quiet_begins (Then a c) = push tt hb
    quiet_begins (If e a c) = quiet_chooses a c (fine_eval R mk e)
    quiet_begins (While e a) = quiet_loops a (fine_eval R mk e)
    quiet_begins (Emit port e) = quiet_emits port (fine_eval R mk e)
    quiet_begins BadStmt = pass

    hushed_tests : (a : ℕ) {o : Valued} → Fine P o → Hushed W (tests P R m b a o)
    hushed_tests a fault = fail
    hushed_tests a (value g) = picked (Hushed W) _ (repeat (high_left hb g)) leave

    pub hushed_repeats : (c : Loops) → Hushed W (repeats P R m b c)
    hushed_repeats (loop_of e a) = hushed_tests a (fine_eval R mk e)
    hushed_repeats no_loop = leave
