-- The secrecy theorem on decoded runs: what a viewer sees of two runs whose starts look the same. Assumes nothing.
use Prim.Native.Nat.{ℕ, zero, suc, ◌+◌, ◌<◌}
use native.Mathlib.Omega.{arith}
use mathlib.Core.Path.{◌≡◌, refl, sym, ◌∙◌, subst}
use mathlib.Core.Logic.{◌⊎◌, inl, inr, ⊎_swap}
use mathlib.Core.List.{List, [], ◌∷◌, append-nil}
use lib.ListN.{length}
use Rattle.rules.specs.declared.Stop.{Stop}
use Rattle.rules.specs.declared.Place.{Place}
use Rattle.rules.specs.declared.Frame.{Frame}
use Rattle.std.specs.Prelude.{Option, None}
use Rattle.rules.specs.declared.End.{End}
use Rattle.rules.specs.declared.End.TheVariants.{Done, Budget, Stopped}
use Rattle.rules.specs.Policy.{Policy}
use Rattle.rules.specs.Recipe.{Recipe}
use Rattle.rules.specs.Memory.{Memory, place_at, tag_of, count, Record}
use Rattle.rules.specs.Steps.{State, state, memory_in, records_in, Turn}
use Rattle.rules.specs.Run.{Result, result, follow, run, start}
use Rattle.rules.specs.Views.{Begins, Hidden, Agreeing}
use Rattle.rules.proofs.Tags.{Lawful, Viewer, Good}
use Rattle.rules.proofs.Agree.{Agree, apart, same, Alike, nil, cons, alike_sym, alike_at}
use Rattle.rules.proofs.Records.{seen_append}
use Rattle.rules.proofs.Pairs.{shown, no_frame, Side, inside, back, Pair, together, split, Both, stop_left, stop_right, go, finish, Beside, halts, moves}
use Rattle.rules.proofs.Performs.{both_step, alone_step}
use Rattle.rules.proofs.Growth.{records_from, grows_run}

abbrev pub end_from : Result → End
end_from (result e k m r) = e

abbrev pub memory_from : Result → Memory
memory_from (result e k m r) = m

-- ---- results that look the same

-- an end that is not done
data Early : End → Type 0 where
  budget : Early Budget
  stopped : {h : Stop} {s : ℕ} → Early (Stopped h s)

not_done : {e : End} {A : Type 0} → Early e → e ≡ Done → A
not_done budget p = let z : ◌≡◌ {A = ℕ} 0 1 = cc in absurd (omega arith)
not_done stopped p = let z : ◌≡◌ {A = ℕ} 0 1 = cc in absurd (omega arith)

module _ {P : Policy} (W : Viewer P) where
  pub record Close (x y : Result) : Type 0 where
    pub beginning : Begins (shown W (records_from x)) (shown W (records_from y)) ⊎ Begins (shown W (records_from y)) (shown W (records_from x))
    pub same_records : end_from x ≡ Done → end_from y ≡ Done → shown W (records_from x) ≡ shown W (records_from y)
    pub same_places : end_from x ≡ Done → end_from y ≡ Done → Alike W (memory_from x) (memory_from y)

module _ {P : Policy} {W : Viewer P} where
  close_sym : {x y : Result} → Close W x y → Close W y x
  close_sym c =
      record {
        beginning = ⊎_swap c.beginning;
        same_records = λ e f. sym (c.same_records f e);
        same_places = λ e f. alike_sym (c.same_places f e);
      }

  -- the first run has ended early, with records that look like the second's at some time
  early : (x y : Result) (q : List Record) → Early (end_from x) → shown W (records_from x) ≡ shown W q → Begins q (records_from y) → Close W x y
  early x y q e rq w =
      record {
        beginning = inl record { rest = shown W w.rest; whole = cc (seen_append P W.tag q w.rest, w.whole) };
        same_records = λ p. not_done e p;
        same_places = λ p. not_done e p;
      }

  both_done : (k k' : ℕ) {m i : Memory} (r q : List Record) → Alike W m i → shown W r ≡ shown W q → Close W (result Done k m r) (result Done k' i q)
  both_done k k' r q mi rq =
      record {
        beginning = inl record { rest = []; whole = append-nil _ ∙ rq };
        same_records = λ _ _. rq;
        same_places = λ _ _. mi;
      }

  module _ (R : Recipe) where
    -- both runs step
    both : (room room' n n' k k' : ℕ) (x y : State) {t u : Turn}
        → Alike W (memory_in x) (memory_in y) → shown W (records_in x) ≡ shown W (records_in y)
        → Begins (records_in x) (records_from (follow P R room n k x t))
        → Begins (records_in y) (records_from (follow P R room' n' k' y u))
        → ((p p' : ℕ) → n ≡ suc p → n' ≡ suc p' → (x y : State) → Pair W x y → Close W (run P R room p (suc k) x) (run P R room' p' (suc k') y))
        → Both W t u → Close W (follow P R room n k x t) (follow P R room' n' k' y u)
    unfolding follow
    both room room' zero zero k k' x y mk rq v w on finish = both_done _ _ _ _ mk rq
    both room room' zero (suc n') k k' x y mk rq v w on finish = both_done _ _ _ _ mk rq
    both room room' (suc n) zero k k' x y mk rq v w on finish = both_done _ _ _ _ mk rq
    both room room' (suc n) (suc n') k k' x y mk rq v w on finish = both_done _ _ _ _ mk rq
    both room room' zero n' k k' x y mk rq v w on stop_left = early _ _ _ budget rq w
    both room room' (suc n) n' k k' x y mk rq v w on stop_left = early _ _ _ stopped rq w
    both room room' n zero k k' x y mk rq v w on stop_right = close_sym (early _ _ _ budget (sym rq) v)
    both room room' n (suc n') k k' x y mk rq v w on stop_right = close_sym (early _ _ _ stopped (sym rq) v)
    both room room' zero n' k k' x y mk rq v w on (go p) = early _ _ _ budget rq w
    both room room' (suc n) zero k k' x y mk rq v w on (go p) = close_sym (early _ _ _ budget (sym rq) v)
    both room room' (suc n) (suc n') k k' x y mk rq v w on (go p) = on n n' refl refl _ _ p

    -- the first run steps on its hidden branch, beside a run with result z
    one : (room n k : ℕ) (x : State) {K : List Frame} {t : ℕ} {i : Memory} {q : List Record} {u : Turn} (z : Result)
        → shown W (records_in x) ≡ shown W q → Begins q (records_from z)
        → ((p : ℕ) → n ≡ suc p → (b : ℕ) (o : Option ℕ) (l : List Frame) (m : Memory) (r : List Record)
        → Side W K t b o l → Alike W m i → shown W r ≡ shown W q → Close W (run P R room p (suc k) (state b o l m r)) z)
        → Beside W K t i q u → Close W (follow P R room n k x u) z
    unfolding follow
    one room zero k x z rq w on halts = early _ _ _ budget rq w
    one room (suc n) k x z rq w on halts = early _ _ _ stopped rq w
    one room zero k x z rq w on (moves s mi rq') = early _ _ _ budget rq w
    one room (suc n) k x z rq w on (moves s mi rq') = on n refl _ _ _ _ _ s mi rq'

    -- by induction on a bound of the two budgets' sum
    pair : (N room room' n n' k k' : ℕ) {x y : State} → n + n' < N → Pair W x y → Close W (run P R room n k x) (run P R room' n' k' y)
    pair zero room room' n n' k k' less p = absurd (omega arith)
    pair (suc N) room room' n n' k k' {x} {y} less (together {n = o} {r = r} {q = q} gb sl mk rq) =
        both room room' n n' k k' _ _ mk rq (grows_run P R room n k _) (grows_run P R room' n' k' _)
        (λ p p' e e' x y c. pair N room room' p p' (suc k) (suc k') (omega arith) c)
        (both_step R room room' r q gb mk rq o sl)
    pair (suc N) room room' n n' k k' less (split {r = r} {q = q} gt sl back back mk rq) =
        both room room' n n' k k' _ _ mk rq (grows_run P R room n k _) (grows_run P R room' n' k' _)
        (λ p p' e e' x y c. pair N room room' p p' (suc k) (suc k') (omega arith) c)
        (both_step R room room' r q gt mk rq None sl)
    pair (suc N) room room' n n' k k' less (split {n = o} {r = r} {q = q} gt sl (inside hb ov) y mk rq) =
        one room n k _ _ rq (grows_run P R room' n' k' _)
        (λ p e b o l m r s mk' rq'. pair N room room' p n' (suc k) k' (omega arith) (split gt sl s y mk' rq'))
        (alone_step R room r q hb mk rq o ov)
    pair (suc N) room room' n n' k k' less (split {n' = o} {r = r} {q = q} gt sl back (inside hb ov) mk rq) =
        close_sym
        (one room' n' k' _ _ (sym rq) (grows_run P R room n k _)
        (λ p e b o l m r s mk' rq'. close_sym (pair N room room' n p k (suc k') (omega arith) (split gt sl back s (alike_sym mk') (sym rq'))))
        (alone_step R room' q r hb (alike_sym mk) (sym rq) o ov))

  -- ---- from the starts, and to the result

  agrees : {p q : Place} → Good P (tag_of p) → Good P (tag_of q) → (Hidden P W.tag (tag_of p) × Hidden P W.tag (tag_of q)) ⊎ (p ≡ q)
      → Agree W p q
  agrees g f (inl h) = apart (record { good = g; hidden = h.0 }) (record { good = f; hidden = h.1 })
  agrees {p} g f (inr e) = subst (λ z. Agree W p z) e (same g)

  told : {p q : Place} → Agree W p q → (Hidden P W.tag (tag_of p) × Hidden P W.tag (tag_of q)) ⊎ (p ≡ q)
  told (apart h j) = inl (h.hidden, j.hidden)
  told (same g) = inr refl

  alike : (m k : Memory) → length m ≡ length k
      → ((i : ℕ) → i < length m → Good P (tag_of (place_at m i)))
      → ((i : ℕ) → i < length k → Good P (tag_of (place_at k i)))
      → ((i : ℕ) → i < length m → (Hidden P W.tag (tag_of (place_at m i)) × Hidden P W.tag (tag_of (place_at k i))) ⊎ (place_at m i ≡ place_at k i))
      → Alike W m k
  alike [] [] e g f a = nil
  alike [] (q ∷ k) e g f a = absurd (omega arith)
  alike (p ∷ m) [] e g f a = absurd (omega arith)
  alike (p ∷ m) (q ∷ k) e g f a =
      cons (agrees (g 0 (omega arith)) (f 0 (omega arith)) (a 0 (omega arith)))
      (alike m k (omega arith) (λ i l. g (suc i) (omega arith)) (λ i l. f (suc i) (omega arith)) (λ i l. a (suc i) (omega arith)))

-- an accepted start: a place for each variable and cell, each with one of the policy's tags
pub record Start (P : Policy) (R : Recipe) (m : Memory) : Type 0 where
  pub all : length m ≡ count R
  pub tags_below : (i : ℕ) → i < length m → Good P (tag_of (place_at m i))

module _ (P : Policy) (lawful : Lawful P) (A : ℕ) (below : A < P.tags) (R : Recipe) where
  abbrev pub viewer : Viewer P
  viewer = record { lawful = lawful; tag = A; below = below }

  pub close : (m k : Memory) → Start P R m → Start P R k → Agreeing P A R m k → (room room' budget budget' : ℕ)
      → Close viewer (run P R room budget 0 (start R m)) (run P R room' budget' 0 (start R k))
  close m k sm sk a room room' n n' =
      let start-alike : Alike viewer m k = alike m k (cc (sm.all, sk.all)) sm.tags_below sk.tags_below (λ i l. a i (omega (arith, sm.all))) in
      pair {W = viewer} R (suc (n + n')) room room' n n' 0 0 (omega arith) (together lawful.some_tag no_frame start-alike refl)

  pub agreeing : (m k : Memory) → Alike viewer m k → Agreeing P A R m k
  agreeing m k s i l = told (alike_at s i)
