-- The demands, said of the top definition on bytes. Assumes nothing.
use Prim.Native.Nat.{ℕ, zero, suc, ◌*◌, ◌^◌, ◌≤◌, ◌<◌}
use native.Mathlib.Omega.{arith}
use mathlib.Core.Path.{◌≡◌, refl, sym, ap, ◌∙◌, subst}
use mathlib.Core.List.{List}
use lib.ListN.{length, drop, length-append, length-drop}
use lib.Seq.{drop_at}
use Rattle.rules.specs.declared.Refusal.{Refusal}
use Rattle.rules.specs.Checks.{Checked}
use Rattle.std.specs.Prelude.{Ok, Err}
use Rattle.rules.specs.declared.End.{End}
use Rattle.rules.specs.declared.End.TheVariants.{Done, Budget, Stopped, Refused}
use Rattle.rules.specs.Bytes.{Bytes}
use Rattle.rules.specs.Policy.{Policy, policy_of}
use Rattle.rules.specs.Recipe.{Recipe, recipe_of}
use Rattle.rules.specs.Memory.{Memory, value_of, place_at, count, places_of, place_bytes, record_bytes}
use Rattle.rules.specs.Steps.{State, Turn, Goes, Halts, Finished, step}
use Rattle.rules.specs.Run.{Result, result, follow, start}
use Rattle.rules.specs.Judged.{Judged, refused, written_back, ran, checks, decided, judged}
use Rattle.rules.specs.Accepted.{WellTagged, Accepted}
use Rattle.rules.specs.Views.{Agreeing, Secret}
use Rattle.rules.proofs.Accepts.{accepted, not_refused}
use Rattle.rules.proofs.Growth.{steps_from, records_from, within_budget, few_records}
use Rattle.rules.proofs.Standing.{LeftBy, left_run, standing_start}
use Rattle.rules.proofs.Bytes.{sound, places_ok, length_places, places_back, length_bytes, records_back, length_records}
use Rattle.rules.proofs.Secrecy.{end_from, Close, Start, viewer, close, agreeing}
use Rattle.rules.proofs.Tags.{Lawful}

-- ---- what judging is, where the checks pass and where they fail

pub judged_refused : (r p m q : List ℕ) (budget : ℕ) {x : Refusal} → checks r p m ≡ Err x → judged r p m q budget ≡ refused x m q
unfolding judged decided
judged_refused r p m q budget e = rw e

pub judged_ran : (r p m q : List ℕ) (budget : ℕ) → checks r p m ≡ Ok tt → judged r p m q budget ≡ written_back q (ran r p m (length q) budget)
unfolding judged decided
judged_ran r p m q budget e = rw e

-- the run of accepted tables leaves a memory that is complete, words, and records that fit
pub left_by : (r p m : List ℕ) → Bytes r → Bytes m → Accepted r p m → (room budget : ℕ)
    → LeftBy (policy_of p) (recipe_of r) room (ran r p m room budget)
left_by r p m br bm a room budget =
    let R = recipe_of r in
    let ok = sound r p m br a in
    let fine = places_ok R (policy_of p) m bm ok.lawful.some_tag a.memory in
    left_run ok room budget 0 (start R (places_of R m)) (standing_start ok room (places_of R m) (length_places _ m) fine)

-- ---- demand 1

-- a refusal leaves memory and record room as they were, with no step and no record
pub record Untouched (m q : List ℕ) (x : Judged) : Type 0 where
  pub memory_stays : x.memory ≡ m
  pub room_stays : x.room ≡ q
  pub no_steps : x.outcome.steps ≡ 0
  pub no_records : x.outcome.records ≡ 0

abbrev IsRefused : End → Type 0
IsRefused Done = ⊥
IsRefused Budget = ⊥
IsRefused (Stopped h s) = ⊥
IsRefused (Refused x) = Unit {0}

-- a run gives no refusal
run_end : (P : Policy) (R : Recipe) (room n k : ℕ) (x : State) (t : Turn) → IsRefused (end_from (follow P R room n k x t)) → ⊥
unfolding follow
run_end P R room zero k x Finished h = h
run_end P R room zero k x (Goes y) h = h
run_end P R room zero k x (Halts e s) h = h
run_end P R room (suc n) k x Finished h = h
run_end P R room (suc n) k x (Goes y) h = run_end P R room n (suc k) y (step P R room y) h
run_end P R room (suc n) k x (Halts e s) h = h

written_end : (q : List ℕ) (x : Result) → (written_back q x).outcome.end ≡ end_from x
unfolding written_back
written_end q (result e k m r) = refl

pub refusal_untouched : (r p m q : List ℕ) (budget : ℕ) {x : Refusal} → (judged r p m q budget).outcome.end ≡ Refused x
    → Untouched m q (judged r p m q budget)
refusal_untouched r p m q budget {x} e = by_checks (checks r p m) refl
  where
    by_checks : (c : Checked) → checks r p m ≡ c → Untouched m q (judged r p m q budget)
    by_checks (Err y) f =
        rw (judged_refused r p m q budget f) (record { memory_stays = refl; room_stays = refl; no_steps = refl; no_records = refl })
    by_checks (Ok u) f =
        let P = policy_of p in
        let R = recipe_of r in
        let y = start R (places_of R m) in
        let g : end_from (ran r p m (length q) budget) ≡ Refused x = sym (written_end q (ran r p m (length q) budget)) ∙ ap (λ (j : Judged). j.outcome.end) (sym (judged_ran r p m q budget f)) ∙ e in
        absurd (run_end P R (length q) budget 0 y (step P R (length q) y) (subst IsRefused (sym g) tt))

-- steps never exceed the budget, records fit the room, bytes after the records stay, and no buffer changes its length
pub record Kept (m q : List ℕ) (budget : ℕ) (x : Judged) : Type 0 where
  pub within_budget : x.outcome.steps ≤ budget
  pub few_records : x.outcome.records ≤ budget
  pub records_fit : 5 * x.outcome.records ≤ length q
  pub tail_stays : drop (5 * x.outcome.records) x.room ≡ drop (5 * x.outcome.records) q
  pub room_length : length x.room ≡ length q
  pub memory_length : length x.memory ≡ length m

kept_run : (P : Policy) (R : Recipe) (m q : List ℕ) (budget : ℕ) (x : Result) → length m ≡ 5 * count R → steps_from x ≤ budget → length (records_from x) ≤ budget → LeftBy P R (length q) x
    → Kept m q budget (written_back q x)
unfolding written_back
kept_run P R m q budget (result e k m' s) long steps records l =
    let n : length (record_bytes s) ≡ 5 * length s = length_records s in
    record {
      within_budget = steps;
      few_records = records;
      records_fit = l.fits;
      tail_stays = drop_at (record_bytes s) (drop (5 * length s) q) (5 * length s) n;
      room_length = omega (arith, length-append (record_bytes s) (drop (5 * length s) q), length-drop (5 * length s) q, l.fits);
      memory_length = omega (arith, length_bytes m', l.complete);
    }

-- the places are read again from the bytes written back
read_back : (R : Recipe) (m : Memory) → length m ≡ count R → ((i : ℕ) → value_of (place_at m i) < 2 ^ 32) → places_of R (place_bytes m) ≡ m
read_back R m complete words = rw (← complete) (places_back m words)

tagged : (P : Policy) (R : Recipe) (room : ℕ) (q : List ℕ) (x : Result) → LeftBy P R room x → WellTagged R P.tags (written_back q x).memory
unfolding written_back
tagged P R room q (result e k m r) l =
    record {
      long = omega (arith, length_bytes m, l.complete);
      tags_below = λ i h. rw (read_back R m l.complete (λ j. (l.places.ok j).word)) (l.places.ok i).good;
    }

pub kept : (r p m q : List ℕ) → Bytes r → Bytes m → (budget : ℕ) → Kept m q budget (judged r p m q budget)
kept r p m q br bm budget = by_checks (checks r p m) refl
  where
    by_checks : (c : Checked) → checks r p m ≡ c → Kept m q budget (judged r p m q budget)
    by_checks (Err y) f =
        rw (judged_refused r p m q budget f)
        (record { within_budget = omega arith; few_records = omega arith; records_fit = omega arith; tail_stays = refl; room_length = refl; memory_length = refl })
    by_checks (Ok u) f =
        let a = accepted r p m f in
        let R = recipe_of r in
        rw (judged_ran r p m q budget f)
        (kept_run (policy_of p) R m q budget (ran r p m (length q) budget) a.memory.long
        (within_budget (policy_of p) R (length q) budget (start R (places_of R m)))
        (omega (arith, few_records (policy_of p) R (length q) budget 0 (start R (places_of R m)))) (left_by r p m br bm a (length q) budget))

-- the memory that a run leaves is accepted again
pub accepted_again : (r p m q : List ℕ) → Bytes r → Bytes m → (budget : ℕ) → Accepted r p m → Accepted r p (judged r p m q budget).memory
accepted_again r p m q br bm budget a =
    rw (judged_ran r p m q budget (not_refused r p m a))
    (record {
      recipe = a.recipe;
      policy = a.policy;
      ports = a.ports;
      memory = tagged (policy_of p) (recipe_of r) (length q) q (ran r p m (length q) budget) (left_by r p m br bm a (length q) budget);
    })

-- ---- demand 3

module _ (r p m k : List ℕ) (br : Bytes r) (bm : Bytes m) (bk : Bytes k) (am : Accepted r p m) (ak : Accepted r p k) (A : ℕ) (below : A < (policy_of p).tags) where
  secret : (lawful : Lawful (policy_of p)) (q q' : List ℕ) (x y : Result) → LeftBy (policy_of p) (recipe_of r) (length q) x → LeftBy (policy_of p) (recipe_of r) (length q') y
      → Close (viewer (policy_of p) lawful A below (recipe_of r)) x y → Secret (policy_of p) A (recipe_of r) (written_back q x) (written_back q' y)
  unfolding written_back
  secret lawful q q' (result e n m' s) (result f n' k' t) lx ly c =
      let back-m = read_back (recipe_of r) m' lx.complete (λ i. (lx.places.ok i).word) in
      let back-k = read_back (recipe_of r) k' ly.complete (λ i. (ly.places.ok i).word) in
      record {
        beginning = rw (records_back s _ lx.words, records_back t _ ly.words) c.beginning;
        same_records = rw (records_back s _ lx.words, records_back t _ ly.words) c.same_records;
        agreeing_again = λ d g. rw (back-m, back-k) (agreeing (policy_of p) lawful A below (recipe_of r) m' k' (c.same_places d g));
      }

  -- for any two budgets and record rooms
  pub demand_3 : Agreeing (policy_of p) A (recipe_of r) (places_of (recipe_of r) m) (places_of (recipe_of r) k) → (q q' : List ℕ) (budget budget' : ℕ)
      → Secret (policy_of p) A (recipe_of r) (judged r p m q budget) (judged r p k q' budget')
  demand_3 a q q' n n' =
      let R = recipe_of r in
      let ok = sound r p m br am in
      let start-m : Start (policy_of p) R (places_of R m) = record { all = length_places _ m; tags_below = λ i l. am.memory.tags_below i (omega (arith, length_places (count R) m)) } in
      let start-k : Start (policy_of p) R (places_of R k) = record { all = length_places _ k; tags_below = λ i l. ak.memory.tags_below i (omega (arith, length_places (count R) k)) } in
      rw (judged_ran r p m q n (not_refused r p m am), judged_ran r p k q' n' (not_refused r p k ak))
      (secret ok.lawful q q' _ _ (left_by r p m br bm am (length q) n) (left_by r p k br bk ak (length q') n')
      (close (policy_of p) ok.lawful A below R (places_of R m) (places_of R k) start-m start-k a (length q) (length q') n n'))
