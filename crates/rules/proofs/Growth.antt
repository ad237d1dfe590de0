-- A run only adds records, and takes no more steps than its budget. Assumes nothing.
use Prim.Native.Nat.{ℕ, zero, suc, ◌+◌, ◌≤◌}
use native.Mathlib.Omega.{arith}
use mathlib.Core.Path.{refl}
use mathlib.Core.Bool.{Bool, true, false}
use mathlib.Core.List.{List, [], ◌∷◌, ◌++◌, append-nil, append_assoc}
use lib.ListN.{length, length-append}
use Rattle.rules.specs.declared.Stop.{Stop}
use Rattle.rules.specs.declared.Frame.{Frame}
use Rattle.rules.specs.declared.Frame.TheVariants.{Next, Join, Loop}
use Rattle.std.specs.Prelude.{Option, Some, None}
use Rattle.rules.specs.declared.Act.{Act}
use Rattle.rules.specs.declared.Act.TheVariants.{Passes, Pushes, Writes, Records, Stops}
use Rattle.rules.specs.declared.Again.{Again}
use Rattle.rules.specs.declared.Again.TheVariants.{Repeats, Leaves, Fails}
use Rattle.rules.specs.Policy.{Policy}
use Rattle.rules.specs.Recipe.{Recipe}
use Rattle.rules.specs.Memory.{Memory, Record, out}
use Rattle.rules.specs.Steps.{State, state, records_in, Turn, Goes, Halts, Finished, check, begins, repeats, loop_in, performs, takes, step}
use Rattle.rules.specs.Run.{Result, result, follow, run}
use Rattle.rules.specs.Views.{Begins}

abbrev pub records_from : Result → List Record
records_from (result e k m r) = r

abbrev pub steps_from : Result → ℕ
steps_from (result e k m r) = k

-- a step from a state with records r keeps them
pub data Grows (r : List Record) : Turn → Type 0 where
  halts : {h : Stop} {s : ℕ} → Grows r (Halts h s)
  finishes : Grows r Finished
  goes : {y : State} → Begins r (records_in y) → length (records_in y) ≤ suc (length r) → Grows r (Goes y)

begins_self : {r : List Record} → Begins r r
begins_self {r} = record { rest = []; whole = append-nil r }

begins_trans : {r q p : List Record} → Begins r q → Begins q p → Begins r p
begins_trans {r} w v = record { rest = w.rest ++ v.rest; whole = cc (append_assoc r w.rest v.rest, w.whole, v.whole) }

keeps : {b : ℕ} {n : Option ℕ} {l : List Frame} {m : Memory} {r : List Record} → Grows r (Goes (state b n l m r))
keeps {r = r} = let l : length r ≤ suc (length r) = omega arith in goes begins_self l

grows_check : (a : Bool) (h : Stop) (s : ℕ) {r : List Record} {x : Turn} → Grows r x → Grows r (check a h s x)
unfolding check
grows_check true h s g = g
grows_check false h s g = halts

module _ (R : Recipe) (room s b : ℕ) (l : List Frame) (m : Memory) (r : List Record) where
  grows_performs : (x : Act) → Grows r (performs R room s b l m r x)
  grows_performs Passes = keeps
  grows_performs (Pushes f a t) = grows_check _ _ _ keeps
  grows_performs (Writes i p) = keeps
  grows_performs (Records port v) =
      let l : length (r ++ (out port v ∷ [])) ≤ suc (length r) = omega (arith, length-append r (out port v ∷ [])) in
      grows_check _ _ _ (goes (record { rest = _; whole = refl }) l)
  grows_performs (Stops h) = halts

  grows_takes : (t : ℕ) (x : Again) → Grows r (takes R room s b l m r t x)
  grows_takes t (Repeats a u) = keeps
  grows_takes t Leaves = keeps
  grows_takes t (Fails h) = halts

module _ (P : Policy) (R : Recipe) (room : ℕ) where
  grows_step : (x : State) → Grows (records_in x) (step P R room x)
  grows_step (state b (Some s) l m r) = grows_performs R room s b l m r (begins P R m b s (R.stmt_at s))
  grows_step (state b None (Next a ∷ l) m r) = keeps
  grows_step (state b None (Join t ∷ l) m r) = keeps
  grows_step (state b None (Loop s t ∷ l) m r) = grows_takes R room s b l m r t (repeats P R m b (loop_in (R.stmt_at s)))
  grows_step (state b None [] m r) = finishes

  grows_follow : (n k : ℕ) (x : State) {t : Turn} → Grows (records_in x) t → Begins (records_in x) (records_from (follow P R room n k x t))
  unfolding follow
  grows_follow zero k x halts = begins_self
  grows_follow zero k x finishes = begins_self
  grows_follow zero k x (goes w l) = begins_self
  grows_follow (suc n) k x halts = begins_self
  grows_follow (suc n) k x finishes = begins_self
  grows_follow (suc n) k x (goes {y = y} w l) = begins_trans w (grows_follow n (suc k) y (grows_step y))

  -- records only grow
  pub grows_run : (n k : ℕ) (x : State) → Begins (records_in x) (records_from (run P R room n k x))
  grows_run n k x = grows_follow n k x (grows_step x)

  few_follow : (n k : ℕ) (x : State) {t : Turn} → Grows (records_in x) t → length (records_from (follow P R room n k x t)) ≤ n + length (records_in x)
  unfolding follow
  few_follow zero k x halts = omega arith
  few_follow zero k x finishes = omega arith
  few_follow zero k x (goes w l) = omega arith
  few_follow (suc n) k x halts = omega arith
  few_follow (suc n) k x finishes = omega arith
  few_follow (suc n) k x (goes {y = y} w l) = omega (arith, few_follow n (suc k) y (grows_step y))

  -- a step writes one record at most
  pub few_records : (n k : ℕ) (x : State) → length (records_from (run P R room n k x)) ≤ n + length (records_in x)
  few_records n k x = few_follow n k x (grows_step x)

  counted : (n k : ℕ) (x : State) (t : Turn) → steps_from (follow P R room n k x t) ≤ n + k
  unfolding follow
  counted zero k x Finished = omega arith
  counted zero k x (Goes y) = omega arith
  counted zero k x (Halts h s) = omega arith
  counted (suc n) k x Finished = omega arith
  counted (suc n) k x (Goes y) = omega (arith, counted n (suc k) y (step P R room y))
  counted (suc n) k x (Halts h s) = omega arith

  -- steps counted never exceed the budget
  pub within_budget : (n : ℕ) (x : State) → steps_from (run P R room n 0 x) ≤ n
  within_budget n x = omega (arith, counted n 0 x (step P R room x))
