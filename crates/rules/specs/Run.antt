-- A whole run, step by step. Assumes nothing.
use Rattle.std.specs.Prelude.{ℕ, zero, suc, ◌-◌, List, [], Some}
use Rattle.rules.specs.declared.End.{End}
use Rattle.rules.specs.declared.End.TheVariants.{Done, Budget, Stopped}
use Rattle.rules.specs.Policy.{Policy}
use Rattle.rules.specs.Recipe.{Recipe}
use Rattle.rules.specs.Memory.{Memory, Record}
use Rattle.rules.specs.Steps.{State, state, memory_in, records_in, Turn, Goes, Halts, Finished, step}

pub data Result : Type 0 where
  result : End → (steps : ℕ) (memory : Memory) (records : List Record) → Result

-- a run that ends with the memory and the records of this state
abbrev pub ends : End → (steps : ℕ) → State → Result
ends e k x = result e k (memory_in x) (records_in x)

module _ (P : Policy) (R : Recipe) (room : ℕ) where
  -- from state x by its step, with so much budget left and k steps taken: done is looked at before the budget,
  -- and a step that ends the run early is counted and changes nothing
  unfoldable pub follow : (budget steps : ℕ) → State → Turn → Result
  follow zero k x Finished = ends Done k x
  follow zero k x (Goes y) = ends Budget k x
  follow zero k x (Halts h s) = ends Budget k x
  follow (suc n) k x Finished = ends Done k x
  follow (suc n) k x (Goes y) = follow n (suc k) y (step P R room y)
  follow (suc n) k x (Halts h s) = ends (Stopped h s) (suc k) x

  abbrev pub run : (budget steps : ℕ) → State → Result
  run n k x = follow n k x (step P R room x)

-- the run begins at the last statement, with branch tag 0
abbrev pub start : Recipe → Memory → State
start R m = state 0 (Some (R.stmts - 1)) [] m []
