-- A machine as a function on the same inputs, and demand 2: it does what the rules say, for every input. Assumes nothing.
use Rattle.std.specs.Prelude.{ℕ, ◌≡◌, List}
use Rattle.rules.specs.declared.Refusal.{Refusal}
use Rattle.rules.specs.declared.End.TheVariants.{Done, Refused}
use Rattle.rules.specs.Judged.{Judged, judged}

abbrev pub Machine : Type 0
Machine = (r p m q : List ℕ) (budget : ℕ) → Judged

-- demand 2
pub record Meets (M : Machine) : Type 0 where
  pub same : (r p m q : List ℕ) (budget : ℕ) → M r p m q budget ≡ judged r p m q budget

-- ---- machines that demand 2 has to reject

pub record RefusesAll (M : Machine) : Type 0 where
  pub refuses : (r p m q : List ℕ) (budget : ℕ) → (x : Refusal) × ((M r p m q budget).outcome.end ≡ Refused x)

pub record DoneWithNothing (M : Machine) : Type 0 where
  pub done : (r p m q : List ℕ) (budget : ℕ) → ((M r p m q budget).outcome.end ≡ Done) × ((M r p m q budget).outcome.records ≡ 0)

pub record LeavesMemory (M : Machine) : Type 0 where
  pub leaves : (r p m q : List ℕ) (budget : ℕ) → (M r p m q budget).memory ≡ m

-- what comes after the first step is made up from what stood after it
pub record InventsTheRest (M : Machine) : Type 0 where
  pub invented : Judged → (budget : ℕ) → Judged
  pub invents : (r p m q : List ℕ) (budget : ℕ) → M r p m q budget ≡ invented (judged r p m q 1) budget

-- the count of steps is made up from the recipe, the policy and the budget, whatever is carried out
pub record MakesUpSteps (M : Machine) : Type 0 where
  pub made_up : (r p : List ℕ) (budget : ℕ) → ℕ
  pub counts : (r p m q : List ℕ) (budget : ℕ) → (M r p m q budget).outcome.steps ≡ made_up r p budget
