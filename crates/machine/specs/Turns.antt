-- What the run may be asked, and what it has to leave. Assumes nothing.
use Rattle.std.specs.Prelude.{ℕ, ◌≡◌, List, length}
use Rattle.rules.specs.declared.Outcome.{Outcome}
use Rattle.rules.specs.Recipe.{recipe_of}
use Rattle.rules.specs.Policy.{policy_of}
use Rattle.rules.specs.Memory.{place_bytes}
use Rattle.rules.specs.Run.{run, start}
use Rattle.rules.specs.Judged.{Judged, written_back}
use Rattle.layout.specs.declared.Tables.{Tables}
use Rattle.layout.specs.Places.{held_in, Ready}

-- the outcome, the memory and the record room are those of x
pub record LeftAs (o : Outcome) (m q : List ℕ) (x : Judged) : Type 0 where
  pub outcome_is : o ≡ x.outcome
  pub memory_is : m ≡ x.memory
  pub room_is : q ≡ x.room

-- there are accepted tables that t and u hold
pub record RunGiven (t : Tables) (u : List ℕ) (limit : ℕ) : Type 0 where
  pub recipe : List ℕ
  pub policy : List ℕ
  pub ready : Ready recipe policy t u
  pub limited : limit ≡ (recipe_of recipe).stmts
  pub all_places : length u ≡ 2112

-- the run of r under p from the places in u₀ leaves the places in u
pub record RunAs (r p : List ℕ) (t : Tables) (u₀ q₀ : List ℕ) (budget : ℕ) (o : Outcome) (u q : List ℕ) : Type 0 where
  pub left : LeftAs o (place_bytes (held_in (recipe_of r) u)) q
      (written_back q₀ (run (policy_of p) (recipe_of r) (length q₀) budget 0 (start (recipe_of r) (held_in (recipe_of r) u₀))))
  pub ready : Ready r p t u

-- and that for all accepted tables that t and u₀ hold
abbrev pub RunLeaves : (t : Tables) (u₀ : List ℕ) (limit : ℕ) (q₀ : List ℕ) (budget : ℕ) (o : Outcome) (u q : List ℕ) → Type 0
RunLeaves t u₀ limit q₀ budget o u q = (r p : List ℕ) → Ready r p t u₀ → limit ≡ (recipe_of r).stmts → RunAs r p t u₀ q₀ budget o u q
