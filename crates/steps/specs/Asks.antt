-- What a statement asks of the places, done: of a recipe r under a policy p, over the places in u and under branch tag b.
-- Assumes nothing.
use Rattle.std.specs.Prelude.{ℕ, ◌<◌, ◌≡◌, Bool, List, eqb, set, Result, Ok, Err}
use Rattle.rules.specs.declared.Place.{Place}
use Rattle.rules.specs.declared.Act.{Act}
use Rattle.rules.specs.declared.Act.TheVariants.{Passes, Pushes, Writes, Records, Stops}
use Rattle.rules.specs.Bytes.{byte}
use Rattle.rules.specs.Policy.{policy_of}
use Rattle.rules.specs.Recipe.{recipe_of}
use Rattle.rules.specs.Steps.{assigns, stores}
use Rattle.rules.specs.declared.Stop.{Stop}
use Rattle.layout.specs.declared.Tables.{Tables}
use Rattle.layout.specs.Tables.{join_in, clearance_in}
use Rattle.layout.specs.Places.{Ready, held_in, value_in}
use Rattle.layout.specs.Answers.{answer_of}

-- what a write comes to: done, or the end that forbids it
abbrev pub Written : Type 0
Written = Result (Unit {0}) Stop

-- what the act asked of the places was done: written; or nothing, with the end
abbrev pub Done : Act → (h : Written) → (u v : List ℕ) → Type 0
Done Passes h u v = ⊥
Done (Pushes f a t) h u v = ⊥
Done (Writes i q) h u v = (h ≡ Ok tt) × (v ≡ set u i (answer_of (Ok q)))
Done (Records port w) h u v = ⊥
Done (Stops x) h u v = (h ≡ Err x) × (v ≡ u)

-- ---- what the statement asks was done, with h and the places u', for all accepted tables that t and u hold

-- variable i is given the value v
abbrev pub Assigned : (t : Tables) (u : List ℕ) (b i : ℕ) (v : Place) (h : Written) (u' : List ℕ) → Type 0
Assigned t u b i v h u' =
    (r p : List ℕ) → Ready r p t u → b < byte p 6 → i < (recipe_of r).vars → v.tag < byte p 6
    → Done (assigns (policy_of p) (recipe_of r) (held_in (recipe_of r) u) b i (Ok v)) h u u'

-- the cell of index x is given the value v
abbrev pub StoredAt : (t : Tables) (u : List ℕ) (b : ℕ) (x v : Place) (h : Written) (u' : List ℕ) → Type 0
StoredAt t u b x v h u' =
    (r p : List ℕ) → Ready r p t u → b < byte p 6 → x.tag < byte p 6 → v.tag < byte p 6
    → Done (stores (policy_of p) (recipe_of r) (held_in (recipe_of r) u) b (Ok x) (Ok v)) h u u'

-- the cell that expression i names is given what expression e gives
abbrev pub Stored : (t : Tables) (u : List ℕ) (b i e : ℕ) (h : Written) (u' : List ℕ) → Type 0
Stored t u b i e h u' =
    (r p : List ℕ) → Ready r p t u → b < byte p 6 → i < (recipe_of r).exprs → e < (recipe_of r).exprs
    → Done (stores (policy_of p) (recipe_of r) (held_in (recipe_of r) u) b (value_in r p u i) (value_in r p u e)) h u u'

-- the port's clearance lies above branch tag and value
abbrev pub may_emit : (t : Tables) (b port : ℕ) (v : Place) → Bool
may_emit t b port v =
    let clearance = clearance_in t port in
    eqb (join_in t (join_in t b v.tag) clearance) clearance

-- ---- there are accepted tables that t and u hold, with branch tag b and what a statement names in them

-- variable i and a value v
pub record AssignGiven (t : Tables) (u : List ℕ) (b i : ℕ) (v : Place) : Type 0 where
  pub recipe : List ℕ
  pub policy : List ℕ
  pub ready : Ready recipe policy t u
  pub branch : b < byte policy 6
  pub there : i < (recipe_of recipe).vars
  pub tagged : v.tag < byte policy 6

-- expressions i and e
pub record StoreGiven (t : Tables) (u : List ℕ) (b i e : ℕ) : Type 0 where
  pub recipe : List ℕ
  pub policy : List ℕ
  pub ready : Ready recipe policy t u
  pub branch : b < byte policy 6
  pub index : i < (recipe_of recipe).exprs
  pub value : e < (recipe_of recipe).exprs

-- their values x and v
pub record CellGiven (t : Tables) (u : List ℕ) (b : ℕ) (x v : Place) : Type 0 where
  pub recipe : List ℕ
  pub policy : List ℕ
  pub ready : Ready recipe policy t u
  pub branch : b < byte policy 6
  pub indexed : x.tag < byte policy 6
  pub tagged : v.tag < byte policy 6
