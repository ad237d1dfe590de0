-- What a viewer with tag A sees, and demand 3: what two runs may show to that viewer. Assumes nothing.
use Rattle.std.specs.Prelude.{ℕ, ◌<◌, ◌≡◌, Bool, true, false, ◌⊎◌, List, [], ◌∷◌, ◌++◌}
use Rattle.rules.specs.declared.End.TheVariants.{Done}
use Rattle.rules.specs.Policy.{Policy, under}
use Rattle.rules.specs.Recipe.{Recipe}
use Rattle.rules.specs.Memory.{Memory, tag_of, place_at, count, places_of, Record, out, records_of}
use Rattle.rules.specs.Judged.{Judged}

-- the first list is the beginning of the second
pub record Begins (r q : List Record) : Type 0 where
  pub rest : List Record
  pub whole : r ++ rest ≡ q

abbrev pub keep : Bool → Record → List Record → List Record
keep true x r = x ∷ r
keep false x r = r

module _ (P : Policy) (A : ℕ) where
  abbrev pub Hidden : (tag : ℕ) → Type 0
  Hidden t = under P t A ≡ false

  -- the records on ports whose clearance lies under A
  abbrev pub seen : List Record → List Record
  seen [] = []
  seen (out port v ∷ r) = keep (under P (P.clearance port) A) (out port v) (seen r)

  -- every place is hidden in both, or has the same tag and value in both
  abbrev pub Agreeing : Recipe → (m k : Memory) → Type 0
  Agreeing R m k =
      (i : ℕ) → i < count R
      → (Hidden (tag_of (place_at m i)) × Hidden (tag_of (place_at k i))) ⊎ (place_at m i ≡ place_at k i)

  -- the visible records in the record room
  abbrev pub shown_by : Judged → List Record
  shown_by x = seen (records_of x.outcome.records x.room)

  -- demand 3
  pub record Secret (R : Recipe) (x y : Judged) : Type 0 where
    pub beginning : Begins (shown_by x) (shown_by y) ⊎ Begins (shown_by y) (shown_by x)
    pub same_records : x.outcome.end ≡ Done → y.outcome.end ≡ Done → shown_by x ≡ shown_by y
    pub agreeing_again : x.outcome.end ≡ Done → y.outcome.end ≡ Done
        → Agreeing R (places_of R x.memory) (places_of R y.memory)
