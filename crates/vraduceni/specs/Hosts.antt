-- What the C host finds after a call, and demand 3 said of it. Assumes nothing.
use Rattle.std.specs.Prelude.{ℕ, ◌≡◌, ◌⊎◌, List}
use Rattle.rules.specs.Bytes.{whole}
use Rattle.rules.specs.Policy.{Policy}
use Rattle.rules.specs.Recipe.{Recipe}
use Rattle.rules.specs.Memory.{places_of, Record, records_of}
use Rattle.rules.specs.Judged.{Hosted}
use Rattle.rules.specs.Views.{Begins, seen, Agreeing}

-- the number returned, and the host's memory, record room and report
pub record Finds (n : ℕ) (m q report : List ℕ) (x : Hosted) : Type 0 where
  pub number_is : n ≡ x.number
  pub memory_is : m ≡ x.memory
  pub room_is : q ≡ x.room
  pub report_is : report ≡ x.report

module _ (P : Policy) (A : ℕ) where
  -- the visible ones of the records in the room, as many as the report says
  abbrev pub shown_to : (q report : List ℕ) → List Record
  shown_to q report = seen P A (records_of (whole report 8) q)

  -- demand 3, of two calls by what each returns and leaves
  pub record HostSecret (R : Recipe) (n : ℕ) (m q report : List ℕ) (n' : ℕ) (k q' report' : List ℕ) : Type 0 where
    pub beginning : Begins (shown_to q report) (shown_to q' report') ⊎ Begins (shown_to q' report') (shown_to q report)
    pub same_records : n ≡ 0 → n' ≡ 0 → shown_to q report ≡ shown_to q' report'
    pub agreeing_again : n ≡ 0 → n' ≡ 0 → Agreeing P A R (places_of R m) (places_of R k)
