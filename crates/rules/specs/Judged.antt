-- The machine as a whole: the checks in document 01's order, then the run. Every public promise cites one of these.
-- Assumes nothing.
use Rattle.std.specs.Prelude.{ℕ, zero, suc, ◌*◌, Bool, true, false, List, ◌++◌, leb, length, drop, Ok, Err}
use Rattle.rules.specs.declared.Refusal.{Refusal}
use Rattle.rules.specs.declared.Refusal.TheVariants.{HouseRoom, ReportRoom}
use Rattle.rules.specs.Checks.{Checked, require, ◌and_then◌}
use Rattle.rules.specs.declared.End.{End}
use Rattle.rules.specs.declared.End.TheVariants.{Refused}
use Rattle.rules.specs.declared.Outcome.{Outcome}
use Rattle.rules.specs.Bytes.{byte, half_bytes, whole_bytes}
use Rattle.rules.specs.Policy.{policy_of, check_policy, house_policy}
use Rattle.rules.specs.Recipe.{recipe_of, check_recipe, check_ports}
use Rattle.rules.specs.Memory.{places_of, place_bytes, check_memory, record_bytes}
use Rattle.rules.specs.Run.{Result, result, run, start}
use Rattle.rules.specs.Ends.{refusal_number, end_number, end_place}

-- ---- the library's entry: recipe r, policy p, memory m, record room q; budget 0 means no step

pub record Judged : Type 0 where
  pub outcome : Outcome
  pub memory : List ℕ
  pub room : List ℕ

abbrev pub outcome_of : End → (steps records : ℕ) → Outcome
outcome_of e k n = record { end = e; steps = k; records = n }

-- a refusal leaves memory and record room as they were
abbrev pub refused : Refusal → (m q : List ℕ) → Judged
refused x m q = record { outcome = outcome_of (Refused x) 0 0; memory = m; room = q }

-- the memory and the records written back; bytes after the records keep their old content
unfoldable pub written_back : (q : List ℕ) → Result → Judged
written_back q (result e k m r) =
    record {
      outcome = outcome_of e k (length r);
      memory = place_bytes m;
      room = record_bytes r ++ drop (5 * length r) q;
    }

abbrev pub ran : (r p m : List ℕ) (room budget : ℕ) → Result
ran r p m room budget = run (policy_of p) (recipe_of r) room budget 0 (start (recipe_of r) (places_of (recipe_of r) m))

unfoldable pub checks : (r p m : List ℕ) → Checked
checks r p m =
    check_recipe r
    and_then check_policy p
    and_then check_ports (recipe_of r) (byte p 7)
    and_then check_memory (recipe_of r) (byte p 6) m

unfoldable pub decided : Checked → (m q : List ℕ) → Judged → Judged
decided (Ok u) m q x = x
decided (Err y) m q x = refused y m q

unfoldable pub judged : (r p m q : List ℕ) (budget : ℕ) → Judged
judged r p m q budget = decided (checks r p m) m q (written_back q (ran r p m (length q) budget))

-- ---- the C host's entry: a report buffer more; budget 0 means the house budget

pub record Hosted : Type 0 where
  pub number : ℕ
  pub memory : List ℕ
  pub room : List ℕ
  pub report : List ℕ

unfoldable pub host_budget : ℕ → ℕ
host_budget zero = 10000
host_budget (suc n) = suc n

-- end and place, 16 bits each; steps and records, 32 each
unfoldable pub report_bytes : Outcome → List ℕ
report_bytes o = half_bytes (end_number o.end) ++ half_bytes (end_place o.end) ++ whole_bytes o.steps ++ whole_bytes o.records

-- the report's first 12 bytes; the rest stays
abbrev pub reported : (report : List ℕ) → Judged → Hosted
reported report x =
    record {
      number = end_number x.outcome.end;
      memory = x.memory;
      room = x.room;
      report = report_bytes x.outcome ++ drop 12 report;
    }

unfoldable pub with_report : Bool → (m q report : List ℕ) → Judged → Hosted
with_report true m q report x = reported report x
with_report false m q report x = record { number = refusal_number ReportRoom; memory = m; room = q; report = report }

unfoldable pub hosted : (r p m q report : List ℕ) (budget : ℕ) → Hosted
hosted r p m q report budget = with_report (leb 12 (length report)) m q report (judged r p m q (host_budget budget))

-- ---- the house policy on request, in a lent buffer

pub record Asked : Type 0 where
  pub number : ℕ
  pub buffer : List ℕ

-- 29 where the buffer is too short
abbrev pub house_fits : (buffer : List ℕ) → Checked
house_fits b = require (leb 266 (length b)) HouseRoom

unfoldable pub housed : Bool → (buffer : List ℕ) → Asked
housed true b = record { number = 0; buffer = house_policy ++ drop 266 b }
housed false b = record { number = refusal_number HouseRoom; buffer = b }

unfoldable pub house_asked : (buffer : List ℕ) → Asked
house_asked b = housed (leb 266 (length b)) b
