-- The C host's entry by its two cases: a report that is too short, and the machine's answer reported. Assumes nothing.
use Prim.Native.Nat.{ℕ, zero, suc, ◌<◌, ◌≤◌}
use native.Mathlib.Omega.{arith}
use mathlib.Core.Path.{◌≡◌, refl, ap, ◌∙◌}
use mathlib.Core.Logic.{⊎_elim}
use mathlib.Core.List.{List, ◌++◌}
use mathlib.Core.Bool.{Bool, true, false}
use lib.Dec.{leb}
use lib.ListN.{length, drop}
use Rattle.std.specs.Prelude.{Ok, Err}
use Rattle.rules.specs.declared.Refusal.TheVariants.{HouseRoom}
use Rattle.rules.specs.Checks.{Checked, require}
use borrow.Author.Tests.{le-leb, lt-leb}
use Rattle.rules.specs.declared.Outcome.{Outcome}
use Rattle.rules.specs.declared.End.{End}
use Rattle.rules.specs.Bytes.{Bytes}
use Rattle.rules.specs.Ends.{refusal_number, end_number, end_place}
use Rattle.rules.specs.Judged.{judged, host_budget, report_bytes, with_report, hosted, house_fits, housed, house_asked}
use Rattle.rules.proofs.Numbers.{Given, judged_given}
use Rattle.machine.specs.Turns.{LeftAs}
use Rattle.vraduceni.specs.Hosts.{Finds}

-- ---- the budget

pub budget_house : {b : ℕ} → b ≡ 0 → host_budget b ≡ 10000
unfolding host_budget
budget_house e = rw e

pub budget_given : (b : ℕ) → (b ≡ 0 → ⊥) → host_budget b ≡ b
unfolding host_budget
budget_given zero h = absurd (h refl)
budget_given (suc b) h = refl

-- ---- the report

number_fits : {e : End} → Given e → end_number e < 65536
number_fits g = ⊎_elim (λ l. omega arith) (λ l. omega (arith, l.to)) g.number

module _ (r p m q report : List ℕ) (budget : ℕ) where
  pub short : length report < 12 → Finds 30 m q report (hosted r p m q report budget)
  unfolding hosted with_report refusal_number
  short h = rw (lt-leb 12 (length report) h) (record { number_is = refl; memory_is = refl; room_is = refl; report_is = refl })

  module _ {o : Outcome} {m' q' : List ℕ} (l : LeftAs o m' q' (judged r p m q (host_budget budget))) where
    -- the numbers that go into the report fit 16 bits
    pub fits : Bytes r → Bytes m → (end_number o.end < 65536) × (end_place o.end < 65536)
    fits br bm =
        let g = judged_given r p m q br bm (host_budget budget) in
        rw l.outcome_is (number_fits g, g.place)

    pub reports : {n : ℕ} {report' : List ℕ} → 12 ≤ length report → n ≡ end_number o.end → report' ≡ report_bytes o ++ drop 12 report
        → Finds n m' q' report' (hosted r p m q report budget)
    unfolding hosted with_report
    reports h e f =
        rw (le-leb 12 (length report) h)
        (record {
          number_is = e ∙ ap (λ (x : Outcome). end_number x.end) l.outcome_is;
          memory_is = l.memory_is;
          room_is = l.room_is;
          report_is = f ∙ ap (λ (x : Outcome). report_bytes x ++ drop 12 report) l.outcome_is;
        })

-- ---- the house policy

abbrev pub number_of : Checked → ℕ
number_of (Ok u) = 0
number_of (Err x) = refusal_number x

pub house_number : {c : Checked} (b : List ℕ) → c ≡ house_fits b → number_of c ≡ (house_asked b).number
unfolding require housed house_asked
house_number b e = ap number_of e ∙ by_room (leb 266 (length b))
  where
    by_room : (t : Bool) → number_of (require t HouseRoom) ≡ (housed t b).number
    by_room true = refl
    by_room false = refl
