-- A report that is too short, or the machine's answer reported. Assumes nothing.
use native.Mathlib.Omega.{arith}
use mathlib.Core.Path.{◌≡◌}
use Rattle.rules.specs.Ends.{end_number, refusal_number}
use Rattle.vraduceni.proofs.Host.{short, fits, reports}
use Rattle.vraduceni.proofs.vraduceni_judge.Goals as goal

pub returns-then-report-lt12 : goal.returns-then-report-lt12
unfolding end_number refusal_number
returns-then-report-lt12 c =
    let thirty : c.end_number.result ≡ 30 = c.end_number.ensures in
    rw thirty (short _ _ _ _ _ _ (omega arith))

pub put_report-requires : goal.put_report-requires
put_report-requires c =
    let args = c.args in
    let shared-slice-known = c.shared_slice_known-1 in
    let slice-known = c.slice_known-1 in
    let host-budget = c.host_budget in
    let judge = c.judge-o in
    let f = fits _ _ _ _ args.report.now _ (rw host-budget.ensures at judge.ensures) (λ i. (shared-slice-known.given i).fits)
    (λ i. (slice-known.given i).fits) in
    (omega arith, f.0, f.1)

pub returns : goal.returns
returns c =
    let host-budget = c.host_budget in
    let judge = c.judge-o in
    let put-report = c.put_report in
    let end-number = c.end_number-2 in
    reports _ _ _ _ _ _ (rw host-budget.ensures at judge.ensures) (omega arith) end-number.ensures put-report.ensures
