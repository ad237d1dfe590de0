-- Four numbers, one after the other. Assumes nothing.
use native.Mathlib.Omega.{arith}
use Rattle.rules.specs.Ends.{end_number, end_place}
use Rattle.rules.specs.Judged.{report_bytes}
use Rattle.memory.proofs.Report.{report_written}
use Rattle.vraduceni.proofs.put_report.Goals as goal

pub returns : goal.returns
unfolding report_bytes
returns c =
    let args = c.args in
    let end-number = c.end_number in
    let put-half = c.put_half in
    let end-place = c.end_place in
    let put-half2 = c.put_half-2 in
    let put_word = c.put_word in
    let put-word2 = c.put_word-2 in
    rw (put-word2.ensures, put_word.ensures, put-half2.ensures, put-half.ensures, end-place.ensures, end-number.ensures)
    (report_written args.report.now (end_number args.o.end) (end_place args.o.end) args.o.steps args.o.records (omega arith))
