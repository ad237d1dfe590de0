-- A refusal, or the run. Assumes nothing.
use mathlib.Core.Path.{refl, sym, ◌∙◌}
use Rattle.rules.proofs.Accepts.{accepted}
use Rattle.rules.proofs.Demands.{judged_refused, judged_ran}
use Rattle.machine.proofs.judge.Goals as goal

pub run_accepted-requires : goal.run_accepted-requires
run_accepted-requires c = accepted _ _ _ (sym c.check.ensures ∙ c.in-Ok.is)

pub returns-in-Err : goal.returns-in-Err
returns-in-Err c =
    let check = c.check in
    let refuse = c.refuse in
    rw (judged_refused _ _ _ _ _ (sym check.ensures ∙ c.in-Err.is)) (record { outcome_is = refuse.ensures; memory_is = refl; room_is = refl })

pub returns-in-Ok : goal.returns-in-Ok
returns-in-Ok c =
    let check = c.check in
    let run-accepted = c.run_accepted in
    rw (judged_ran _ _ _ _ _ (sym check.ensures ∙ c.in-Ok.is)) run-accepted.ensures
