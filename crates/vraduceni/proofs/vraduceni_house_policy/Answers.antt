-- The refusal as its number, and the buffer as the policy leaves it. Assumes nothing.
use mathlib.Core.Path.{sym, ◌∙◌}
use Rattle.rules.specs.Ends.{end_number}
use Rattle.vraduceni.proofs.Host.{house_number}
use Rattle.vraduceni.proofs.vraduceni_house_policy.Goals as goal

pub returns-in-Ok : goal.returns-in-Ok
returns-in-Ok c =
    let asked = c.house_policy.ensures in
    (house_number _ (sym c.in-Ok.is ∙ asked.0), asked.1)

pub returns-in-Err : goal.returns-in-Err
unfolding end_number
returns-in-Err c =
    let asked = c.house_policy.ensures in
    (c.end_number.ensures ∙ house_number _ (sym c.in-Err.is ∙ asked.0), asked.1)
