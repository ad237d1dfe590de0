-- What the checks before have found is what the next one asks. Assumes nothing.
use mathlib.Core.Path.{sym, ◌∙◌}
use Rattle.rules.proofs.Tests.{held}
use Rattle.policy.proofs.Shape.{headed, filled}
use Rattle.policy.proofs.check_policy.Goals as goal

pub check_entries-requires : goal.check_entries-requires
check_entries-requires c = headed _ (held c.header_ok.ensures c.if-not-header_ok.false)

pub laws_ok-requires : goal.laws_ok-requires
laws_ok-requires c = filled _ (headed _ (held c.header_ok.ensures c.if-not-header_ok.false)) (sym c.check_entries.ensures ∙ c.in_ok-check_entries.was)
