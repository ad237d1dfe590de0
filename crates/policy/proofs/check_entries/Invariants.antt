-- The loop of `policy::check_entries`. Assumes nothing.
use Rattle.std.proofs.Common.{◌≡◌, Ok}
use Rattle.rules.specs.Checks.{up_to}
use Rattle.rules.specs.Policy.{check_entry}
use Rattle.policy.proofs.check_entries.Given as goal

abbrev pub invariant-loop-i : goal.invariant-loop-i
invariant-loop-i l = up_to l.i (check_entry l.p) ≡ Ok tt
