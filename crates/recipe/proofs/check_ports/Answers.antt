-- The statement whose port is not there decides. Assumes nothing.
use native.Mathlib.Omega.{arith}
use mathlib.Core.Path.{sym}
use Rattle.rules.specs.Recipe.{check_ports}
use Rattle.rules.proofs.Checks.{fails, up_stops}
use Rattle.rules.proofs.Tests.{denied}
use Rattle.recipe.proofs.check_ports.Goals as goal

pub returns-then-not-port_ok : goal.returns-then-not-port_ok
unfolding check_ports
returns-then-not-port_ok c =
    let ok = denied (rw c.stmt_at.ensures at c.port_ok.ensures) c.if-not-port_ok.true in
    sym (up_stops _ _ _ (omega arith) c.loop-s.invariant.1 (fails _ ok))
