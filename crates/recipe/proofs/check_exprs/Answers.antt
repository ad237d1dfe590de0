-- The expression that is malformed decides. Assumes nothing.
use native.Mathlib.Omega.{arith}
use mathlib.Core.Path.{sym}
use Rattle.rules.proofs.Checks.{fails, stops, up_stops}
use Rattle.rules.proofs.Tests.{denied}
use Rattle.recipe.proofs.check_exprs.Goals as goal

pub returns-then-not-expr_ok : goal.returns-then-not-expr_ok
returns-then-not-expr_ok c =
    let ok = denied (rw (c.half_at-vars.ensures.0, c.expr_at.ensures) at
    c.expr_ok.ensures) c.if-not-expr_ok.true in
    sym (up_stops _ _ _ (omega arith) c.loop-e.invariant.1 (stops _ (fails _ ok)))
