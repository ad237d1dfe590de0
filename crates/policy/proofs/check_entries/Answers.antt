-- `policy::check_entries` meets its contract: the entries passed are below n, and the first that is not decides. Assumes nothing.
use native.Mathlib.Omega.{arith}
use mathlib.Core.Path.{sym}
use borrow.Author.Tests.{lt-ltb, le-ltb}
use Rattle.std.proofs.Common.{◌+◌, ◌<◌, ◌≤◌}
use Rattle.rules.specs.Bytes.{byte}
use Rattle.rules.specs.Policy.{check_entry}
use Rattle.rules.proofs.Checks.{passes, fails, up_more, up_stops}
use Rattle.policy.proofs.Shape.{tail_entry}
use Rattle.policy.proofs.check_entries.Goals as goal

pub returns-then-n-x : goal.returns-then-n-x
returns-then-n-x c =
    let p = c.args.p.now in
    let i = c.loop-i.i in
    let high : byte p 6 ≤ byte p (8 + i) = rw (tail_entry p i (omega arith)) at c.if-n-x.true in
    sym (up_stops _ i (check_entry p) (omega (arith, c.requires.long)) c.loop-i.invariant (fails _ (le-ltb _ _ high)))

pub loop-i-preserved : goal.loop-i-preserved
loop-i-preserved c =
    let p = c.args.p.now in
    let i = c.loop-i.i in
    let low : byte p (8 + i) < byte p 6 = rw (tail_entry p i (omega arith)) at c.if-n-x.false in
    up_more i (check_entry p) c.loop-i.invariant (passes _ (lt-ltb _ _ low))
