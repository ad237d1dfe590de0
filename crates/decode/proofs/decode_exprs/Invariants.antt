use mathlib.Core.Path.{◌≡◌}
use lib.ListN.{length}
use Rattle.decode.specs.Filled.{ExprsAs}
use Rattle.decode.proofs.decode_exprs.Given as goal

abbrev pub invariant-loop-e : goal.invariant-loop-e
invariant-loop-e l = ExprsAs l.r l.e l.exprs × (length l.exprs ≡ 1024)
