use mathlib.Core.Path.{◌≡◌}
use lib.ListN.{length}
use Rattle.decode.specs.Filled.{StmtsAs}
use Rattle.decode.proofs.decode_stmts.Given as goal

abbrev pub invariant-loop-s : goal.invariant-loop-s
invariant-loop-s l = StmtsAs l.r l.s l.stmts × (length l.stmts ≡ 512)
