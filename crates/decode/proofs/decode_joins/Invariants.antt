use Rattle.decode.specs.Filled.{JoinsAs}
use Rattle.decode.proofs.decode_joins.Given as goal

abbrev pub invariant-loop-a : goal.invariant-loop-a
invariant-loop-a l = JoinsAs l.p l.a l.joins
