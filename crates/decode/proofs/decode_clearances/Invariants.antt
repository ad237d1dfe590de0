use Rattle.decode.specs.Filled.{ClearancesAs}
use Rattle.decode.proofs.decode_clearances.Given as goal

abbrev pub invariant-loop-port : goal.invariant-loop-port
invariant-loop-port l = ClearancesAs l.p l.port l.clearances
