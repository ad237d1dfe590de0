use Rattle.decode.specs.Filled.{ConstantsAs, Kept}
use Rattle.decode.proofs.load_constants.Given as goal

abbrev pub invariant-loop-e : goal.invariant-loop-e
invariant-loop-e l = ConstantsAs l.r l.e l.u × Kept 1088 l.initial.u l.u
