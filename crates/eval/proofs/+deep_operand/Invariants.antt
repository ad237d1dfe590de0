-- Operands have lower numbers; `operand` hands its own number on to `deep`.
use Rattle.std.proofs.Common.{◌+◌, ◌*◌}
use Rattle.eval.proofs.+deep_operand.Given as goal

abbrev pub decreases-deep : goal.decreases-deep
decreases-deep l = 2 * l.e

abbrev pub decreases-operand : goal.decreases-operand
decreases-operand l = 2 * l.e + 1
