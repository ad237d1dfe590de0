-- The operands are leaves, read where they stand. Assumes nothing.
use Rattle.eval.proofs.Values.{flat_value}
use Rattle.eval.proofs.flat.Goals as goal

pub returns : goal.returns
returns c r p a there = flat_value a c.args.e there c.requires.1 c.apply.ensures
