-- The rows below stay as they are. Assumes nothing.
use Rattle.decode.proofs.Tables.{joins_more}
use Rattle.decode.proofs.decode_joins.Goals as goal

pub loop-a-preserved : goal.loop-a-preserved
loop-a-preserved c =
    let row = c.decode_row.ensures in
    joins_more c.args.p.now c.loop-a.a c.requires.few_tags row.1 row.0 c.loop-a.invariant
