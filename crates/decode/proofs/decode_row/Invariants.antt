use Prim.Native.Nat.{◌*◌}
use Rattle.decode.specs.Filled.{RowAs, Kept}
use Rattle.decode.proofs.decode_row.Given as goal

abbrev pub invariant-loop-b : goal.invariant-loop-b
invariant-loop-b l = RowAs l.p l.a l.b l.joins × Kept (16 * l.a) l.initial.joins l.joins
