-- A cell stands after the variables. Assumes nothing.
use Prim.Native.Nat.{◌<◌}
use native.Mathlib.Omega.{arith}
use borrow.Author.Tests.{le-ltb, lt-ltb}
use Rattle.rules.specs.Memory.{value_of, tag_of}
use Rattle.rules.specs.Steps.{given}
use Rattle.rules.specs.Ends.{stop_number}
use Rattle.eval.specs.Packed.{word_in}
use Rattle.eval.proofs.cell.Goals as goal

pub returns-then-from-word_of : goal.returns-then-from-word_of
unfolding given stop_number
returns-then-from-word_of c =
    let args = c.args in
    rw (le-ltb (word_in args.x) (args.t.now.cells) (omega (arith, c.word_of.ensures, c.from.ensures, c.if-from-word_of.true)))

pub returns : goal.returns
unfolding given value_of tag_of
returns c =
    let args = c.args in
    let l : word_in args.x < args.t.now.cells = omega (arith, c.word_of.ensures, c.from.ensures, c.if-from-word_of.false) in
    rw (lt-ltb (word_in args.x) (args.t.now.cells) l, c.both.ensures, c.word_of-3.ensures, c.word_of-2.ensures, c.from-2.ensures)
