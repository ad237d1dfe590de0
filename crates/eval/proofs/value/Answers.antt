-- The answer, opened, is the value. Assumes nothing.
use mathlib.Core.Path.{sym, ap, ◌∙◌}
use Rattle.std.specs.Prelude.{Ok}
use Rattle.eval.proofs.Values.{leaf_worth, leaf_given, opens, opens_given}
use Rattle.eval.proofs.value.Goals as goal

pub place_of-requires : goal.place_of-requires
place_of-requires c =
    let pre = c.requires in
    leaf_given pre.ready c.args.e pre.there c.in-Leaf.is (c.leaf.ensures pre.recipe pre.policy pre.ready pre.there)

pub returns-in-Leaf : goal.returns-in-Leaf
returns-in-Leaf c r p a there = ap Ok c.place_of.ensures ∙ sym (leaf_worth a c.args.e there c.in-Leaf.is (c.leaf.ensures r p a there)).is

pub opened-requires : goal.opened-requires
opened-requires c = opens_given c.requires.ready c.requires.there c.flat.ensures

pub returns-in-Flat : goal.returns-in-Flat
returns-in-Flat c r p a there = c.opened.ensures ∙ opens a there c.flat.ensures

pub opened-requires-in-Deep : goal.opened-requires-in-Deep
opened-requires-in-Deep c = opens_given c.requires.ready c.requires.there c.deep.ensures

pub returns-in-Deep : goal.returns-in-Deep
returns-in-Deep c r p a there = c.opened-in-Deep.ensures ∙ opens a there c.deep.ensures
