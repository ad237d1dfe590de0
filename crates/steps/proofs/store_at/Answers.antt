-- The range comes before the tag, and the index's tag joins the branch tag. Assumes nothing.
use mathlib.Core.Path.{refl}
use Rattle.rules.specs.Memory.{value_of, tag_of}
use Rattle.rules.specs.Steps.{allow}
use Rattle.steps.proofs.Asked.{index_off, index_in, cell_is, cell_in_lem, held_good, join_given, join_is, join_good, held_under, held_off, same_below}
use Rattle.steps.proofs.store_at.Goals as goal

pub returns-then-from-x : goal.returns-then-from-x
unfolding allow value_of tag_of
returns-then-from-x c r p a b i v = rw (index_off a (rw c.from.ensures at c.if-from-x.true)) (refl, refl)

pub join-requires : goal.join-requires
join-requires c =
    let pre = c.requires in
    let joined = join_good pre.ready pre.branch pre.indexed (rw c.from-3.ensures at c.join-b.ensures) in
    join_given pre.ready joined (held_good pre.ready (cell_in_lem pre.ready (rw c.from.ensures at c.if-from-x.false)) (rw c.from-2.ensures at c.tag_at-old.ensures))

pub returns-then-join-old : goal.returns-then-join-old
unfolding allow value_of tag_of
returns-then-join-old c r p a b i v =
    let there = cell_in_lem a (rw c.from.ensures at c.if-from-x.false) in
    let join = rw c.from-3.ensures at c.join-b.ensures in
    let off = held_off a (join_good a b i join) there (rw c.from-2.ensures at c.tag_at-old.ensures) c.join.ensures c.if-join-old.true in
    rw (index_in a (rw c.from.ensures at c.if-from-x.false), rw (join_is a b i join, cell_is a c.args.x.value) at off) (refl, refl)

pub join-g-requires : goal.join-g-requires
join-g-requires c =
    let pre = c.requires in
    let joined = join_good pre.ready pre.branch pre.indexed (rw c.from-3.ensures at c.join-b.ensures) in
    join_given pre.ready joined (same_below c.from-4.ensures pre.tagged)

pub returns : goal.returns
unfolding allow value_of tag_of
returns c r p a b i v =
    let there = cell_in_lem a (rw c.from.ensures at c.if-from-x.false) in
    let join = rw c.from-3.ensures at c.join-b.ensures in
    let joined = join_good a b i join in
    let branch = join_is a b i join in
    let cell = cell_is a c.args.x.value in
    let under = held_under a joined there (rw c.from-2.ensures at c.tag_at-old.ensures) c.join.ensures c.if-join-old.false in
    let marked = join_is a joined v (rw c.from-4.ensures at c.join-g.ensures) in
    rw (index_in a (rw c.from.ensures at c.if-from-x.false), rw (branch, cell) at under) (refl, rw (cell, marked, branch) at (rw c.from-2.ensures at c.put_place.ensures))
