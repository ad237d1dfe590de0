-- The branch tag is held against the old tag, and joined with the value's. Assumes nothing.
use mathlib.Core.Path.{refl}
use Rattle.rules.specs.Memory.{value_of, tag_of}
use Rattle.rules.specs.Steps.{allow}
use Rattle.steps.proofs.Asked.{var_in, join_is, held_under, held_off}
use Rattle.steps.proofs.assign.Goals as goal

pub returns-then-join-old : goal.returns-then-join-old
unfolding allow
returns-then-join-old c r p a b h k =
    rw (held_off a b (var_in a h) c.tag_at-old.ensures c.join.ensures c.if-join-old.true) (refl, refl)

pub returns : goal.returns
unfolding allow value_of tag_of
returns c r p a b h k =
    let joined = join_is a b k (rw c.from.ensures at c.join-g.ensures) in
    let allowed = held_under a b (var_in a h) c.tag_at-old.ensures c.join.ensures c.if-join-old.false in
    rw allowed (refl, rw joined at c.put_place.ensures)
