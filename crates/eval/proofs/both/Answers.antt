-- The tags are joined and packed with the word. Assumes nothing.
use Rattle.eval.proofs.both.Goals as goal

pub join-requires : goal.join-requires
join-requires c = rw (c.tag_of.ensures, c.tag_of-2.ensures) c.requires

pub returns : goal.returns
returns c = rw (c.answer.ensures, c.join.ensures, c.tag_of.ensures, c.tag_of-2.ensures)
