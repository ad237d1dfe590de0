-- Each promise has one answer: any two results that it allows are equal. `Post` is the function's contract as the checker reads
-- it; `value` promises its answer of any accepted tables that the arrays hold, and its requirement, `Pre`, names some. Assumes nothing.
use mathlib.Core.Path.{◌≡◌, sym, ◌∙◌}
use Rattle.eval.proofs.word_of.Reads as word_of
use Rattle.eval.proofs.tag_of.Reads as tag_of
use Rattle.eval.proofs.stop_of.Reads as stop-of
use Rattle.eval.proofs.answer.Reads as answer
use Rattle.eval.proofs.join.Reads as join
use Rattle.eval.proofs.tag_at.Reads as tag_at
use Rattle.eval.proofs.value.Reads as value

pub word_of_one : (κs : _) (a : _) (r s : _) (x y : _) → word_of.Post κs a r x → word_of.Post κs a s y → r ≡ s
word_of_one κs a r s x y p q = p ∙ sym q

pub tag_of_one : (κs : _) (a : _) (r s : _) (x y : _) → tag_of.Post κs a r x → tag_of.Post κs a s y → r ≡ s
tag_of_one κs a r s x y p q = p ∙ sym q

pub stop_of_one : (κs : _) (a : _) (r s : _) (x y : _) → stop-of.Post κs a r x → stop-of.Post κs a s y → r ≡ s
stop_of_one κs a r s x y p q = p ∙ sym q

pub answer_one : (κs : _) (a : _) (r s : _) (x y : _) → answer.Post κs a r x → answer.Post κs a s y → r ≡ s
answer_one κs a r s x y p q = p ∙ sym q

pub join_one : (κs : _) (a : _) (r s : _) (x y : _) → join.Post κs a r x → join.Post κs a s y → r ≡ s
join_one κs a r s x y p q = p ∙ sym q

pub tag_at_one : (κs : _) (a : _) (r s : _) (x y : _) → tag_at.Post κs a r x → tag_at.Post κs a s y → r ≡ s
tag_at_one κs a r s x y p q = p ∙ sym q

pub value_one : (κs : _) (a : _) (r s : _) (x y : _) → value.Pre κs a → value.Post κs a r x → value.Post κs a s y → r ≡ s
value_one κs a r s x y g p q = p _ _ g.ready g.there ∙ sym (q _ _ g.ready g.there)
