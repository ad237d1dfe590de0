-- Each promise has one answer: any two results that it allows are equal, and so is what they leave in the buffers.
-- `Post` is the function's contract as the checker reads it. Assumes nothing.
use Rattle.std.proofs.Common.{◌≡◌, sym, ◌∙◌}
use Rattle.words.proofs.abs.Reads as abs
use Rattle.words.proofs.add.Reads as add
use Rattle.words.proofs.div.Reads as div
use Rattle.words.proofs.is_equal.Reads as is-equal
use Rattle.words.proofs.is_less.Reads as is-less
use Rattle.words.proofs.is_less_equal.Reads as is-less-equal
use Rattle.words.proofs.is_not_equal.Reads as is-not-equal
use Rattle.words.proofs.mul.Reads as mul
use Rattle.words.proofs.neg.Reads as neg
use Rattle.words.proofs.not.Reads as not
use Rattle.words.proofs.rem.Reads as rem
use Rattle.words.proofs.sub.Reads as sub

pub neg_one : (κs : _) (a : _) (r s : _) (x y : _) → neg.Post κs a r x → neg.Post κs a s y → r ≡ s
neg_one κs a r s x y p q = p ∙ sym q

pub not_one : (κs : _) (a : _) (r s : _) (x y : _) → not.Post κs a r x → not.Post κs a s y → r ≡ s
not_one κs a r s x y p q = p ∙ sym q

pub abs_one : (κs : _) (a : _) (r s : _) (x y : _) → abs.Post κs a r x → abs.Post κs a s y → r ≡ s
abs_one κs a r s x y p q = p ∙ sym q

pub add_one : (κs : _) (a : _) (r s : _) (x y : _) → add.Post κs a r x → add.Post κs a s y → r ≡ s
add_one κs a r s x y p q = p ∙ sym q

pub sub_one : (κs : _) (a : _) (r s : _) (x y : _) → sub.Post κs a r x → sub.Post κs a s y → r ≡ s
sub_one κs a r s x y p q = p ∙ sym q

pub mul_one : (κs : _) (a : _) (r s : _) (x y : _) → mul.Post κs a r x → mul.Post κs a s y → r ≡ s
mul_one κs a r s x y p q = p ∙ sym q

pub div_one : (κs : _) (a : _) (r s : _) (x y : _) → div.Post κs a r x → div.Post κs a s y → r ≡ s
div_one κs a r s x y p q = p ∙ sym q

pub rem_one : (κs : _) (a : _) (r s : _) (x y : _) → rem.Post κs a r x → rem.Post κs a s y → r ≡ s
rem_one κs a r s x y p q = p ∙ sym q

pub is_less_one : (κs : _) (a : _) (r s : _) (x y : _) → is-less.Post κs a r x → is-less.Post κs a s y → r ≡ s
is_less_one κs a r s x y p q = p ∙ sym q

pub is_less_equal_one : (κs : _) (a : _) (r s : _) (x y : _) → is-less-equal.Post κs a r x → is-less-equal.Post κs a s y → r ≡ s
is_less_equal_one κs a r s x y p q = p ∙ sym q

pub is_equal_one : (κs : _) (a : _) (r s : _) (x y : _) → is-equal.Post κs a r x → is-equal.Post κs a s y → r ≡ s
is_equal_one κs a r s x y p q = p ∙ sym q

pub is_not_equal_one : (κs : _) (a : _) (r s : _) (x y : _) → is-not-equal.Post κs a r x → is-not-equal.Post κs a s y → r ≡ s
is_not_equal_one κs a r s x y p q = p ∙ sym q
