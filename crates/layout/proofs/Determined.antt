-- Each promise has one answer: any two results that it allows are equal. `Post` is the function's contract as the checker reads it.
-- Assumes nothing.
use mathlib.Core.Path.{◌≡◌, sym, ◌∙◌}
use Rattle.layout.proofs.Tables.empty.Reads as empty
use Rattle.layout.proofs.OperatorFromUnaryOp.from.Reads as unary
use Rattle.layout.proofs.OperatorFromBinaryOp.from.Reads as binary

pub empty_one : (κs : _) (a : _) (r s : _) (x y : _) → empty.Post κs a r x → empty.Post κs a s y → r ≡ s
empty_one κs a r s x y p q = p ∙ sym q

pub unary_from_one : (κs : _) (a : _) (r s : _) (x y : _) → unary.Post κs a r x → unary.Post κs a s y → r ≡ s
unary_from_one κs a r s x y p q = p ∙ sym q

pub binary_from_one : (κs : _) (a : _) (r s : _) (x y : _) → binary.Post κs a r x → binary.Post κs a s y → r ≡ s
binary_from_one κs a r s x y p q = p ∙ sym q
