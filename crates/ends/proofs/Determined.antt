-- Each promise has one answer: any two results that it allows are equal, and so is what they leave in the buffers.
-- `Post` is the function's contract as the checker reads it. Assumes nothing.
use mathlib.Core.Path.{◌≡◌, sym, ◌∙◌}
use Rattle.ends.proofs.end_number.Reads as end-number
use Rattle.ends.proofs.end_place.Reads as end-place

pub end_number_one : (κs : _) (a : _) (r s : _) (x y : _) → end-number.Post κs a r x → end-number.Post κs a s y → r ≡ s
end_number_one κs a r s x y p q = p ∙ sym q

pub end_place_one : (κs : _) (a : _) (r s : _) (x y : _) → end-place.Post κs a r x → end-place.Post κs a s y → r ≡ s
end_place_one κs a r s x y p q = p ∙ sym q
