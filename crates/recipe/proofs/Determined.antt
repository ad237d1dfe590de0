-- Each promise has one answer: any two results that it allows are equal, and so is what they leave in the buffers.
-- `Post` is the function's contract as the checker reads it. Assumes nothing.
use mathlib.Core.Path.{◌≡◌, sym, ◌∙◌}
use Rattle.recipe.proofs.check_ports.Reads as check-ports
use Rattle.recipe.proofs.check_recipe.Reads as check-recipe

pub check_recipe_one : (κs : _) (a : _) (r s : _) (x y : _) → check-recipe.Post κs a r x → check-recipe.Post κs a s y → r ≡ s
check_recipe_one κs a r s x y p q = p ∙ sym q

pub check_ports_one : (κs : _) (a : _) (r s : _) (x y : _) → check-ports.Post κs a r x → check-ports.Post κs a s y → r ≡ s
check_ports_one κs a r s x y p q = p ∙ sym q
