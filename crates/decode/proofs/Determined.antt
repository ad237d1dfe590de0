-- What the promise of writing back determines: any two memories that it allows are equal. The other two fill more of an array than
-- they speak of: `load` determines the places, `decode` the entries of `Decoded`. `Post` is the function's contract as the checker
-- reads it. Assumes nothing.
use mathlib.Core.Path.{◌≡◌, sym, ◌∙◌}
use Rattle.rules.specs.Recipe.{recipe_of}
use Rattle.layout.specs.Places.{held_in}
use Rattle.decode.proofs.load.Reads as load
use Rattle.decode.proofs.write_back.Reads as write-back

pub write_back_one : (κs : _) (a : _) (r s : _) (x y : _) → write-back.Post κs a r x → write-back.Post κs a s y → x.1.1.0.now ≡ y.1.1.0.now
write_back_one κs a r s x y p q = p ∙ sym q

pub load_places_one : (κs : _) (a : _) (r s : _) (x y : _) → load.Post κs a r x → load.Post κs a s y
    → held_in (recipe_of a.0.now) x.1.1.0.now ≡ held_in (recipe_of a.0.now) y.1.1.0.now
load_places_one κs a r s x y p q = p.0 ∙ sym q.0
