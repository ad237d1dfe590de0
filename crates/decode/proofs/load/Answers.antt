-- The places are held, and the constants after them leave them so. Assumes nothing.
use Prim.Native.Nat.{◌+◌}
use native.Mathlib.Omega.{arith}
use mathlib.Core.Path.{◌≡◌}
use Rattle.rules.specs.Memory.{count}
use Rattle.rules.specs.Recipe.{recipe_of}
use Rattle.decode.proofs.Places.{places_kept, held_places}
use Rattle.decode.proofs.load.Goals as goal

pub returns : goal.returns
returns c =
    let few = c.requires.0.counts in
    let n : c.half_at-vars.result + c.half_at-cells.result ≡ count (recipe_of c.args.r.now) = omega arith in
    let all = rw n at c.load_places.ensures in
    let constants = c.load_constants.ensures in
    (held_places _ _ _ (places_kept c.args.m.now _ constants.1 (omega arith) all), constants.0, c.load_constants.array_long)
