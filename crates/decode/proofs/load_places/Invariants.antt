use Rattle.decode.specs.Filled.{PlacesAs}
use Rattle.decode.proofs.load_places.Given as goal

abbrev pub invariant-loop-i : goal.invariant-loop-i
invariant-loop-i l = PlacesAs l.m l.i l.x-items
