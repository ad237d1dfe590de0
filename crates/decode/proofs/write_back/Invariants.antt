use Rattle.rules.specs.Bytes.{Bytes}
use mathlib.Core.Path.{◌≡◌}
use lib.ListN.{length}
use Rattle.decode.specs.Filled.{PlacesAs}
use Rattle.decode.proofs.write_back.Given as goal

abbrev pub invariant-loop-i : goal.invariant-loop-i
invariant-loop-i l = (length l.m ≡ length l.initial.m) × Bytes l.m × PlacesAs l.m l.i l.u
