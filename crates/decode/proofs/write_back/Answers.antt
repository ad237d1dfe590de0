-- The memory's places below `i` are those in the array, and all of it are bytes. Assumes nothing.
use Rattle.std.proofs.lemmas.List.{get_or-take}
use Rattle.layout.specs.Places.{place_in}
use Rattle.memory.proofs.Places.{length_placed}
use Prim.Native.Nat.{◌*◌, ◌≤◌}
use native.Mathlib.Omega.{arith}
use mathlib.Core.Path.{refl, ◌∙◌}
use lib.ListN.{length}
use Rattle.decode.proofs.Places.{back_more, back_done}
use Rattle.decode.proofs.write_back.Goals as goal

pub loop-i-preserved : goal.loop-i-preserved
loop-i-preserved c =
    let u = c.args.u.now in
    let i = c.loop-i.i in
    let inv = c.loop-i.invariant in
    let put = rw (get_or-take c.args.count u i 0 (omega arith)) at c.put_place.ensures in
    let long : 5 * c.args.count ≤ length c.loop-i.m = omega (arith, inv.0, c.requires.1) in (
      rw put.0 (length_placed _ _ _ ∙ inv.0),
      (λ j. (c.type_inv.m j).fits),
      rw put.0 (back_more _ _ long i (omega arith) (place_in u i) put.1 u refl inv.2),
    )

pub returns : goal.returns
returns c =
    let inv = c.loop-i.invariant in
    back_done _ _ _ (omega (arith, inv.0, c.requires.1)) inv.1 (λ j h. inv.2 j (omega arith))
