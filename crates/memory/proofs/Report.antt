-- The report's four numbers, written at the front of a buffer. Assumes nothing.
use Prim.Native.Nat.{ℕ, ◌≤◌}
use native.Mathlib.Omega.{arith}
use mathlib.Core.Path.{◌≡◌, refl}
use mathlib.Core.List.{List, [], ◌++◌}
use lib.ListN.{length, drop, length-drop}
use lib.Seq.{drop-drop}
use Rattle.rules.specs.Bytes.{half_bytes, whole_bytes}
use Rattle.memory.specs.Layout.{stored, stored_half}
use Rattle.memory.proofs.Stored.{half_after, word_after}

pub report_written : (b : List ℕ) (end place steps records : ℕ) → 12 ≤ length b
    → stored (stored (stored_half (stored_half b 0 end) 2 place) 4 steps) 8 records
    ≡ (half_bytes end ++ half_bytes place ++ whole_bytes steps ++ whole_bytes records) ++ drop 12 b
unfolding half_bytes whole_bytes
report_written b end place steps records l =
    let front = half_bytes end ++ half_bytes place in
    rw (
      half_after [] b 0 end refl (omega arith),
      half_after (half_bytes end) (drop 2 b) 2 place refl (omega (arith, length-drop 2 b)),
      drop-drop 2 2 b,
      word_after front (drop 4 b) 4 steps refl (omega (arith, length-drop 4 b)),
      drop-drop 4 4 b,
      word_after (front ++ whole_bytes steps) (drop 8 b) 8 records refl (omega (arith, length-drop 8 b)),
      drop-drop 4 8 b,
    )
