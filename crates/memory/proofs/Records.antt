-- A record appended to the buffer, after the bytes of those before it. Assumes nothing.
use Prim.Native.Nat.{ℕ, ◌+◌, ◌*◌, ◌≤◌}
use native.Mathlib.Omega.{arith}
use mathlib.Core.Path.{◌≡◌, refl}
use mathlib.Core.List.{List, [], ◌∷◌, ◌++◌, append_assoc}
use lib.ListN.{length, drop, length-drop, length-append}
use lib.Seq.{drop-drop}
use Rattle.rules.specs.Bytes.{whole_bytes}
use Rattle.rules.specs.Memory.{Record, out, record_bytes}
use Rattle.rules.proofs.Bytes.{length_records}
use Rattle.memory.specs.Layout.{recorded, Holds}
use Rattle.memory.proofs.Stored.{set_past, word_past, word_after}

recorded_after : (x b : List ℕ) (o port w : ℕ) → o ≡ length x → 5 ≤ length b
    → recorded (x ++ b) o port w ≡ x ++ (port ∷ (whole_bytes w ++ drop 5 b))
unfolding recorded
recorded_after x [] o port w e l = absurd (omega arith)
recorded_after x (a ∷ b) o port w e l =
    rw (
      set_past x (a ∷ b) o 0 port (omega arith),
      word_past x (port ∷ b) (o + 1) 1 w (omega arith),
      word_after (port ∷ []) b 1 w refl (omega arith),
    )

bytes_more : (r : List Record) (port w : ℕ) → record_bytes (r ++ (out port w ∷ [])) ≡ record_bytes r ++ (port ∷ whole_bytes w)
unfolding record_bytes whole_bytes
bytes_more [] port w = refl
bytes_more (out p v ∷ r) port w = rw (bytes_more r port w)

pub none_held : (q : List ℕ) → Holds q q [] 0
unfolding record_bytes
none_held q = record { counted = refl; bytes = refl }

pub length_held : {q₀ q : List ℕ} {r : List Record} {n : ℕ} → Holds q₀ q r n → 5 * n ≤ length q₀ → length q ≡ length q₀
length_held {q₀} {q} {r} {n} h l =
    rw h.bytes (omega (arith, length-append (record_bytes r) (drop (5 * n) q₀), length-drop (5 * n) q₀, length_records r, h.counted))

pub more_held : {q₀ q : List ℕ} {r : List Record} {n : ℕ} (port w : ℕ) → Holds q₀ q r n → 5 * n + 5 ≤ length q₀
    → Holds q₀ (recorded q (5 * n) port w) (r ++ (out port w ∷ [])) (n + 1)
more_held {q₀} {q} {r} {n} port w h l =
    let e : 5 * n + 5 ≡ 5 * (n + 1) = omega arith in
    record {
      counted = omega (arith, length-append r (out port w ∷ []), h.counted);
      bytes =
          rw (
            h.bytes,
            recorded_after (record_bytes r) (drop (5 * n) q₀) (5 * n) port w
                (omega (arith, length_records r, h.counted))
                (omega (arith, length-drop (5 * n) q₀)),
            bytes_more r port w,
            append_assoc,
            drop-drop,
            e,
          );
    }
