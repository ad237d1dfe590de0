-- A place read from bytes and one written to them are those of the decoded memory. Assumes nothing.
use Prim.Native.Nat.{ℕ, zero, suc, ◌+◌, ◌*◌, ◌/◌, ◌%◌, ◌^◌, ◌<◌, ◌≤◌}
use native.Mathlib.Omega.{arith}
use mathlib.Core.Path.{◌≡◌, refl, sym, ap, ◌∙◌}
use mathlib.Core.List.{List, [], ◌∷◌, ◌++◌}
use lib.ListN.{length, drop, length-set}
use lib.Seq.{get_or-drop}
use Rattle.rules.specs.declared.Place.{Place}
use Rattle.rules.specs.Bytes.{Bytes, byte, whole, whole_bytes}
use Rattle.rules.specs.Memory.{◌#◌, value_of, tag_of, Memory, place_at, write, places, place_bytes}
use Rattle.rules.proofs.Bytes.{word_back}
use Rattle.memory.specs.Layout.{stored, placed}
use Rattle.memory.proofs.Stored.{set_past, word_past}

-- ---- reading

at_drop : (b : List ℕ) (j n : ℕ) → n ≡ 5 + j → byte (drop 5 b) j ≡ byte b n
at_drop b j n e = get_or-drop 5 b j 0 ∙ ap (λ (k : ℕ). byte b k) (sym e)

pub read : (k : ℕ) (b : List ℕ) (i : ℕ) → i < k → place_at (places k b) i ≡ whole b (5 * i) # byte b (5 * i + 4)
unfolding places
read zero b i h = absurd (omega arith)
read (suc k) b zero h = refl
read (suc k) b (suc i) h =
    rw (
      ← at_drop b (5 * i) (5 * suc i) (omega arith),
      ← at_drop b (5 * i + 1) (5 * suc i + 1) (omega arith),
      ← at_drop b (5 * i + 2) (5 * suc i + 2) (omega arith),
      ← at_drop b (5 * i + 2 + 1) (5 * suc i + 2 + 1) (omega arith),
      ← at_drop b (5 * i + 4) (5 * suc i + 4) (omega arith),
    )
    (read k (drop 5 b) i (omega arith))

-- ---- writing

-- at least k times five bytes
data Fives : ℕ → List ℕ → Type 0 where
  none : {l : List ℕ} → Fives 0 l
  more : {k : ℕ} {l : List ℕ} (a b c d e : ℕ) → Fives k l → Fives (suc k) (a ∷ b ∷ c ∷ d ∷ e ∷ l)

fives : (k : ℕ) (l : List ℕ) → 5 * k ≤ length l → Fives k l
fives zero l h = none
fives (suc k) [] h = absurd (omega arith)
fives (suc k) (a ∷ []) h = absurd (omega arith)
fives (suc k) (a ∷ b ∷ []) h = absurd (omega arith)
fives (suc k) (a ∷ b ∷ c ∷ []) h = absurd (omega arith)
fives (suc k) (a ∷ b ∷ c ∷ d ∷ []) h = absurd (omega arith)
fives (suc k) (a ∷ b ∷ c ∷ d ∷ e ∷ l) h = more a b c d e (fives k l (omega arith))

-- a place after the first
placed_past : (x l : List ℕ) (i : ℕ) (p : Place) → length x ≡ 5 → placed (x ++ l) (suc i) p ≡ x ++ placed l i p
unfolding placed
placed_past x l i p e =
    rw (
      word_past x l (5 * suc i) (5 * i) (value_of p) (omega arith),
      set_past x _ (5 * suc i + 4) (5 * i + 4) _ (omega arith),
    )

written_fives : {k : ℕ} {b : List ℕ} (p : Place) → value_of p < 2 ^ 32 → Fives k b → (i : ℕ) → i < k → places k (placed b i p) ≡ write (places k b) i p
unfolding places placed stored value_of tag_of
written_fives p v none i h = absurd (omega arith)
written_fives p v (more a b c d e f) zero h = rw (word_back p.value v)
written_fives p v (more a b c d e f) (suc i) h =
    rw (placed_past (a ∷ b ∷ c ∷ d ∷ e ∷ []) _ i p refl, written_fives p v f i (omega arith))

pub written : (k : ℕ) (p : Place) → value_of p < 2 ^ 32 → (b : List ℕ) (i : ℕ) → i < k → 5 * k ≤ length b
    → places k (placed b i p) ≡ write (places k b) i p
written k p v b i h l = written_fives p v (fives k b l) i h

pub length_placed : (b : List ℕ) (i : ℕ) (p : Place) → length (placed b i p) ≡ length b
unfolding placed stored
length_placed b i p = simp length-set

-- ---- the bytes again

-- bytes are those of the word that they say
bytes_fives : {k : ℕ} {b : List ℕ} → Fives k b → 5 * k ≡ length b → Bytes b → place_bytes (places k b) ≡ b
unfolding places place_bytes whole_bytes value_of tag_of
bytes_fives {b = []} none len small = refl
bytes_fives {b = a ∷ b} none len small = absurd (omega arith)
bytes_fives (more a b c d e f) len small =
    let w = a + 2 ^ 8 * b + 2 ^ 16 * (c + 2 ^ 8 * d) in
    let ha : a < 256 = small 0 in
    let hb : b < 256 = small 1 in
    let hc : c < 256 = small 2 in
    let hd : d < 256 = small 3 in
    let e0 : w % 256 ≡ a = omega arith in
    let f1 : w / 256 ≡ b + 256 * (c + 256 * d) = omega arith in
    let e1 : (b + 256 * (c + 256 * d)) % 256 ≡ b = omega arith in
    let f2 : w / 65536 ≡ c + 256 * d = omega arith in
    let e2 : (c + 256 * d) % 256 ≡ c = omega arith in
    let e3 : w / 16777216 ≡ d = omega arith in
    rw (e0, f1, e1, f2, e2, e3, bytes_fives f (omega arith) (λ i. small (suc (suc (suc (suc (suc i)))))))

pub places_bytes : (k : ℕ) (b : List ℕ) → 5 * k ≡ length b → Bytes b → place_bytes (places k b) ≡ b
places_bytes k b len small = bytes_fives (fives k b (omega arith)) len small

pub bytes_write : (m : Memory) (i : ℕ) (p : Place) → i < length m → place_bytes (write m i p) ≡ placed (place_bytes m) i p
unfolding place_bytes whole_bytes placed stored
bytes_write [] i p h = absurd (omega arith)
bytes_write (x ∷ m) zero p h = refl
bytes_write (x ∷ m) (suc i) p h =
    rw (placed_past (whole_bytes (value_of x) ++ (tag_of x ∷ [])) (place_bytes m) i p refl, ← bytes_write m i p (omega arith))
