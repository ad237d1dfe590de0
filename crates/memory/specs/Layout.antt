-- How numbers, places and records are set into bytes that are already there. Assumes nothing.
use Rattle.std.specs.Prelude.{ℕ, ◌+◌, ◌*◌, ◌/◌, ◌%◌, ◌≡◌, List, ◌++◌, length, set, drop}
use Rattle.rules.specs.declared.Place.{Place}
use Rattle.rules.specs.Memory.{value_of, tag_of, Record, record_bytes}

-- the two bytes of a 16-bit number and the four of a word, from byte o
unfoldable pub stored_half : List ℕ → (o half : ℕ) → List ℕ
stored_half b o h = set (set b o (h % 256)) (o + 1) (h / 256)

unfoldable pub stored : List ℕ → (o word : ℕ) → List ℕ
stored b o w = set (set (set (set b o (w % 256)) (o + 1) (w / 256 % 256)) (o + 2) (w / 65536 % 256)) (o + 3) (w / 16777216)

-- place i of a memory
unfoldable pub placed : List ℕ → (i : ℕ) → Place → List ℕ
placed b i p = set (stored b (5 * i) (value_of p)) (5 * i + 4) (tag_of p)

-- a record from byte o
unfoldable pub recorded : List ℕ → (o port word : ℕ) → List ℕ
recorded b o port w = stored (set b o port) (o + 1) w

-- the buffer q₀ with the records r at its front
pub record Holds (q₀ q : List ℕ) (r : List Record) (count : ℕ) : Type 0 where
  pub counted : length r ≡ count
  pub bytes : q ≡ record_bytes r ++ drop (5 * count) q₀
