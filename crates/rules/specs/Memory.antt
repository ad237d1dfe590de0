-- The memory and the records: how they are read from bytes and written back, and the memory's check (27, 28). Assumes nothing.
use Rattle.std.specs.Prelude.{ℕ, zero, suc, ◌+◌, ◌*◌, List, [], ◌∷◌, ◌++◌, ltb, eqb, length, get_or, set, drop}
use Rattle.rules.specs.declared.Place.{Place}
use Rattle.rules.specs.declared.Refusal.TheVariants.{MemoryLength, MemoryTag}
use Rattle.rules.specs.Checks.{Checked, require, ◌and_then◌, up_to}
use Rattle.rules.specs.Bytes.{byte, whole, whole_bytes}
use Rattle.rules.specs.Recipe.{Recipe}

-- ---- places

infix 80 ◌#◌
-- a value and its tag
abbrev pub ◌#◌ : (value tag : ℕ) → Place
v # t = record { value = v; tag = t }

unfoldable pub value_of : Place → ℕ
value_of p = p.value

unfoldable pub tag_of : Place → ℕ
tag_of p = p.tag

-- the variables, then the cells
abbrev pub Memory : Type 0
Memory = List Place

abbrev pub place_at : Memory → ℕ → Place
place_at m i = get_or m i (0 # 0)

abbrev pub write : Memory → ℕ → Place → Memory
write m i p = set m i p

-- ---- the memory's bytes, five a place

unfoldable pub places : (count : ℕ) → List ℕ → Memory
places zero bytes = []
places (suc k) bytes = whole bytes 0 # byte bytes 4 ∷ places k (drop 5 bytes)

abbrev pub count : Recipe → ℕ
count R = R.vars + R.cells

abbrev pub places_of : Recipe → List ℕ → Memory
places_of R bytes = places (count R) bytes

unfoldable pub place_bytes : Memory → List ℕ
place_bytes [] = []
place_bytes (p ∷ m) = whole_bytes (value_of p) ++ (tag_of p ∷ place_bytes m)

-- ---- the check, against a policy of n tags

abbrev pub check_tag : (tags : ℕ) → Memory → ℕ → Checked
check_tag n m i = require (ltb (tag_of (place_at m i)) n) (MemoryTag i)

unfoldable pub check_memory : Recipe → (tags : ℕ) → List ℕ → Checked
check_memory R n m =
    require (eqb (length m) (5 * count R)) MemoryLength
    and_then up_to (count R) (check_tag n (places_of R m))

-- ---- records

-- a port and a value
pub data Record : Type 0 where
  out : (port value : ℕ) → Record

unfoldable pub record_bytes : List Record → List ℕ
record_bytes [] = []
record_bytes (out port v ∷ r) = port ∷ (whole_bytes v ++ record_bytes r)

unfoldable pub records_of : (count : ℕ) → List ℕ → List Record
records_of zero bytes = []
records_of (suc k) bytes = out (byte bytes 0) (whole bytes 1) ∷ records_of k (drop 5 bytes)
