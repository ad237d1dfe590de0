-- Little-endian numbers in a list of bytes. Assumes nothing.
use Rattle.std.specs.Prelude.{ℕ, ◌+◌, ◌*◌, ◌/◌, ◌%◌, ◌^◌, ◌<◌, List, [], ◌∷◌, get_or}

-- every number of the list is a byte
abbrev pub Bytes : List ℕ → Type 0
Bytes l = (i : ℕ) → get_or l i 0 < 256

abbrev pub byte : List ℕ → ℕ → ℕ
byte l i = get_or l i 0

-- the 16-bit and the 32-bit number that begin at byte i
abbrev pub half : List ℕ → ℕ → ℕ
half l i = byte l i + 2 ^ 8 * byte l (i + 1)

abbrev pub whole : List ℕ → ℕ → ℕ
whole l i = half l i + 2 ^ 16 * half l (i + 2)

-- the bytes of a 16-bit and of a 32-bit number
unfoldable pub half_bytes : ℕ → List ℕ
half_bytes n = n % 256 ∷ n / 256 ∷ []

unfoldable pub whole_bytes : ℕ → List ℕ
whole_bytes n = n % 256 ∷ n / 256 % 256 ∷ n / 65536 % 256 ∷ n / 16777216 ∷ []
