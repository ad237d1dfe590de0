-- An evaluated expression as one word of 64 bits: value + 2^32 tag, or, from 2^63 on, the number of the fault. A place is held
-- as the answer that it gives. Assumes nothing.
use Rattle.std.specs.Prelude.{ℕ, ◌+◌, ◌-◌, ◌*◌, ◌/◌, ◌%◌, [], ◌∷◌, get_or, Ok, Err}
use Rattle.rules.specs.declared.Stop.{Stop}
use Rattle.rules.specs.declared.Stop.TheVariants.{AssignTag, StoreTag, EmitTag, Index, Divisor, Room, Frames}
use Rattle.rules.specs.declared.Place.{Place}
use Rattle.rules.specs.Steps.{Valued}
use Rattle.rules.specs.Memory.{◌#◌, value_of, tag_of}
use Rattle.rules.specs.Ends.{stop_number}

abbrev pub answer_of : Valued → ℕ
answer_of (Ok p) = value_of p + 4294967296 * tag_of p
answer_of (Err h) = 9223372036854775808 + stop_number h

-- an answer that is no fault, as a place
abbrev pub worth_of : ℕ → Place
worth_of x = (x % 4294967296) # (x / 4294967296)

unfoldable pub stop_from : ℕ → Stop
stop_from n = get_or (AssignTag ∷ StoreTag ∷ EmitTag ∷ Index ∷ Divisor ∷ Room ∷ []) (n - 2) Frames
