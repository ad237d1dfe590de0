-- The house policy: its three parts, and what the request leaves. Assumes nothing.
use Prim.Native.Nat.{ℕ, ◌<◌, ◌≤◌}
use mathlib.Core.Path.{◌≡◌, refl, ◌∙◌, ap}
use mathlib.Core.List.{List, [], ◌∷◌, ◌++◌}
use borrow.Author.Tests.{le-leb, lt-leb}
use borrow.Rule.Slice.PartMut.{put_mid}
use lib.ListN.{length, drop}
use lib.Seq.{drop-drop}
use Rattle.rules.specs.Policy.{house_header, house_joins, house_policy}
use Rattle.rules.specs.Ends.{refusal_number}
use Rattle.rules.specs.Judged.{housed, house_asked}

-- ---- the three parts

abbrev clearances : List ℕ
clearances = 0 ∷ 15 ∷ []

-- ---- the request

-- the three parts written one after the other: antt compares all 266 bytes at once
pub parts : (b : List ℕ) → put_mid 264 2 (put_mid 8 256 (house_header ++ drop 8 b) house_joins) clearances ≡ house_policy ++ drop 266 b
unfolding house_policy house_header house_joins
parts b = ap (λ (rest : List ℕ). house_policy ++ rest) (drop-drop 2 256 (drop 8 b) ∙ drop-drop 258 8 b)

pub no_room : (b : List ℕ) → length b < 266 → house_asked b ≡ record { number = 29; buffer = b }
unfolding house_asked housed refusal_number
no_room b h = rw (lt-leb 266 (length b))

pub room : (b : List ℕ) → 266 ≤ length b → house_asked b ≡ record { number = 0; buffer = house_policy ++ drop 266 b }
unfolding house_asked housed house_policy house_header house_joins
room b h = rw (le-leb 266 (length b))
