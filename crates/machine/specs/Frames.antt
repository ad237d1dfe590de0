-- How the run holds frames: one word each, 8192 kind + 16 statement + tag, above an empty word. Assumes nothing.
use Rattle.std.specs.Prelude.{ℕ, suc, ◌+◌, ◌*◌, ◌≡◌, List, [], ◌∷◌, get_or}
use Rattle.rules.specs.declared.Frame.{Frame}
use Rattle.rules.specs.declared.Frame.TheVariants.{Next, Join, Loop}

abbrev pub word_of : Frame → ℕ
word_of (Next a) = 8192 * 7 + 16 * a + 0
word_of (Join t) = 8192 * 8 + 16 * 0 + t
word_of (Loop s t) = 8192 * 9 + 16 * s + t

-- the words up to d hold these frames, the top first
pub data Held (st : List ℕ) : (d : ℕ) → List Frame → Type 0 where
  none : get_or st 0 0 ≡ 81920 → Held st 0 []
  more : {d : ℕ} {l : List Frame} (f : Frame) → get_or st (suc d) 0 ≡ word_of f → Held st d l → Held st (suc d) (f ∷ l)
