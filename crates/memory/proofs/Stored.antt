-- Bytes set past a front that stays. Assumes nothing.
use Prim.Native.Nat.{ℕ, zero, suc, ◌+◌, ◌≤◌, ◌<◌, ◌^◌, ◌/◌, ◌%◌}
use native.Mathlib.Omega.{arith}
use mathlib.Core.Path.{◌≡◌, refl, sym, ap, ◌∙◌}
use mathlib.Core.List.{List, [], ◌∷◌, ◌++◌}
use lib.ListN.{length, set, take, drop, length-take, length-drop, take-append-drop}
use borrow.Rule.Slice.PartMut.{put_mid}
use Rattle.std.specs.Int.{w16, w32, to_le_bytes}
use Rattle.rules.specs.Bytes.{half_bytes, whole_bytes}
use Rattle.memory.specs.Layout.{stored, stored_half}

-- ---- byte n past the front x is byte j of what follows

pub set_past : (x l : List ℕ) (n j v : ℕ) → n ≡ length x + j → set (x ++ l) n v ≡ x ++ set l j v
set_past [] l n j v e =
    let q : n ≡ j = omega arith in
    rw q
set_past (y ∷ x) l zero j v e = absurd (omega arith)
set_past (y ∷ x) l (suc n) j v e = ap (λ (t : List ℕ). y ∷ t) (set_past x l n j v (omega arith))

-- ---- bytes set one after the other, from byte o

abbrev set_all : List ℕ → (o : ℕ) → List ℕ → List ℕ
set_all b o [] = b
set_all b o (v ∷ vs) = set_all (set b o v) (o + 1) vs

all_past : (x l vs : List ℕ) (o j : ℕ) → o ≡ length x + j → set_all (x ++ l) o vs ≡ x ++ set_all l j vs
all_past x l [] o j e = refl
all_past x l (v ∷ vs) o j e = rw (set_past x l o j v e, all_past x (set l j v) vs (o + 1) (j + 1) (omega arith))

all_front : (b vs : List ℕ) → length vs ≤ length b → set_all b 0 vs ≡ vs ++ drop (length vs) b
all_front b [] l = refl
all_front [] (v ∷ vs) l = absurd (omega arith)
all_front (a ∷ b) (v ∷ vs) l = rw (all_past (v ∷ []) b vs 1 0 refl, all_front b vs (omega arith))

all_after : (x b vs : List ℕ) (o : ℕ) → o ≡ length x → length vs ≤ length b → set_all (x ++ b) o vs ≡ x ++ (vs ++ drop (length vs) b)
all_after x b vs o e l = rw (all_past x b vs o 0 (omega arith), all_front b vs l)

-- as a write to a part of a slice leaves it
all_part : (b vs : List ℕ) (o : ℕ) → o + length vs ≤ length b → set_all b o vs ≡ put_mid o (length vs) b vs
all_part b vs o l =
    ap (λ (t : List ℕ). set_all t o vs) (sym (take-append-drop o b))
    ∙ all_after (take o b) (drop o b) vs o (omega (arith, length-take o b)) (omega (arith, length-drop o b))

-- ---- the bytes of a number

half_all : (b : List ℕ) (o h : ℕ) → stored_half b o h ≡ set_all b o (half_bytes h)
unfolding stored_half half_bytes
half_all b o h = refl

word_all : (b : List ℕ) (o w : ℕ) → stored b o w ≡ set_all b o (whole_bytes w)
unfolding stored whole_bytes
word_all b o w =
    let e : o + 1 + 1 ≡ o + 2 = omega arith in
    let f : o + 2 + 1 ≡ o + 3 = omega arith in
    rw (e, f)

pub word_past : (x l : List ℕ) (o j w : ℕ) → o ≡ length x + j → stored (x ++ l) o w ≡ x ++ stored l j w
word_past x l o j w e = rw (word_all (x ++ l) o w, word_all l j w) (all_past x l (whole_bytes w) o j e)

pub half_after : (x b : List ℕ) (o h : ℕ) → o ≡ length x → 2 ≤ length b → stored_half (x ++ b) o h ≡ x ++ (half_bytes h ++ drop 2 b)
unfolding half_bytes
half_after x b o h e l = half_all (x ++ b) o h ∙ all_after x b (half_bytes h) o e l

pub word_after : (x b : List ℕ) (o w : ℕ) → o ≡ length x → 4 ≤ length b → stored (x ++ b) o w ≡ x ++ (whole_bytes w ++ drop 4 b)
unfolding whole_bytes
word_after x b o w e l = word_all (x ++ b) o w ∙ all_after x b (whole_bytes w) o e l

pub half_part : (b : List ℕ) (o h : ℕ) → h < 2 ^ 16 → o + 1 < length b → stored_half b o h ≡ put_mid o 2 b (to_le_bytes w16 h)
unfolding half_bytes
half_part b o h f l =
    let e : h / 256 % 256 ≡ h / 256 = omega arith in
    rw e (half_all b o h ∙ all_part b (half_bytes h) o (omega arith))

pub word_part : (b : List ℕ) (o w : ℕ) → w < 2 ^ 32 → o + 3 < length b → stored b o w ≡ put_mid o 4 b (to_le_bytes w32 w)
unfolding whole_bytes
word_part b o w f l =
    let e : w / 16777216 % 256 ≡ w / 16777216 = omega arith in
    rw e (word_all b o w ∙ all_part b (whole_bytes w) o (omega arith))
