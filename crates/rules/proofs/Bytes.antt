-- From bytes to data and back: what is read from bytes is words, and what was written is read again. Assumes nothing.
use Prim.Native.Nat.{ℕ, zero, suc, ◌+◌, ◌*◌, ◌/◌, ◌%◌, ◌^◌, ◌<◌, ◌≤◌}
use native.Mathlib.Nat.{mul-le-mul_right}
use native.Mathlib.Decide.{dec_lt}
use native.Mathlib.Omega.{arith}
use mathlib.Core.Path.{◌≡◌, refl, ap}
use mathlib.Core.Bool.{Bool, true, false}
use mathlib.Core.List.{List, [], ◌∷◌, ◌++◌}
use lib.ListN.{length, drop, get_or-eq_default}
use lib.Seq.{get_or-drop}
use Rattle.rules.specs.declared.Expr.{Expr}
use Rattle.rules.specs.Bytes.{Bytes, byte, whole, whole_bytes}
use Rattle.rules.specs.Policy.{Policy, policy_of}
use Rattle.rules.specs.Recipe.{Recipe, recipe_of, expr_if, unary_expr, binary_expr, expr_of, expr}
use Rattle.rules.specs.Memory.{Memory, ◌#◌, value_of, tag_of, place_at, places, count, places_of, place_bytes, Record, out, record_bytes, records_of}
use Rattle.rules.specs.Accepted.{WellFormed, LawfulPolicy, WellTagged, Accepted}
use Rattle.rules.proofs.Tags.{Lawful, Good}
use Rattle.rules.proofs.Standing.{WordIn, Sound, PlacesOk, WordsOk}

-- ---- words

pub whole_below : (b : List ℕ) → Bytes b → (i : ℕ) → whole b i < 2 ^ 32
whole_below b small i = omega (arith, small i, small (i + 1), small (i + 2), small (i + 2 + 1))

bytes_drop : (n : ℕ) (b : List ℕ) → Bytes b → Bytes (drop n b)
bytes_drop n b small i = rw (get_or-drop n b i 0) (small (n + i))

pub word_back : (w : ℕ) → w < 2 ^ 32 → w % 256 + 2 ^ 8 * (w / 256 % 256) + 2 ^ 16 * (w / 65536 % 256 + 2 ^ 8 * (w / 16777216)) ≡ w
word_back w h = omega arith

-- ---- the recipe: its constants are words

word_if : (t : Bool) (x : Expr) → WordIn x → WordIn (expr_if t x)
unfolding expr_if
word_if true x h = h
word_if false x h = tt

word_unary : (operator a : ℕ) → WordIn (unary_expr operator a)
unfolding unary_expr
word_unary zero a = tt
word_unary (suc zero) a = tt
word_unary (suc (suc zero)) a = tt
word_unary (suc (suc (suc n))) a = tt

word_binary : (operator a b : ℕ) → WordIn (binary_expr operator a b)
unfolding binary_expr
word_binary zero a b = tt
word_binary (suc zero) a b = tt
word_binary (suc (suc zero)) a b = tt
word_binary (suc (suc (suc zero))) a b = tt
word_binary (suc (suc (suc (suc zero)))) a b = tt
word_binary (suc (suc (suc (suc (suc zero))))) a b = tt
word_binary (suc (suc (suc (suc (suc (suc zero)))))) a b = tt
word_binary (suc (suc (suc (suc (suc (suc (suc zero))))))) a b = tt
word_binary (suc (suc (suc (suc (suc (suc (suc (suc zero)))))))) a b = tt
word_binary (suc (suc (suc (suc (suc (suc (suc (suc (suc n))))))))) a b = tt

word_in : (kind operator a b : ℕ) → b < 2 ^ 32 → WordIn (expr_of kind operator a b)
unfolding expr_of
word_in zero operator a b h = tt
word_in (suc zero) operator a b h = word_if _ _ h
word_in (suc (suc zero)) operator a b h = word_if _ _ tt
word_in (suc (suc (suc zero))) operator a b h = word_if _ _ tt
word_in (suc (suc (suc (suc zero)))) operator a b h = word_if _ _ (word_unary operator a)
word_in (suc (suc (suc (suc (suc zero))))) operator a b h = word_binary operator a b
word_in (suc (suc (suc (suc (suc (suc n)))))) operator a b h = tt

-- ---- the policy

pub lawful : (p : List ℕ) → LawfulPolicy p → Lawful (policy_of p)
lawful p ok =
    let n = byte p 6 in
    record {
      some_tag = ok.some_tag;
      join_below = λ t u ht hu.
          let e : 8 + (t * n + u) ≡ 8 + t * n + u = omega arith in
          rw e at (ok.entries (t * n + u) (omega (arith, mul-le-mul_right n ht)));
      clearance_below = λ port. clearance port (dec_lt port (byte p 7));
      laws = ok.laws;
    }
  where
    clearance : (port : ℕ) → Dec (port < byte p 7) → (policy_of p).clearance port < byte p 6
    clearance port (yes h) =
        let e : 8 + (byte p 6 * byte p 6 + port) ≡ 8 + byte p 6 * byte p 6 + port = omega arith in
        rw e at (ok.entries (byte p 6 * byte p 6 + port) (omega arith))
    clearance port (no h) =
        let e : length p ≤ 8 + byte p 6 * byte p 6 + port = omega (arith, ok.long) in
        rw (get_or-eq_default p 0 e) ok.some_tag

pub sound_of : (r p : List ℕ) → Bytes r → WellFormed r → LawfulPolicy p → Sound (policy_of p) (recipe_of r)
unfolding expr
sound_of r p small a ok =
    record {
      lawful = lawful p ok;
      ordered = a.ordered;
      some_stmt = a.counts.some_stmt;
      words = λ e. word_in _ _ _ _ (whole_below r small (16 + 8 * e + 4));
    }

pub sound : (r p m : List ℕ) → Bytes r → Accepted r p m → Sound (policy_of p) (recipe_of r)
sound r p m small a = sound_of r p small a.recipe a.policy

-- ---- the memory

pub length_places : (k : ℕ) (b : List ℕ) → length (places k b) ≡ k
unfolding places
length_places zero b = refl
length_places (suc k) b = ap suc (length_places k (drop 5 b))

words_read : (k : ℕ) (b : List ℕ) → Bytes b → (i : ℕ) → value_of (place_at (places k b) i) < 2 ^ 32
unfolding places value_of
words_read zero b small i = omega arith
words_read (suc k) b small zero = whole_below b small 0
words_read (suc k) b small (suc i) = words_read k (drop 5 b) (bytes_drop 5 b small) i

pub places_ok : (R : Recipe) (P : Policy) (m : List ℕ) → Bytes m → 0 < P.tags → WellTagged R P.tags m → PlacesOk P (places_of R m)
unfolding tag_of
places_ok R P m small some ok = record { ok = λ i. record { good = tag i (dec_lt i (count R)); word = words_read (count R) m small i } }
  where
    tag : (i : ℕ) → Dec (i < count R) → Good P (tag_of (place_at (places_of R m) i))
    tag i (yes h) = ok.tags_below i h
    tag i (no h) =
        let e : length (places_of R m) ≤ i = omega (arith, length_places (count R) m) in
        rw (get_or-eq_default (places_of R m) (0 # 0) e) some

pub places_back : (m : Memory) → ((i : ℕ) → value_of (place_at m i) < 2 ^ 32) → places (length m) (place_bytes m) ≡ m
unfolding places place_bytes whole_bytes value_of tag_of
places_back [] h = refl
places_back (p ∷ m) h = rw (word_back p.value (h 0), places_back m (λ i. h (suc i)))

pub length_bytes : (m : Memory) → length (place_bytes m) ≡ 5 * length m
unfolding place_bytes whole_bytes
length_bytes [] = refl
length_bytes (p ∷ m) = omega (arith, length_bytes m)

-- ---- the records

pub records_back : (r : List Record) (rest : List ℕ) → WordsOk r → records_of (length r) (record_bytes r ++ rest) ≡ r
unfolding records_of record_bytes whole_bytes
records_back [] rest h = refl
records_back (out port v ∷ r) rest h = rw (word_back v h.0, records_back r rest h.1)

pub length_records : (r : List Record) → length (record_bytes r) ≡ 5 * length r
unfolding record_bytes whole_bytes
length_records [] = refl
length_records (out port v ∷ r) = omega (arith, length_records r)
