-- What std's methods give is the exact result, wrapped round at 32 bits. Assumes nothing.
use Rattle.std.proofs.Common.{◌≡◌, ℕ, ◌+◌, ◌-◌, ◌*◌, ◌%◌, ◌^◌, ◌<◌, ◌≤◌, Bool, not, eqb, w32, ℤ, nat_abs, to_z, of_z, div-le_self, arith}
use Rattle.std.proofs.lemmas.Int.{ints, of_z-to_z, to_z-of_z, wrapping_mul-bits}
use Rattle.std.specs.Int.{from_bool, int_wrap}
use Rattle.std.specs.Int.Signed.{lt_z, le_z, quot_z, rem_z}
use native.Mathlib.Nat.{mod-le}
use Rattle.words.specs.Word.{int, word, truth, negated, denied, absolute, sum, difference, product, quotient, remainder, less, less_equal, equal, not_equal}

-- a word's integer is its signed reading
signed : (a : ℕ) → int a ≡ to_z w32 a
unfolding int
signed a = grind (arith, ints)

truth_is : (b : Bool) → truth b ≡ from_bool b
unfolding truth
truth_is b = grind arith

word_wraps : (z : ℤ) → word z ≡ of_z w32 (int_wrap w32 z)
unfolding word int_wrap
word_wraps z = grind (arith, ints)

-- ---- a quotient or a remainder is no larger than its left side, so no more than 2 ^ 31, and nothing of it is lost

word_is : (z : ℤ) → nat_abs z ≤ 2 ^ 31 → word z ≡ of_z w32 z
unfolding word
word_is z h = grind (arith, ints)

quotient_small : (x y : ℤ) → nat_abs (quot_z x y) ≤ nat_abs x
quotient_small x y = grind (arith, ints, div-le_self)

remainder_small : (x y : ℤ) → nat_abs (rem_z x y) ≤ nat_abs x
remainder_small x y = grind (arith, ints, mod-le)

-- ---- the operators

pub denied_is : (a : ℕ) → denied a ≡ from_bool (eqb a 0)
unfolding denied
denied_is a = truth_is _

module _ {a : ℕ} (h : a < 2 ^ 32) where
  pub negated_is : negated a ≡ (2 ^ 32 - a) % 2 ^ 32
  unfolding negated int word
  negated_is = grind (arith, ints)

  pub absolute_is : absolute a ≡ nat_abs (to_z w32 a)
  unfolding absolute int word
  absolute_is = grind (arith, ints)

module _ {a b : ℕ} (h : a < 2 ^ 32) (k : b < 2 ^ 32) where
  pub sum_is : sum a b ≡ (a + b) % 2 ^ 32
  unfolding sum int word
  sum_is = grind (arith, ints)

  pub difference_is : difference a b ≡ (a + (2 ^ 32 - b)) % 2 ^ 32
  unfolding difference int word
  difference_is = grind (arith, ints)

  pub product_is : product a b ≡ a * b % 2 ^ 32
  unfolding product
  product_is = rw (signed a, signed b, word_wraps, ← wrapping_mul-bits w32 a b h k) (of_z-to_z w32 _ (omega arith))

  pub quotient_is : quotient a b ≡ of_z w32 (to_z w32 (of_z w32 (quot_z (to_z w32 a) (to_z w32 b))))
  unfolding quotient
  quotient_is = grind (arith, ints, signed, word_is, quotient_small, of_z-to_z)

  pub remainder_is : remainder a b ≡ of_z w32 (rem_z (to_z w32 a) (to_z w32 b))
  unfolding remainder
  remainder_is = grind (arith, ints, signed, word_is, remainder_small)

module _ (a b : ℕ) where
  pub equal_is : equal a b ≡ from_bool (eqb a b)
  unfolding equal
  equal_is = truth_is _

  pub not_equal_is : not_equal a b ≡ from_bool (not (eqb a b))
  unfolding not_equal
  not_equal_is = truth_is _

  pub less_is : less a b ≡ from_bool (lt_z (to_z w32 a) (to_z w32 b))
  unfolding less
  less_is = grind (arith, signed, truth_is)

  pub less_equal_is : less_equal a b ≡ from_bool (le_z (to_z w32 a) (to_z w32 b))
  unfolding less_equal
  less_equal_is = grind (arith, signed, truth_is)

-- what the functions' proofs take
pub ruleset exact = (to_z-of_z, negated_is, denied_is, absolute_is, sum_is, difference_is, product_is, quotient_is, remainder_is, less_is, less_equal_is, equal_is, not_equal_is)
