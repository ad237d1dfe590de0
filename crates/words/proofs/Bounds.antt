-- Every operator's result is a word. Assumes nothing.
use Rattle.std.proofs.Common.{ℕ, ◌^◌, ◌<◌, Bool, ℤ, arith}
use Rattle.words.specs.Word.{word, truth, negated, denied, absolute, sum, difference, product, quotient, remainder, less, less_equal, equal, not_equal}

pub word_below : (z : ℤ) → word z < 2 ^ 32
unfolding word
word_below z = grind arith

pub truth_below : (b : Bool) → truth b < 2 ^ 32
unfolding truth
truth_below b = grind arith

pub negated_below : (a : ℕ) → negated a < 2 ^ 32
unfolding negated
negated_below a = word_below _

pub denied_below : (a : ℕ) → denied a < 2 ^ 32
unfolding denied
denied_below a = truth_below _

pub absolute_below : (a : ℕ) → absolute a < 2 ^ 32
unfolding absolute
absolute_below a = word_below _

module _ (a b : ℕ) where
  pub sum_below : sum a b < 2 ^ 32
  unfolding sum
  sum_below = word_below _

  pub difference_below : difference a b < 2 ^ 32
  unfolding difference
  difference_below = word_below _

  pub product_below : product a b < 2 ^ 32
  unfolding product
  product_below = word_below _

  pub quotient_below : quotient a b < 2 ^ 32
  unfolding quotient
  quotient_below = word_below _

  pub remainder_below : remainder a b < 2 ^ 32
  unfolding remainder
  remainder_below = word_below _

  pub less_below : less a b < 2 ^ 32
  unfolding less
  less_below = truth_below _

  pub less_equal_below : less_equal a b < 2 ^ 32
  unfolding less_equal
  less_equal_below = truth_below _

  pub equal_below : equal a b < 2 ^ 32
  unfolding equal
  equal_below = truth_below _

  pub not_equal_below : not_equal a b < 2 ^ 32
  unfolding not_equal
  not_equal_below = truth_below _
