-- 32-bit words: numbers below 2^32, read as signed integers in two's complement.
-- Every operator is the exact one on the integers, wrapped round at 32 bits. Assumes nothing.
use Rattle.std.specs.Prelude.{ℕ, ◌-◌, ◌%◌, ◌^◌, Bool, true, false, cond, not, ℤ, pos, negsuc, ◌+ℤ◌, ◌-ℤ◌, ◌*ℤ◌, neg_ℤ, ◌==◌, int_div, int_le, int_lt, int_rem, nat_lt, unsigned_abs}

-- the integer that a word stands for; `negsuc n` is -(n + 1)
unfoldable pub int : ℕ → ℤ
int w = cond (nat_lt w (2 ^ 31)) (pos w) (negsuc (2 ^ 32 - 1 - w))

-- the word of an integer, wrapped round
unfoldable pub word : ℤ → ℕ
word (pos n) = n % 2 ^ 32
word (negsuc n) = 2 ^ 32 - 1 - n % 2 ^ 32

-- comparisons and not give 1 or 0
unfoldable pub truth : Bool → ℕ
truth true = 1
truth false = 0

unfoldable pub negated : ℕ → ℕ
negated a = word (neg_ℤ (int a))

unfoldable pub denied : ℕ → ℕ
denied a = truth (a == 0)

unfoldable pub absolute : ℕ → ℕ
absolute a = word (pos (unsigned_abs (int a)))

unfoldable pub sum : ℕ → ℕ → ℕ
sum a b = word (int a +ℤ int b)

unfoldable pub difference : ℕ → ℕ → ℕ
difference a b = word (int a -ℤ int b)

unfoldable pub product : ℕ → ℕ → ℕ
product a b = word (int a *ℤ int b)

-- towards zero
unfoldable pub quotient : ℕ → ℕ → ℕ
quotient a b = word (int_div (int a) (int b))

-- with the sign of the left side
unfoldable pub remainder : ℕ → ℕ → ℕ
remainder a b = word (int_rem (int a) (int b))

unfoldable pub less : ℕ → ℕ → ℕ
less a b = truth (int_lt (int a) (int b))

unfoldable pub less_equal : ℕ → ℕ → ℕ
less_equal a b = truth (int_le (int a) (int b))

unfoldable pub equal : ℕ → ℕ → ℕ
equal a b = truth (a == b)

unfoldable pub not_equal : ℕ → ℕ → ℕ
not_equal a b = truth (not (a == b))
