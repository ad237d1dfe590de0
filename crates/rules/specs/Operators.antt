-- The operators of expressions. Assumes nothing.
use Rattle.std.specs.Prelude.{ℕ, Bool, true, not, eqb}
use Rattle.rules.specs.declared.UnaryOp.{UnaryOp}
use Rattle.rules.specs.declared.UnaryOp.TheVariants.{Negate, Not, Absolute}
use Rattle.rules.specs.declared.BinaryOp.{BinaryOp}
use Rattle.rules.specs.declared.BinaryOp.TheVariants.{Add, Sub, Mul, Div, Rem, Less, LessEq, Equal, NotEqual}
use Rattle.words.specs.Word.{negated, denied, absolute, sum, difference, product, quotient, remainder, less, less_equal, equal, not_equal}

unfoldable pub unary : UnaryOp → ℕ → ℕ
unary Negate a = negated a
unary Not a = denied a
unary Absolute a = absolute a

unfoldable pub binary : BinaryOp → ℕ → ℕ → ℕ
binary Add a b = sum a b
binary Sub a b = difference a b
binary Mul a b = product a b
binary Div a b = quotient a b
binary Rem a b = remainder a b
binary Less a b = less a b
binary LessEq a b = less_equal a b
binary Equal a b = equal a b
binary NotEqual a b = not_equal a b

-- the operator can be carried out: there is no zero divisor
unfoldable pub divides : BinaryOp → ℕ → Bool
divides Div b = not (eqb b 0)
divides Rem b = not (eqb b 0)
divides Add b = true
divides Sub b = true
divides Mul b = true
divides Less b = true
divides LessEq b = true
divides Equal b = true
divides NotEqual b = true
