-- The operators on packed answers x and y: value + 2^32 tag each. Assumes nothing.
use Rattle.std.specs.Prelude.{ℕ, true, ◌+◌, ◌-◌, ◌/◌, ◌%◌, ◌<◌, ◌≤◌, ◌≡◌, List, ltb, get_or, Ok}
use Rattle.rules.specs.declared.UnaryOp.{UnaryOp}
use Rattle.rules.specs.declared.BinaryOp.{BinaryOp}
use Rattle.rules.specs.declared.Stop.TheVariants.{Index, Divisor}
use Rattle.rules.specs.Operators.{unary, binary, divides}
use Rattle.rules.specs.Memory.{◌#◌}
use Rattle.rules.specs.Steps.{Valued, given}
use Rattle.layout.specs.declared.Tables.{Tables}
use Rattle.layout.specs.declared.Operator.{Operator}
use Rattle.layout.specs.declared.Operator.TheVariants.{Cell}
use Rattle.layout.specs.Tables.{Shape, of_cell, of_unary, of_binary, shape_of, has_two, join_in}
use Rattle.layout.specs.Answers.{answer_of, worth_of, stop_from}

-- the tag and the word of a packed answer
abbrev pub tag_in : ℕ → ℕ
tag_in x = x / 4294967296

abbrev pub word_in : ℕ → ℕ
word_in x = x % 4294967296

-- a packed answer, opened
abbrev pub opened_of : ℕ → Valued
opened_of x = given (ltb x 9223372036854775808) (stop_from (x - 9223372036854775808)) (Ok (worth_of x))

abbrev pub unary_in : (op : UnaryOp) (x : ℕ) → ℕ
unary_in op x = answer_of (Ok (unary op (word_in x) # tag_in x))

abbrev pub binary_in : (t : Tables) (op : BinaryOp) (x y : ℕ) → ℕ
binary_in t op x y = answer_of (given (divides op (word_in y)) Divisor (Ok (binary op (word_in x) (word_in y) # join_in t (tag_in x) (tag_in y))))

-- the cell at the index in x
abbrev pub cell_place : (t : Tables) (x : ℕ) → ℕ
cell_place t x = t.vars + word_in x

abbrev pub cell_in : (t : Tables) (u : List ℕ) (x : ℕ) → ℕ
cell_in t u x =
    let c = get_or u (cell_place t x) 0 in
    answer_of (given (ltb (word_in x) (t.cells)) Index (Ok (word_in c # join_in t (tag_in c) (tag_in x))))

-- an index below the number of cells names a place
pub record CellAsked (t : Tables) (u : List ℕ) (x : ℕ) : Type 0 where
  pub few : t.cells ≤ 1024
  pub inside : word_in x < t.cells → cell_place t x < 2112
  pub tags : word_in x < t.cells → (tag_in (get_or u (cell_place t x) 0) < 16) × (tag_in x < 16)

-- an operator on x and, if it has two operands, y
abbrev pub applied_by : (t : Tables) (u : List ℕ) (s : Shape) (x y : ℕ) → ℕ
applied_by t u of_cell x y = cell_in t u x
applied_by t u (of_unary op) x y = unary_in op x
applied_by t u (of_binary op) x y = binary_in t op x y

abbrev pub applied_in : (t : Tables) (u : List ℕ) (k : Operator) (x y : ℕ) → ℕ
applied_in t u k x y = applied_by t u (shape_of k) x y

pub record Applies (t : Tables) (u : List ℕ) (k : Operator) (x y : ℕ) : Type 0 where
  pub cell : k ≡ Cell → CellAsked t u x
  pub tags : has_two k ≡ true → (tag_in x < 16) × (tag_in y < 16)
