-- An answer is taken apart again, and the numbers of faults lead back. Assumes nothing.
use Prim.Native.Nat.{ℕ, ◌+◌, ◌-◌, ◌*◌, ◌/◌, ◌%◌, ◌^◌, ◌<◌, ◌≤◌}
use native.Mathlib.Omega.{arith}
use mathlib.Core.Path.{◌≡◌, refl, sym, ap}
use Rattle.rules.specs.declared.UnaryOp.{UnaryOp}
use Rattle.rules.specs.declared.UnaryOp.TheVariants.{Negate, Not, Absolute}
use Rattle.rules.specs.declared.BinaryOp.{BinaryOp}
use Rattle.rules.specs.declared.BinaryOp.TheVariants.{Add, Sub, Mul, Div, Rem, Less, LessEq, Equal, NotEqual}
use Rattle.rules.specs.declared.Stop.{Stop}
use Rattle.rules.specs.declared.Stop.TheVariants.{AssignTag, StoreTag, EmitTag, Index, Divisor, Room, Frames}
use Rattle.rules.specs.declared.Place.{Place}
use Rattle.rules.specs.Steps.{Valued}
use Rattle.std.specs.Prelude.{Ok, Err}
use Rattle.rules.specs.Policy.{Policy}
use Rattle.rules.specs.Memory.{value_of, tag_of}
use Rattle.rules.specs.Ends.{stop_number}
use Rattle.rules.proofs.Standing.{Proper, fault, value}
use Rattle.layout.specs.Tables.{of_unary, of_binary, shape_of, unary_operator, binary_operator}
use Rattle.layout.specs.Answers.{answer_of, worth_of, stop_from}

-- ---- numbers and operators

pub unary_shape : (op : UnaryOp) → shape_of (unary_operator op) ≡ of_unary op
unary_shape Negate = refl
unary_shape Not = refl
unary_shape Absolute = refl

pub binary_shape : (op : BinaryOp) → shape_of (binary_operator op) ≡ of_binary op
binary_shape Add = refl
binary_shape Sub = refl
binary_shape Mul = refl
binary_shape Div = refl
binary_shape Rem = refl
binary_shape Less = refl
binary_shape LessEq = refl
binary_shape Equal = refl
binary_shape NotEqual = refl

pub stop_back : (h : Stop) → stop_from (stop_number h) ≡ h
unfolding stop_from stop_number
stop_back AssignTag = refl
stop_back StoreTag = refl
stop_back EmitTag = refl
stop_back Index = refl
stop_back Divisor = refl
stop_back Room = refl
stop_back Frames = refl

pub stop_below : (h : Stop) → stop_number h < 9
unfolding stop_number
stop_below AssignTag = omega arith
stop_below StoreTag = omega arith
stop_below EmitTag = omega arith
stop_below Index = omega arith
stop_below Divisor = omega arith
stop_below Room = omega arith
stop_below Frames = omega arith

-- ---- answers

-- a place is read back from its answer
pub worth_back : (q : Place) → q.value < 2 ^ 32 → worth_of (q.value + 4294967296 * q.tag) ≡ q
worth_back q small =
    let v : (q.value + 4294967296 * q.tag) % 4294967296 ≡ q.value = omega arith in
    let g : (q.value + 4294967296 * q.tag) / 4294967296 ≡ q.tag = omega arith in
    rw (v, g)

-- the answer x stands for a value, or for a fault, whose number is its word
pub record Worthy (P : Policy) (x : ℕ) (o : Valued) : Type 0 where
  pub is : o ≡ Ok (worth_of x)
  pub good : x / 4294967296 < P.tags

pub record Faulty (x : ℕ) (o : Valued) : Type 0 where
  pub stop : Stop
  pub is : o ≡ Err stop
  pub word : x % 4294967296 ≡ stop_number stop
  pub back : stop_from (x - 9223372036854775808) ≡ stop

pub is_worth : {P : Policy} → P.tags ≤ 16 → {o : Valued} → Proper P o → {x : ℕ} → x ≡ answer_of o → x < 9223372036854775808 → Worthy P x o
unfolding value_of tag_of
is_worth few (value {p} k) e l = record { is = rw e (ap Ok (sym (worth_back p k.word))); good = omega (arith, k.good, k.word) }
is_worth few (fault {h}) e l = absurd (omega arith)

pub is_fault : {P : Policy} → P.tags ≤ 16 → {o : Valued} → Proper P o → {x : ℕ} → x ≡ answer_of o → 9223372036854775808 ≤ x → Faulty x o
is_fault few (value k) e l = absurd (omega (arith, k.good, k.word))
is_fault few (fault {h}) {x} e l =
    let d : x - 9223372036854775808 ≡ stop_number h = omega arith in
    record { stop = h; is = refl; word = omega (arith, stop_below h); back = rw d (stop_back h) }
