-- The house policy: the rule of its table, once over all entries; from the rule, that it is accepted. Assumes nothing.
use Prim.Native.Nat.{ℕ, zero, suc, ◌+◌, ◌*◌, ◌/◌, ◌%◌, ◌<◌, max}
use native.Mathlib.Omega.{arith}
use native.Mathlib.Nat.{max_comm, zero-max}
use native.Mathlib.Decide.{dec_lt}
use mathlib.Core.Path.{◌≡◌, refl}
use mathlib.Core.Bool.{Bool, true, ◌&&◌}
use lib.Dec.{eqb}
use borrow.Author.Tests.{eqb-true}
use Rattle.std.specs.Prelude.{Ok}
use Rattle.rules.specs.Bytes.{byte}
use Rattle.rules.specs.Checks.{every}
use Rattle.rules.specs.Policy.{Policy, policy_of, union_of, house_header, house_joins, house_policy, check_policy}
use Rattle.rules.specs.Accepted.{Laws, LawfulPolicy}
use Rattle.rules.proofs.Checks.{each}
use Rattle.rules.proofs.Accepts.{lawful_policy}

-- ---- the table

right : ℕ → Bool
right k = eqb (byte house_policy (8 + k)) (union_of (k / 16) (k % 16))

all_right : every 256 right ≡ true
unfolding every right house_policy house_header house_joins union_of
all_right = refl

entry : (k : ℕ) → k < 256 → byte house_policy (8 + k) ≡ union_of (k / 16) (k % 16)
unfolding right
entry k h = eqb-true _ _ (each 256 right all_right k h)

tags_16 : byte house_policy 6 ≡ 16
unfolding house_policy house_header
tags_16 = refl

-- entry (a,b) is the union of the sets
pub house_rule : (a b : ℕ) → a < 16 → b < 16 → (policy_of house_policy).join a b ≡ union_of a b
house_rule a b ha hb =
    let e = entry (a * 16 + b) (omega arith) in
    let i : 8 + (a * 16 + b) ≡ 8 + a * 16 + b = omega arith in
    let d : (a * 16 + b) / 16 ≡ a = omega arith in
    let m : (a * 16 + b) % 16 ≡ b = omega arith in
    rw tags_16 (rw (i, d, m) at e)

-- ---- the union, bit by bit

-- a camera is in the set or not
data Bit : ℕ → Type 0 where
  off : Bit 0
  on : Bit 1

bit : (n : ℕ) → n < 2 → Bit n
bit zero h = off
bit (suc zero) h = on
bit (suc (suc n)) h = absurd (omega arith)

bit_of_lem : (n : ℕ) → Bit (n % 2)
bit_of_lem n = bit (n % 2) (omega arith)

max_bit : {x y : ℕ} → Bit x → Bit y → max x y < 2
max_bit off off = omega arith
max_bit off on = omega arith
max_bit on off = omega arith
max_bit on on = omega arith

max_self : {x : ℕ} → Bit x → max x x ≡ x
max_self off = refl
max_self on = refl

max_assoc : {x y z : ℕ} → Bit x → Bit y → Bit z → max (max x y) z ≡ max x (max y z)
max_assoc off off off = refl
max_assoc off off on = refl
max_assoc off on off = refl
max_assoc off on on = refl
max_assoc on off off = refl
max_assoc on off on = refl
max_assoc on on off = refl
max_assoc on on on = refl

-- four bits, and each of them again
abbrev four : (x y z w : ℕ) → ℕ
four x y z w = 8 * x + 4 * y + 2 * z + 1 * w

module _ {x y z w : ℕ} (hx : x < 2) (hy : y < 2) (hz : z < 2) (hw : w < 2) where
  bit_8 : four x y z w / 8 % 2 ≡ x
  bit_8 = let e : four x y z w / 8 ≡ x = omega arith in rw e (omega arith)

  bit_4 : four x y z w / 4 % 2 ≡ y
  bit_4 = let e : four x y z w / 4 ≡ 2 * x + y = omega arith in rw e (omega arith)

  bit_2 : four x y z w / 2 % 2 ≡ z
  bit_2 = let e : four x y z w / 2 ≡ 4 * x + 2 * y + z = omega arith in rw e (omega arith)

  bit_1 : four x y z w / 1 % 2 ≡ w
  bit_1 = let e : four x y z w / 1 ≡ four x y z w = omega arith in rw e (omega arith)

whole_again : ℕ → Bool
whole_again a = eqb (four (a / 8 % 2) (a / 4 % 2) (a / 2 % 2) (a / 1 % 2)) a

all_whole : every 16 whole_again ≡ true
unfolding every whole_again
all_whole = refl

split : (a : ℕ) → a < 16 → four (a / 8 % 2) (a / 4 % 2) (a / 2 % 2) (a / 1 % 2) ≡ a
unfolding whole_again
split a h = eqb-true _ _ (each 16 whole_again all_whole a h)

-- ---- the laws of the union

max_of : (k l : ℕ) → max (k % 2) (l % 2) < 2
max_of k l = max_bit (bit_of_lem k) (bit_of_lem l)

pub union_below : (a b : ℕ) → union_of a b < 16
unfolding union_of
union_below a b =
    omega (arith, max_of (a / 8) (b / 8), max_of (a / 4) (b / 4), max_of (a / 2) (b / 2), max_of (a / 1) (b / 1))

pub union_commutes : (a b : ℕ) → union_of a b ≡ union_of b a
unfolding union_of
union_commutes a b =
    rw (max_comm (a / 8 % 2) (b / 8 % 2), max_comm (a / 4 % 2) (b / 4 % 2), max_comm (a / 2 % 2) (b / 2 % 2), max_comm (a / 1 % 2) (b / 1 % 2))

pub union_itself : (a : ℕ) → a < 16 → union_of a a ≡ a
unfolding union_of
union_itself a h =
    rw (max_self (bit_of_lem (a / 8)), max_self (bit_of_lem (a / 4)), max_self (bit_of_lem (a / 2)), max_self (bit_of_lem (a / 1))) (split a h)

pub union_zero : (a : ℕ) → a < 16 → union_of 0 a ≡ a
unfolding union_of
union_zero a h = rw (zero-max (a / 8 % 2), zero-max (a / 4 % 2), zero-max (a / 2 % 2), zero-max (a / 1 % 2)) (split a h)

-- each bit of a union is that of either set
module _ (a b : ℕ) where
  union_8 : union_of a b / 8 % 2 ≡ max (a / 8 % 2) (b / 8 % 2)
  unfolding union_of
  union_8 = bit_8 (max_of (a / 8) (b / 8)) (max_of (a / 4) (b / 4)) (max_of (a / 2) (b / 2)) (max_of (a / 1) (b / 1))

  union_4 : union_of a b / 4 % 2 ≡ max (a / 4 % 2) (b / 4 % 2)
  unfolding union_of
  union_4 = bit_4 (max_of (a / 8) (b / 8)) (max_of (a / 4) (b / 4)) (max_of (a / 2) (b / 2)) (max_of (a / 1) (b / 1))

  union_2 : union_of a b / 2 % 2 ≡ max (a / 2 % 2) (b / 2 % 2)
  unfolding union_of
  union_2 = bit_2 (max_of (a / 8) (b / 8)) (max_of (a / 4) (b / 4)) (max_of (a / 2) (b / 2)) (max_of (a / 1) (b / 1))

  union_1 : union_of a b / 1 % 2 ≡ max (a / 1 % 2) (b / 1 % 2)
  unfolding union_of
  union_1 = bit_1 (max_of (a / 8) (b / 8)) (max_of (a / 4) (b / 4)) (max_of (a / 2) (b / 2)) (max_of (a / 1) (b / 1))

union_by : (a b : ℕ) → union_of a b
    ≡ four (max (a / 8 % 2) (b / 8 % 2)) (max (a / 4 % 2) (b / 4 % 2)) (max (a / 2 % 2) (b / 2 % 2)) (max (a / 1 % 2) (b / 1 % 2))
unfolding union_of
union_by a b = refl

pub union_associates : (a b c : ℕ) → union_of (union_of a b) c ≡ union_of a (union_of b c)
union_associates a b c =
    rw (
      union_by (union_of a b) c,
      union_by a (union_of b c),
      union_8 a b,
      union_4 a b,
      union_2 a b,
      union_1 a b,
      union_8 b c,
      union_4 b c,
      union_2 b c,
      union_1 b c,
      max_assoc (bit_of_lem (a / 8)) (bit_of_lem (b / 8)) (bit_of_lem (c / 8)),
      max_assoc (bit_of_lem (a / 4)) (bit_of_lem (b / 4)) (bit_of_lem (c / 4)),
      max_assoc (bit_of_lem (a / 2)) (bit_of_lem (b / 2)) (bit_of_lem (c / 2)),
      max_assoc (bit_of_lem (a / 1)) (bit_of_lem (b / 1)) (bit_of_lem (c / 1)),
    )

-- ---- the policy

laws : (P : Policy) → P.tags ≡ 16 → ((a b : ℕ) → a < 16 → b < 16 → P.join a b ≡ union_of a b) → Laws P
laws P n rule =
    record {
      commutes = λ t u ht hu. rw (rule t u (omega arith) (omega arith), rule u t (omega arith) (omega arith)) (union_commutes t u);
      associates = λ t u w ht hu hw.
          rw (
            rule t u (omega arith) (omega arith),
            rule u w (omega arith) (omega arith),
            rule (union_of t u) w (union_below t u) (omega arith),
            rule t (union_of u w) (omega arith) (union_below u w),
          )
          (union_associates t u w);
      itself = λ t ht. rw (rule t t (omega arith) (omega arith)) (union_itself t (omega arith));
      zero_least = λ t ht. rw (rule 0 t (omega arith) (omega arith)) (union_zero t (omega arith));
    }

verdict : byte house_policy (8 + 256) < 16
unfolding house_policy house_header house_joins
verdict = omega arith

alarm : byte house_policy (8 + 257) < 16
unfolding house_policy house_header house_joins
alarm = omega arith

entries : (i : ℕ) → i < 258 → byte house_policy (8 + i) < 16
entries i h = by_place (dec_lt i 256)
  where
    by_place : Dec (i < 256) → byte house_policy (8 + i) < 16
    by_place (yes l) = rw (entry i l) (union_below (i / 16) (i % 16))
    by_place (no l) = clearances (dec_lt i 257)
      where
        clearances : Dec (i < 257) → byte house_policy (8 + i) < 16
        clearances (yes k) = let e : i ≡ 256 = omega arith in rw e verdict
        clearances (no k) = let e : i ≡ 257 = omega arith in rw e alarm

pub house_lawful : LawfulPolicy house_policy
unfolding house_policy house_header house_joins
house_lawful =
    record {
      mark = (refl, refl, refl);
      version = refl;
      zero_byte = refl;
      some_tag = omega arith;
      few_tags = omega arith;
      few_ports = omega arith;
      long = refl;
      entries = entries;
      laws = laws (policy_of house_policy) refl house_rule;
    }

pub house_accepted : check_policy house_policy ≡ Ok tt
house_accepted = lawful_policy house_policy house_lawful
