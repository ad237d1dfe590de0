-- The policy table: how its bytes are read, its check by itself (23 to 25), and the house policy. Assumes nothing.
use Rattle.std.specs.Prelude.{ℕ, ◌+◌, ◌*◌, ◌/◌, ◌%◌, max, Bool, List, [], ◌∷◌, ◌++◌, leb, ltb, eqb, length, ◌&&◌}
use Rattle.rules.specs.declared.Refusal.TheVariants.{PolicyHeader, PolicyEntry, PolicyLaw}
use Rattle.rules.specs.Checks.{Checked, require, ◌and_then◌, up_to, every}
use Rattle.rules.specs.Bytes.{byte, half}

pub record Policy : Type 0 where
  pub tags : ℕ
  pub ports : ℕ
  pub join : ℕ → ℕ → ℕ
  pub clearance : ℕ → ℕ

-- tag t lies under u
unfoldable pub under : Policy → ℕ → ℕ → Bool
under P t u = eqb (P.join t u) u

abbrev pub policy_of : List ℕ → Policy
policy_of p =
    let n = byte p 6 in
    record {
      tags = n;
      ports = byte p 7;
      join = λ t u. byte p (8 + t * n + u);
      clearance = λ port. byte p (8 + n * n + port);
    }

-- ---- the check

unfoldable pub policy_header_ok : List ℕ → Bool
policy_header_ok p =
    eqb (byte p 0) 0x52 && eqb (byte p 1) 0x4A && eqb (byte p 2) 0x50 && eqb (half p 3) 1 && eqb (byte p 5) 0
    && leb 1 (byte p 6) && leb (byte p 6) 16 && leb (byte p 7) 16
    && eqb (length p) (8 + byte p 6 * byte p 6 + byte p 7)

-- the joins and then the clearances, from byte 8 on
abbrev pub check_entry : List ℕ → ℕ → Checked
check_entry p i = require (ltb (byte p (8 + i)) (byte p 6)) (PolicyEntry (8 + i))

-- join is commutative, associative, and gives t for (t,t) and for (0,t)
unfoldable pub law_at : Policy → (t u w : ℕ) → Bool
law_at P t u w =
    eqb (P.join t u) (P.join u t) && eqb (P.join (P.join t u) w) (P.join t (P.join u w))
    && eqb (P.join t t) t && eqb (P.join 0 t) t

unfoldable pub laws_ok : Policy → Bool
laws_ok P = every P.tags λ t. every P.tags λ u. every P.tags λ w. law_at P t u w

unfoldable pub check_policy : List ℕ → Checked
check_policy p =
    require (policy_header_ok p) PolicyHeader
    and_then up_to (byte p 6 * byte p 6 + byte p 7) (check_entry p)
    and_then require (laws_ok (policy_of p)) PolicyLaw

-- ---- the house policy

-- the union of two sets of four cameras, camera k being the bit of weight 2^k
abbrev pub bit_of : (a b weight : ℕ) → ℕ
bit_of a b k = k * max (a / k % 2) (b / k % 2)

unfoldable pub union_of : ℕ → ℕ → ℕ
union_of a b = bit_of a b 8 + bit_of a b 4 + bit_of a b 2 + bit_of a b 1

-- the table of 256 joins, row by row
unfoldable pub house_joins : List ℕ
house_joins =
    0 ∷ 1 ∷ 2 ∷ 3 ∷ 4 ∷ 5 ∷ 6 ∷ 7 ∷ 8 ∷ 9 ∷ 10 ∷ 11 ∷ 12 ∷ 13 ∷ 14 ∷ 15
    ∷ 1 ∷ 1 ∷ 3 ∷ 3 ∷ 5 ∷ 5 ∷ 7 ∷ 7 ∷ 9 ∷ 9 ∷ 11 ∷ 11 ∷ 13 ∷ 13 ∷ 15 ∷ 15
    ∷ 2 ∷ 3 ∷ 2 ∷ 3 ∷ 6 ∷ 7 ∷ 6 ∷ 7 ∷ 10 ∷ 11 ∷ 10 ∷ 11 ∷ 14 ∷ 15 ∷ 14 ∷ 15
    ∷ 3 ∷ 3 ∷ 3 ∷ 3 ∷ 7 ∷ 7 ∷ 7 ∷ 7 ∷ 11 ∷ 11 ∷ 11 ∷ 11 ∷ 15 ∷ 15 ∷ 15 ∷ 15
    ∷ 4 ∷ 5 ∷ 6 ∷ 7 ∷ 4 ∷ 5 ∷ 6 ∷ 7 ∷ 12 ∷ 13 ∷ 14 ∷ 15 ∷ 12 ∷ 13 ∷ 14 ∷ 15
    ∷ 5 ∷ 5 ∷ 7 ∷ 7 ∷ 5 ∷ 5 ∷ 7 ∷ 7 ∷ 13 ∷ 13 ∷ 15 ∷ 15 ∷ 13 ∷ 13 ∷ 15 ∷ 15
    ∷ 6 ∷ 7 ∷ 6 ∷ 7 ∷ 6 ∷ 7 ∷ 6 ∷ 7 ∷ 14 ∷ 15 ∷ 14 ∷ 15 ∷ 14 ∷ 15 ∷ 14 ∷ 15
    ∷ 7 ∷ 7 ∷ 7 ∷ 7 ∷ 7 ∷ 7 ∷ 7 ∷ 7 ∷ 15 ∷ 15 ∷ 15 ∷ 15 ∷ 15 ∷ 15 ∷ 15 ∷ 15
    ∷ 8 ∷ 9 ∷ 10 ∷ 11 ∷ 12 ∷ 13 ∷ 14 ∷ 15 ∷ 8 ∷ 9 ∷ 10 ∷ 11 ∷ 12 ∷ 13 ∷ 14 ∷ 15
    ∷ 9 ∷ 9 ∷ 11 ∷ 11 ∷ 13 ∷ 13 ∷ 15 ∷ 15 ∷ 9 ∷ 9 ∷ 11 ∷ 11 ∷ 13 ∷ 13 ∷ 15 ∷ 15
    ∷ 10 ∷ 11 ∷ 10 ∷ 11 ∷ 14 ∷ 15 ∷ 14 ∷ 15 ∷ 10 ∷ 11 ∷ 10 ∷ 11 ∷ 14 ∷ 15 ∷ 14 ∷ 15
    ∷ 11 ∷ 11 ∷ 11 ∷ 11 ∷ 15 ∷ 15 ∷ 15 ∷ 15 ∷ 11 ∷ 11 ∷ 11 ∷ 11 ∷ 15 ∷ 15 ∷ 15 ∷ 15
    ∷ 12 ∷ 13 ∷ 14 ∷ 15 ∷ 12 ∷ 13 ∷ 14 ∷ 15 ∷ 12 ∷ 13 ∷ 14 ∷ 15 ∷ 12 ∷ 13 ∷ 14 ∷ 15
    ∷ 13 ∷ 13 ∷ 15 ∷ 15 ∷ 13 ∷ 13 ∷ 15 ∷ 15 ∷ 13 ∷ 13 ∷ 15 ∷ 15 ∷ 13 ∷ 13 ∷ 15 ∷ 15
    ∷ 14 ∷ 15 ∷ 14 ∷ 15 ∷ 14 ∷ 15 ∷ 14 ∷ 15 ∷ 14 ∷ 15 ∷ 14 ∷ 15 ∷ 14 ∷ 15 ∷ 14 ∷ 15
    ∷ 15 ∷ 15 ∷ 15 ∷ 15 ∷ 15 ∷ 15 ∷ 15 ∷ 15 ∷ 15 ∷ 15 ∷ 15 ∷ 15 ∷ 15 ∷ 15 ∷ 15 ∷ 15 ∷ []

unfoldable pub house_header : List ℕ
house_header = 0x52 ∷ 0x4A ∷ 0x50 ∷ 1 ∷ 0 ∷ 0 ∷ 16 ∷ 2 ∷ []

-- 0 verdict, clearance 0; 1 alarm, clearance 15
unfoldable pub house_policy : List ℕ
house_policy = house_header ++ (house_joins ++ (0 ∷ 15 ∷ []))
