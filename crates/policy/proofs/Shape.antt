-- The header's test and the entries' check, against what they promise. Assumes nothing.
use Prim.Native.Nat.{ℕ, ◌+◌, ◌-◌, ◌*◌, ◌<◌}
use native.Mathlib.Nat.{add_assoc}
use native.Mathlib.Omega.{arith}
use mathlib.Core.Path.{◌≡◌, ◌∙◌}
use mathlib.Core.Bool.{true, false}
use mathlib.Core.List.{List}
use lib.ListN.{length, get_or, take, drop}
use lib.Seq.{get_or-take, get_or-drop}
use borrow.Author.Tests.{leb-true, ltb-true, eqb-true, le-leb, eq-eqb}
use Rattle.std.specs.Prelude.{Ok}
use Rattle.rules.specs.Bytes.{byte}
use Rattle.rules.specs.Checks.{up_to}
use Rattle.rules.specs.Policy.{policy_header_ok, check_entry}
use Rattle.rules.specs.Accepted.{LawfulPolicy}
use Rattle.rules.proofs.Tests.{and_left, and_right, and_both, fails}
use Rattle.rules.proofs.Checks.{required, up_each}
use Rattle.policy.specs.Shape.{Headed, Filled}
use Rattle.policy.proofs.Sizes.{square}

pub headed : (p : List ℕ) → policy_header_ok p ≡ true → Headed p
unfolding policy_header_ok
headed p g =
    let g5 = and_left _ _ g in
    let g4 = and_left _ _ g5 in
    let g3 = and_left _ _ g4 in
    let g2 = and_left _ _ g3 in
    let g1 = and_left _ _ g2 in
    let g0 = and_left _ _ g1 in
    let m = and_left _ _ g0 in
    record {
      mark = (eqb-true _ _ (and_left _ _ m), eqb-true _ _ (and_right _ _ m), eqb-true _ _ (and_right _ _ g0));
      version = eqb-true _ _ (and_right _ _ g1);
      zero_byte = eqb-true _ _ (and_right _ _ g2);
      some_tag = leb-true _ _ (and_right _ _ g3);
      few_tags = leb-true _ _ (and_right _ _ g4);
      few_ports = leb-true _ _ (and_right _ _ g5);
      long = eqb-true _ _ (and_right _ _ g);
    }

pub header : (p : List ℕ) → Headed p → policy_header_ok p ≡ true
unfolding policy_header_ok
header p h =
    let mark = and_both (and_both (eq-eqb _ _ h.mark.0) (eq-eqb _ _ h.mark.1)) (eq-eqb _ _ h.mark.2) in
    let zeros = and_both (and_both mark (eq-eqb _ _ h.version)) (eq-eqb _ _ h.zero_byte) in
    let tags = and_both (and_both zeros (le-leb _ _ h.some_tag)) (le-leb _ _ h.few_tags) in
    and_both (and_both tags (le-leb _ _ h.few_ports)) (eq-eqb _ _ h.long)

pub no_header : (p : List ℕ) → (Headed p → ⊥) → policy_header_ok p ≡ false
no_header p f = fails _ (λ e. absurd (f (headed p e)))

pub many_tags : (p : List ℕ) → 16 < byte p 6 → policy_header_ok p ≡ false
many_tags p l = no_header p (λ h. omega (arith, h.few_tags))

pub filled : (p : List ℕ) → Headed p → up_to (byte p 6 * byte p 6 + byte p 7) (check_entry p) ≡ Ok tt → Filled p
filled p h e =
    record { headed = h; entries = λ i l. ltb-true _ _ (required _ _ (up_each _ (check_entry p) e i l)) }

pub join_below : (p : List ℕ) {t u : ℕ} → Filled p → t < byte p 6 → u < byte p 6 → byte p (8 + t * byte p 6 + u) < byte p 6
join_below p {t} {u} f lt lu =
    rw (add_assoc 8 (t * byte p 6) u) (f.entries (t * byte p 6 + u) (omega (arith, square (byte p 6) lt lu)))

pub clearance_below : (p : List ℕ) {port : ℕ} → LawfulPolicy p → port < byte p 7 → byte p (8 + byte p 6 * byte p 6 + port) < byte p 6
clearance_below p {port} l lp =
    rw (add_assoc 8 (byte p 6 * byte p 6) port) (l.entries (byte p 6 * byte p 6 + port) (omega arith))

-- an entry of the part from byte 8 on is the table's
pub tail_entry : (p : List ℕ) (i : ℕ) → i < length p - 8 → get_or (take (length p - 8) (drop 8 p)) i 0 ≡ byte p (8 + i)
tail_entry p i h = get_or-take (length p - 8) (drop 8 p) i 0 h ∙ get_or-drop 8 p i 0
