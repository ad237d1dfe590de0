-- Tags that a viewer does not see: what is joined to one is hidden too. Assumes nothing.
use Prim.Native.Nat.{ℕ, ◌<◌}
use mathlib.Core.Path.{◌≡◌}
use mathlib.Core.Bool.{true, false}
use borrow.Author.Tests.{eqb-true, eq-eqb}
use Rattle.rules.specs.Policy.{Policy, under}
use Rattle.rules.specs.Accepted.{Laws}
use Rattle.rules.proofs.Tests.{fails}

-- what a run needs of a policy
pub record Lawful (P : Policy) : Type 0 where
  pub some_tag : 0 < P.tags
  pub join_below : (t u : ℕ) → t < P.tags → u < P.tags → P.join t u < P.tags
  pub clearance_below : (port : ℕ) → P.clearance port < P.tags
  pub laws : Laws P

-- an accepted policy, and a viewer with one of its tags
pub record Viewer (P : Policy) : Type 0 where
  pub lawful : Lawful P
  pub tag : ℕ
  pub below : tag < P.tags

-- one of the policy's tags
abbrev pub Good : Policy → ℕ → Type 0
Good P t = t < P.tags

-- one of the policy's tags, and hidden
pub record High {P : Policy} (W : Viewer P) (t : ℕ) : Type 0 where
  pub good : Good P t
  pub hidden : under P t W.tag ≡ false

pub under_is : (P : Policy) (t u : ℕ) → under P t u ≡ true → P.join t u ≡ u
unfolding under
under_is P t u e = eqb-true (P.join t u) u e

pub is_under : (P : Policy) (t u : ℕ) → P.join t u ≡ u → under P t u ≡ true
unfolding under
is_under P t u e = eq-eqb (P.join t u) u e

module _ {P : Policy} {W : Viewer P} where
  open W.lawful use {join_below}
  open W.lawful.laws use {commutes, associates, itself}

  -- what a hidden tag lies under is hidden
  pub high_under : {t u : ℕ} → High W t → Good P u → P.join t u ≡ u → High W u
  high_under {t} {u} h gu le = record { good = gu; hidden = fails (under P u W.tag) λ s. cc (h.hidden, seen_below s) }
    where
      seen_below : under P u W.tag ≡ true → under P t W.tag ≡ true
      seen_below s =
          let e : P.join u W.tag ≡ W.tag = under_is P u W.tag s in
          is_under P t W.tag (cc (associates t u W.tag h.good gu W.below))

  pub high_left : {t u : ℕ} → High W t → Good P u → High W (P.join t u)
  high_left {t} {u} h gu =
      high_under h (join_below t u h.good gu) (cc (associates t t u h.good h.good gu, itself t h.good))

  pub high_right : {t u : ℕ} → Good P t → High W u → High W (P.join t u)
  high_right {t} {u} gt h = rw (commutes t u gt h.good) (high_left h gt)
