-- How what is done follows from answers, tags and tests on the decoded tables. Assumes nothing.
use Prim.Native.Nat.{ℕ, zero, suc, ◌+◌, ◌/◌, ◌<◌, ◌≤◌}
use native.Mathlib.Omega.{arith}
use mathlib.Core.Path.{◌≡◌, refl, sym, ◌∙◌}
use mathlib.Core.Bool.{true, false}
use mathlib.Core.List.{List}
use lib.Dec.{ltb}
use lib.ListN.{get_or}
use borrow.Author.Tests.{le-ltb, lt-ltb}
use Rattle.rules.specs.declared.Place.{Place}
use Rattle.std.specs.Prelude.{Ok}
use Rattle.rules.specs.Bytes.{byte}
use Rattle.rules.specs.Policy.{Policy, policy_of, under}
use Rattle.rules.specs.Recipe.{recipe_of}
use Rattle.rules.specs.Memory.{tag_of, place_at, count}
use Rattle.rules.specs.Steps.{Valued, test}
use Rattle.rules.proofs.Standing.{Proper, value, proper}
use Rattle.rules.proofs.Tags.{is_under, under_is}
use Rattle.rules.proofs.Tests.{fails}
use Rattle.layout.specs.declared.Tables.{Tables}
use Rattle.layout.specs.Tables.{join_in, clearance_in}
use Rattle.layout.specs.Places.{Ready, held_in, value_in, Evaluated}
use Rattle.layout.proofs.Places.{sound_ready, places_ready, place_held}

-- ---- answers

tag_good : {P : Policy} {v : Place} → Proper P (Ok v) → v.tag < P.tags
unfolding tag_of
tag_good (value k) = k.good

module _ {r p : List ℕ} {t : Tables} {u : List ℕ} (a : Ready r p t u) where
  module _ {e : ℕ} (h : e < (recipe_of r).exprs) {x : Valued} (q : Evaluated t u e x) where
    pub value_found : value_in r p u e ≡ x
    value_found = sym (q r p a h)

    pub tag_found : {v : Place} → x ≡ Ok v → v.tag < byte p 6
    tag_found k = tag_good (rw (value_found ∙ k) at (proper (sound_ready a) (places_ready a) e))

  -- ---- places

  pub var_in : {i : ℕ} → i < (recipe_of r).vars → i < count (recipe_of r)
  var_in h = omega arith

  pub held_given : {i : ℕ} → i < count (recipe_of r) → i < 2112
  held_given h =
      let few = a.recipe.counts in
      omega (arith, few.few_vars, few.few_cells)

  pub cell_is : (n : ℕ) → t.vars + n ≡ (recipe_of r).vars + n
  cell_is n = omega (arith, a.decoded.vars_as)

  module _ {n : ℕ} where
    pub index_off : t.cells ≤ n → ltb n (recipe_of r).cells ≡ false
    index_off h = le-ltb n (recipe_of r).cells (omega (arith, a.decoded.cells_as))

    pub index_in : n < t.cells → ltb n (recipe_of r).cells ≡ true
    index_in h = lt-ltb n (recipe_of r).cells (omega (arith, a.decoded.cells_as))

    pub cell_in_lem : n < t.cells → t.vars + n < count (recipe_of r)
    cell_in_lem h = omega (arith, a.decoded.vars_as, a.decoded.cells_as)

  -- ---- tags

  module _ {port : ℕ} (h : port < byte p 7) where
    pub clearance_is : clearance_in t port ≡ (policy_of p).clearance port
    clearance_is = a.decoded.clearances_as port h

    pub clearance_good : clearance_in t port < byte p 6
    clearance_good = rw clearance_is ((sound_ready a).lawful.clearance_below port)

  pub held_good : {i g : ℕ} → i < count (recipe_of r) → g ≡ get_or u i 0 / 4294967296 → g < byte p 6
  held_good {i} h q = rw q (a.tags_below i h)

  module _ {b g : ℕ} (hb : b < byte p 6) (hg : g < byte p 6) where
    join_as : join_in t b g ≡ (policy_of p).join b g
    join_as = a.decoded.joins_as b g hb hg

    join_low : join_in t b g < byte p 6
    join_low = rw join_as ((sound_ready a).lawful.join_below b g hb hg)

    pub join_given : (b < 16) × (g < 16)
    join_given = (omega (arith, a.policy.few_tags), omega (arith, a.policy.few_tags))

    module _ {j : ℕ} (q : j ≡ join_in t b g) where
      pub join_is : j ≡ (policy_of p).join b g
      join_is = q ∙ join_as

      pub join_good : j < byte p 6
      join_good = rw q join_low

      pub lies_under : j ≡ g → under (policy_of p) b g ≡ true
      lies_under e = is_under (policy_of p) b g (sym join_is ∙ e)

      pub lies_off : (j ≡ g → ⊥) → under (policy_of p) b g ≡ false
      lies_off n = fails (under (policy_of p) b g) (λ e. absurd (n (join_is ∙ under_is (policy_of p) b g e)))

  -- g is the tag of place i, and j its join with b
  module _ {b i g j : ℕ} (hb : b < byte p 6) (h : i < count (recipe_of r)) (q : g ≡ get_or u i 0 / 4294967296) (k : j ≡ join_in t b g) where
    tag_held : g ≡ tag_of (place_at (held_in (recipe_of r) u) i)
    unfolding tag_of
    tag_held = rw (q, place_held (recipe_of r) u i h)

    pub held_under : j ≡ g → under (policy_of p) b (tag_of (place_at (held_in (recipe_of r) u) i)) ≡ true
    held_under e = rw tag_held at (lies_under hb (held_good h q) k e)

    pub held_off : (j ≡ g → ⊥) → under (policy_of p) b (tag_of (place_at (held_in (recipe_of r) u) i)) ≡ false
    held_off n = rw tag_held at (lies_off hb (held_good h q) k n)

pub same_below : {g n m : ℕ} → g ≡ n → n < m → g < m
same_below q h = rw q h

-- ---- tests

-- a value that is not zero is true
pub test_true : {A : Type 0} {v : ℕ} → (v ≡ 0 → ⊥) → (x y : A) → test v x y ≡ x
unfolding test
test_true {v = zero} h x y = absurd (h refl)
test_true {v = suc v} h x y = refl

pub test_false : {A : Type 0} {v : ℕ} → v ≡ 0 → (x y : A) → test v x y ≡ y
unfolding test
test_false {v = zero} h x y = refl
test_false {v = suc v} h x y = absurd (omega arith)
