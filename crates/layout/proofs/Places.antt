-- The places held in an array are a memory; a place written to it is one written to the memory. Assumes nothing.
use Prim.Native.Nat.{ℕ, zero, suc, ◌+◌, ◌/◌, ◌<◌, ◌≤◌}
use native.Mathlib.Omega.{arith}
use mathlib.Core.Path.{◌≡◌, refl, ap, ◌∙◌}
use mathlib.Core.List.{List, ◌∷◌}
use native.Mathlib.Decide.{dec_lt, ℕ_discrete}
use lib.ListN.{length, get_or, set}
use lib.Seq.{get_or-set_same, get_or-set_other}
use Rattle.rules.specs.declared.Expr.{Expr}
use Rattle.rules.specs.declared.Expr.TheVariants.{Constant, Variable, Cell, Unary, Binary, BadExpr}
use Rattle.rules.specs.Bytes.{byte}
use Rattle.rules.specs.Policy.{policy_of}
use Rattle.rules.specs.Recipe.{Recipe, recipe_of}
use Rattle.rules.specs.Memory.{Memory, ◌#◌, value_of, tag_of, place_at, write, count}
use Rattle.rules.specs.Accepted.{Counts}
use Rattle.rules.proofs.Bytes.{sound_of}
use Rattle.rules.proofs.Standing.{Sound, PlaceOk, PlacesOk}
use Rattle.layout.specs.declared.Tables.{Tables}
use Rattle.layout.specs.Places.{place_in, held_from, held_in, ConstantAs, Ready}
use Rattle.layout.specs.Answers.{worth_of}

-- ---- reading

held_at : (u : List ℕ) (i n k : ℕ) → k < n → place_at (held_from u i n) k ≡ place_in u (i + k)
unfolding held_from
held_at u i zero k h = absurd (omega arith)
held_at u i (suc n) zero h =
    let e : i + 0 ≡ i = omega arith in
    rw e
held_at u i (suc n) (suc k) h =
    let e : i + suc k ≡ suc i + k = omega arith in
    rw e (held_at u (suc i) n k (omega arith))

pub held_length : (u : List ℕ) (i n : ℕ) → length (held_from u i n) ≡ n
unfolding held_from
held_length u i zero = refl
held_length u i (suc n) = ap suc (held_length u (suc i) n)

held_past : (u : List ℕ) (i n k : ℕ) → n ≤ k → place_at (held_from u i n) k ≡ (0 # 0)
unfolding held_from
held_past u i zero k h = refl
held_past u i (suc n) zero h = absurd (omega arith)
held_past u i (suc n) (suc k) h = held_past u (suc i) n k (omega arith)

pub place_held : (R : Recipe) (u : List ℕ) (i : ℕ) → i < count R → place_at (held_in R u) i ≡ place_in u i
place_held R u i h =
    let e : 0 + i ≡ i = omega arith in
    rw e at (held_at u 0 (count R) i h)

-- ---- writing

-- what is written elsewhere changes none of the places from i on
held_apart : (u v : List ℕ) (i n : ℕ) → ((j : ℕ) → i ≤ j → j < i + n → place_in v j ≡ place_in u j) → held_from v i n ≡ held_from u i n
unfolding held_from
held_apart u v i zero h = refl
held_apart u v i (suc n) h = rw (h i (omega arith) (omega arith), held_apart u v (suc i) n (λ j a b. h j (omega arith) (omega arith)))

module _ (u : List ℕ) (size : length u ≡ 2112) (i z : ℕ) (fits : i < 2112) where
  at_place : place_in (set u i z) i ≡ worth_of z
  at_place = ap worth_of (get_or-set_same u i z 0 (omega arith))

  pub off_place : (j : ℕ) → (j ≡ i → ⊥) → place_in (set u i z) j ≡ place_in u j
  off_place j ne = ap worth_of (get_or-set_other u i j z 0 ne)

  held_written : (k n j : ℕ) → i ≡ k + j → j < n → held_from (set u i z) k n ≡ set (held_from u k n) j (worth_of z)
  unfolding held_from
  held_written k zero j e a = absurd (omega arith)
  held_written k (suc n) zero e a =
      let ik : k ≡ i = omega arith in
      let rest = held_apart u (set u i z) (suc k) n (λ m c d. off_place m (λ x. omega arith)) in
      rw (ik, at_place) (ap (λ (l : Memory). worth_of z ∷ l) (rw ik at rest))
  held_written k (suc n) (suc j) e a =
      let ne : k ≡ i → ⊥ = λ x. omega arith in
      rw (off_place k ne, held_written (suc k) n j (omega arith) (omega arith))

pub held_write : (R : Recipe) → Counts R → (u : List ℕ) → length u ≡ 2112 → (i z : ℕ) → i < count R
    → held_in R (set u i z) ≡ write (held_in R u) i (worth_of z)
held_write R few u size i z h =
    held_written u size i z (omega (arith, few.few_vars, few.few_cells)) 0 (count R) i (omega arith) h

-- ---- ready tables

module _ {r p : List ℕ} {t : Tables} {u : List ℕ} (a : Ready r p t u) where
  pub sound_ready : Sound (policy_of p) (recipe_of r)
  sound_ready = sound_of r p a.bytes a.recipe a.policy

  pub places_ready : PlacesOk (policy_of p) (held_in (recipe_of r) u)
  unfolding value_of tag_of
  places_ready = record { ok = λ i. at i (dec_lt i (count (recipe_of r))) }
    where
      at : (i : ℕ) → Dec (i < count (recipe_of r)) → PlaceOk (policy_of p) (place_at (held_in (recipe_of r) u) i)
      at i (yes h) = rw (place_held (recipe_of r) u i h) (record { good = a.tags_below i h; word = omega arith })
      at i (no h) = rw (held_past u 0 (count (recipe_of r)) i (omega arith)) (record { good = a.policy.some_tag; word = omega arith })

  constant_kept : (i z e : ℕ) (x : Expr) → length u ≡ 2112 → i < 1088 → ConstantAs u e x → ConstantAs (set u i z) e x
  constant_kept i z e (Constant v) size l c =
      let ne : 1088 + e ≡ i → ⊥ = λ q. omega arith in
      off_place u size i z (omega arith) (1088 + e) ne ∙ c
  constant_kept i z e (Variable x) size l c = tt
  constant_kept i z e (Cell x) size l c = tt
  constant_kept i z e (Unary op x) size l c = tt
  constant_kept i z e (Binary op x y) size l c = tt
  constant_kept i z e BadExpr size l c = tt

  -- a place of the memory is written
  pub ready_write : length u ≡ 2112 → (i z : ℕ) → i < count (recipe_of r) → z / 4294967296 < byte p 6 → Ready r p t (set u i z)
  ready_write size i z l good =
      let few = a.recipe.counts in
      let low : i < 1088 = omega (arith, few.few_vars, few.few_cells) in
      record {
        bytes = a.bytes;
        recipe = a.recipe;
        policy = a.policy;
        ports = a.ports;
        decoded = a.decoded;
        constants = λ e h. constant_kept i z e ((recipe_of r).expr_at e) size low (a.constants e h);
        tags_below = λ j h. tag_kept j (ℕ_discrete j i) (a.tags_below j h);
      }
    where
      tag_kept : (j : ℕ) → Dec (j ≡ i) → get_or u j 0 / 4294967296 < byte p 6 → get_or (set u i z) j 0 / 4294967296 < byte p 6
      tag_kept j (yes e) h = rw (e, get_or-set_same u i z 0 (omega (arith, a.recipe.counts.few_vars, a.recipe.counts.few_cells))) good
      tag_kept j (no ne) h = rw (get_or-set_other u i j z 0 ne) h
