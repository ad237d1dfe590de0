-- The memory's check: how each answer of a loop over the places is the definition's. Assumes nothing.
use Prim.Native.Nat.{ℕ, ◌+◌, ◌*◌, ◌<◌, ◌≤◌}
use mathlib.Core.Path.{◌≡◌, sym, ◌∙◌}
use mathlib.Core.List.{List}
use lib.Dec.{eqb}
use lib.ListN.{length}
use borrow.Author.Tests.{lt-ltb, le-ltb, eq-eqb, ne_eqb}
use Rattle.rules.specs.declared.Refusal.TheVariants.{MemoryLength, MemoryTag}
use Rattle.std.specs.Prelude.{Ok, Err}
use Rattle.rules.specs.Bytes.{byte}
use Rattle.rules.specs.Checks.{require, ◌and_then◌, up_to}
use Rattle.rules.specs.Recipe.{Recipe}
use Rattle.rules.specs.Memory.{tag_of, places, count, check_tag, check_memory}
use Rattle.rules.proofs.Checks.{passes, fails, next, stops, up_stops}
use Rattle.memory.proofs.Places.{read}

-- the tags of the first i of k places are below n
abbrev pub Below : (m : List ℕ) (k n i : ℕ) → Type 0
Below m k n i = up_to i (check_tag n (places k m)) ≡ Ok tt

module _ (m : List ℕ) (k n : ℕ) where
  pub tag_passes : {i : ℕ} → i < k → byte m (5 * i + 4) < n → check_tag n (places k m) i ≡ Ok tt
  unfolding tag_of
  tag_passes {i} h l = passes (MemoryTag i) (rw (read k m i h) (lt-ltb _ _ l))

  tag_fails : {i : ℕ} → i < k → n ≤ byte m (5 * i + 4) → check_tag n (places k m) i ≡ Err (MemoryTag i)
  unfolding tag_of
  tag_fails {i} h l = fails (MemoryTag i) (rw (read k m i h) (le-ltb _ _ l))

  module _ (R : Recipe) (e : count R ≡ k) where
    -- a recipe's count is all that the check takes of it
    by_count : check_memory R n m ≡ (require (eqb (length m) (5 * k)) MemoryLength and_then up_to k (check_tag n (places k m)))
    unfolding check_memory
    by_count = rw e

    pub wrong_length : (length m ≡ 5 * k → ⊥) → Err MemoryLength ≡ check_memory R n m
    wrong_length h = sym (by_count ∙ stops _ (fails MemoryLength (ne_eqb _ _ h)))

    right_length : length m ≡ 5 * k → check_memory R n m ≡ up_to k (check_tag n (places k m))
    right_length h = by_count ∙ next _ (passes MemoryLength (eq-eqb _ _ h))

    pub wrong_tag : {i : ℕ} → length m ≡ 5 * k → i < k → Below m k n i → n ≤ byte m (5 * i + 4) → Err (MemoryTag i) ≡ check_memory R n m
    wrong_tag h l b t = sym (right_length h ∙ up_stops k _ _ l b (tag_fails l t))

    pub right_tags : {i : ℕ} → length m ≡ 5 * k → i ≡ k → Below m k n i → Ok tt ≡ check_memory R n m
    right_tags h q b = sym (right_length h ∙ (rw q at b))
