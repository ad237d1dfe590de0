-- Accepted tables, decoded, are ready for the run; and what the run leaves, written back, is what document 01 says. Assumes nothing.
use Prim.Native.Nat.{ℕ, ◌<◌}
use mathlib.Core.Path.{◌≡◌, sym, ap, ◌∙◌}
use mathlib.Core.List.{List}
use lib.ListN.{length}
use Rattle.rules.specs.declared.Outcome.{Outcome}
use Rattle.rules.specs.Bytes.{Bytes}
use Rattle.rules.specs.Policy.{policy_of}
use Rattle.rules.specs.Recipe.{recipe_of}
use Rattle.rules.specs.Memory.{tag_of, place_at, places_of, place_bytes, count}
use Rattle.rules.specs.Judged.{written_back, ran}
use Rattle.rules.specs.Accepted.{Accepted}
use Rattle.layout.specs.declared.Tables.{Tables}
use Rattle.layout.specs.Tables.{Decoded}
use Rattle.layout.specs.Places.{place_in, held_from, held_in, ConstantAs, Ready}
use Rattle.layout.proofs.Places.{place_held}
use Rattle.machine.specs.Turns.{LeftAs, RunAs}

module _ {r p m : List ℕ} (u : List ℕ) (a : Accepted r p m) (same : held_in (recipe_of r) u ≡ places_of (recipe_of r) m) where
  read_back : (i : ℕ) → i < count (recipe_of r) → place_in u i ≡ place_at (places_of (recipe_of r) m) i
  read_back i h = sym (place_held (recipe_of r) u i h) ∙ ap (λ l. place_at l i) same

  pub loaded : {t : Tables} → Bytes r → Decoded (policy_of p) (recipe_of r) t
      → ((e : ℕ) → e < (recipe_of r).exprs → ConstantAs u e ((recipe_of r).expr_at e)) → Ready r p t u
  unfolding tag_of
  loaded br d cs =
      record {
        bytes = br;
        recipe = a.recipe;
        policy = a.policy;
        ports = a.ports;
        decoded = d;
        constants = cs;
        tags_below = λ i h. rw (ap tag_of (read_back i h)) (a.memory.tags_below i h);
      }

  pub left_back : {t : Tables} {q u' q' m' : List ℕ} {B n : ℕ} {o : Outcome} → RunAs r p t u q B o u' q'
      → n ≡ count (recipe_of r) → m' ≡ place_bytes (held_from u' 0 n) → LeftAs o m' q' (written_back q (ran r p m (length q) B))
  left_back x n w =
      record {
        outcome_is = rw same at x.left.outcome_is;
        memory_is = rw (w, n) (rw same at x.left.memory_is);
        room_is = rw same at x.left.room_is;
      }
