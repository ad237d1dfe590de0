-- The index comes before the value. Assumes nothing.
use Prim.Native.Nat.{ℕ}
use mathlib.Core.Path.{◌≡◌, ◌∙◌}
use mathlib.Core.List.{List}
use Rattle.std.proofs.Common.{rules}
use Rattle.std.specs.Prelude.{Ok}
use Rattle.rules.specs.declared.Place.{Place}
use Rattle.rules.specs.Steps.{Valued}
use Rattle.layout.specs.declared.Tables.{Tables}
use Rattle.layout.specs.Places.{Evaluated}
use Rattle.steps.specs.Asks.{Written, Stored, StoredAt, StoreGiven, CellGiven}
use Rattle.steps.proofs.Asked.{value_found, tag_found}
use Rattle.steps.proofs.store.Goals as goal

-- expression i gives k, and e gives q
module _ {t : Tables} {u : List ℕ} {b i e : ℕ} {k q : Valued} {x v : Place} (at_i : Evaluated t u i k) (at_e : Evaluated t u e q) where
  cell_given : StoreGiven t u b i e → k ≡ Ok x → q ≡ Ok v → CellGiven t u b x v
  cell_given pre x_is v_is = record {
    recipe = pre.recipe;
    policy = pre.policy;
    ready = pre.ready;
    branch = pre.branch;
    indexed = tag_found pre.ready pre.index at_i x_is;
    tagged = tag_found pre.ready pre.value at_e v_is;
  }

  stored_by : (h : Written) (u' : List ℕ) → StoredAt t u b x v h u' → k ≡ Ok x → q ≡ Ok v → Stored t u b i e h u'
  stored_by h u' done x_is v_is r p a branch index value =
      rw (value_found a index at_i ∙ x_is, value_found a value at_e ∙ v_is)
      (done r p a branch (tag_found a index at_i x_is) (tag_found a value at_e v_is))

-- that the value is no fault is found, by whatever test of it leads here
pub store_at-requires : goal.store_at-requires
store_at-requires c = cell_given c.value.ensures c.value-2.ensures c.requires c.in_ok-x.was (search rules)

pub returns : goal.returns
returns c = stored_by c.value.ensures c.value-2.ensures _ _ c.store_at.ensures c.in_ok-x.was (search rules)
