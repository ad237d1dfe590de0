-- Each promise has one answer: any two results that it allows, where what it asks for holds, are equal, and so are the places.
-- `Pre` and `Post` are the function's contract as the checker reads it. Assumes nothing.
use Prim.Native.Nat.{ℕ}
use mathlib.Core.Path.{◌≡◌, sym, ◌∙◌}
use mathlib.Core.List.{List}
use Rattle.rules.specs.declared.Act.{Act}
use Rattle.rules.specs.declared.Act.TheVariants.{Passes, Pushes, Writes, Records, Stops}
use Rattle.std.specs.Prelude.{Ok}
use Rattle.rules.specs.Policy.{policy_of}
use Rattle.rules.specs.Recipe.{recipe_of}
use Rattle.rules.specs.Steps.{assigns, stores}
use Rattle.layout.specs.Places.{held_in, value_in}
use Rattle.steps.specs.Asks.{Written, Done}
use Rattle.steps.proofs.assign.Reads as assign
use Rattle.steps.proofs.store.Reads as store
use Rattle.steps.proofs.may_emit.Reads as may-emit

done_one : (a : Act) (u : List ℕ) {h k : Written} {v w : List ℕ} → Done a h u v → Done a k u w → (h ≡ k) × (v ≡ w)
done_one Passes u d e = absurd d
done_one (Pushes f b t) u d e = absurd d
done_one (Writes i q) u d e = (d.0 ∙ sym e.0, d.1 ∙ sym e.1)
done_one (Records port w) u d e = absurd d
done_one (Stops x) u d e = (d.0 ∙ sym e.0, d.1 ∙ sym e.1)

pub assign_one : (κs : _) (a : _) (r s : _) (x y : _) → assign.Pre κs a → assign.Post κs a r x → assign.Post κs a s y
    → (r ≡ s) × (x.1.0.now ≡ y.1.0.now)
assign_one κs a r s x y g p q =
    let u = a.1.0.now in
    let v = a.1.1.1.1.0 in
    let act = assigns (policy_of g.policy) (recipe_of g.recipe) (held_in (recipe_of g.recipe) u) a.1.1.0 a.1.1.1.0 (Ok v) in
    done_one act u
    (p g.recipe g.policy g.ready g.branch g.there g.tagged)
    (q g.recipe g.policy g.ready g.branch g.there g.tagged)

pub store_one : (κs : _) (a : _) (r s : _) (x y : _) → store.Pre κs a → store.Post κs a r x → store.Post κs a s y
    → (r ≡ s) × (x.1.0.now ≡ y.1.0.now)
store_one κs a r s x y g p q =
    let u = a.1.0.now in
    let index = value_in g.recipe g.policy u a.1.1.1.0 in
    let value = value_in g.recipe g.policy u a.1.1.1.1.0 in
    done_one (stores (policy_of g.policy) (recipe_of g.recipe) (held_in (recipe_of g.recipe) u) a.1.1.0 index value) u
    (p g.recipe g.policy g.ready g.branch g.index g.value)
    (q g.recipe g.policy g.ready g.branch g.index g.value)

pub may_emit_one : (κs : _) (a : _) (r s : _) (x y : _) → may-emit.Post κs a r x → may-emit.Post κs a s y → r ≡ s
may_emit_one κs a r s x y p q = p ∙ sym q
