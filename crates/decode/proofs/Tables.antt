-- The tables, filled upwards: what a store makes so, and what it leaves. Assumes nothing.
use Prim.Native.Nat.{ℕ, ◌+◌, ◌*◌, ◌<◌, ◌≤◌}
use native.Mathlib.Omega.{arith}
use mathlib.Core.Path.{◌≡◌, refl, sym, ap, ◌∙◌}
use mathlib.Core.Bool.{Bool, true, false, false≢true, ◌&&◌}
use mathlib.Core.List.{List}
use borrow.Author.Count.{below_more}
use lib.ListN.{length, get_or, set}
use lib.Seq.{get_or-set_same, get_or-set_other}
use Rattle.rules.specs.declared.Expr.{Expr}
use Rattle.rules.specs.declared.Expr.TheVariants.{Constant, Variable, Cell, Unary, Binary, BadExpr}
use Rattle.rules.specs.Bytes.{byte}
use Rattle.rules.specs.Recipe.{Recipe, recipe_of}
use Rattle.rules.specs.Accepted.{ExprOk, WellFormed}
use Rattle.layout.specs.declared.Form.{Form}
use Rattle.layout.specs.declared.Form.TheVariants.{Leaf, Flat, Deep}
use Rattle.layout.specs.declared.Node.{Node}
use Rattle.layout.specs.Tables.{node_at, leaf, place_of, form_by, ExprAs}
use Rattle.decode.specs.Filled.{Kept, RowAs, JoinsAs}

-- ---- expressions

abbrev is_leaf : Form → Bool
is_leaf Leaf = true
is_leaf Flat = false
is_leaf Deep = false

no_leaf : (flat : Bool) → form_by flat ≡ Leaf → ⊥
no_leaf true e = false≢true (ap is_leaf e)
no_leaf false e = false≢true (ap is_leaf e)

-- a node whose form is Leaf is a leaf's, and has its place; any other is none
pub leaf_read : (R : Recipe) (l : List Node) (a : ℕ) (x : Expr) → ExprAs R (node_at l a) a x → (node_at l a).form ≡ Leaf
    → (leaf x ≡ true) × ((node_at l a).first ≡ place_of a x)
leaf_read R l a (Constant w) k z = (refl, k.left)
leaf_read R l a (Variable v) k z = (refl, k.left)
leaf_read R l a (Cell i) k z = absurd (no_leaf (leaf (R.expr_at i)) (sym k.form ∙ z))
leaf_read R l a (Unary op x) k z = absurd (no_leaf (leaf (R.expr_at x)) (sym k.form ∙ z))
leaf_read R l a (Binary op x y) k z = absurd (no_leaf (leaf (R.expr_at x) && leaf (R.expr_at y)) (sym k.form ∙ z))
leaf_read R l a BadExpr k z = (refl, k.left)

pub inner_read : (R : Recipe) (l : List Node) (a : ℕ) (x : Expr) → ExprAs R (node_at l a) a x → ((node_at l a).form ≡ Leaf → ⊥) → leaf x ≡ false
inner_read R l a (Constant w) k n = absurd (n k.form)
inner_read R l a (Variable v) k n = absurd (n k.form)
inner_read R l a (Cell i) k n = refl
inner_read R l a (Unary op x) k n = refl
inner_read R l a (Binary op x y) k n = refl
inner_read R l a BadExpr k n = absurd (n k.form)

-- an expression's operands are lower than itself
pub expr_fits : {r : List ℕ} {e : ℕ} {y : Expr} → WellFormed r → e < (recipe_of r).exprs → (recipe_of r).expr_at e ≡ y → ExprOk (recipe_of r).vars e y
expr_fits {e = e} wf h q = rw q at (wf.ordered.exprs_ok e h)

-- ---- nodes and records

-- what holds of each entry below n, and of f, holds of each below n + 1 once f stands at n
pub entries_more : {F : Type 0} (z : F) (A : ℕ → F → Type 0) (l : List F) (n : ℕ) (f : F) → n < length l
    → ((i : ℕ) → i < n → A i (get_or l i z)) → A n f → (i : ℕ) → i < n + 1 → A i (get_or (set l n f) i z)
entries_more z A l n f fits all here =
    below_more (λ i. A i (get_or (set l n f) i z)) n (λ i h. rw (get_or-set_other l n i f z (λ e. omega arith)) (all i h))
    (rw (get_or-set_same l n f z fits) here)

-- ---- the policy

pub row_kept : {lo : ℕ} {t v : List ℕ} (p : List ℕ) (a n : ℕ) → Kept lo t v → n ≤ 16 → 16 * a + 16 ≤ lo → RowAs p a n t → RowAs p a n v
row_kept p a n k few l all b h = k.below (16 * a + b) (omega arith) ∙ all b h

pub joins_more : (p : List ℕ) {t v : List ℕ} (a : ℕ) → byte p 6 ≤ 16 → Kept (16 * a) t v → RowAs p a (byte p 6) v → JoinsAs p a t
    → JoinsAs p (a + 1) v
joins_more p a few k row all = below_more _ a (λ j h. row_kept p j (byte p 6) k few (omega arith) (all j h)) row
