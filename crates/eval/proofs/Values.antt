-- The value of an expression follows from its node in the tables and its operands' answers. Assumes nothing.
use Prim.Native.Nat.{ℕ, ◌+◌, ◌<◌, ◌≤◌}
use native.Mathlib.Decide.{dec_lt}
use native.Mathlib.Omega.{arith}
use mathlib.Core.Path.{◌≡◌, refl, sym, ap, ◌∙◌}
use mathlib.Core.Bool.{Bool, true, false, false≢true, ◌&&◌}
use mathlib.Core.List.{List}
use lib.Dec.{ltb}
use lib.ListN.{get_or}
use borrow.Author.Tests.{ltb-true, lt-ltb, le-ltb}
use Rattle.rules.specs.declared.UnaryOp.{UnaryOp}
use Rattle.rules.specs.declared.BinaryOp.{BinaryOp}
use Rattle.rules.specs.declared.Expr.{Expr}
use Rattle.rules.specs.declared.Expr.TheVariants.{Constant, Variable, Cell, Unary, Binary, BadExpr}
use Rattle.rules.specs.declared.Stop.{Stop}
use Rattle.rules.specs.declared.Stop.TheVariants.{Index}
use Rattle.rules.specs.declared.Place.{Place}
use Rattle.rules.specs.Steps.{Valued, given, unary_of, binary_of, cell_of, value_by}
use Rattle.std.specs.Prelude.{Ok, Err}
use Rattle.rules.specs.Bytes.{byte}
use Rattle.rules.specs.Policy.{Policy, policy_of}
use Rattle.rules.specs.Recipe.{Recipe, recipe_of}
use Rattle.rules.specs.Memory.{Memory, value_of, tag_of, count}
use Rattle.rules.specs.Accepted.{ExprOk}
use Rattle.rules.proofs.Depth.{eval_is}
use Rattle.rules.proofs.Standing.{proper}
use Rattle.layout.specs.declared.Tables.{Tables}
use Rattle.layout.specs.declared.Form.{Form}
use Rattle.layout.specs.declared.Form.TheVariants.{Leaf, Flat, Deep}
use Rattle.layout.specs.declared.Operator.{Operator}
use Rattle.layout.specs.declared.Operator.TheVariants as operator
use Rattle.layout.specs.Tables.{expr_node, leaf, place_of, form_by, form_of, operand_of, operator_of, left_of, right_of, Shape, of_cell, of_unary, of_binary, shape_of, takes_two, has_two, unary_operator, binary_operator}
use Rattle.layout.specs.Places.{place_in, held_in, ConstantAs, Ready, value_in, Answered}
use Rattle.layout.specs.Answers.{answer_of, worth_of}
use Rattle.layout.proofs.Places.{place_held, sound_ready, places_ready}
use Rattle.layout.proofs.Answers.{unary_shape, binary_shape, Worthy, Faulty, is_worth, is_fault}
use Rattle.eval.specs.Packed.{word_in, tag_in, opened_of, unary_in, binary_in, cell_in, cell_place, CellAsked, applied_by, applied_in, Applies}

module _ {r p : List ℕ} {t : Tables} {u : List ℕ} (a : Ready r p t u) where
  abbrev P : Policy
  P = policy_of p

  abbrev R : Recipe
  R = recipe_of r

  abbrev held : Memory
  held = held_in R u

  -- ---- operators on values

  abbrev op_by : (s : Shape) → (o v : Valued) → Valued
  op_by of_cell o v = cell_of P R held o
  op_by (of_unary op) o v = unary_of op o
  op_by (of_binary op) o v = binary_of P op o v

  abbrev op_of : (k : Operator) → (o v : Valued) → Valued
  op_of k o v = op_by (shape_of k) o v

  -- a fault of an operand is the fault of the whole
  left_lost : (s : Shape) (h : Stop) (v : Valued) → op_by s (Err h) v ≡ Err h
  left_lost of_cell h v = refl
  left_lost (of_unary op) h v = refl
  left_lost (of_binary op) h v = refl

  right_lost : (s : Shape) → takes_two s ≡ true → (q : Place) (h : Stop) → op_by s (Ok q) (Err h) ≡ Err h
  right_lost of_cell l q h = absurd (false≢true l)
  right_lost (of_unary op) l q h = absurd (false≢true l)
  right_lost (of_binary op) l q h = refl

  -- ---- leaves

  -- expression e is a leaf, at place l
  record LeafAt (e l : ℕ) : Type 0 where
    there : l < 2112
    good : tag_in (get_or u l 0) < byte p 6
    is : value_in r p u e ≡ Ok (place_in u l)

  leaf_of : (e : ℕ) (x : Expr) → e < R.exprs → ExprOk R.vars e x → ConstantAs u e x
      → value_in r p u e ≡ value_by P R held (λ i. value_in r p u i) x → leaf x ≡ true → LeafAt e (place_of e x)
  unfolding tag_of
  leaf_of e (Constant w) there ok c v q =
      let tag : tag_in (get_or u (1088 + e) 0) ≡ 0 = ap tag_of c in
      record {
        there = omega (arith, a.recipe.counts.few_exprs);
        good = rw tag a.policy.some_tag;
        is = v ∙ ap Ok (sym c);
      }
  leaf_of e (Variable x) there ok c v q =
      let low : x < count R = omega arith in
      record {
        there = omega (arith, a.recipe.counts.few_vars);
        good = a.tags_below x low;
        is = v ∙ ap Ok (place_held R u x low);
      }
  leaf_of e (Cell i) there ok c v q = absurd (false≢true q)
  leaf_of e (Unary op i) there ok c v q = absurd (false≢true q)
  leaf_of e (Binary op i j) there ok c v q = absurd (false≢true q)
  leaf_of e BadExpr there ok c v q = absurd ok

  module _ (e : ℕ) (there : e < R.exprs) where
    ok_at : ExprOk R.vars e (R.expr_at e)
    ok_at = a.recipe.ordered.exprs_ok e there

    value_at : value_in r p u e ≡ value_by P R held (λ i. value_in r p u i) (R.expr_at e)
    value_at = eval_is P R a.recipe.ordered.exprs_ok held e there

    leaf_at : leaf (R.expr_at e) ≡ true → LeafAt e (place_of e (R.expr_at e))
    leaf_at = leaf_of e (R.expr_at e) there ok_at (a.constants e there) value_at

  -- ---- a node: form f, operator k, left l and right m, for expression e

  record FlatAt (e : ℕ) (k : Operator) (l m : ℕ) : Type 0 where
    left_there : l < 2112
    right_there : m < 2112
    left_good : tag_in (get_or u l 0) < byte p 6
    right_good : has_two k ≡ true → tag_in (get_or u m 0) < byte p 6
    is : value_in r p u e ≡ op_of k (Ok (place_in u l)) (Ok (place_in u m))

  record DeepAt (e : ℕ) (k : Operator) (l m : ℕ) : Type 0 where
    lower : l < e
    right_lower : has_two k ≡ true → m < e
    is : value_in r p u e ≡ op_of k (value_in r p u l) (value_in r p u m)

  abbrev NodeAt : (e : ℕ) (f : Form) (k : Operator) (l m : ℕ) → Type 0
  NodeAt e Leaf k l m = LeafAt e l
  NodeAt e Flat k l m = FlatAt e k l m
  NodeAt e Deep k l m = DeepAt e k l m

  module _ {e : ℕ} {f : Form} {k : Operator} {l m : ℕ} (there : e < R.exprs) where
    one : (n : Operator) (i : ℕ) → i < e → has_two n ≡ false → (b : Bool) → leaf (R.expr_at i) ≡ b → f ≡ form_by b → k ≡ n → l ≡ operand_of R b i → m ≡ 0
        → ((v : Valued) → value_in r p u e ≡ op_of n (value_in r p u i) v) → NodeAt e f k l m
    one n i h g true q f k l m v =
        let x = leaf_at i (omega arith) q in
        rw (f, k, l, m) (record {
          left_there = x.there;
          right_there = omega arith;
          left_good = x.good;
          right_good = λ z. absurd (false≢true (sym g ∙ z));
          is = rw x.is at (v (Ok (place_in u 0)));
        })
    one n i h g false q f k l m v =
        rw (f, k, l, m) (record { lower = h; right_lower = λ z. absurd (false≢true (sym g ∙ z)); is = v (value_in r p u 0) })

    apart : (n : Operator) (i j : ℕ) → i < e → j < e → f ≡ Deep → k ≡ n → l ≡ i → m ≡ j
        → value_in r p u e ≡ op_of n (value_in r p u i) (value_in r p u j) → NodeAt e f k l m
    apart n i j h d f k l m v = rw (f, k, l, m) (record { lower = h; right_lower = λ z. d; is = v })

    two : (n : Operator) (i j : ℕ) → i < e → j < e → (b c : Bool) → leaf (R.expr_at i) ≡ b → leaf (R.expr_at j) ≡ c
        → f ≡ form_by (b && c) → k ≡ n → l ≡ operand_of R (b && c) i → m ≡ operand_of R (b && c) j
        → value_in r p u e ≡ op_of n (value_in r p u i) (value_in r p u j) → NodeAt e f k l m
    two n i j h d true true q s f k l m v =
        let x = leaf_at i (omega arith) q in
        let y = leaf_at j (omega arith) s in
        rw (f, k, l, m) (record {
          left_there = x.there;
          right_there = y.there;
          left_good = x.good;
          right_good = λ z. y.good;
          is = rw (x.is, y.is) at v;
        })
    two n i j h d true false q s f k l m v = apart n i j h d f k l m v
    two n i j h d false c q s f k l m v = apart n i j h d f k l m v

  node_of_lem : (e : ℕ) (x : Expr) {f : Form} {k : Operator} {l m : ℕ} → e < R.exprs → ExprOk R.vars e x → ConstantAs u e x
      → f ≡ form_of R x → k ≡ operator_of x → l ≡ left_of R e x → m ≡ right_of R x
      → value_in r p u e ≡ value_by P R held (λ i. value_in r p u i) x → NodeAt e f k l m
  node_of_lem e (Constant w) there ok c f k l m v = rw (f, l) (leaf_of e (Constant w) there ok c v refl)
  node_of_lem e (Variable x) there ok c f k l m v = rw (f, l) (leaf_of e (Variable x) there ok c v refl)
  node_of_lem e (Cell i) there ok c f k l m v = one there operator.Cell i ok refl (leaf (R.expr_at i)) refl f k l m (λ w. v)
  node_of_lem e (Unary op i) there ok c f k l m v =
      one there (unary_operator op) i ok (ap takes_two (unary_shape op)) (leaf (R.expr_at i)) refl f k l m (λ w. rw (unary_shape op) v)
  node_of_lem e (Binary op i j) there ok c f k l m v =
      two there (binary_operator op) i j ok.0 ok.1 (leaf (R.expr_at i)) (leaf (R.expr_at j)) refl refl f k l m (rw (binary_shape op) v)
  node_of_lem e BadExpr there ok c f k l m v = absurd ok

  node : (e : ℕ) → e < R.exprs → NodeAt e (expr_node t e).form (expr_node t e).operator (expr_node t e).first (expr_node t e).second
  node e there =
      let x = a.decoded.exprs_as e there in
      node_of_lem e (R.expr_at e) there (ok_at e there) (a.constants e there) x.form x.operator x.left x.right (value_at e there)

  -- ---- answers

  worthy : (i : ℕ) {x : ℕ} → x ≡ answer_of (value_in r p u i) → x < 9223372036854775808 → Worthy P x (value_in r p u i)
  worthy i = is_worth a.policy.few_tags (proper (sound_ready a) (places_ready a) i)

  faulty : (i : ℕ) {x : ℕ} → x ≡ answer_of (value_in r p u i) → 9223372036854775808 ≤ x → Faulty x (value_in r p u i)
  faulty i = is_fault a.policy.few_tags (proper (sound_ready a) (places_ready a) i)

  -- an answer, opened, is the value
  module _ {e x : ℕ} (there : e < R.exprs) (f : Answered t u e x) where
    pub opens_given : x < 9223372036854775808 → tag_in x < 256
    opens_given l = omega (arith, (worthy e (f r p a there) l).good, a.policy.few_tags)

    pub opens : opened_of x ≡ value_in r p u e
    unfolding given
    opens = by (dec_lt x 9223372036854775808)
      where
        by : Dec (x < 9223372036854775808) → opened_of x ≡ value_in r p u e
        by (yes l) = rw (lt-ltb x 9223372036854775808 l) (sym (worthy e (f r p a there) l).is)
        by (no n) =
            let h : 9223372036854775808 ≤ x = omega (arith, n) in
            let w = faulty e (f r p a there) h in
            rw (le-ltb x 9223372036854775808 h, w.back) (sym w.is)

  place_worth : (l : ℕ) → tag_in (get_or u l 0) < byte p 6 → Worthy P (get_or u l 0) (Ok (place_in u l))
  place_worth l h = record { is = refl; good = h }

  -- the join's table has a row and a column for every tag
  few_tag : {b : ℕ} → b < byte p 6 → b < 16
  few_tag l = omega (arith, a.policy.few_tags)

  cell_in_lem : (i : ℕ) → i < t.cells → t.vars + i < count R
  cell_in_lem i l = omega (arith, a.decoded.vars_as, a.decoded.cells_as)

  cell_asked : {x : ℕ} {o : Valued} → Worthy P x o → CellAsked t u x
  cell_asked {x} v =
      let few = a.recipe.counts in
      record {
        few = omega (arith, a.decoded.cells_as, few.few_cells);
        inside = λ l. omega (arith, cell_in_lem (word_in x) l, few.few_vars, few.few_cells);
        tags = λ l. (few_tag (a.tags_below (cell_place t x) (cell_in_lem (word_in x) l)), few_tag v.good);
      }

  -- ---- the operators on worthy answers

  given_same : (b : Bool) (h : Stop) {v w : Valued} → (b ≡ true → v ≡ w) → given b h v ≡ given b h w
  unfolding given
  given_same true h q = q refl
  given_same false h q = refl

  on_cell : {x : ℕ} {o : Valued} → Worthy P x o → cell_in t u x ≡ answer_of (cell_of P R held o)
  unfolding value_of tag_of
  on_cell {x} v =
      let d = a.decoded in
      let i = R.vars + word_in x in
      rw (v.is, d.vars_as, d.cells_as) (ap answer_of (given_same (ltb (word_in x) R.cells) Index λ q.
      let l : i < count R = omega (arith, ltb-true (word_in x) R.cells q) in
      rw (place_held R u i l, d.joins_as _ _ (a.tags_below i l) v.good)))

  on_unary : (op : UnaryOp) {x : ℕ} {o : Valued} → Worthy P x o → unary_in op x ≡ answer_of (unary_of op o)
  unfolding value_of tag_of
  on_unary op v = rw v.is

  on_binary : (op : BinaryOp) {x y : ℕ} {o v : Valued} → Worthy P x o → Worthy P y v → binary_in t op x y ≡ answer_of (binary_of P op o v)
  unfolding value_of tag_of
  on_binary op v w = rw (v.is, w.is, a.decoded.joins_as _ _ v.good w.good)

  whole : {x : ℕ} {o : Valued} → Worthy P x o → x ≡ answer_of o
  unfolding value_of tag_of
  whole v = rw v.is (omega arith)

  on_op : (s : Shape) {x y : ℕ} {o v : Valued} → Worthy P x o → (takes_two s ≡ true → Worthy P y v) → applied_by t u s x y ≡ answer_of (op_by s o v)
  on_op of_cell x y = on_cell x
  on_op (of_unary op) x y = on_unary op x
  on_op (of_binary op) x y = on_binary op x (y refl)

  asks : {k : Operator} {x y : ℕ} {o v : Valued} → Worthy P x o → (has_two k ≡ true → Worthy P y v) → Applies t u k x y
  asks x y = record { cell = λ q. cell_asked x; tags = λ h. (few_tag x.good, few_tag (y h).good) }

  -- ---- expression e

  module _ (e : ℕ) (there : e < R.exprs) where
    abbrev form : Form
    form = (expr_node t e).form

    abbrev code : Operator
    code = (expr_node t e).operator

    abbrev left : ℕ
    left = (expr_node t e).first

    abbrev right : ℕ
    right = (expr_node t e).second

    module _ (h : form ≡ Leaf) where
      abbrev at_leaf : LeafAt e left
      at_leaf = rw h at (node e there)

      pub leaf_place : left < 2112
      leaf_place = at_leaf.there

      pub leaf_value : get_or u left 0 ≡ answer_of (value_in r p u e)
      leaf_value = rw at_leaf.is (whole (place_worth left at_leaf.good))

      -- a leaf is no fault
      pub leaf_worth : {x : ℕ} → x ≡ answer_of (value_in r p u e) → Worthy P x (value_in r p u e)
      leaf_worth f = worthy e f (omega (arith, f ∙ sym leaf_value, at_leaf.good, a.policy.few_tags))

      pub leaf_given : {x : ℕ} → x ≡ answer_of (value_in r p u e) → tag_in x < 256
      leaf_given f = omega (arith, (leaf_worth f).good, a.policy.few_tags)

    module _ (h : form ≡ Flat) where
      abbrev at_flat : FlatAt e code left right
      at_flat = rw h at (node e there)

      pub left_place : left < 2112
      left_place = at_flat.left_there

      pub right_place : right < 2112
      right_place = at_flat.right_there

      left_worth : Worthy P (get_or u left 0) (Ok (place_in u left))
      left_worth = place_worth left at_flat.left_good

      right_worth : has_two code ≡ true → Worthy P (get_or u right 0) (Ok (place_in u right))
      right_worth b = place_worth right (at_flat.right_good b)

      pub flat_asks : Applies t u code (get_or u left 0) (get_or u right 0)
      flat_asks = asks left_worth right_worth

      pub flat_value : {z : ℕ} → z ≡ applied_in t u code (get_or u left 0) (get_or u right 0) → z ≡ answer_of (value_in r p u e)
      flat_value q = rw at_flat.is (q ∙ on_op (shape_of code) left_worth right_worth)

    module _ (h : form ≡ Deep) where
      abbrev at_deep : DeepAt e code left right
      at_deep = rw h at (node e there)

      pub left_lower : left < e
      left_lower = at_deep.lower

      pub left_there : left < R.exprs
      left_there = omega (arith, left_lower, there)

      pub right_lower : has_two code ≡ true → right < e
      right_lower b = at_deep.right_lower b

      pub right_there : has_two code ≡ true → right < R.exprs
      right_there b = omega (arith, right_lower b, there)

      module _ {x : ℕ} (f : x ≡ answer_of (value_in r p u left)) where
        pub left_fault : 9223372036854775808 ≤ x → x ≡ answer_of (value_in r p u e)
        left_fault b =
            let w = faulty _ f b in
            let q = left_lost (shape_of code) w.stop (value_in r p u right) in
            rw (at_deep.is, w.is, q) (rw w.is at f)

        module _ (s : x < 9223372036854775808) where
          first : Worthy P x (value_in r p u left)
          first = worthy _ f s

          module _ (b : has_two code ≡ false) (y : ℕ) where
            no_second : has_two code ≡ true → Worthy P y (value_in r p u right)
            no_second c = absurd (false≢true (sym b ∙ c))

            pub one_asks : Applies t u code x y
            one_asks = asks first no_second

            pub one_value : {z : ℕ} → z ≡ applied_in t u code x y → z ≡ answer_of (value_in r p u e)
            one_value q = rw at_deep.is (q ∙ on_op (shape_of code) first no_second)

          module _ (b : has_two code ≡ true) {y : ℕ} (g : y ≡ answer_of (value_in r p u right)) where
            pub right_fault : 9223372036854775808 ≤ y → y ≡ answer_of (value_in r p u e)
            right_fault c =
                let w = faulty _ g c in
                let q = right_lost (shape_of code) b (worth_of x) w.stop in
                rw (at_deep.is, first.is, w.is, q) (rw w.is at g)

            module _ (c : y < 9223372036854775808) where
              second : Worthy P y (value_in r p u right)
              second = worthy _ g c

              pub two_asks : Applies t u code x y
              two_asks = asks first (λ z. second)

              pub two_value : {z : ℕ} → z ≡ applied_in t u code x y → z ≡ answer_of (value_in r p u e)
              two_value q = rw at_deep.is (q ∙ on_op (shape_of code) first (λ z. second))
