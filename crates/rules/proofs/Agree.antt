-- Places, memories and values that look the same to a viewer, and that evaluation keeps them so. Assumes nothing.
use Prim.Native.Nat.{ℕ, zero, suc, ◌+◌}
use mathlib.Core.Bool.{Bool, true, false}
use mathlib.Core.List.{[], ◌∷◌}
use Rattle.rules.specs.declared.UnaryOp.{UnaryOp}
use Rattle.rules.specs.declared.BinaryOp.{BinaryOp}
use Rattle.rules.specs.declared.Expr.{Expr}
use Rattle.rules.specs.declared.Expr.TheVariants.{Constant, Variable, Cell, Unary, Binary, BadExpr}
use Rattle.rules.specs.declared.Stop.{Stop}
use Rattle.rules.specs.declared.Place.{Place}
use Rattle.rules.specs.Steps.{Valued, given, cell_of, unary_of, binary_of, value_by, value_within, eval}
use Rattle.std.specs.Prelude.{Ok, Err}
use Rattle.rules.specs.Operators.{unary, binary}
use Rattle.rules.specs.Policy.{Policy}
use Rattle.rules.specs.Recipe.{Recipe}
use Rattle.rules.specs.Memory.{Memory, write, ◌#◌, value_of, tag_of, place_at}
use Rattle.rules.proofs.Tags.{Viewer, Good, High, high_left, high_right}

module _ {P : Policy} (W : Viewer P) where
  -- both places are hidden, or they are the same
  pub data Agree : Place → Place → Type 0 where
    apart : {p q : Place} → High W (tag_of p) → High W (tag_of q) → Agree p q
    same : {p : Place} → Good P (tag_of p) → Agree p p

  -- memories of one length, whose places agree
  pub data Alike : Memory → Memory → Type 0 where
    nil : Alike [] []
    cons : {p q : Place} {m k : Memory} → Agree p q → Alike m k → Alike (p ∷ m) (q ∷ k)

  -- a fault on either side, or places that agree
  pub data Meets : Valued → Valued → Type 0 where
    fault_left : {h : Stop} {o : Valued} → Meets (Err h) o
    fault_right : {p : Place} {h : Stop} → Meets (Ok p) (Err h)
    values : {p q : Place} → Agree p q → Meets (Ok p) (Ok q)

-- what evaluation gives in one run: a fault, or a value with one of the policy's tags
pub data Fine (P : Policy) : Valued → Type 0 where
  fault : {h : Stop} → Fine P (Err h)
  value : {p : Place} → Good P (tag_of p) → Fine P (Ok p)

module _ {P : Policy} {W : Viewer P} where
  open W.lawful use {some_tag, join_below}

  -- ---- places

  pub apart# : {v w t u : ℕ} → High W t → High W u → Agree W (v # t) (w # u)
  unfolding tag_of
  apart# h j = apart h j

  pub same# : {v t : ℕ} → Good P t → Agree W (v # t) (v # t)
  unfolding tag_of
  same# g = same g

  pub agree_sym : {p q : Place} → Agree W p q → Agree W q p
  agree_sym (apart h j) = apart j h
  agree_sym (same g) = same g

  pub good_left : {p q : Place} → Agree W p q → Good P (tag_of p)
  good_left (apart h j) = h.good
  good_left (same g) = g

  -- a hidden place agrees only with a hidden one
  high_across : {p q : Place} → Agree W p q → High W (tag_of p) → High W (tag_of q)
  high_across (apart h j) k = j
  high_across (same g) k = k

  -- the value of a place, with a tag joined to its own
  pub agree_under : {b : ℕ} {p q : Place} → Good P b → Agree W p q
      → Agree W (value_of p # P.join b (tag_of p)) (value_of q # P.join b (tag_of q))
  agree_under g (apart h j) = apart# (high_right g h) (high_right g j)
  agree_under g (same k) = same# (join_below _ _ g k)

  -- a value computed from places, with their tag or the join of their tags
  agree_map : (f : ℕ → ℕ) {p q : Place} → Agree W p q → Agree W (f (value_of p) # tag_of p) (f (value_of q) # tag_of q)
  agree_map f (apart h j) = apart# h j
  agree_map f (same g) = same# g

  agree_join : (f : ℕ → ℕ → ℕ) {p q x y : Place} → Agree W p x → Agree W q y
      → Agree W (f (value_of p) (value_of q) # P.join (tag_of p) (tag_of q)) (f (value_of x) (value_of y) # P.join (tag_of x) (tag_of y))
  agree_join f (apart h j) b = apart# (high_left h (good_left b)) (high_left j (good_left (agree_sym b)))
  agree_join f (same g) (apart h j) = apart# (high_right g h) (high_right g j)
  agree_join f (same g) (same k) = same# (join_below _ _ g k)

  -- ---- memories

  pub alike_sym : {m k : Memory} → Alike W m k → Alike W k m
  alike_sym nil = nil
  alike_sym (cons a s) = cons (agree_sym a) (alike_sym s)

  alike_self : {m k : Memory} → Alike W m k → Alike W m m
  alike_self nil = nil
  alike_self (cons a s) = cons (same (good_left a)) (alike_self s)

  pub alike_at : {m k : Memory} → Alike W m k → (i : ℕ) → Agree W (place_at m i) (place_at k i)
  alike_at nil i = same# some_tag
  alike_at (cons a s) zero = a
  alike_at (cons a s) (suc i) = alike_at s i

  pub good_at : {m k : Memory} → Alike W m k → (i : ℕ) → Good P (tag_of (place_at m i))
  good_at s i = good_left (alike_at s i)

  -- the same place is written in both
  pub alike_set : {m k : Memory} {p q : Place} → Alike W m k → (i : ℕ) → Agree W p q → Alike W (write m i p) (write k i q)
  alike_set nil i a = nil
  alike_set (cons b s) zero a = cons a s
  alike_set (cons b s) (suc i) a = cons b (alike_set s i a)

  -- a hidden place is written in one
  pub alike_write : {m k : Memory} → Alike W m k → (i : ℕ) (p : Place) → High W (tag_of (place_at m i)) → High W (tag_of p)
      → Alike W (write m i p) k
  alike_write nil i p h j = nil
  alike_write (cons b s) zero p h j = cons (apart j (high_across b h)) s
  alike_write (cons b s) (suc i) p h j = cons b (alike_write s i p h j)

  -- ---- evaluation

  meets_fault : (o : Valued) {h : Stop} → Meets W o (Err h)
  meets_fault (Err h) = fault_left
  meets_fault (Ok p) = fault_right

  meets_given : (a b : Bool) (h : Stop) {x y : Place} → Agree W x y → Meets W (given a h (Ok x)) (given b h (Ok y))
  unfolding given
  meets_given true true h g = values g
  meets_given true false h g = fault_right
  meets_given false b h g = fault_left

  module _ (R : Recipe) {m k : Memory} (s : Alike W m k) where
    agree_cell : {i j : Place} → Agree W i j
        → let p = place_at m (R.vars + value_of i) in
        let q = place_at k (R.vars + value_of j) in
        Agree W (value_of p # P.join (tag_of p) (tag_of i)) (value_of q # P.join (tag_of q) (tag_of j))
    agree_cell (apart h j) = apart# (high_right (good_at s _) h) (high_right (good_at (alike_sym s) _) j)
    agree_cell (same g) = agree_join (λ v _. v) (alike_at s _) (same g)

    meets_cell : {o u : Valued} → Meets W o u → Meets W (cell_of P R m o) (cell_of P R k u)
    meets_cell fault_left = fault_left
    meets_cell fault_right = meets_fault _
    meets_cell (values a) = meets_given _ _ _ (agree_cell a)

    meets_unary : (op : UnaryOp) {o u : Valued} → Meets W o u → Meets W (unary_of op o) (unary_of op u)
    meets_unary op fault_left = fault_left
    meets_unary op fault_right = fault_right
    meets_unary op (values a) = values (agree_map (unary op) a)

    meets_binary : (op : BinaryOp) {o u o' u' : Valued} → Meets W o u → Meets W o' u'
        → Meets W (binary_of P op o o') (binary_of P op u u')
    meets_binary op fault_left b = fault_left
    meets_binary op fault_right b = meets_fault _
    meets_binary op (values a) fault_left = fault_left
    meets_binary op (values a) fault_right = meets_fault _
    meets_binary op (values a) (values b) = meets_given _ _ _ (agree_join (binary op) a b)

    meets_by : {f g : ℕ → Valued} → ((a : ℕ) → Meets W (f a) (g a)) → (e : Expr) → Meets W (value_by P R m f e) (value_by P R k g e)
    meets_by on (Constant w) = values (same# some_tag)
    meets_by on (Variable x) = values (alike_at s x)
    meets_by on (Cell i) = meets_cell (on i)
    meets_by on (Unary op a) = meets_unary op (on a)
    meets_by on (Binary op a b) = meets_binary op (on a) (on b)
    meets_by on BadExpr = values (same# some_tag)

    meets_within : (d e : ℕ) → Meets W (value_within P R m d e) (value_within P R k d e)
    unfolding value_within
    meets_within zero e = values (same# some_tag)
    meets_within (suc d) e = meets_by (meets_within d) (R.expr_at e)

    pub meets_eval : (e : ℕ) → Meets W (eval P R m e) (eval P R k e)
    meets_eval e = meets_within (suc e) e

  fine : (o : Valued) → Meets W o o → Fine P o
  fine (Err h) a = fault
  fine (Ok p) (values a) = value (good_left a)

  pub fine_eval : (R : Recipe) {m k : Memory} → Alike W m k → (e : ℕ) → Fine P (eval P R m e)
  fine_eval R s e = fine _ (meets_eval R (alike_self s) e)
