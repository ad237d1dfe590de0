-- A decoded statement is read back from its fields. Assumes nothing.
use Prim.Native.Nat.{ℕ, ◌<◌}
use native.Mathlib.Omega.{arith}
use mathlib.Core.Path.{◌≡◌, refl, sym}
use mathlib.Core.List.{List, [], ◌∷◌}
use lib.ListN.{get_or}
use Rattle.rules.specs.declared.Stmt.{Stmt}
use Rattle.rules.specs.declared.Stmt.TheVariants.{Skip, Assign, Store, Then, If, While, Emit, BadStmt}
use Rattle.rules.specs.Bytes.{byte}
use Rattle.rules.specs.Recipe.{recipe_of}
use Rattle.rules.specs.Accepted.{StmtOk, PortOk}
use Rattle.layout.specs.declared.Record.{Record}
use Rattle.layout.specs.declared.Tables.{Tables}
use Rattle.layout.specs.Tables.{stmt_record, kind_of, first_of, second_of, third_of, StmtAs}
use Rattle.layout.specs.Places.{Ready}

abbrev pub stmt_from : (k a b c : ℕ) → Stmt
stmt_from k a b c = get_or (Skip ∷ Assign a b ∷ Store a b ∷ Then a b ∷ If a b c ∷ While a b ∷ Emit b a ∷ []) k BadStmt

pub back : (v n s : ℕ) (x : Stmt) → StmtOk v n s x → stmt_from (kind_of x) (first_of x) (second_of x) (third_of x) ≡ x
back v n s Skip h = refl
back v n s (Assign x e) h = refl
back v n s (Store i e) h = refl
back v n s (Then a c) h = refl
back v n s (If e a c) h = refl
back v n s (While e a) h = refl
back v n s (Emit port e) h = refl
back v n s BadStmt h = absurd h

pub kind_below : (x : Stmt) → kind_of x < 7
kind_below Skip = omega arith
kind_below (Assign x e) = omega arith
kind_below (Store i e) = omega arith
kind_below (Then a c) = omega arith
kind_below (If e a c) = omega arith
kind_below (While e a) = omega arith
kind_below (Emit port e) = omega arith
kind_below BadStmt = omega arith

module _ {r p : List ℕ} {t : Tables} {u : List ℕ} (ready : Ready r p t u) {s : ℕ} (l : s < (recipe_of r).stmts) where
  pub decoded_as : StmtAs (stmt_record t s) ((recipe_of r).stmt_at s)
  decoded_as = ready.decoded.stmts_as s l

  abbrev pub named : Record
  named = stmt_record t s

  module _ {k : ℕ} (q : named.kind ≡ k) where
    pub stmt_is : (recipe_of r).stmt_at s ≡ stmt_from k named.first named.second named.third
    stmt_is = rw (← q, decoded_as.kind, decoded_as.first, decoded_as.second, decoded_as.third) (sym (back (recipe_of r).vars (recipe_of r).exprs s ((recipe_of r).stmt_at s) (ready.recipe.ordered.stmts_ok s l)))

    pub stmt_ok_lem : StmtOk (recipe_of r).vars (recipe_of r).exprs s (stmt_from k named.first named.second named.third)
    stmt_ok_lem = rw stmt_is at (ready.recipe.ordered.stmts_ok s l)

    pub port_ok_lem : PortOk (byte p 7) (stmt_from k named.first named.second named.third)
    port_ok_lem = rw stmt_is at (ready.ports s l)
