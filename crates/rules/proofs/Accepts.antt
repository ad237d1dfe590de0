-- Acceptance, both ways: the checks pass exactly where the recipe is well-formed, the policy lawful, the ports there and the
-- memory well-tagged. Assumes nothing.
use Prim.Native.Nat.{ℕ, ◌<◌, ◌≤◌}
use native.Mathlib.Omega.{arith}
use mathlib.Core.Path.{◌≡◌, refl}
use mathlib.Core.Bool.{true, ◌&&◌}
use mathlib.Core.List.{List}
use lib.Dec.{ltb, eqb}
use lib.ListN.{length}
use borrow.Author.Tests.{leb-true, ltb-true, eqb-true, le-leb, lt-ltb, eq-eqb}
use Rattle.rules.specs.declared.Expr.{Expr}
use Rattle.rules.specs.declared.Expr.TheVariants.{Constant, Variable, Cell, Unary, Binary, BadExpr}
use Rattle.rules.specs.declared.Stmt.{Stmt}
use Rattle.rules.specs.declared.Stmt.TheVariants.{Skip, Assign, Store, Then, If, While, Emit, BadStmt}
use Rattle.std.specs.Prelude.{Ok}
use Rattle.rules.specs.Bytes.{byte}
use Rattle.rules.specs.Recipe.{Recipe, recipe_of, mark_ok, zeros_ok, counts_ok, expr_ok, stmt_ok, check_expr, check_stmt, check_header, check_recipe, port_ok, check_ports}
use Rattle.rules.specs.Policy.{Policy, policy_of, policy_header_ok, law_at, laws_ok, check_entry, check_policy}
use Rattle.rules.specs.Memory.{count, places_of, check_tag, check_memory}
use Rattle.rules.specs.Judged.{checks}
use Rattle.rules.specs.Accepted.{ExprOk, StmtOk, Counts, WellFormed, PortOk, PortsOk, Laws, LawfulPolicy, WellTagged, Accepted}
use Rattle.rules.proofs.Tests.{and_left, and_right, and_both}
use Rattle.rules.proofs.Checks.{required, passes, first, second, both_pass, up_each, up_all, each, all}

-- ---- expressions and statements

pub expr_ok_lem : (v e : ℕ) (x : Expr) → expr_ok v e x ≡ true → ExprOk v e x
unfolding expr_ok
expr_ok_lem v e (Constant w) h = tt
expr_ok_lem v e (Variable x) h = ltb-true x v h
expr_ok_lem v e (Cell i) h = ltb-true i e h
expr_ok_lem v e (Unary op a) h = ltb-true a e h
expr_ok_lem v e (Binary op a b) h = (ltb-true a e (and_left (ltb a e) (ltb b e) h), ltb-true b e (and_right (ltb a e) (ltb b e) h))
expr_ok_lem v e BadExpr h = let z : ◌≡◌ {A = ℕ} 0 1 = cc in omega arith

pub ok_expr : (v e : ℕ) (x : Expr) → ExprOk v e x → expr_ok v e x ≡ true
unfolding expr_ok
ok_expr v e (Constant w) h = refl
ok_expr v e (Variable x) h = lt-ltb x v h
ok_expr v e (Cell i) h = lt-ltb i e h
ok_expr v e (Unary op a) h = lt-ltb a e h
ok_expr v e (Binary op a b) h = and_both (lt-ltb a e h.0) (lt-ltb b e h.1)
ok_expr v e BadExpr h = absurd h

-- two orders in one test
two : (a b c d : ℕ) → (ltb a b && ltb c d) ≡ true → (a < b) × (c < d)
two a b c d h = (ltb-true a b (and_left (ltb a b) (ltb c d) h), ltb-true c d (and_right (ltb a b) (ltb c d) h))

two_back : (a b c d : ℕ) → (a < b) × (c < d) → (ltb a b && ltb c d) ≡ true
two_back a b c d h = and_both (lt-ltb a b h.0) (lt-ltb c d h.1)

pub stmt_ok_lem : (v e s : ℕ) (x : Stmt) → stmt_ok v e s x ≡ true → StmtOk v e s x
unfolding stmt_ok
stmt_ok_lem v e s Skip h = tt
stmt_ok_lem v e s (Assign x a) h = two x v a e h
stmt_ok_lem v e s (Store i a) h = two i e a e h
stmt_ok_lem v e s (Then a b) h = two a s b s h
stmt_ok_lem v e s (If a b c) h =
    let f = two a e b s (and_left (ltb a e && ltb b s) (ltb c s) h) in
    (f.0, f.1, ltb-true c s (and_right (ltb a e && ltb b s) (ltb c s) h))
stmt_ok_lem v e s (While a b) h = two a e b s h
stmt_ok_lem v e s (Emit port a) h = ltb-true a e h
stmt_ok_lem v e s BadStmt h = let z : ◌≡◌ {A = ℕ} 0 1 = cc in omega arith

pub ok_stmt : (v e s : ℕ) (x : Stmt) → StmtOk v e s x → stmt_ok v e s x ≡ true
unfolding stmt_ok
ok_stmt v e s Skip h = refl
ok_stmt v e s (Assign x a) h = two_back x v a e h
ok_stmt v e s (Store i a) h = two_back i e a e h
ok_stmt v e s (Then a b) h = two_back a s b s h
ok_stmt v e s (If a b c) h = and_both (two_back a e b s (h.0, h.1)) (lt-ltb c s h.2)
ok_stmt v e s (While a b) h = two_back a e b s h
ok_stmt v e s (Emit port a) h = lt-ltb a e h
ok_stmt v e s BadStmt h = absurd h

port_ok_lem : (ports : ℕ) (x : Stmt) → port_ok ports x ≡ true → PortOk ports x
unfolding port_ok
port_ok_lem ports Skip h = tt
port_ok_lem ports (Assign x a) h = tt
port_ok_lem ports (Store i a) h = tt
port_ok_lem ports (Then a b) h = tt
port_ok_lem ports (If a b c) h = tt
port_ok_lem ports (While a b) h = tt
port_ok_lem ports (Emit port a) h = ltb-true port ports h
port_ok_lem ports BadStmt h = tt

ok_port : (ports : ℕ) (x : Stmt) → PortOk ports x → port_ok ports x ≡ true
unfolding port_ok
ok_port ports Skip h = refl
ok_port ports (Assign x a) h = refl
ok_port ports (Store i a) h = refl
ok_port ports (Then a b) h = refl
ok_port ports (If a b c) h = refl
ok_port ports (While a b) h = refl
ok_port ports (Emit port a) h = lt-ltb port ports h
ok_port ports BadStmt h = refl

-- ---- the recipe

pub counts : (R : Recipe) → counts_ok R ≡ true → Counts R
unfolding counts_ok
counts R h =
    let h3 = and_left _ _ h in
    let h2 = and_left _ _ h3 in
    let h1 = and_left _ _ h2 in
    record {
      few_exprs = leb-true _ _ (and_left _ _ h1);
      some_stmt = leb-true _ _ (and_right _ _ h1);
      few_stmts = leb-true _ _ (and_right _ _ h2);
      few_vars = leb-true _ _ (and_right _ _ h3);
      few_cells = leb-true _ _ (and_right _ _ h);
    }

counts_back : (R : Recipe) → Counts R → counts_ok R ≡ true
unfolding counts_ok
counts_back R c =
    and_both
    (and_both
    (and_both
    (and_both (le-leb _ _ c.few_exprs) (le-leb _ _ c.some_stmt)) (le-leb _ _ c.few_stmts)) (le-leb _ _ c.few_vars))
    (le-leb _ _ c.few_cells)

-- three bytes in one test
three : (a b c x y z : ℕ) → (eqb a x && eqb b y && eqb c z) ≡ true → (a ≡ x) × (b ≡ y) × (c ≡ z)
three a b c x y z h =
    let f = and_left _ _ h in
    (eqb-true a x (and_left _ _ f), eqb-true b y (and_right _ _ f), eqb-true c z (and_right _ _ h))

three_back : (a b c x y z : ℕ) → (a ≡ x) × (b ≡ y) × (c ≡ z) → (eqb a x && eqb b y && eqb c z) ≡ true
three_back a b c x y z h = and_both (and_both (eq-eqb a x h.0) (eq-eqb b y h.1)) (eq-eqb c z h.2)

pub recipe_well_formed : (r : List ℕ) → check_recipe r ≡ Ok tt → WellFormed r
unfolding check_recipe check_header mark_ok zeros_ok
recipe_well_formed r h =
    let R = recipe_of r in
    let records = second _ _ h in
    let h1 = second _ _ (first _ _ h) in
    let h2 = second _ _ h1 in
    let h3 = second _ _ h2 in
    let head = required _ _ (first _ _ h3) in
    let zeros = and_left _ _ head in
    let expr = up_each R.exprs (check_expr R) (first _ _ records) in
    let stmt = up_each R.stmts (check_stmt R) (second _ _ records) in
    record {
      mark = three _ _ _ _ _ _ (required _ _ (first _ _ h1));
      version = eqb-true _ _ (required _ _ (first _ _ h2));
      zeros = (eqb-true _ _ (and_left _ _ zeros), eqb-true _ _ (and_right _ _ zeros));
      counts = counts R (and_right _ _ head);
      long = eqb-true _ _ (required _ _ (second _ _ h3));
      ordered = record {
        exprs_ok = λ e l. expr_ok_lem _ _ _ (required _ _ (first _ _ (expr e l)));
        stmts_ok = λ s l. stmt_ok_lem _ _ _ _ (required _ _ (stmt s l));
      };
      narrow = λ e l. leb-true _ _ (required _ _ (second _ _ (expr e l)));
    }

pub well_formed_recipe : (r : List ℕ) → WellFormed r → check_recipe r ≡ Ok tt
unfolding check_recipe check_header mark_ok zeros_ok
well_formed_recipe r w =
    let R = recipe_of r in
    both_pass
    (both_pass (passes _ (le-leb 16 (length r) (omega (arith, w.long))))
    (both_pass (passes _ (three_back _ _ _ _ _ _ w.mark))
    (both_pass (passes _ (eq-eqb _ _ w.version))
    (both_pass (passes _ (and_both (and_both (eq-eqb _ _ w.zeros.0) (eq-eqb _ _ w.zeros.1)) (counts_back R w.counts)))
    (passes _ (eq-eqb _ _ w.long))))))
    (both_pass
    (up_all R.exprs (check_expr R) λ e l.
    both_pass (passes _ (ok_expr _ _ _ (w.ordered.exprs_ok e l))) (passes _ (le-leb _ _ (w.narrow e l))))
    (up_all R.stmts (check_stmt R) λ s l. passes _ (ok_stmt _ _ _ _ (w.ordered.stmts_ok s l))))

pub ports_there : (R : Recipe) (ports : ℕ) → check_ports R ports ≡ Ok tt → PortsOk R ports
unfolding check_ports
ports_there R ports h s l = port_ok_lem ports (R.stmt_at s) (required _ _ (up_each R.stmts _ h s l))

pub there_ports : (R : Recipe) (ports : ℕ) → PortsOk R ports → check_ports R ports ≡ Ok tt
unfolding check_ports
there_ports R ports h = up_all R.stmts _ λ s l. passes _ (ok_port ports (R.stmt_at s) (h s l))

-- ---- the policy

-- the four laws in one test
record LawAt (P : Policy) (t u w : ℕ) : Type 0 where
  commutes : P.join t u ≡ P.join u t
  associates : P.join (P.join t u) w ≡ P.join t (P.join u w)
  itself : P.join t t ≡ t
  zero_least : P.join 0 t ≡ t

law_at_lem : (P : Policy) (t u w : ℕ) → law_at P t u w ≡ true → LawAt P t u w
unfolding law_at
law_at_lem P t u w h =
    let h2 = and_left _ _ h in
    let h1 = and_left _ _ h2 in
    record {
      commutes = eqb-true _ _ (and_left _ _ h1);
      associates = eqb-true _ _ (and_right _ _ h1);
      itself = eqb-true _ _ (and_right _ _ h2);
      zero_least = eqb-true _ _ (and_right _ _ h);
    }

at_law : (P : Policy) (t u w : ℕ) → LawAt P t u w → law_at P t u w ≡ true
unfolding law_at
at_law P t u w l = and_both (and_both (and_both (eq-eqb _ _ l.commutes) (eq-eqb _ _ l.associates)) (eq-eqb _ _ l.itself)) (eq-eqb _ _ l.zero_least)

laws : (P : Policy) → laws_ok P ≡ true → Laws P
unfolding laws_ok
laws P h =
    record {
      commutes = λ t u lt lu. (at t u t lt lu lt).commutes;
      associates = λ t u w lt lu lw. (at t u w lt lu lw).associates;
      itself = λ t lt. (at t t t lt lt lt).itself;
      zero_least = λ t lt. (at t t t lt lt lt).zero_least;
    }
  where
    at : (t u w : ℕ) → t < P.tags → u < P.tags → w < P.tags → LawAt P t u w
    at t u w lt lu lw = law_at_lem P t u w (each P.tags _ (each P.tags _ (each P.tags _ h t lt) u lu) w lw)

laws_back : (P : Policy) → Laws P → laws_ok P ≡ true
unfolding laws_ok
laws_back P l =
    all P.tags _ λ t lt. all P.tags _ λ u lu. all P.tags _ λ w lw.
    at_law P t u w
    (record {
      commutes = l.commutes t u lt lu;
      associates = l.associates t u w lt lu lw;
      itself = l.itself t lt;
      zero_least = l.zero_least t lt;
    })

-- the counts that the header's test bounds
pub header_counts : (p : List ℕ) → policy_header_ok p ≡ true → (byte p 6 ≤ 16) × (byte p 7 ≤ 16)
unfolding policy_header_ok
header_counts p h =
    let g = and_left _ _ h in
    (leb-true _ _ (and_right _ _ (and_left _ _ g)), leb-true _ _ (and_right _ _ g))

pub policy_lawful : (p : List ℕ) → check_policy p ≡ Ok tt → LawfulPolicy p
unfolding check_policy policy_header_ok
policy_lawful p h =
    let h1 = second _ _ h in
    let g = required _ _ (first _ _ h) in
    let g5 = and_left _ _ g in
    let g4 = and_left _ _ g5 in
    let g3 = and_left _ _ g4 in
    let g2 = and_left _ _ g3 in
    let g1 = and_left _ _ g2 in
    record {
      mark = three _ _ _ _ _ _ (and_left _ _ g1);
      version = eqb-true _ _ (and_right _ _ g1);
      zero_byte = eqb-true _ _ (and_right _ _ g2);
      some_tag = leb-true _ _ (and_right _ _ g3);
      few_tags = leb-true _ _ (and_right _ _ g4);
      few_ports = leb-true _ _ (and_right _ _ g5);
      long = eqb-true _ _ (and_right _ _ g);
      entries = λ i l. ltb-true _ _ (required _ _ (up_each _ (check_entry p) (first _ _ h1) i l));
      laws = laws (policy_of p) (required _ _ (second _ _ h1));
    }

pub lawful_policy : (p : List ℕ) → LawfulPolicy p → check_policy p ≡ Ok tt
unfolding check_policy policy_header_ok
lawful_policy p l =
    both_pass
    (passes _
    (and_both
    (and_both
    (and_both
    (and_both
    (and_both (and_both (three_back _ _ _ _ _ _ l.mark) (eq-eqb _ _ l.version)) (eq-eqb _ _ l.zero_byte))
    (le-leb _ _ l.some_tag)) (le-leb _ _ l.few_tags)) (le-leb _ _ l.few_ports)) (eq-eqb _ _ l.long)))
    (both_pass (up_all _ (check_entry p) λ i h. passes _ (lt-ltb _ _ (l.entries i h))) (passes _ (laws_back (policy_of p) l.laws)))

-- ---- the memory

pub memory_well_tagged : (R : Recipe) (tags : ℕ) (m : List ℕ) → check_memory R tags m ≡ Ok tt → WellTagged R tags m
unfolding check_memory
memory_well_tagged R tags m h =
    record {
      long = eqb-true _ _ (required _ _ (first _ _ h));
      tags_below = λ i l. ltb-true _ _ (required _ _ (up_each (count R) (check_tag tags (places_of R m)) (second _ _ h) i l));
    }

pub well_tagged_memory : (R : Recipe) (tags : ℕ) (m : List ℕ) → WellTagged R tags m → check_memory R tags m ≡ Ok tt
unfolding check_memory
well_tagged_memory R tags m w =
    both_pass (passes _ (eq-eqb _ _ w.long))
    (up_all (count R) (check_tag tags (places_of R m)) λ i l. passes _ (lt-ltb _ _ (w.tags_below i l)))

-- ---- all of it

pub accepted : (r p m : List ℕ) → checks r p m ≡ Ok tt → Accepted r p m
unfolding checks
accepted r p m h =
    let h1 = second _ _ h in
    let h2 = second _ _ h1 in
    record {
      recipe = recipe_well_formed r (first _ _ h);
      policy = policy_lawful p (first _ _ h1);
      ports = ports_there (recipe_of r) (byte p 7) (first _ _ h2);
      memory = memory_well_tagged (recipe_of r) (byte p 6) m (second _ _ h2);
    }

pub not_refused : (r p m : List ℕ) → Accepted r p m → checks r p m ≡ Ok tt
unfolding checks
not_refused r p m a =
    both_pass (well_formed_recipe r a.recipe)
    (both_pass (lawful_policy p a.policy)
    (both_pass (there_ports (recipe_of r) (byte p 7) a.ports) (well_tagged_memory (recipe_of r) (byte p 6) m a.memory)))
