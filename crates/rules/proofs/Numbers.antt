-- Every number given is one of document 01's table. Assumes nothing.
use Prim.Native.Nat.{ℕ, zero, suc, ◌+◌, ◌≤◌, ◌<◌}
use native.Mathlib.Nat.{mul-le-mul_left}
use native.Mathlib.Omega.{arith}
use mathlib.Core.Path.{◌≡◌, refl, subst}
use mathlib.Core.Bool.{Bool, true, false}
use mathlib.Core.Logic.{◌⊎◌, inl, inr}
use mathlib.Core.List.{List}
use lib.ListN.{length}
use Rattle.rules.specs.declared.Stop.{Stop}
use Rattle.rules.specs.declared.Stop.TheVariants.{AssignTag, StoreTag, EmitTag, Index, Divisor, Room, Frames}
use Rattle.rules.specs.declared.Refusal.{Refusal}
use Rattle.rules.specs.declared.Refusal.TheVariants.{RecipeLength, RecipeMark, RecipeVersion, RecipeHeader, BadExpression, WideExpression, BadStatement, PolicyHeader, PolicyEntry, PolicyLaw, BadPort, MemoryLength, MemoryTag, HouseRoom, ReportRoom}
use Rattle.rules.specs.Checks.{Checked, require, ◌and_then◌, up_to}
use Rattle.std.specs.Prelude.{Ok, Err}
use Rattle.rules.specs.declared.End.{End}
use Rattle.rules.specs.declared.End.TheVariants.{Done, Budget, Stopped, Refused}
use Rattle.rules.specs.Bytes.{Bytes, byte}
use Rattle.rules.specs.Policy.{Policy, policy_of, check_policy}
use Rattle.rules.specs.Recipe.{Recipe, recipe_of, check_header, check_recipe, check_ports}
use Rattle.rules.specs.Memory.{count, check_memory}
use Rattle.rules.specs.Run.{Result, result}
use Rattle.rules.specs.Ends.{stop_number, refusal_number, refusal_place, end_number, end_place}
use Rattle.rules.specs.Judged.{written_back, ran, checks, judged}
use Rattle.rules.specs.Accepted.{Counts}
use Rattle.rules.proofs.Tests.{and_right}
use Rattle.rules.proofs.Checks.{required, first, second}
use Rattle.rules.proofs.Accepts.{counts, header_counts, recipe_well_formed, accepted}
use Rattle.rules.proofs.Standing.{EndOk, LeftBy}
use Rattle.rules.proofs.Demands.{judged_refused, judged_ran, left_by}

-- ---- checks give 16 to 28

pub record Listed (n : ℕ) : Type 0 where
  pub from : 16 ≤ n
  pub to : n ≤ 28

-- given by a check, and not by the lack of a buffer
abbrev ByCheck : Refusal → Type 0
ByCheck RecipeLength = Unit {0}
ByCheck RecipeMark = Unit {0}
ByCheck RecipeVersion = Unit {0}
ByCheck RecipeHeader = Unit {0}
ByCheck (BadExpression e) = Unit {0}
ByCheck (WideExpression e) = Unit {0}
ByCheck (BadStatement s) = Unit {0}
ByCheck PolicyHeader = Unit {0}
ByCheck (PolicyEntry i) = Unit {0}
ByCheck PolicyLaw = Unit {0}
ByCheck (BadPort s) = Unit {0}
ByCheck MemoryLength = Unit {0}
ByCheck (MemoryTag i) = Unit {0}
ByCheck HouseRoom = ⊥
ByCheck ReportRoom = ⊥

listed : (x : Refusal) → ByCheck x → Listed (refusal_number x)
unfolding refusal_number
listed RecipeLength k = record { from = omega arith; to = omega arith }
listed RecipeMark k = record { from = omega arith; to = omega arith }
listed RecipeVersion k = record { from = omega arith; to = omega arith }
listed RecipeHeader k = record { from = omega arith; to = omega arith }
listed (BadExpression e) k = record { from = omega arith; to = omega arith }
listed (WideExpression e) k = record { from = omega arith; to = omega arith }
listed (BadStatement s) k = record { from = omega arith; to = omega arith }
listed PolicyHeader k = record { from = omega arith; to = omega arith }
listed (PolicyEntry i) k = record { from = omega arith; to = omega arith }
listed PolicyLaw k = record { from = omega arith; to = omega arith }
listed (BadPort s) k = record { from = omega arith; to = omega arith }
listed MemoryLength k = record { from = omega arith; to = omega arith }
listed (MemoryTag i) k = record { from = omega arith; to = omega arith }
listed HouseRoom k = absurd k
listed ReportRoom k = absurd k

-- every refusal is 16 or more
pub refusal_from : (x : Refusal) → 16 ≤ refusal_number x
unfolding refusal_number
refusal_from RecipeLength = omega arith
refusal_from RecipeMark = omega arith
refusal_from RecipeVersion = omega arith
refusal_from RecipeHeader = omega arith
refusal_from (BadExpression e) = omega arith
refusal_from (WideExpression e) = omega arith
refusal_from (BadStatement s) = omega arith
refusal_from PolicyHeader = omega arith
refusal_from (PolicyEntry i) = omega arith
refusal_from PolicyLaw = omega arith
refusal_from (BadPort s) = omega arith
refusal_from MemoryLength = omega arith
refusal_from (MemoryTag i) = omega arith
refusal_from HouseRoom = omega arith
refusal_from ReportRoom = omega arith

-- a refusal by a check, whose place fits 16 bits
data Numbered : Checked → Type 0 where
  passed : Numbered (Ok tt)
  failed : (x : Refusal) → ByCheck x → refusal_place x < 65536 → Numbered (Err x)

numbered_require : (b : Bool) (x : Refusal) → ByCheck x → refusal_place x < 65536 → Numbered (require b x)
unfolding require
numbered_require true x k l = passed
numbered_require false x k l = failed x k l

-- a check is looked at where those before it passed
numbered_then : {c d : Checked} → Numbered c → (c ≡ Ok tt → Numbered d) → Numbered (c and_then d)
unfolding ◌and_then◌
numbered_then passed on = on refl
numbered_then (failed x k l) on = failed x k l

numbered_up : (n : ℕ) {f : ℕ → Checked} → ((i : ℕ) → i < n → Numbered (f i)) → Numbered (up_to n f)
unfolding up_to
numbered_up zero on = passed
numbered_up (suc n) on = numbered_then (numbered_up n (λ i l. on i (omega arith))) (λ _. on n (omega arith))

numbered_header : (r : List ℕ) → Numbered (check_header r)
unfolding check_header refusal_place
numbered_header r =
    numbered_then (numbered_require _ _ tt (omega arith)) λ _.
    numbered_then (numbered_require _ _ tt (omega arith)) λ _.
    numbered_then (numbered_require _ _ tt (omega arith)) λ _.
    numbered_then (numbered_require _ _ tt (omega arith)) λ _.
    numbered_require _ _ tt (omega arith)

-- the counts that the header's check bounds
header_few : (r : List ℕ) → check_header r ≡ Ok tt → Counts (recipe_of r)
unfolding check_header
header_few r h = counts (recipe_of r) (and_right _ _ (required _ _ (first _ _ (second _ _ (second _ _ (second _ _ h))))))

numbered_recipe : (r : List ℕ) → Numbered (check_recipe r)
unfolding check_recipe refusal_place
numbered_recipe r =
    let R = recipe_of r in
    numbered_then (numbered_header r) λ h.
    let few = header_few r h in
    numbered_then
    (numbered_up R.exprs λ e l.
    let b : e < 65536 = omega (arith, few.few_exprs) in
    numbered_then (numbered_require _ _ tt b) λ _. numbered_require _ _ tt b) λ _.
    numbered_up R.stmts λ s l. numbered_require _ _ tt (omega (arith, few.few_stmts))

numbered_policy : (p : List ℕ) → Numbered (check_policy p)
unfolding check_policy refusal_place
numbered_policy p =
    numbered_then (numbered_require _ _ tt (omega arith)) λ h.
    let few = header_counts p (required _ _ h) in
    numbered_then
    (numbered_up _ λ i l.
    let b : 8 + i < 65536 = omega (arith, few.0, few.1, mul-le-mul_left (byte p 6) few.0) in
    numbered_require _ _ tt b) λ _.
    numbered_require _ _ tt (omega arith)

numbered_checks : (r p m : List ℕ) → Numbered (checks r p m)
unfolding checks check_ports check_memory refusal_place
numbered_checks r p m =
    let R = recipe_of r in
    numbered_then (numbered_recipe r) λ h.
    let few = (recipe_well_formed r h).counts in
    numbered_then (numbered_policy p) λ _.
    numbered_then (numbered_up R.stmts λ s l. numbered_require _ _ tt (omega (arith, few.few_stmts))) λ _.
    numbered_then (numbered_require _ _ tt (omega arith)) λ _.
    numbered_up (count R) λ i l. numbered_require _ _ tt (omega (arith, few.few_vars, few.few_cells))

-- ---- runs give 0 to 8

stop_to : (h : Stop) → stop_number h ≤ 8
unfolding stop_number
stop_to AssignTag = omega arith
stop_to StoreTag = omega arith
stop_to EmitTag = omega arith
stop_to Index = omega arith
stop_to Divisor = omega arith
stop_to Room = omega arith
stop_to Frames = omega arith

run_to : (R : Recipe) (e : End) → EndOk R e → end_number e ≤ 8
unfolding end_number
run_to R Done k = omega arith
run_to R Budget k = omega arith
run_to R (Stopped h s) k = stop_to h
run_to R (Refused x) k = absurd k

place_to : (R : Recipe) (e : End) → R.stmts ≤ 512 → EndOk R e → end_place e < 65536
unfolding end_place
place_to R Done few k = omega arith
place_to R Budget few k = omega arith
place_to R (Stopped h s) few k = omega arith
place_to R (Refused x) few k = absurd k

-- ---- the machine

-- the number is one of the table's, and the place fits the report
pub record Given (e : End) : Type 0 where
  pub number : (end_number e ≤ 8) ⊎ Listed (end_number e)
  pub place : end_place e < 65536

refused_given : (m q : List ℕ) {x : Refusal} → Numbered (Err x) → Given (Refused x)
unfolding end_number end_place
refused_given m q (failed x k l) = record { number = inr (listed x k); place = l }

ran_given : (P : Policy) (R : Recipe) (q : List ℕ) (x : Result) → R.stmts ≤ 512 → LeftBy P R (length q) x → Given (written_back q x).outcome.end
unfolding written_back
ran_given P R q (result e k m r) few l = record { number = inl (run_to R e l.ends_at); place = place_to R e few l.ends_at }

pub judged_given : (r p m q : List ℕ) → Bytes r → Bytes m → (budget : ℕ) → Given (judged r p m q budget).outcome.end
judged_given r p m q br bm budget = by_checks (checks r p m) refl
  where
    by_checks : (c : Checked) → checks r p m ≡ c → Given (judged r p m q budget).outcome.end
    by_checks (Err x) e = rw (judged_refused r p m q budget e) (refused_given m q (subst Numbered e (numbered_checks r p m)))
    by_checks (Ok u) e =
        let a = accepted r p m e in
        rw (judged_ran r p m q budget e)
        (ran_given (policy_of p) (recipe_of r) q (ran r p m (length q) budget) a.recipe.counts.few_stmts (left_by r p m br bm a (length q) budget))
