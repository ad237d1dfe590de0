-- Demand 3 of the code: what two calls of the C host's entry return and leave, by the entry's promise. Assumes nothing.
use Prim.Native.Nat.{ℕ, zero, suc, ◌^◌, ◌<◌, ◌≤◌}
use native.Mathlib.Omega.{arith}
use mathlib.Core.Path.{◌≡◌, refl}
use mathlib.Core.List.{List, ◌++◌}
use lib.ListN.{length, drop}
use borrow.Author.Tests.{le-leb}
use Rattle.rules.specs.declared.Stop.{Stop}
use Rattle.rules.specs.declared.Stop.TheVariants.{AssignTag, StoreTag, EmitTag, Index, Divisor, Room, Frames}
use Rattle.rules.specs.declared.End.{End}
use Rattle.rules.specs.declared.End.TheVariants.{Done, Budget, Stopped, Refused}
use Rattle.rules.specs.declared.Outcome.{Outcome}
use Rattle.rules.specs.Bytes.{Bytes, whole, half_bytes, whole_bytes}
use Rattle.rules.specs.Policy.{policy_of}
use Rattle.rules.specs.Recipe.{recipe_of}
use Rattle.rules.specs.Memory.{places_of}
use Rattle.rules.specs.Ends.{stop_number, end_number}
use Rattle.rules.specs.Judged.{judged, host_budget, report_bytes, reported, with_report, hosted}
use Rattle.rules.specs.Accepted.{Accepted}
use Rattle.rules.specs.Views.{Agreeing, Secret}
use Rattle.rules.proofs.Bytes.{word_back}
use Rattle.rules.proofs.Numbers.{refusal_from}
use Rattle.rules.proofs.Demands.{kept, demand_3}
use Rattle.vraduceni.specs.Hosts.{Finds, HostSecret}

-- ---- from the number and the report back to the outcome

stop_from_lem : (h : Stop) → stop_number h ≡ 0 → ⊥
unfolding stop_number
stop_from_lem AssignTag e = omega arith
stop_from_lem StoreTag e = omega arith
stop_from_lem EmitTag e = omega arith
stop_from_lem Index e = omega arith
stop_from_lem Divisor e = omega arith
stop_from_lem Room e = omega arith
stop_from_lem Frames e = omega arith

-- number 0 is given for done alone
done_alone : (e : End) → end_number e ≡ 0 → e ≡ Done
unfolding end_number
done_alone Done h = refl
done_alone Budget h = absurd (omega arith)
done_alone (Stopped x s) h = absurd (stop_from_lem x h)
done_alone (Refused x) h = absurd (omega (arith, refusal_from x))

-- the count of records in a report
counted : (o : Outcome) (rest : List ℕ) → o.records < 2 ^ 32 → whole (report_bytes o ++ rest) 8 ≡ o.records
unfolding report_bytes half_bytes whole_bytes
counted o rest h = word_back o.records h

budget_fits : (b : ℕ) → b < 2 ^ 32 → host_budget b < 2 ^ 32
unfolding host_budget
budget_fits zero h = omega arith
budget_fits (suc b) h = h

-- with room for the report, the entry reports what the machine gives
pub reported_is : (r p m q report : List ℕ) (b : ℕ) → 12 ≤ length report → hosted r p m q report b ≡ reported report (judged r p m q (host_budget b))
unfolding hosted with_report
reported_is r p m q report b h = rw (le-leb 12 (length report) h)

module _ (r p m k : List ℕ) (br : Bytes r) (bm : Bytes m) (bk : Bytes k) (am : Accepted r p m) (ak : Accepted r p k)
    (A : ℕ) (below : A < (policy_of p).tags) (agree : Agreeing (policy_of p) A (recipe_of r) (places_of (recipe_of r) m) (places_of (recipe_of r) k))
    (q q' report report' : List ℕ) (b b' : ℕ) (fb : b < 2 ^ 32) (fb' : b' < 2 ^ 32) (lr : 12 ≤ length report) (lr' : 12 ≤ length report') where
  -- of what the definition gives
  hosted_secret : HostSecret (policy_of p) A (recipe_of r)
      (hosted r p m q report b).number (hosted r p m q report b).memory (hosted r p m q report b).room (hosted r p m q report b).report
      (hosted r p k q' report' b').number (hosted r p k q' report' b').memory (hosted r p k q' report' b').room (hosted r p k q' report' b').report
  hosted_secret =
      let x = judged r p m q (host_budget b) in
      let y = judged r p k q' (host_budget b') in
      let s : Secret (policy_of p) A (recipe_of r) x y = demand_3 r p m k br bm bk am ak A below agree q q' (host_budget b) (host_budget b') in
      let cx = counted x.outcome (drop 12 report) (omega (arith, (kept r p m q br bm (host_budget b)).few_records, budget_fits b fb)) in
      let cy = counted y.outcome (drop 12 report') (omega (arith, (kept r p k q' br bk (host_budget b')).few_records, budget_fits b' fb')) in
      rw (reported_is r p m q report b lr, reported_is r p k q' report' b' lr')
      (record {
        beginning = rw (cx, cy) s.beginning;
        same_records = rw (cx, cy) (λ e f. s.same_records (done_alone _ e) (done_alone _ f));
        agreeing_again = λ e f. s.agreeing_again (done_alone _ e) (done_alone _ f);
      })

  -- of any two answers that the entry's promise allows
  pub demand_3_of_the_code : {n n' : ℕ} {m₁ q₁ t₁ k₁ q₂ t₂ : List ℕ}
      → Finds n m₁ q₁ t₁ (hosted r p m q report b) → Finds n' k₁ q₂ t₂ (hosted r p k q' report' b')
      → HostSecret (policy_of p) A (recipe_of r) n m₁ q₁ t₁ n' k₁ q₂ t₂
  demand_3_of_the_code f g =
      rw (f.number_is, f.memory_is, f.room_is, f.report_is, g.number_is, g.memory_is, g.room_is, g.report_is) hosted_secret
