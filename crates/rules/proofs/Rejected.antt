-- Demand 2 rejects five kinds of machine, each by runs that such a machine gets wrong. Assumes nothing.
use Prim.Native.Nat.{ℕ}
use native.Mathlib.Omega.{arith}
use mathlib.Core.Path.{◌≡◌, sym, ap, ◌∙◌}
use mathlib.Core.List.{[]}
use Rattle.rules.specs.declared.End.TheVariants.{Done, Budget, Refused}
use Rattle.rules.specs.Judged.{Judged, judged}
use Rattle.rules.specs.Machines.{Machine, Meets, RefusesAll, DoneWithNothing, LeavesMemory, InventsTheRest, MakesUpSteps}
use Rattle.rules.specs.Examples.{two_tags, countdown, by_twos, two, none, ended, telling, told}
use Rattle.rules.proofs.Examples.{telling_runs}

-- ---- the runs one by one

down : judged countdown two_tags two [] 5 ≡ ended Done 5 none
unfolding telling told
down = cc telling_runs

down_one : judged countdown two_tags two [] 1 ≡ ended Budget 1 two
unfolding telling told
down_one = cc telling_runs

down_none : judged countdown two_tags none [] 5 ≡ ended Done 1 none
unfolding telling told
down_none = cc telling_runs

twos : judged by_twos two_tags two [] 5 ≡ ended Done 3 none
unfolding telling told
twos = cc telling_runs

twos_one : judged by_twos two_tags two [] 1 ≡ ended Budget 1 two
unfolding telling told
twos_one = cc telling_runs

-- ---- the machines

module _ (M : Machine) (meets : Meets M) where
  pub not_refusing_all : RefusesAll M → ⊥
  not_refusing_all h =
      let x = h.refuses countdown two_tags two [] 5 in
      let e : Done ≡ Refused x.0 = ap (λ (j : Judged). j.outcome.end) (sym (meets.same countdown two_tags two [] 5 ∙ down)) ∙ x.1 in
      let z : ◌≡◌ {A = ℕ} 0 1 = cc in
      omega arith

  pub not_done_with_nothing : DoneWithNothing M → ⊥
  not_done_with_nothing h =
      let x = h.done countdown two_tags two [] 1 in
      let e : Budget ≡ Done = ap (λ (j : Judged). j.outcome.end) (sym (meets.same countdown two_tags two [] 1 ∙ down_one)) ∙ x.0 in
      let z : ◌≡◌ {A = ℕ} 0 1 = cc in
      omega arith

  pub not_leaving_memory : LeavesMemory M → ⊥
  unfolding two none
  not_leaving_memory h =
      let e : none ≡ two = ap (λ (j : Judged). j.memory) (sym (meets.same countdown two_tags two [] 5 ∙ down)) ∙ h.leaves countdown two_tags two [] 5 in
      let z : ◌≡◌ {A = ℕ} 0 2 = cc in
      omega arith

  -- two recipes that stand alike after one step
  pub not_inventing : InventsTheRest M → ⊥
  not_inventing h =
      let a : h.invented (ended Budget 1 two) 5 ≡ ended Done 5 none =
      ap (λ (j : Judged). h.invented j 5) (sym down_one) ∙ sym (h.invents countdown two_tags two [] 5) ∙ meets.same countdown two_tags two [] 5 ∙ down in
      let b : h.invented (ended Budget 1 two) 5 ≡ ended Done 3 none =
      ap (λ (j : Judged). h.invented j 5) (sym twos_one) ∙ sym (h.invents by_twos two_tags two [] 5) ∙ meets.same by_twos two_tags two [] 5 ∙ twos in
      let z : ◌≡◌ {A = ℕ} 5 3 = ap (λ (j : Judged). j.outcome.steps) (sym a ∙ b) in
      omega arith

  -- two memories with which one recipe takes 5 steps and 1
  pub not_making_up_steps : MakesUpSteps M → ⊥
  not_making_up_steps h =
      let a : 5 ≡ h.made_up countdown two_tags 5 =
      ap (λ (j : Judged). j.outcome.steps) (sym (meets.same countdown two_tags two [] 5 ∙ down)) ∙ h.counts countdown two_tags two [] 5 in
      let b : 1 ≡ h.made_up countdown two_tags 5 =
      ap (λ (j : Judged). j.outcome.steps) (sym (meets.same countdown two_tags none [] 5 ∙ down_none)) ∙ h.counts countdown two_tags none [] 5 in
      omega arith
