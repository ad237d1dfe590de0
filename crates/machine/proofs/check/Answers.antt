-- The recipe, the policy, the ports, the memory: each is looked at where those before it pass. Assumes nothing.
use native.Mathlib.Omega.{arith}
use Rattle.std.proofs.Common.{rules}
use mathlib.Core.Path.{sym, ◌∙◌}
use Rattle.rules.specs.Judged.{checks}
use Rattle.rules.proofs.Checks.{stops}
use Rattle.rules.proofs.Accepts.{recipe_well_formed, policy_lawful}
use Rattle.machine.proofs.check.Goals as goal

pub bounds-p-7 : goal.bounds-p-7
bounds-p-7 c =
    let l = policy_lawful _ (sym c.check_policy.ensures ∙ c.in_ok-check_policy.was) in
    omega (arith, l.long)

pub check_ports-requires : goal.check_ports-requires
check_ports-requires c = recipe_well_formed _ (sym c.check_recipe.ensures ∙ c.in_ok-check_recipe.was)

pub half_at-requires : goal.half_at-requires
half_at-requires c =
    let w = recipe_well_formed _ (sym c.check_recipe.ensures ∙ c.in_ok-check_recipe.was) in
    omega (arith, w.long)

pub half_at-requires-2 : goal.half_at-requires-2
half_at-requires-2 c =
    let w = recipe_well_formed _ (sym c.check_recipe.ensures ∙ c.in_ok-check_recipe.was) in
    omega (arith, w.long)

pub bounds-p-6 : goal.bounds-p-6
bounds-p-6 c =
    let l = policy_lawful _ (sym c.check_policy.ensures ∙ c.in_ok-check_policy.was) in
    omega (arith, l.long)

pub returns-in_err-check_recipe : goal.returns-in_err-check_recipe
unfolding checks
returns-in_err-check_recipe c = sym (stops _ (sym c.check_recipe.ensures ∙ c.in_err-check_recipe.was) ∙ search rules)
