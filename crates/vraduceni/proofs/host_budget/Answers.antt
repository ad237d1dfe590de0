-- Budget 0 is the house budget. Assumes nothing.
use mathlib.Core.Path.{sym}
use Rattle.vraduceni.proofs.Host.{budget_house, budget_given}
use Rattle.vraduceni.proofs.host_budget.Goals as goal

pub returns-then-budget-eq0 : goal.returns-then-budget-eq0
returns-then-budget-eq0 c = sym (budget_house c.if-budget-eq0.true)

pub returns-else-budget-eq0 : goal.returns-else-budget-eq0
returns-else-budget-eq0 c = sym (budget_given _ c.if-budget-eq0.false)
