use Prim.Native.Nat.{◌≤◌, ◌-◌}
use mathlib.Core.Path.{◌≡◌}
use Rattle.std.specs.Prelude.{Ok}
use Rattle.rules.specs.Checks.{up_to}
use Rattle.rules.specs.Recipe.{recipe_of, check_expr}
use Rattle.recipe.proofs.check_exprs.Given as goal

abbrev pub invariant-loop-e : goal.invariant-loop-e
invariant-loop-e l = (l.e ≤ l.exprs) × (up_to l.e (check_expr (recipe_of l.r)) ≡ Ok tt)

abbrev pub decreases-loop-e : goal.decreases-loop-e
decreases-loop-e l = l.exprs - l.e
