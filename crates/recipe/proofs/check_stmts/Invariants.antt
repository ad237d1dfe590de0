use Prim.Native.Nat.{◌≤◌, ◌-◌}
use mathlib.Core.Path.{◌≡◌}
use Rattle.std.specs.Prelude.{Ok}
use Rattle.rules.specs.Checks.{up_to}
use Rattle.rules.specs.Recipe.{recipe_of, check_stmt}
use Rattle.recipe.proofs.check_stmts.Given as goal

abbrev pub invariant-loop-s : goal.invariant-loop-s
invariant-loop-s l = (l.s ≤ l.stmts) × (up_to l.s (check_stmt (recipe_of l.r)) ≡ Ok tt)

abbrev pub decreases-loop-s : goal.decreases-loop-s
decreases-loop-s l = l.stmts - l.s
