use Prim.Native.Nat.{◌≤◌, ◌-◌}
use mathlib.Core.Path.{◌≡◌}
use Rattle.std.specs.Prelude.{Ok}
use Rattle.rules.specs.declared.Refusal.TheVariants.{BadPort}
use Rattle.rules.specs.Checks.{require, up_to}
use Rattle.rules.specs.Recipe.{recipe_of, port_ok}
use Rattle.recipe.proofs.check_ports.Given as goal

abbrev pub invariant-loop-s : goal.invariant-loop-s
invariant-loop-s l = (l.s ≤ l.stmts) × (up_to l.s (λ i. require (port_ok l.ports ((recipe_of l.r).stmt_at i)) (BadPort i)) ≡ Ok tt)

abbrev pub decreases-loop-s : goal.decreases-loop-s
decreases-loop-s l = l.stmts - l.s
