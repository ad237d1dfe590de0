use mathlib.Core.Path.{◌≡◌}
use mathlib.Core.List.{List}
use Prim.Native.Nat.{ℕ}
use Rattle.rules.specs.Recipe.{recipe_of}
use Rattle.layout.specs.Places.{Ready}
use Rattle.machine.proofs.Turns.{Stands}
use Rattle.machine.proofs.run.Given as goal

abbrev pub invariant-loop-step : goal.invariant-loop-step
invariant-loop-step l =
    (r p : List ℕ) → Ready r p l.t l.initial.u → l.limit ≡ (recipe_of r).stmts → Stands r p l.t l.initial.u l.initial.q l.u l.q l.x.stack l.budget l.step l.records l.depth l.kind l.s l.tag
