use Prim.Native.Nat.{◌≤◌, ◌-◌}
use Rattle.memory.proofs.Check.{Below}
use Rattle.memory.proofs.check_memory.Given as goal

abbrev pub invariant-loop-i : goal.invariant-loop-i
invariant-loop-i l = (l.i ≤ l.count) × Below l.m l.count l.tags l.i

abbrev pub decreases-loop-i : goal.decreases-loop-i
decreases-loop-i l = l.count - l.i
