-- The loop passes places whose tags are below the policy's count, until one is not. Assumes nothing.
use native.Mathlib.Omega.{arith}
use Rattle.rules.proofs.Checks.{up_none, up_more}
use Rattle.memory.proofs.Check.{tag_passes, wrong_length, wrong_tag, right_tags}
use Rattle.memory.proofs.check_memory.Goals as goal

pub returns-then-m-count : goal.returns-then-m-count
returns-then-m-count c R e = wrong_length _ _ _ R e (λ q. omega arith)

pub loop-i-init : goal.loop-i-init
loop-i-init c = (omega arith, up_none _)

pub returns-then-tags-m : goal.returns-then-tags-m
returns-then-tags-m c R e = wrong_tag _ _ _ R e (omega arith) (omega arith) c.loop-i.invariant.1 (omega arith)

pub loop-i-preserved : goal.loop-i-preserved
loop-i-preserved c = (omega arith, up_more _ _ c.loop-i.invariant.1 (tag_passes _ _ _ (omega arith) (omega arith)))

pub returns : goal.returns
returns c R e = right_tags _ _ _ R e (omega arith) (omega arith) c.loop-i.invariant.1
