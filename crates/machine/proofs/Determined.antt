-- Each promise has one answer: any two results that it allows are equal, and so is what they leave in the buffers.
-- `Post` is the function's contract as the checker reads it. Assumes nothing.
use mathlib.Core.Path.{◌≡◌, sym, ◌∙◌}
use Rattle.machine.proofs.check.Reads as check
use Rattle.machine.proofs.judge.Reads as judge

pub check_one : (κs : _) (a : _) (r s : _) (x y : _) → check.Post κs a r x → check.Post κs a s y → r ≡ s
check_one κs a r s x y p q = p ∙ sym q

pub judge_one : (κs : _) (a : _) (r s : _) (x y : _) → judge.Post κs a r x → judge.Post κs a s y → (r ≡ s) × (x.1.1.0.now ≡ y.1.1.0.now) × (x.1.1.1.0.now ≡ y.1.1.1.0.now)
judge_one κs a r s x y p q = (p.outcome_is ∙ sym q.outcome_is, p.memory_is ∙ sym q.memory_is, p.room_is ∙ sym q.room_is)
