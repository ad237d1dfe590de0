-- Each promise has one answer: any two results that it allows are equal, and so is what they leave in the buffers.
-- `Post` is the function's contract as the checker reads it. Assumes nothing.
use mathlib.Core.Path.{◌≡◌, sym, ◌∙◌}
use Rattle.vraduceni.proofs.vraduceni_house_policy.Reads as vraduceni-house-policy
use Rattle.vraduceni.proofs.vraduceni_judge.Reads as vraduceni-judge

pub vraduceni_judge_one : (κs : _) (a : _) (r s : _) (x y : _) → vraduceni-judge.Post κs a r x → vraduceni-judge.Post κs a s y → (r ≡ s) × (x.1.1.0.now ≡ y.1.1.0.now) × (x.1.1.1.0.now ≡ y.1.1.1.0.now) × (x.1.1.1.1.0.now ≡ y.1.1.1.1.0.now)
vraduceni_judge_one κs a r s x y p q = (p.number_is ∙ sym q.number_is, p.memory_is ∙ sym q.memory_is, p.room_is ∙ sym q.room_is, p.report_is ∙ sym q.report_is)

pub vraduceni_house_policy_one : (κs : _) (a : _) (r s : _) (x y : _) → vraduceni-house-policy.Post κs a r x → vraduceni-house-policy.Post κs a s y → (r ≡ s) × (x.0.now ≡ y.0.now)
vraduceni_house_policy_one κs a r s x y p q = (p.0 ∙ sym q.0, p.1 ∙ sym q.1)
