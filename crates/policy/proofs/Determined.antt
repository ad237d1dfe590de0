-- Each promise has one answer: any two results that it allows are equal, and so is what they leave in the buffers.
-- `Post` is the function's contract as the checker reads it. Assumes nothing.
use mathlib.Core.Path.{◌≡◌, sym, ◌∙◌}
use Rattle.policy.proofs.check_policy.Reads as check-policy
use Rattle.policy.proofs.clearance.Reads as clearance
use Rattle.policy.proofs.house_policy.Reads as house-policy
use Rattle.policy.proofs.join.Reads as join

pub check_policy_one : (κs : _) (a : _) (r s : _) (x y : _) → check-policy.Post κs a r x → check-policy.Post κs a s y → r ≡ s
check_policy_one κs a r s x y p q = p ∙ sym q

pub join_one : (κs : _) (a : _) (r s : _) (x y : _) → join.Post κs a r x → join.Post κs a s y → r ≡ s
join_one κs a r s x y p q = p.0 ∙ sym q.0

pub clearance_one : (κs : _) (a : _) (r s : _) (x y : _) → clearance.Post κs a r x → clearance.Post κs a s y → r ≡ s
clearance_one κs a r s x y p q = p.0 ∙ sym q.0

pub house_policy_one : (κs : _) (a : _) (r s : _) (x y : _) → house-policy.Post κs a r x → house-policy.Post κs a s y → (r ≡ s) × (x.0.now ≡ y.0.now)
house_policy_one κs a r s x y p q = (p.0 ∙ sym q.0, p.1 ∙ sym q.1)
