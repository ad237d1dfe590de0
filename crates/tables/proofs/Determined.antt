-- Each promise has one answer: any two results that it allows are equal, and so is what they leave in the buffers.
-- `Post` is the function's contract as the checker reads it. Assumes nothing.
use mathlib.Core.Path.{◌≡◌, sym, ◌∙◌}
use Rattle.tables.proofs.expr_at.Reads as expr-at
use Rattle.tables.proofs.half_at.Reads as half_at
use Rattle.tables.proofs.stmt_at.Reads as stmt-at
use Rattle.tables.proofs.wide.Reads as wide
use Rattle.tables.proofs.word_at.Reads as word_at

pub wide_one : (κs : _) (a : _) (r s : _) (x y : _) → wide.Post κs a r x → wide.Post κs a s y → r ≡ s
wide_one κs a r s x y p q = p.0 ∙ sym q.0

pub half_at_one : (κs : _) (a : _) (r s : _) (x y : _) → half_at.Post κs a r x → half_at.Post κs a s y → r ≡ s
half_at_one κs a r s x y p q = p.0 ∙ sym q.0

pub word_at_one : (κs : _) (a : _) (r s : _) (x y : _) → word_at.Post κs a r x → word_at.Post κs a s y → r ≡ s
word_at_one κs a r s x y p q = p ∙ sym q

pub expr_at_one : (κs : _) (a : _) (r s : _) (x y : _) → expr-at.Post κs a r x → expr-at.Post κs a s y → r ≡ s
expr_at_one κs a r s x y p q = p ∙ sym q

pub stmt_at_one : (κs : _) (a : _) (r s : _) (x y : _) → stmt-at.Post κs a r x → stmt-at.Post κs a s y → r ≡ s
stmt_at_one κs a r s x y p q = p ∙ sym q
