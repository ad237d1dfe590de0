-- Each promise has one answer: any two results that it allows are equal, and so is what they leave in the buffers.
-- `Post` is the function's contract as the checker reads it. Assumes nothing.
use Prim.Native.Nat.{ℕ}
use native.Mathlib.Nat.{add-zero}
use mathlib.Core.Path.{◌≡◌, sym, ◌∙◌}
use Rattle.rules.specs.Recipe.{Recipe}
use Rattle.rules.specs.declared.Expr.TheVariants.{BadExpr}
use Rattle.rules.specs.declared.Stmt.TheVariants.{BadStmt}
use Rattle.memory.proofs.check_memory.Reads as check-memory
use Rattle.memory.proofs.place_at.Reads as place_at
use Rattle.memory.proofs.put_half.Reads as put-half
use Rattle.memory.proofs.put_place.Reads as put-place
use Rattle.memory.proofs.put_record.Reads as put_record
use Rattle.memory.proofs.put_word.Reads as put_word

pub put_half_one : (κs : _) (a : _) (r s : _) (x y : _) → put-half.Post κs a r x → put-half.Post κs a s y → x.0.now ≡ y.0.now
put_half_one κs a r s x y p q = p ∙ sym q

pub put_word_one : (κs : _) (a : _) (r s : _) (x y : _) → put_word.Post κs a r x → put_word.Post κs a s y → x.0.now ≡ y.0.now
put_word_one κs a r s x y p q = p ∙ sym q

pub put_record_one : (κs : _) (a : _) (r s : _) (x y : _) → put_record.Post κs a r x → put_record.Post κs a s y → x.0.now ≡ y.0.now
put_record_one κs a r s x y p q = p ∙ sym q

pub place_at_one : (κs : _) (a : _) (r s : _) (x y : _) → place_at.Post κs a r x → place_at.Post κs a s y → r ≡ s
place_at_one κs a r s x y p q = p ∙ sym q

pub put_place_one : (κs : _) (a : _) (r s : _) (x y : _) → put-place.Post κs a r x → put-place.Post κs a s y → x.0.now ≡ y.0.now
put_place_one κs a r s x y p q = p.0 ∙ sym q.0

-- a recipe of so many places
of_places : ℕ → Recipe
of_places n = record { exprs = 0; stmts = 0; vars = n; cells = 0; expr_at = λ _. BadExpr; stmt_at = λ _. BadStmt }

pub check_memory_one : (κs : _) (a : _) (r s : _) (x y : _) → check-memory.Post κs a r x → check-memory.Post κs a s y → r ≡ s
unfolding of_places
check_memory_one κs a r s x y p q = p (of_places a.1.0) (add-zero _) ∙ sym (q (of_places a.1.0) (add-zero _))
