-- What the checks before have found when expression e is looked at. Assumes nothing.
use Rattle.std.specs.Prelude.{ℕ, ◌+◌, ◌*◌, ◌<◌, ◌≤◌, List, length}
use Rattle.rules.specs.Recipe.{recipe_of, spread}
use Rattle.rules.specs.Accepted.{ExprOk}

-- the expressions up to e are well-formed, and those below e are narrow, so that the sum of two spreads fits
pub record Reached (r : List ℕ) (e : ℕ) : Type 0 where
  pub long : 16 + 8 * e + 7 < length r
  pub ok : (a : ℕ) → a ≤ e → ExprOk (recipe_of r).vars a ((recipe_of r).expr_at a)
  pub narrow : (a : ℕ) → a < e → spread (recipe_of r) a ≤ 256
