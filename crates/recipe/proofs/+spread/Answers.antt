-- `recipe::spread` meets its contract. The measure is the expression's own number, and its operands' are lower. Assumes nothing.
use mathlib.Core.Path.{sym, ◌∙◌}
use Rattle.rules.specs.Recipe.{spread_by}
use Rattle.recipe.proofs.Spreads.{spread_is}
use Rattle.recipe.proofs.+spread.Goals as goal

pub returns-in-Constant : goal.returns-in-Constant
unfolding spread_by
returns-in-Constant t c = spread_is c.requires (sym c.in-Constant.is ∙ c.expr_at-x.ensures)

pub returns-in-Variable : goal.returns-in-Variable
unfolding spread_by
returns-in-Variable t c = spread_is c.requires (sym c.in-Variable.is ∙ c.expr_at-x.ensures)

pub returns-in-Cell : goal.returns-in-Cell
unfolding spread_by
returns-in-Cell t c =
    let e = spread_is c.requires (sym c.in-Cell.is ∙ c.expr_at-x.ensures) in
    rw c.spread.ensures e

pub returns-in-Unary : goal.returns-in-Unary
unfolding spread_by
returns-in-Unary t c =
    let e = spread_is c.requires (sym c.in-Unary.is ∙ c.expr_at-x.ensures) in
    rw c.spread-in-Unary.ensures e

pub returns-in-Binary : goal.returns-in-Binary
unfolding spread_by
returns-in-Binary t c =
    let e = spread_is c.requires (sym c.in-Binary.is ∙ c.expr_at-x.ensures) in
    rw (c.spread-in-Binary.ensures, c.spread-in-Binary-2.ensures) e
