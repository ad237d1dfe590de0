-- Each operator by its operands' nodes, which are there since operands are lower. Assumes nothing.
use mathlib.Core.Path.{sym, ◌∙◌}
use Rattle.rules.specs.Recipe.{recipe_of}
use Rattle.decode.proofs.Tables.{expr_fits}
use Rattle.decode.proofs.expr_node.Goals as goal

pub returns-in-Cell : goal.returns-in-Cell
returns-in-Cell c =
    let q = sym c.expr_at.ensures ∙ c.in-Cell.is in
    rw q (c.one_operand.ensures _ (c.requires.2 _ (expr_fits c.requires.0 c.requires.1 q)))

pub returns-in-Unary : goal.returns-in-Unary
returns-in-Unary c =
    let q = sym c.expr_at.ensures ∙ c.in-Unary.is in
    let there = c.requires.2 _ (expr_fits c.requires.0 c.requires.1 q) in
    rw q (rw c.from.ensures at (c.one_operand-in-Unary.ensures (recipe_of c.args.r.now) there))

pub returns-in-Binary : goal.returns-in-Binary
returns-in-Binary c =
    let q = sym c.expr_at.ensures ∙ c.in-Binary.is in
    let low = expr_fits c.requires.0 c.requires.1 q in
    rw q (rw c.from-in-Binary.ensures at (c.two_operands.ensures (recipe_of c.args.r.now) (c.requires.2 _ low.0) (c.requires.2 _ low.1)))
