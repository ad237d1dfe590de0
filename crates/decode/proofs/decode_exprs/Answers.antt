-- Assumes nothing.
use native.Mathlib.Omega.{arith}
use mathlib.Core.Path.{refl, ◌∙◌}
use lib.ListN.{length-set}
use Rattle.rules.specs.Recipe.{recipe_of}
use Rattle.layout.specs.Tables.{ExprAs}
use Rattle.decode.proofs.Tables.{entries_more}
use Rattle.decode.proofs.decode_exprs.Goals as goal

pub loop-e-preserved : goal.loop-e-preserved
loop-e-preserved c =
    let R = recipe_of c.args.r.now in
    let inv = c.loop-e.invariant in (
      entries_more _ (λ e f. ExprAs R f e (R.expr_at e)) c.loop-e.exprs c.loop-e.e _ (omega (arith, inv.1)) inv.0
          (rw c.expr_node.ensures (record { form = refl; operator = refl; left = refl; right = refl })),
      length-set c.loop-e.exprs c.loop-e.e _ ∙ inv.1,
    )
