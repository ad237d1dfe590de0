-- Assumes nothing.
use native.Mathlib.Omega.{arith}
use mathlib.Core.Path.{refl, ◌∙◌}
use lib.ListN.{length-set}
use Rattle.rules.specs.Recipe.{recipe_of}
use Rattle.layout.specs.Tables.{StmtAs}
use Rattle.decode.proofs.Tables.{entries_more}
use Rattle.decode.proofs.decode_stmts.Goals as goal

pub loop-s-preserved : goal.loop-s-preserved
loop-s-preserved c =
    let R = recipe_of c.args.r.now in
    let inv = c.loop-s.invariant in (
      entries_more _ (λ s f. StmtAs f (R.stmt_at s)) c.loop-s.stmts c.loop-s.s _ (omega (arith, inv.1)) inv.0
          (rw (c.stmt_record.ensures, c.stmt_at.ensures) (record { kind = refl; first = refl; second = refl; third = refl })),
      length-set c.loop-s.stmts c.loop-s.s _ ∙ inv.1,
    )
