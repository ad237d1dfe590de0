-- A law that is broken at one triple is broken. Assumes nothing.
use native.Mathlib.Omega.{arith}
use mathlib.Core.Path.{sym}
use Rattle.rules.proofs.Tests.{denied}
use Rattle.policy.proofs.Laws.{no_pair, no_triple, law_broken}
use Rattle.policy.proofs.laws_ok.Goals as goal

pub returns-then-not-pair_ok : goal.returns-then-not-pair_ok
returns-then-not-pair_ok c =
    let no-law = no_pair _ _ _ 0 (denied c.pair_ok.ensures c.if-not-pair_ok.true) in
    sym (law_broken _ _ _ _ (omega arith) (omega arith) (omega arith) no-law)

pub returns-then-not-associates : goal.returns-then-not-associates
returns-then-not-associates c =
    let no-law = no_triple _ _ _ _ (denied c.associates.ensures c.if-not-associates.true) in
    sym (law_broken _ _ _ _ (omega arith) (omega arith) (omega arith) no-law)
