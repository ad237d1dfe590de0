-- An operator's answer follows from its operands', whose numbers are lower. Assumes nothing.
use mathlib.Core.Path.{sym, ◌∙◌}
use Rattle.eval.proofs.Values.{left_there, right_there, left_fault, one_value, right_fault, two_asks, two_value}
use Rattle.eval.proofs.+deep_operand.Goals as goal

pub deep-returns-then-x-ge-FAULT : goal.deep-returns-then-x-ge-FAULT
deep-returns-then-x-ge-FAULT t c =
    let args = c.args in
    let pre = c.requires in
    let operand = c.operand-x in
    let if1 = c.if-x-ge-FAULT in
    let e = args.e in
    let h = pre.1 in
    λ r p a there. let f = operand.ensures _ _ a (left_there a e there h) in
    left_fault a e there h f if1.true

pub deep-returns-then-not-has_two : goal.deep-returns-then-not-has_two
deep-returns-then-not-has_two t c =
    let args = c.args in
    let pre = c.requires in
    let operand = c.operand-x in
    let if1 = c.if-x-ge-FAULT in
    let two = sym c.has_two.ensures ∙ c.if-not-has_two.true in
    let apply = c.apply in
    let e = args.e in
    let h = pre.1 in
    λ r p a there. let f = operand.ensures _ _ a (left_there a e there h) in
    one_value a e there h f if1.false two _ apply.ensures

pub deep-returns-then-y-ge-FAULT : goal.deep-returns-then-y-ge-FAULT
deep-returns-then-y-ge-FAULT t c =
    let args = c.args in
    let pre = c.requires in
    let operand = c.operand-x in
    let if1 = c.if-x-ge-FAULT in
    let two = sym c.has_two.ensures ∙ c.if-not-has_two.false in
    let operand2 = c.operand-y in
    let if3 = c.if-y-ge-FAULT in
    let e = args.e in
    let h = pre.1 in
    λ r p a there. let f = operand.ensures _ _ a (left_there a e there h) in
    let k = operand2.ensures _ _ a (right_there a e there h two) in
    right_fault a e there h f if1.false two k if3.true

pub deep-apply-requires-2 : goal.deep-apply-requires-2
deep-apply-requires-2 t c =
    let g = c.requires.0 in
    let e = c.args.e in
    let h = c.requires.1 in
    let two = sym c.has_two.ensures ∙ c.if-not-has_two.false in
    let f = c.operand-x.ensures _ _ g.ready (left_there g.ready e g.there h) in
    let k = c.operand-y.ensures _ _ g.ready (right_there g.ready e g.there h two) in
    two_asks g.ready e g.there h f c.if-x-ge-FAULT.false two k c.if-y-ge-FAULT.false

pub deep-returns : goal.deep-returns
deep-returns t c =
    let args = c.args in
    let pre = c.requires in
    let operand = c.operand-x in
    let if1 = c.if-x-ge-FAULT in
    let two = sym c.has_two.ensures ∙ c.if-not-has_two.false in
    let operand2 = c.operand-y in
    let if3 = c.if-y-ge-FAULT in
    let apply2 = c.apply-2 in
    let e = args.e in
    let h = pre.1 in
    λ r p a there. let f = operand.ensures _ _ a (left_there a e there h) in
    let k = operand2.ensures _ _ a (right_there a e there h two) in
    two_value a e there h f if1.false two k if3.false apply2.ensures
