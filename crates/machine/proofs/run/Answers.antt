-- What is left to run from the state that the loop holds is the whole run. Assumes nothing.
use native.Mathlib.Omega.{arith}
use mathlib.Core.Path.{refl, ◌∙◌}
use Rattle.rules.specs.Policy.{policy_of}
use Rattle.rules.specs.Recipe.{recipe_of}
use Rattle.steps.proofs.Asked.{value_found, tag_found, join_is}
use Rattle.machine.proofs.Turns.{starts, depth_below, stmt_low, branch_low, held_now, branch_now, done, done_spent, spent, passes_on, fails_with, pushes_on, full, records_on, no_room, wrote_on, refused, there, asks_now, begun, act_fits, names, port_names, next_on, next_some, join_on, join_some, next_there, some, loop_there, loop_names, repeats_on, leaves_on, fails_at}
use Rattle.machine.proofs.Arms.{did_as, chooses_no, chooses_yes, loops_no, loops_yes, tests_no, tests_yes, emits_no, emits_yes, emit_given, emit_on, emit_off}
use Rattle.machine.proofs.run.Goals as goal

pub loop-step-init : goal.loop-step-init
loop-step-init c = λ r p a l. starts a c.requires.all_places refl refl (rw l) c.kind_at-kind.ensures

pub offset_bounds-x-depth : goal.offset_bounds-x-depth
offset_bounds-x-depth c =
    let pre = c.requires in
    let loop = c.loop-step in
    let g = loop.invariant pre.recipe pre.policy pre.ready pre.limited in
    omega (arith, depth_below g, g.ready.recipe.counts.few_stmts)

pub bounds-x-depth : goal.bounds-x-depth
bounds-x-depth c =
    let pre = c.requires in
    let loop = c.loop-step in
    let g = loop.invariant pre.recipe pre.policy pre.ready pre.limited in
    omega (arith, depth_below g, g.ready.recipe.counts.few_stmts)

pub value-requires : goal.value-requires
value-requires c =
    let pre = c.requires in
    let loop = c.loop-step in
    let more = c.loop-step-test.true in
    let g = loop.invariant pre.recipe pre.policy pre.ready pre.limited in
    let parts = names g more (omega arith) c.in-1.is in
    record { recipe = pre.recipe; policy = pre.policy; ready = g.ready; there = parts.1 }

pub returns-in-Err : goal.returns-in-Err
returns-in-Err c =
    let loop = c.loop-step in
    let more = c.loop-step-test.true in
    let value = c.value in
    let err = c.in-Err in
    let stopped = c.stopped in
    λ r p a l. let g = loop.invariant r p a l in
    let parts = names g more (omega arith) c.in-1.is in
    let answer = value.ensures in
    rw stopped.ensures (fails_with g more (omega arith) c.in-1.is
    (rw (value_found g.ready parts.1 answer ∙ err.is)))

pub assign-requires : goal.assign-requires
assign-requires c =
    let pre = c.requires in
    let loop = c.loop-step in
    let more = c.loop-step-test.true in
    let value = c.value in
    let ok = c.in-Ok in
    let g = loop.invariant pre.recipe pre.policy pre.ready pre.limited in
    let parts = names g more (omega arith) c.in-1.is in
    let answer = value.ensures in
    let tagged = tag_found g.ready parts.1 answer ok.is in
    record {
      recipe = pre.recipe;
      policy = pre.policy;
      ready = g.ready;
      branch = g.standing.branch;
      there = parts.0;
      tagged = tagged;
    }

pub returns-in-Err-assign : goal.returns-in-Err-assign
returns-in-Err-assign c =
    let loop = c.loop-step in
    let more = c.loop-step-test.true in
    let value = c.value in
    let ok = c.in-Ok in
    let assign = c.assign in
    let stopped2 = c.stopped-in-Err-assign in
    λ r p a l. let g = loop.invariant r p a l in
    let parts = names g more (omega arith) c.in-1.is in
    let now = begun g more (omega arith) c.in-1.is in
    let answer = value.ensures in
    let found = value_found g.ready parts.1 answer ∙ ok.is in
    let tagged = tag_found g.ready parts.1 answer ok.is in
    rw stopped2.ensures (refused g more (asks_now g more (omega arith) c.in-1.is) now
    (did_as (policy_of p) (recipe_of r) (held_now g) (branch_now g) _ _ _ _ ok.v found
    (assign.ensures r p g.ready g.standing.branch parts.0 tagged)) c.in-Err-assign.is)

pub offset_bounds-x-depth-in-1 : goal.offset_bounds-x-depth-in-1
offset_bounds-x-depth-in-1 c =
    let pre = c.requires in
    let loop = c.loop-step in
    let g = loop.invariant pre.recipe pre.policy pre.ready pre.limited in
    omega (arith, depth_below g, g.ready.recipe.counts.few_stmts)

pub bounds-x-depth-in-1 : goal.bounds-x-depth-in-1
bounds-x-depth-in-1 c =
    let pre = c.requires in
    let loop = c.loop-step in
    let g = loop.invariant pre.recipe pre.policy pre.ready pre.limited in
    omega (arith, depth_below g, g.ready.recipe.counts.few_stmts)

pub store-requires : goal.store-requires
store-requires c =
    let pre = c.requires in
    let loop = c.loop-step in
    let more = c.loop-step-test.true in
    let g = loop.invariant pre.recipe pre.policy pre.ready pre.limited in
    let parts = names g more (omega arith) c.in-2.is in
    record {
      recipe = pre.recipe;
      policy = pre.policy;
      ready = g.ready;
      branch = g.standing.branch;
      index = parts.0;
      value = parts.1;
    }

pub returns-in-Err-store : goal.returns-in-Err-store
returns-in-Err-store c =
    let loop = c.loop-step in
    let more = c.loop-step-test.true in
    let store = c.store in
    let stopped3 = c.stopped-in-Err-store in
    λ r p a l. let g = loop.invariant r p a l in
    let parts = names g more (omega arith) c.in-2.is in
    let now = begun g more (omega arith) c.in-2.is in
    rw stopped3.ensures (refused g more (asks_now g more (omega arith) c.in-2.is) now
    (store.ensures r p g.ready g.standing.branch parts.0 parts.1) c.in-Err-store.is)

pub offset_bounds-x-depth-in-2 : goal.offset_bounds-x-depth-in-2
offset_bounds-x-depth-in-2 c =
    let pre = c.requires in
    let loop = c.loop-step in
    let g = loop.invariant pre.recipe pre.policy pre.ready pre.limited in
    omega (arith, depth_below g, g.ready.recipe.counts.few_stmts)

pub bounds-x-depth-in-2 : goal.bounds-x-depth-in-2
bounds-x-depth-in-2 c =
    let pre = c.requires in
    let loop = c.loop-step in
    let g = loop.invariant pre.recipe pre.policy pre.ready pre.limited in
    omega (arith, depth_below g, g.ready.recipe.counts.few_stmts)

pub returns-then-limit-depth : goal.returns-then-limit-depth
returns-then-limit-depth c =
    let loop = c.loop-step in
    let more = c.loop-step-test.true in
    let if6 = c.if-limit-depth in
    let stopped4 = c.stopped-then-limit-depth in
    λ r p a l. let g = loop.invariant r p a l in
    rw stopped4.ensures (full g more (begun g more (omega arith) c.in-3.is) refl (rw l at if6.true))

pub frame_word-requires : goal.frame_word-requires
frame_word-requires c =
    let pre = c.requires in
    let loop = c.loop-step in
    let more = c.loop-step-test.true in
    let g = loop.invariant pre.recipe pre.policy pre.ready pre.limited in
    let parts = names g more (omega arith) c.in-3.is in
    let low = there g more (omega arith) c.in-3.is in
    (omega arith, omega (arith, parts.1, low, g.ready.recipe.counts.few_stmts), omega arith)

pub kind_at-kind-requires-in-3 : goal.kind_at-kind-requires-in-3
kind_at-kind-requires-in-3 c =
    let pre = c.requires in
    let loop = c.loop-step in
    let more = c.loop-step-test.true in
    let g = loop.invariant pre.recipe pre.policy pre.ready pre.limited in
    let parts = names g more (omega arith) c.in-3.is in
    let low = there g more (omega arith) c.in-3.is in
    omega (arith, parts.0, low, g.ready.recipe.counts.few_stmts)

pub value-requires-in-4 : goal.value-requires-in-4
value-requires-in-4 c =
    let pre = c.requires in
    let loop = c.loop-step in
    let more = c.loop-step-test.true in
    let g = loop.invariant pre.recipe pre.policy pre.ready pre.limited in
    let parts = names g more (omega arith) c.in-4.is in
    record { recipe = pre.recipe; policy = pre.policy; ready = g.ready; there = parts.0 }

pub returns-in-Err-value : goal.returns-in-Err-value
returns-in-Err-value c =
    let loop = c.loop-step in
    let more = c.loop-step-test.true in
    let value2 = c.value-in-4 in
    let err = c.in-Err-value in
    let stopped5 = c.stopped-in-Err-value in
    λ r p a l. let g = loop.invariant r p a l in
    let parts = names g more (omega arith) c.in-4.is in
    let answer = value2.ensures in
    rw stopped5.ensures (fails_with g more (omega arith) c.in-4.is
    (rw (value_found g.ready parts.0 answer ∙ err.is)))

pub returns-then-limit-depth-2 : goal.returns-then-limit-depth-2
returns-then-limit-depth-2 c =
    let loop = c.loop-step in
    let more = c.loop-step-test.true in
    let value2 = c.value-in-4 in
    let ok = c.in-Ok-value in
    let if8 = c.if-limit-depth-2 in
    let stopped6 = c.stopped-then-limit-depth-2 in
    λ r p a l. let g = loop.invariant r p a l in
    let parts = names g more (omega arith) c.in-4.is in
    let now = begun g more (omega arith) c.in-4.is in
    let answer = value2.ensures in
    let found = value_found g.ready parts.0 answer ∙ ok.is in
    rw stopped6.ensures (full g more (rw found at now) refl (rw l at if8.true))

pub frame_word-requires-in-4 : goal.frame_word-requires-in-4
frame_word-requires-in-4 c =
    let pre = c.requires in
    let loop = c.loop-step in
    let g = loop.invariant pre.recipe pre.policy pre.ready pre.limited in
    (omega arith, omega arith, branch_low g)

pub join-tag-requires : goal.join-tag-requires
join-tag-requires c =
    let pre = c.requires in
    let loop = c.loop-step in
    let more = c.loop-step-test.true in
    let value2 = c.value-in-4 in
    let ok = c.in-Ok-value in
    let from = c.from in
    let g = loop.invariant pre.recipe pre.policy pre.ready pre.limited in
    let parts = names g more (omega arith) c.in-4.is in
    let answer = value2.ensures in
    let tagged = tag_found g.ready parts.0 answer ok.is in
    (branch_low g, omega (arith, from.ensures, tagged, g.ready.policy.few_tags))

pub kind_at-kind-requires-then-v-eq0 : goal.kind_at-kind-requires-then-v-eq0
kind_at-kind-requires-then-v-eq0 c =
    let pre = c.requires in
    let loop = c.loop-step in
    let more = c.loop-step-test.true in
    let g = loop.invariant pre.recipe pre.policy pre.ready pre.limited in
    let parts = names g more (omega arith) c.in-4.is in
    let low = there g more (omega arith) c.in-4.is in
    omega (arith, parts.2, low, g.ready.recipe.counts.few_stmts)

pub kind_at-kind-requires-else-v-eq0 : goal.kind_at-kind-requires-else-v-eq0
kind_at-kind-requires-else-v-eq0 c =
    let pre = c.requires in
    let loop = c.loop-step in
    let more = c.loop-step-test.true in
    let g = loop.invariant pre.recipe pre.policy pre.ready pre.limited in
    let parts = names g more (omega arith) c.in-4.is in
    let low = there g more (omega arith) c.in-4.is in
    omega (arith, parts.1, low, g.ready.recipe.counts.few_stmts)

pub value-requires-in-5 : goal.value-requires-in-5
value-requires-in-5 c =
    let pre = c.requires in
    let loop = c.loop-step in
    let more = c.loop-step-test.true in
    let g = loop.invariant pre.recipe pre.policy pre.ready pre.limited in
    let parts = names g more (omega arith) c.in-5.is in
    record { recipe = pre.recipe; policy = pre.policy; ready = g.ready; there = parts.0 }

pub returns-in-Err-value-2 : goal.returns-in-Err-value-2
returns-in-Err-value-2 c =
    let loop = c.loop-step in
    let more = c.loop-step-test.true in
    let value3 = c.value-in-5 in
    let err = c.in-Err-value-2 in
    let stopped7 = c.stopped-in-Err-value-2 in
    λ r p a l. let g = loop.invariant r p a l in
    let parts = names g more (omega arith) c.in-5.is in
    let answer = value3.ensures in
    rw stopped7.ensures (fails_with g more (omega arith) c.in-5.is
    (rw (value_found g.ready parts.0 answer ∙ err.is)))

pub offset_bounds-x-depth-then-v-eq0-2 : goal.offset_bounds-x-depth-then-v-eq0-2
offset_bounds-x-depth-then-v-eq0-2 c =
    let pre = c.requires in
    let loop = c.loop-step in
    let g = loop.invariant pre.recipe pre.policy pre.ready pre.limited in
    omega (arith, depth_below g, g.ready.recipe.counts.few_stmts)

pub bounds-x-depth-then-v-eq0-2 : goal.bounds-x-depth-then-v-eq0-2
bounds-x-depth-then-v-eq0-2 c =
    let pre = c.requires in
    let loop = c.loop-step in
    let g = loop.invariant pre.recipe pre.policy pre.ready pre.limited in
    omega (arith, depth_below g, g.ready.recipe.counts.few_stmts)

pub returns-then-limit-depth-3 : goal.returns-then-limit-depth-3
returns-then-limit-depth-3 c =
    let loop = c.loop-step in
    let more = c.loop-step-test.true in
    let value3 = c.value-in-5 in
    let ok = c.in-Ok-value-2 in
    let if11 = c.if-v-eq0-2 in
    let if12 = c.if-limit-depth-3 in
    let stopped8 = c.stopped-then-limit-depth-3 in
    λ r p a l. let g = loop.invariant r p a l in
    let parts = names g more (omega arith) c.in-5.is in
    let now = begun g more (omega arith) c.in-5.is in
    let answer = value3.ensures in
    let found = value_found g.ready parts.0 answer ∙ ok.is in
    rw stopped8.ensures (full g more now (loops_yes (policy_of p) (recipe_of r) (held_now g) (branch_now g) ok.v found _ _ if11.false) (rw l at if12.true))

pub frame_word-requires-else-v-eq0-2 : goal.frame_word-requires-else-v-eq0-2
frame_word-requires-else-v-eq0-2 c =
    let pre = c.requires in
    let loop = c.loop-step in
    let more = c.loop-step-test.true in
    let g = loop.invariant pre.recipe pre.policy pre.ready pre.limited in
    (omega arith, omega (arith, (there g more (omega arith) c.in-5.is), g.ready.recipe.counts.few_stmts), branch_low g)

pub join-tag-requires-else-v-eq0-2 : goal.join-tag-requires-else-v-eq0-2
join-tag-requires-else-v-eq0-2 c =
    let pre = c.requires in
    let loop = c.loop-step in
    let more = c.loop-step-test.true in
    let value3 = c.value-in-5 in
    let ok = c.in-Ok-value-2 in
    let from2 = c.from-else-v-eq0-2 in
    let g = loop.invariant pre.recipe pre.policy pre.ready pre.limited in
    let parts = names g more (omega arith) c.in-5.is in
    let answer = value3.ensures in
    let tagged = tag_found g.ready parts.0 answer ok.is in
    (branch_low g, omega (arith, from2.ensures, tagged, g.ready.policy.few_tags))

pub kind_at-kind-requires-else-v-eq0-2 : goal.kind_at-kind-requires-else-v-eq0-2
kind_at-kind-requires-else-v-eq0-2 c =
    let pre = c.requires in
    let loop = c.loop-step in
    let more = c.loop-step-test.true in
    let g = loop.invariant pre.recipe pre.policy pre.ready pre.limited in
    let parts = names g more (omega arith) c.in-5.is in
    let low = there g more (omega arith) c.in-5.is in
    omega (arith, parts.1, low, g.ready.recipe.counts.few_stmts)

pub value-requires-in-6 : goal.value-requires-in-6
value-requires-in-6 c =
    let pre = c.requires in
    let loop = c.loop-step in
    let more = c.loop-step-test.true in
    let g = loop.invariant pre.recipe pre.policy pre.ready pre.limited in
    record { recipe = pre.recipe; policy = pre.policy; ready = g.ready; there = (names g more (omega arith) c.in-6.is) }

pub returns-in-Err-value-3 : goal.returns-in-Err-value-3
returns-in-Err-value-3 c =
    let loop = c.loop-step in
    let more = c.loop-step-test.true in
    let value4 = c.value-in-6 in
    let err = c.in-Err-value-3 in
    let stopped9 = c.stopped-in-Err-value-3 in
    λ r p a l. let g = loop.invariant r p a l in
    let parts = names g more (omega arith) c.in-6.is in
    let answer = value4.ensures in
    rw stopped9.ensures (fails_with g more (omega arith) c.in-6.is
    (rw (value_found g.ready parts answer ∙ err.is)))

pub may_emit-requires : goal.may_emit-requires
may_emit-requires c =
    let pre = c.requires in
    let loop = c.loop-step in
    let more = c.loop-step-test.true in
    let value4 = c.value-in-6 in
    let ok = c.in-Ok-value-3 in
    let g = loop.invariant pre.recipe pre.policy pre.ready pre.limited in
    let parts = names g more (omega arith) c.in-6.is in
    let answer = value4.ensures in
    let tagged = tag_found g.ready parts answer ok.is in
    emit_given g.ready ok.v g.standing.branch (port_names g more (omega arith) c.in-6.is) tagged

pub returns-then-not-may_emit : goal.returns-then-not-may_emit
returns-then-not-may_emit c =
    let loop = c.loop-step in
    let more = c.loop-step-test.true in
    let value4 = c.value-in-6 in
    let ok = c.in-Ok-value-3 in
    let may-emit = c.may_emit in
    let if14 = c.if-not-may_emit in
    let stopped10 = c.stopped-then-not-may_emit in
    λ r p a l. let g = loop.invariant r p a l in
    let parts = names g more (omega arith) c.in-6.is in
    let answer = value4.ensures in
    let found = value_found g.ready parts answer ∙ ok.is in
    let tagged = tag_found g.ready parts answer ok.is in
    rw stopped10.ensures (fails_with g more (omega arith) c.in-6.is
    (emits_no (policy_of p) (recipe_of r) (held_now g) (branch_now g) ok.v found _
    (emit_off g.ready ok.v g.standing.branch (port_names g more (omega arith) c.in-6.is) tagged
    may-emit.ensures if14.true)))

pub returns-then-q-o : goal.returns-then-q-o
returns-then-q-o c =
    let loop = c.loop-step in
    let more = c.loop-step-test.true in
    let value4 = c.value-in-6 in
    let ok = c.in-Ok-value-3 in
    let may-emit = c.may_emit in
    let if14 = c.if-not-may_emit in
    let if15 = c.if-q-o in
    let stopped11 = c.stopped-then-q-o in
    λ r p a l. let g = loop.invariant r p a l in
    let parts = names g more (omega arith) c.in-6.is in
    let now = begun g more (omega arith) c.in-6.is in
    let answer = value4.ensures in
    let found = value_found g.ready parts answer ∙ ok.is in
    let tagged = tag_found g.ready parts answer ok.is in
    rw stopped11.ensures (no_room g more now (emits_yes (policy_of p) (recipe_of r) (held_now g) (branch_now g) ok.v found _
    (emit_on g.ready ok.v g.standing.branch (port_names g more (omega arith) c.in-6.is) tagged may-emit.ensures
    if14.false)) (omega (arith, g.same_room, if15.true)))

pub overflow_cast-port-in-6 : goal.overflow_cast-port-in-6
overflow_cast-port-in-6 c =
    let pre = c.requires in
    let loop = c.loop-step in
    let more = c.loop-step-test.true in
    let g = loop.invariant pre.recipe pre.policy pre.ready pre.limited in
    omega (arith, (port_names g more (omega arith) c.in-6.is), g.ready.policy.few_ports)

pub overflow_add-records : goal.overflow_add-records
overflow_add-records c =
    let pre = c.requires in
    let loop = c.loop-step in
    let more = c.loop-step-test.true in
    let g = loop.invariant pre.recipe pre.policy pre.ready pre.limited in
    omega (arith, g.few, more)

pub offset_bounds-x-depth-in-6 : goal.offset_bounds-x-depth-in-6
offset_bounds-x-depth-in-6 c =
    let pre = c.requires in
    let loop = c.loop-step in
    let g = loop.invariant pre.recipe pre.policy pre.ready pre.limited in
    omega (arith, depth_below g, g.ready.recipe.counts.few_stmts)

pub bounds-x-depth-in-6 : goal.bounds-x-depth-in-6
bounds-x-depth-in-6 c =
    let pre = c.requires in
    let loop = c.loop-step in
    let g = loop.invariant pre.recipe pre.policy pre.ready pre.limited in
    omega (arith, depth_below g, g.ready.recipe.counts.few_stmts)

pub overflow_sub-depth : goal.overflow_sub-depth
overflow_sub-depth c =
    let pre = c.requires in
    let loop = c.loop-step in
    let more = c.loop-step-test.true in
    let g = loop.invariant pre.recipe pre.policy pre.ready pre.limited in
    omega (arith, next_some g more c.in-7.is)

pub kind_at-kind-requires-in-7 : goal.kind_at-kind-requires-in-7
kind_at-kind-requires-in-7 c =
    let pre = c.requires in
    let loop = c.loop-step in
    let more = c.loop-step-test.true in
    let g = loop.invariant pre.recipe pre.policy pre.ready pre.limited in
    omega (arith, next_there g more c.in-7.is, g.ready.recipe.counts.few_stmts)

pub offset_bounds-x-depth-in-8 : goal.offset_bounds-x-depth-in-8
offset_bounds-x-depth-in-8 c =
    let pre = c.requires in
    let loop = c.loop-step in
    let g = loop.invariant pre.recipe pre.policy pre.ready pre.limited in
    omega (arith, depth_below g, g.ready.recipe.counts.few_stmts)

pub bounds-x-depth-in-8 : goal.bounds-x-depth-in-8
bounds-x-depth-in-8 c =
    let pre = c.requires in
    let loop = c.loop-step in
    let g = loop.invariant pre.recipe pre.policy pre.ready pre.limited in
    omega (arith, depth_below g, g.ready.recipe.counts.few_stmts)

pub overflow_sub-depth-in-8 : goal.overflow_sub-depth-in-8
overflow_sub-depth-in-8 c =
    let pre = c.requires in
    let loop = c.loop-step in
    let more = c.loop-step-test.true in
    let g = loop.invariant pre.recipe pre.policy pre.ready pre.limited in
    omega (arith, join_some g more c.in-8.is)

pub offset_bounds-x-depth-in-8-2 : goal.offset_bounds-x-depth-in-8-2
offset_bounds-x-depth-in-8-2 c =
    let pre = c.requires in
    let loop = c.loop-step in
    let g = loop.invariant pre.recipe pre.policy pre.ready pre.limited in
    omega (arith, depth_below g, g.ready.recipe.counts.few_stmts)

pub bounds-x-depth-in-8-2 : goal.bounds-x-depth-in-8-2
bounds-x-depth-in-8-2 c =
    let pre = c.requires in
    let loop = c.loop-step in
    let g = loop.invariant pre.recipe pre.policy pre.ready pre.limited in
    omega (arith, depth_below g, g.ready.recipe.counts.few_stmts)

pub value-requires-in-9 : goal.value-requires-in-9
value-requires-in-9 c =
    let pre = c.requires in
    let loop = c.loop-step in
    let more = c.loop-step-test.true in
    let g = loop.invariant pre.recipe pre.policy pre.ready pre.limited in
    record { recipe = pre.recipe; policy = pre.policy; ready = g.ready; there = (loop_names g more c.in-9.is).0 }

pub returns-in-Err-value-4 : goal.returns-in-Err-value-4
returns-in-Err-value-4 c =
    let loop = c.loop-step in
    let more = c.loop-step-test.true in
    let value5 = c.value-in-9 in
    let err = c.in-Err-value-4 in
    let stopped12 = c.stopped-in-Err-value-4 in
    λ r p a l. let g = loop.invariant r p a l in
    let parts = loop_names g more c.in-9.is in
    let answer = value5.ensures in
    rw stopped12.ensures (fails_at g more c.in-9.is (rw (value_found g.ready parts.0 answer ∙ err.is)))

pub offset_bounds-x-depth-then-v-eq0-3 : goal.offset_bounds-x-depth-then-v-eq0-3
offset_bounds-x-depth-then-v-eq0-3 c =
    let pre = c.requires in
    let loop = c.loop-step in
    let g = loop.invariant pre.recipe pre.policy pre.ready pre.limited in
    omega (arith, depth_below g, g.ready.recipe.counts.few_stmts)

pub bounds-x-depth-then-v-eq0-3 : goal.bounds-x-depth-then-v-eq0-3
bounds-x-depth-then-v-eq0-3 c =
    let pre = c.requires in
    let loop = c.loop-step in
    let g = loop.invariant pre.recipe pre.policy pre.ready pre.limited in
    omega (arith, depth_below g, g.ready.recipe.counts.few_stmts)

pub overflow_sub-depth-then-v-eq0-3 : goal.overflow_sub-depth-then-v-eq0-3
overflow_sub-depth-then-v-eq0-3 c =
    let pre = c.requires in
    let loop = c.loop-step in
    let more = c.loop-step-test.true in
    let g = loop.invariant pre.recipe pre.policy pre.ready pre.limited in
    omega (arith, some g more c.in-9.is)

pub offset_bounds-x-depth-then-v-eq0-3-2 : goal.offset_bounds-x-depth-then-v-eq0-3-2
offset_bounds-x-depth-then-v-eq0-3-2 c =
    let pre = c.requires in
    let loop = c.loop-step in
    let g = loop.invariant pre.recipe pre.policy pre.ready pre.limited in
    omega (arith, depth_below g, g.ready.recipe.counts.few_stmts)

pub bounds-x-depth-then-v-eq0-3-2 : goal.bounds-x-depth-then-v-eq0-3-2
bounds-x-depth-then-v-eq0-3-2 c =
    let pre = c.requires in
    let loop = c.loop-step in
    let g = loop.invariant pre.recipe pre.policy pre.ready pre.limited in
    omega (arith, depth_below g, g.ready.recipe.counts.few_stmts)

pub join-tag-requires-else-v-eq0-3 : goal.join-tag-requires-else-v-eq0-3
join-tag-requires-else-v-eq0-3 c =
    let pre = c.requires in
    let loop = c.loop-step in
    let more = c.loop-step-test.true in
    let value5 = c.value-in-9 in
    let ok = c.in-Ok-value-4 in
    let from3 = c.from-else-v-eq0-3 in
    let g = loop.invariant pre.recipe pre.policy pre.ready pre.limited in
    let parts = loop_names g more c.in-9.is in
    let answer = value5.ensures in
    let tagged = tag_found g.ready parts.0 answer ok.is in
    (branch_low g, omega (arith, from3.ensures, tagged, g.ready.policy.few_tags))

pub kind_at-kind-requires-else-v-eq0-3 : goal.kind_at-kind-requires-else-v-eq0-3
kind_at-kind-requires-else-v-eq0-3 c =
    let pre = c.requires in
    let loop = c.loop-step in
    let more = c.loop-step-test.true in
    let g = loop.invariant pre.recipe pre.policy pre.ready pre.limited in
    let parts = loop_names g more c.in-9.is in
    omega (arith, parts.1, (loop_there g more c.in-9.is), g.ready.recipe.counts.few_stmts)

pub offset_bounds-t-s : goal.offset_bounds-t-s
offset_bounds-t-s c = let pre = c.requires in omega (arith, stmt_low (c.loop-step.invariant pre.recipe pre.policy pre.ready pre.limited))

pub bounds-t-s : goal.bounds-t-s
bounds-t-s c = let pre = c.requires in stmt_low (c.loop-step.invariant pre.recipe pre.policy pre.ready pre.limited)

pub offset_bounds-t-s-in-1 : goal.offset_bounds-t-s-in-1
offset_bounds-t-s-in-1 c = let pre = c.requires in omega (arith, stmt_low (c.loop-step.invariant pre.recipe pre.policy pre.ready pre.limited))

pub bounds-t-s-in-1 : goal.bounds-t-s-in-1
bounds-t-s-in-1 c = let pre = c.requires in stmt_low (c.loop-step.invariant pre.recipe pre.policy pre.ready pre.limited)

pub offset_bounds-t-s-in-2 : goal.offset_bounds-t-s-in-2
offset_bounds-t-s-in-2 c = let pre = c.requires in omega (arith, stmt_low (c.loop-step.invariant pre.recipe pre.policy pre.ready pre.limited))

pub bounds-t-s-in-2 : goal.bounds-t-s-in-2
bounds-t-s-in-2 c = let pre = c.requires in stmt_low (c.loop-step.invariant pre.recipe pre.policy pre.ready pre.limited)

pub offset_bounds-t-s-in-2-2 : goal.offset_bounds-t-s-in-2-2
offset_bounds-t-s-in-2-2 c = let pre = c.requires in omega (arith, stmt_low (c.loop-step.invariant pre.recipe pre.policy pre.ready pre.limited))

pub bounds-t-s-in-2-2 : goal.bounds-t-s-in-2-2
bounds-t-s-in-2-2 c = let pre = c.requires in stmt_low (c.loop-step.invariant pre.recipe pre.policy pre.ready pre.limited)

pub offset_bounds-t-s-in-3 : goal.offset_bounds-t-s-in-3
offset_bounds-t-s-in-3 c = let pre = c.requires in omega (arith, stmt_low (c.loop-step.invariant pre.recipe pre.policy pre.ready pre.limited))

pub bounds-t-s-in-3 : goal.bounds-t-s-in-3
bounds-t-s-in-3 c = let pre = c.requires in stmt_low (c.loop-step.invariant pre.recipe pre.policy pre.ready pre.limited)

pub offset_bounds-t-s-in-3-2 : goal.offset_bounds-t-s-in-3-2
offset_bounds-t-s-in-3-2 c = let pre = c.requires in omega (arith, stmt_low (c.loop-step.invariant pre.recipe pre.policy pre.ready pre.limited))

pub bounds-t-s-in-3-2 : goal.bounds-t-s-in-3-2
bounds-t-s-in-3-2 c = let pre = c.requires in stmt_low (c.loop-step.invariant pre.recipe pre.policy pre.ready pre.limited)

pub offset_bounds-t-s-in-4 : goal.offset_bounds-t-s-in-4
offset_bounds-t-s-in-4 c = let pre = c.requires in omega (arith, stmt_low (c.loop-step.invariant pre.recipe pre.policy pre.ready pre.limited))

pub bounds-t-s-in-4 : goal.bounds-t-s-in-4
bounds-t-s-in-4 c = let pre = c.requires in stmt_low (c.loop-step.invariant pre.recipe pre.policy pre.ready pre.limited)

pub offset_bounds-t-s-then-v-eq0 : goal.offset_bounds-t-s-then-v-eq0
offset_bounds-t-s-then-v-eq0 c = let pre = c.requires in omega (arith, stmt_low (c.loop-step.invariant pre.recipe pre.policy pre.ready pre.limited))

pub bounds-t-s-then-v-eq0 : goal.bounds-t-s-then-v-eq0
bounds-t-s-then-v-eq0 c = let pre = c.requires in stmt_low (c.loop-step.invariant pre.recipe pre.policy pre.ready pre.limited)

pub offset_bounds-t-s-else-v-eq0 : goal.offset_bounds-t-s-else-v-eq0
offset_bounds-t-s-else-v-eq0 c = let pre = c.requires in omega (arith, stmt_low (c.loop-step.invariant pre.recipe pre.policy pre.ready pre.limited))

pub bounds-t-s-else-v-eq0 : goal.bounds-t-s-else-v-eq0
bounds-t-s-else-v-eq0 c = let pre = c.requires in stmt_low (c.loop-step.invariant pre.recipe pre.policy pre.ready pre.limited)

pub offset_bounds-t-s-in-5 : goal.offset_bounds-t-s-in-5
offset_bounds-t-s-in-5 c = let pre = c.requires in omega (arith, stmt_low (c.loop-step.invariant pre.recipe pre.policy pre.ready pre.limited))

pub bounds-t-s-in-5 : goal.bounds-t-s-in-5
bounds-t-s-in-5 c = let pre = c.requires in stmt_low (c.loop-step.invariant pre.recipe pre.policy pre.ready pre.limited)

pub bounds-t-s-else-v-eq0-2 : goal.bounds-t-s-else-v-eq0-2
bounds-t-s-else-v-eq0-2 c = let pre = c.requires in stmt_low (c.loop-step.invariant pre.recipe pre.policy pre.ready pre.limited)

pub offset_bounds-t-s-in-6 : goal.offset_bounds-t-s-in-6
offset_bounds-t-s-in-6 c = let pre = c.requires in omega (arith, stmt_low (c.loop-step.invariant pre.recipe pre.policy pre.ready pre.limited))

pub bounds-t-s-in-6 : goal.bounds-t-s-in-6
bounds-t-s-in-6 c = let pre = c.requires in stmt_low (c.loop-step.invariant pre.recipe pre.policy pre.ready pre.limited)

pub offset_bounds-t-s-in-6-2 : goal.offset_bounds-t-s-in-6-2
offset_bounds-t-s-in-6-2 c = let pre = c.requires in omega (arith, stmt_low (c.loop-step.invariant pre.recipe pre.policy pre.ready pre.limited))

pub bounds-t-s-in-6-2 : goal.bounds-t-s-in-6-2
bounds-t-s-in-6-2 c = let pre = c.requires in stmt_low (c.loop-step.invariant pre.recipe pre.policy pre.ready pre.limited)

pub offset_bounds-t-s-in-9 : goal.offset_bounds-t-s-in-9
offset_bounds-t-s-in-9 c = let pre = c.requires in omega (arith, stmt_low (c.loop-step.invariant pre.recipe pre.policy pre.ready pre.limited))

pub bounds-t-s-in-9 : goal.bounds-t-s-in-9
bounds-t-s-in-9 c = let pre = c.requires in stmt_low (c.loop-step.invariant pre.recipe pre.policy pre.ready pre.limited)

pub offset_bounds-t-s-else-v-eq0-3 : goal.offset_bounds-t-s-else-v-eq0-3
offset_bounds-t-s-else-v-eq0-3 c = let pre = c.requires in omega (arith, stmt_low (c.loop-step.invariant pre.recipe pre.policy pre.ready pre.limited))

pub bounds-t-s-else-v-eq0-3 : goal.bounds-t-s-else-v-eq0-3
bounds-t-s-else-v-eq0-3 c = let pre = c.requires in stmt_low (c.loop-step.invariant pre.recipe pre.policy pre.ready pre.limited)

pub returns-in_default : goal.returns-in_default
returns-in_default c = λ r p a l. done (c.loop-step.invariant r p a l) (omega arith)

pub loop-step-preserved : goal.loop-step-preserved
loop-step-preserved c = elim c.match-kind.branch [
  | goal.in-0 w ↦
      let loop = c.loop-step in
      let more = c.loop-step-test.true in
      let kind-in = w.frame_in in
      λ r p a l.
      rw (w.u-is, w.q-is, w.x-is, w.depth-is, w.s-is, w.kind-is, w.tag-is, w.records-is)
      (let g = loop.invariant r p a l in
      passes_on g more (begun g more (omega arith) w.in-0.is) refl kind-in.ensures.0 kind-in.ensures.1)
  | goal.in-1+in-Ok+in_default-assign w ↦
      let loop = c.loop-step in
      let more = c.loop-step-test.true in
      let value = w.value in
      let ok = w.in-Ok in
      let assign = w.assign in
      let kind-in2 = w.frame_in-in-1 in
      λ r p a l.
      rw (w.u-is, w.q-is, w.x-is, w.depth-is, w.s-is, w.kind-is, w.tag-is, w.records-is)
      (let g = loop.invariant r p a l in
      let parts = names g more (omega arith) w.in-1.is in
      let now = begun g more (omega arith) w.in-1.is in
      let answer = value.ensures in
      let found = value_found g.ready parts.1 answer ∙ ok.is in
      let tagged = tag_found g.ready parts.1 answer ok.is in
      wrote_on g more _ now (act_fits g more (omega arith) w.in-1.is)
      (did_as (policy_of p) (recipe_of r) (held_now g) (branch_now g) _ _ _ _ ok.v found
      (assign.ensures r p g.ready g.standing.branch parts.0 tagged)) w.in_default-assign.is kind-in2.ensures.0 kind-in2.ensures.1)
  | goal.in-2+in_default-store w ↦
      let loop = c.loop-step in
      let more = c.loop-step-test.true in
      let store = w.store in
      let kind-in3 = w.frame_in-in-2 in
      λ r p a l.
      rw (w.u-is, w.q-is, w.x-is, w.depth-is, w.s-is, w.kind-is, w.tag-is, w.records-is)
      (let g = loop.invariant r p a l in
      let parts = names g more (omega arith) w.in-2.is in
      let now = begun g more (omega arith) w.in-2.is in
      wrote_on g more _ now (act_fits g more (omega arith) w.in-2.is)
      (store.ensures r p g.ready g.standing.branch parts.0 parts.1) w.in_default-store.is kind-in3.ensures.0 kind-in3.ensures.1)
  | goal.in-3+else-limit-depth w ↦
      let loop = c.loop-step in
      let more = c.loop-step-test.true in
      let if6 = w.if-limit-depth in
      let frame-word = w.frame_word in
      let kind-at2 = w.kind_at-kind-in-3 in
      λ r p a l.
      rw (w.u-is, w.q-is, w.x-is, w.depth-is, w.s-is, w.kind-is, w.tag-is, w.records-is)
      (let g = loop.invariant r p a l in
      let now = begun g more (omega arith) w.in-3.is in
      pushes_on g more now refl (rw l at if6.false) frame-word.ensures refl refl kind-at2.ensures)
  | goal.in-4+in-Ok-value+else-limit-depth-2+then-v-eq0 w ↦
      let loop = c.loop-step in
      let more = c.loop-step-test.true in
      let value2 = w.value-in-4 in
      let ok = w.in-Ok-value in
      let if8 = w.if-limit-depth-2 in
      let frame-word2 = w.frame_word-in-4 in
      let from = w.from in
      let join = w.join-tag in
      let if9 = w.if-v-eq0 in
      let kind-at3 = w.kind_at-kind-then-v-eq0 in
      λ r p a l.
      rw (w.u-is, w.q-is, w.x-is, w.depth-is, w.s-is, w.kind-is, w.tag-is, w.records-is)
      (let g = loop.invariant r p a l in
      let parts = names g more (omega arith) w.in-4.is in
      let now = begun g more (omega arith) w.in-4.is in
      let answer = value2.ensures in
      let found = value_found g.ready parts.0 answer ∙ ok.is in
      let tagged = tag_found g.ready parts.0 answer ok.is in
      pushes_on g more now (chooses_no (policy_of p) (recipe_of r) (held_now g) (branch_now g) ok.v found _ _ if9.true)
      (rw l at if8.false) frame-word2.ensures refl (join_is g.ready g.standing.branch tagged
      (rw from.ensures at join.ensures)) kind-at3.ensures)
  | goal.in-4+in-Ok-value+else-limit-depth-2+else-v-eq0 w ↦
      let loop = c.loop-step in
      let more = c.loop-step-test.true in
      let value2 = w.value-in-4 in
      let ok = w.in-Ok-value in
      let if8 = w.if-limit-depth-2 in
      let frame-word2 = w.frame_word-in-4 in
      let from = w.from in
      let join = w.join-tag in
      let if9 = w.if-v-eq0 in
      let kind-at4 = w.kind_at-kind-else-v-eq0 in
      λ r p a l.
      rw (w.u-is, w.q-is, w.x-is, w.depth-is, w.s-is, w.kind-is, w.tag-is, w.records-is)
      (let g = loop.invariant r p a l in
      let parts = names g more (omega arith) w.in-4.is in
      let now = begun g more (omega arith) w.in-4.is in
      let answer = value2.ensures in
      let found = value_found g.ready parts.0 answer ∙ ok.is in
      let tagged = tag_found g.ready parts.0 answer ok.is in
      pushes_on g more now (chooses_yes (policy_of p) (recipe_of r) (held_now g) (branch_now g) ok.v found _ _ if9.false)
      (rw l at if8.false) frame-word2.ensures refl (join_is g.ready g.standing.branch tagged
      (rw from.ensures at join.ensures)) kind-at4.ensures)
  | goal.in-5+in-Ok-value-2+then-v-eq0-2 w ↦
      let loop = c.loop-step in
      let more = c.loop-step-test.true in
      let value3 = w.value-in-5 in
      let ok = w.in-Ok-value-2 in
      let if11 = w.if-v-eq0-2 in
      let kind-in4 = w.frame_in-then-v-eq0-2 in
      λ r p a l.
      rw (w.u-is, w.q-is, w.x-is, w.depth-is, w.s-is, w.kind-is, w.tag-is, w.records-is)
      (let g = loop.invariant r p a l in
      let parts = names g more (omega arith) w.in-5.is in
      let now = begun g more (omega arith) w.in-5.is in
      let answer = value3.ensures in
      let found = value_found g.ready parts.0 answer ∙ ok.is in
      passes_on g more now (loops_no (policy_of p) (recipe_of r) (held_now g) (branch_now g) ok.v found _ _ if11.true)
      kind-in4.ensures.0 kind-in4.ensures.1)
  | goal.in-5+in-Ok-value-2+else-v-eq0-2+else-limit-depth-3 w ↦
      let loop = c.loop-step in
      let more = c.loop-step-test.true in
      let value3 = w.value-in-5 in
      let ok = w.in-Ok-value-2 in
      let if11 = w.if-v-eq0-2 in
      let if12 = w.if-limit-depth-3 in
      let frame-word3 = w.frame_word-else-v-eq0-2 in
      let from2 = w.from-else-v-eq0-2 in
      let join2 = w.join-tag-else-v-eq0-2 in
      let kind-at5 = w.kind_at-kind-else-v-eq0-2 in
      λ r p a l.
      rw (w.u-is, w.q-is, w.x-is, w.depth-is, w.s-is, w.kind-is, w.tag-is, w.records-is)
      (let g = loop.invariant r p a l in
      let parts = names g more (omega arith) w.in-5.is in
      let now = begun g more (omega arith) w.in-5.is in
      let answer = value3.ensures in
      let found = value_found g.ready parts.0 answer ∙ ok.is in
      let tagged = tag_found g.ready parts.0 answer ok.is in
      pushes_on g more now (loops_yes (policy_of p) (recipe_of r) (held_now g) (branch_now g) ok.v found _ _ if11.false)
      (rw l at if12.false) frame-word3.ensures refl
      (join_is g.ready g.standing.branch tagged (rw from2.ensures at join2.ensures)) kind-at5.ensures)
  | goal.in-6+in-Ok-value-3+else-not-may_emit+else-q-o w ↦
      let loop = c.loop-step in
      let more = c.loop-step-test.true in
      let value4 = w.value-in-6 in
      let ok = w.in-Ok-value-3 in
      let may-emit = w.may_emit in
      let if14 = w.if-not-may_emit in
      let if15 = w.if-q-o in
      let put_record = w.put_record in
      let kind-in5 = w.frame_in-in-6 in
      λ r p a l.
      rw (w.u-is, w.q-is, w.x-is, w.depth-is, w.s-is, w.kind-is, w.tag-is, w.records-is)
      (let g = loop.invariant r p a l in
      let parts = names g more (omega arith) w.in-6.is in
      let now = begun g more (omega arith) w.in-6.is in
      let answer = value4.ensures in
      let found = value_found g.ready parts answer ∙ ok.is in
      let tagged = tag_found g.ready parts answer ok.is in
      rw put_record.ensures (records_on g more now
      (emits_yes (policy_of p) (recipe_of r) (held_now g) (branch_now g) ok.v found _
      (emit_on g.ready ok.v g.standing.branch (port_names g more (omega arith) w.in-6.is) tagged may-emit.ensures
      if14.false)) (omega (arith, g.same_room, if15.false)) kind-in5.ensures.0 kind-in5.ensures.1))
  | goal.in-7 w ↦
      let loop = c.loop-step in
      let more = c.loop-step-test.true in
      let kind-at6 = w.kind_at-kind-in-7 in
      λ r p a l.
      rw (w.u-is, w.q-is, w.x-is, w.depth-is, w.s-is, w.kind-is, w.tag-is, w.records-is)
      (let g = loop.invariant r p a l in
      next_on g more w.in-7.is kind-at6.ensures)
  | goal.in-8 w ↦
      let loop = c.loop-step in
      let more = c.loop-step-test.true in
      let kind-in6 = w.frame_in-in-8 in
      λ r p a l.
      rw (w.u-is, w.q-is, w.x-is, w.depth-is, w.s-is, w.kind-is, w.tag-is, w.tag_in-tag.ensures, w.records-is)
      (let g = loop.invariant r p a l in
      join_on g more w.in-8.is refl kind-in6.ensures.0 kind-in6.ensures.1)
  | goal.in-9+in-Ok-value-4+then-v-eq0-3 w ↦
      let loop = c.loop-step in
      let more = c.loop-step-test.true in
      let value5 = w.value-in-9 in
      let ok = w.in-Ok-value-4 in
      let if17 = w.if-v-eq0-3 in
      let kind-in7 = w.frame_in-then-v-eq0-3 in
      λ r p a l.
      rw (w.u-is, w.q-is, w.x-is, w.depth-is, w.s-is, w.kind-is, w.tag-is, w.tag_in-tag-then-v-eq0-3.ensures, w.records-is)
      (let g = loop.invariant r p a l in
      let parts = loop_names g more w.in-9.is in
      let answer = value5.ensures in
      let found = value_found g.ready parts.0 answer ∙ ok.is in
      leaves_on g more w.in-9.is (tests_no (policy_of p) (recipe_of r) (held_now g) (branch_now g) ok.v found _
      if17.true) refl kind-in7.ensures.0 kind-in7.ensures.1)
  | goal.in-9+in-Ok-value-4+else-v-eq0-3 w ↦
      let loop = c.loop-step in
      let more = c.loop-step-test.true in
      let value5 = w.value-in-9 in
      let ok = w.in-Ok-value-4 in
      let if17 = w.if-v-eq0-3 in
      let from3 = w.from-else-v-eq0-3 in
      let join3 = w.join-tag-else-v-eq0-3 in
      let kind-at7 = w.kind_at-kind-else-v-eq0-3 in
      λ r p a l.
      rw (w.u-is, w.q-is, w.x-is, w.depth-is, w.s-is, w.kind-is, w.tag-is, w.records-is)
      (let g = loop.invariant r p a l in
      let parts = loop_names g more w.in-9.is in
      let answer = value5.ensures in
      let found = value_found g.ready parts.0 answer ∙ ok.is in
      let tagged = tag_found g.ready parts.0 answer ok.is in
      repeats_on g more w.in-9.is (tests_yes (policy_of p) (recipe_of r) (held_now g) (branch_now g) ok.v found _
      if17.false) refl (join_is g.ready g.standing.branch tagged (rw from3.ensures at join3.ensures)) kind-at7.ensures)
]

pub returns-then-kind-eq10 : goal.returns-then-kind-eq10
returns-then-kind-eq10 c = λ r p a l. done_spent (c.loop-step.invariant r p a l) (omega arith) (omega (arith, c.if-kind-eq10.true))

pub returns-else-kind-eq10 : goal.returns-else-kind-eq10
returns-else-kind-eq10 c = λ r p a l. spent (c.loop-step.invariant r p a l) (omega arith) c.if-kind-eq10.false
