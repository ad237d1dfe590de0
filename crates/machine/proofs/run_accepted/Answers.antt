-- Accepted tables are decoded, run and written back. Assumes nothing.
use native.Mathlib.Omega.{arith}
use Rattle.machine.proofs.Loaded.{loaded, left_back}
use Rattle.machine.proofs.run_accepted.Goals as goal

pub decode-requires : goal.decode-requires
decode-requires c = (c.requires.recipe, c.requires.policy)

pub load-requires : goal.load-requires
load-requires c =
    let pre = c.requires in
    (pre.recipe, pre.memory.long)

pub half_at-requires : goal.half_at-requires
half_at-requires c = omega (arith, c.requires.recipe.long)

pub run-o-requires : goal.run-o-requires
run-o-requires c =
    let pre = c.requires in
    let shared-slice-known = c.shared_slice_known-1 in
    let decode = c.decode in
    let load = c.load in
    let half_at = c.half_at in
    record {
      recipe = _;
      policy = _;
      ready = loaded _ pre load.ensures.0 (λ i. (shared-slice-known.given i).fits) decode.ensures load.ensures.1;
      limited = half_at.ensures.0;
      all_places = load.ensures.2;
    }

pub half_at-requires-2 : goal.half_at-requires-2
half_at-requires-2 c =
    let pre = c.requires in
    omega (arith, pre.recipe.long)

pub half_at-requires-3 : goal.half_at-requires-3
half_at-requires-3 c =
    let pre = c.requires in
    omega (arith, pre.recipe.long)

pub write_back-requires : goal.write_back-requires
write_back-requires c =
    let pre = c.requires in
    let shared-slice-known = c.shared_slice_known-1 in
    let decode = c.decode in
    let load = c.load in
    let half_at = c.half_at in
    let run = c.run-o in
    let half-at2 = c.half_at-2 in
    let half-at3 = c.half_at-3 in
    let ready = loaded _ pre load.ensures.0 (λ i. (shared-slice-known.given i).fits) decode.ensures load.ensures.1 in
    let left = run.ensures _ _ ready half_at.ensures.0 in (
      omega (arith, half-at2.ensures.0, half-at3.ensures.0, pre.recipe.counts.few_vars, pre.recipe.counts.few_cells),
      omega (arith, half-at2.ensures.0, half-at3.ensures.0, pre.memory.long),
      λ i h. omega (
        arith,
        left.ready.tags_below i (omega (arith, h, half-at2.ensures.0, half-at3.ensures.0)),
        pre.policy.few_tags,
      ),
    )

pub returns : goal.returns
returns c =
    let pre = c.requires in
    let shared-slice-known = c.shared_slice_known-1 in
    let decode = c.decode in
    let load = c.load in
    let half_at = c.half_at in
    let run = c.run-o in
    let half-at2 = c.half_at-2 in
    let half-at3 = c.half_at-3 in
    let write-back = c.write_back in
    let ready = loaded _ pre load.ensures.0 (λ i. (shared-slice-known.given i).fits) decode.ensures load.ensures.1 in
    let left = run.ensures _ _ ready half_at.ensures.0 in
    left_back _ pre load.ensures.0 left (omega (arith, half-at2.ensures.0, half-at3.ensures.0)) write-back.ensures
