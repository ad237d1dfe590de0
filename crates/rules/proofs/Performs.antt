-- One step of two runs in the same place, and one step of a run on a hidden branch. Assumes nothing.
use Prim.Native.Nat.{ℕ}
use mathlib.Core.Path.{◌≡◌, sym, ◌∙◌}
use mathlib.Core.List.{List, ◌∷◌}
use Rattle.rules.specs.declared.Frame.{Frame}
use Rattle.rules.specs.declared.Frame.TheVariants.{Next, Join, Loop}
use Rattle.std.specs.Prelude.{Option, Some, None}
use Rattle.rules.specs.declared.Act.{Act}
use Rattle.rules.specs.declared.Again.{Again}
use Rattle.rules.specs.Policy.{Policy}
use Rattle.rules.specs.Recipe.{Recipe}
use Rattle.rules.specs.Memory.{Memory, Record}
use Rattle.rules.specs.Steps.{state, performs, takes, repeats, loop_in, step}
use Rattle.rules.proofs.Tags.{Viewer, Good, High}
use Rattle.rules.proofs.Agree.{Alike, alike_sym, alike_set, alike_write}
use Rattle.rules.proofs.Records.{seen_append, seen_hidden}
use Rattle.rules.proofs.Pairs.{shown, by_join, by_loop, Stacks, no_frame, same_frame, Over, last, over, Side, inside, back, together, Both, stop_left, stop_right, go, finish, Beside, halts, moves, Turned, ended, turned, both_check, beside_check, turned_check, both_turned, beside_turned}
use Rattle.rules.proofs.Acts as acts
use Rattle.rules.proofs.Acts.{Acts, Quiet, Hushed, Agains, Branches, both_begins, both_repeats, quiet_begins, hushed_repeats}

module _ {P : Policy} {W : Viewer P} (R : Recipe) where
  -- a hidden branch is entered over the stack l, or passed by
  turned_branch : (room s b : ℕ) (l : List Frame) (m : Memory) (r : List Record) {x : Act} → Branches W b x
      → Turned W l b m r (performs R room s b l m r x)
  turned_branch room s b l m r (acts.enters f h) = turned_check _ _ _ (turned (inside h (last f)))
  turned_branch room s b l m r acts.passes = turned back

  -- a hidden test of a loop that saved u over the stack l
  turned_again : (room s b : ℕ) (m : Memory) (r : List Record) {K l : List Frame} {t u : ℕ}
      → Side W K t u None l → Over W K t (Loop s u ∷ l) → {x : Again} → Hushed W x
      → Turned W K t m r (takes R room s b l m r u x)
  turned_again room s b m r left ov (acts.repeat h) = turned (inside h ov)
  turned_again room s b m r left ov acts.leave = turned left
  turned_again room s b m r left ov acts.fail = ended

  -- ---- both

  module _ (room room' : ℕ) {b : ℕ} {m k : Memory} (r q : List Record)
      (gb : Good P b) (mk : Alike W m k) (rq : shown W r ≡ shown W q) where
    both_performs : (s : ℕ) {l l' : List Frame} → Stacks W l l' → {x y : Act} → Acts W b m k x y
        → Both W (performs R room s b l m r x) (performs R room' s b l' k q y)
    both_performs s sl acts.stop_left = stop_left
    both_performs s sl acts.stop_right = stop_right
    both_performs s sl acts.pass = go (together gb sl mk rq)
    both_performs s sl (acts.push f g) = both_check _ _ _ _ (go (together g (same_frame _ f sl) mk rq))
    both_performs s sl (acts.write_same a) = go (together gb sl (alike_set mk _ a) rq)
    both_performs s sl (acts.write_apart h j) =
        let km = alike_write (alike_sym mk) _ _ j.old j.new in
        go (together gb sl (alike_write (alike_sym km) _ _ h.old h.new) rq)
    both_performs s sl acts.say_same = both_check _ _ _ _ (go (together gb sl mk (simp (seen_append, rq))))
    both_performs s sl (acts.say_apart {port = port} u) =
        let unseen = u.clearance.hidden in
        both_check _ _ _ _
        (go (together gb sl mk (seen_hidden P W.tag r port _ unseen ∙ rq ∙ sym (seen_hidden P W.tag q port _ unseen))))
    both_performs s {l} {l'} sl (acts.branch x y) =
        both_turned gb sl mk rq (turned_branch room s b l m r x) (turned_branch room' s b l' k q y)

    both_takes : (s : ℕ) {t : ℕ} → Good P t → {l l' : List Frame} → Stacks W l l' → {x y : Again} → Agains W x y
        → Both W (takes R room s b l m r t x) (takes R room' s b l' k q t y)
    both_takes s gt sl acts.fail_left = stop_left
    both_takes s gt sl acts.fail_right = stop_right
    both_takes s gt sl (acts.repeat g) = go (together g (same_frame _ gt sl) mk rq)
    both_takes s gt sl acts.leave = go (together gt sl mk rq)
    both_takes s gt sl (acts.hush x y) =
        both_turned gt sl mk rq (turned_again room s b m r back (last by_loop) x) (turned_again room' s b k q back (last by_loop) y)

    pub both_step : (n : Option ℕ) {l l' : List Frame} → Stacks W l l'
        → Both W (step P R room (state b n l m r)) (step P R room' (state b n l' k q))
    both_step (Some s) sl = both_performs s sl (both_begins R s gb mk (R.stmt_at s))
    both_step None no_frame = finish
    both_step None (same_frame (Next a) g sl) = go (together gb sl mk rq)
    both_step None (same_frame (Join t) g sl) = go (together g sl mk rq)
    both_step None (same_frame (Loop s t) g sl) = both_takes s g sl (both_repeats R s gb mk (loop_in (R.stmt_at s)))

  -- ---- one, beside the other

  module _ (room : ℕ) {K : List Frame} {t b : ℕ} {m k : Memory} (r q : List Record)
      (hb : High W b) (mk : Alike W m k) (rq : shown W r ≡ shown W q) where
    alone_performs : (s : ℕ) {l : List Frame} → Over W K t l → {x : Act} → Quiet W m x → Beside W K t k q (performs R room s b l m r x)
    alone_performs s ov acts.stop = halts
    alone_performs s ov acts.pass = moves (inside hb ov) mk rq
    alone_performs s ov (acts.push f h) = beside_check _ _ _ (moves (inside h (over _ f ov)) mk rq)
    alone_performs s ov (acts.write h) = moves (inside hb ov) (alike_write mk _ _ h.old h.new) rq
    alone_performs s ov (acts.say {port = port} u) =
        beside_check _ _ _ (moves (inside hb ov) mk (seen_hidden P W.tag r port _ u.clearance.hidden ∙ rq))

    alone_takes : (s : ℕ) {u : ℕ} {l : List Frame} → Side W K t u None l → Over W K t (Loop s u ∷ l)
        → Beside W K t k q (takes R room s b l m r u (repeats P R m b (loop_in (R.stmt_at s))))
    alone_takes s left ov = beside_turned mk rq (turned_again room s b m r left ov (hushed_repeats R s hb mk (loop_in (R.stmt_at s))))

    pub alone_step : (n : Option ℕ) {l : List Frame} → Over W K t l → Beside W K t k q (step P R room (state b n l m r))
    alone_step (Some s) ov = alone_performs s ov (quiet_begins R s hb mk (R.stmt_at s))
    alone_step None (last by_join) = moves back mk rq
    alone_step None (last (by_loop {s = s})) = alone_takes s back (last by_loop)
    alone_step None (over (Next a) h ov) = moves (inside hb ov) mk rq
    alone_step None (over (Join u) h ov) = moves (inside h ov) mk rq
    alone_step None (over (Loop s u) h ov) = alone_takes s (inside h ov) (over (Loop s u) h ov)
