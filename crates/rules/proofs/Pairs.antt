-- Two runs that a viewer cannot tell apart: both in the same place, or each on a hidden branch or back from it.
-- Assumes nothing.
use Prim.Native.Nat.{ℕ}
use mathlib.Core.Path.{◌≡◌}
use mathlib.Core.Bool.{Bool, true, false}
use mathlib.Core.List.{List, [], ◌∷◌}
use Rattle.rules.specs.declared.Stop.{Stop}
use Rattle.rules.specs.declared.Frame.{Frame}
use Rattle.rules.specs.declared.Frame.TheVariants.{Next, Join, Loop}
use Rattle.std.specs.Prelude.{Option, None}
use Rattle.rules.specs.Policy.{Policy}
use Rattle.rules.specs.Memory.{Memory, Record}
use Rattle.rules.specs.Steps.{State, state, Turn, Goes, Halts, Finished, check}
use Rattle.rules.specs.Views.{seen}
use Rattle.rules.proofs.Tags.{Viewer, Good, High}
use Rattle.rules.proofs.Agree.{Alike}

module _ {P : Policy} (W : Viewer P) where
  -- the records that the viewer sees
  abbrev pub shown : List Record → List Record
  shown r = seen P W.tag r

  -- ---- frames

  -- the saved tag is the policy's
  abbrev pub FrameGood : Frame → Type 0
  FrameGood (Next a) = Unit {0}
  FrameGood (Join t) = Good P t
  FrameGood (Loop s t) = Good P t

  -- the saved tag is hidden
  abbrev pub FrameHigh : Frame → Type 0
  FrameHigh (Next a) = Unit {0}
  FrameHigh (Join t) = High W t
  FrameHigh (Loop s t) = High W t

  -- a frame that gives the branch tag t back
  pub data Restores (t : ℕ) : Frame → Type 0 where
    by_join : Restores t (Join t)
    by_loop : {s : ℕ} → Restores t (Loop s t)

  -- stacks of the same frames
  pub data Stacks : List Frame → List Frame → Type 0 where
    no_frame : Stacks [] []
    same_frame : (f : Frame) {l l' : List Frame} → FrameGood f → Stacks l l' → Stacks (f ∷ l) (f ∷ l')

  -- the stack of a hidden branch over the stack K: hidden frames, and below them the one that restores t
  pub data Over (K : List Frame) (t : ℕ) : List Frame → Type 0 where
    last : {f : Frame} → Restores t f → Over K t (f ∷ K)
    over : (f : Frame) {l : List Frame} → FrameHigh f → Over K t l → Over K t (f ∷ l)

  -- ---- states

  -- on the hidden branch, or back from it
  pub data Side (K : List Frame) (t : ℕ) : (branch : ℕ) → Option ℕ → List Frame → Type 0 where
    inside : {b : ℕ} {n : Option ℕ} {l : List Frame} → High W b → Over K t l → Side K t b n l
    back : Side K t t None K

  pub data Pair : State → State → Type 0 where
    together : {b : ℕ} {n : Option ℕ} {l l' : List Frame} {m k : Memory} {r q : List Record}
        → Good P b → Stacks l l' → Alike W m k → shown r ≡ shown q → Pair (state b n l m r) (state b n l' k q)
    split : {K K' : List Frame} {t b b' : ℕ} {n n' : Option ℕ} {l l' : List Frame} {m k : Memory} {r q : List Record}
        → Good P t → Stacks K K' → Side K t b n l → Side K' t b' n' l' → Alike W m k → shown r ≡ shown q
        → Pair (state b n l m r) (state b' n' l' k q)

  -- ---- steps

  -- a step of each: one ends its run, or they are a pair again
  pub data Both : Turn → Turn → Type 0 where
    stop_left : {h : Stop} {s : ℕ} {y : Turn} → Both (Halts h s) y
    stop_right : {h : Stop} {s : ℕ} {x : Turn} → Both x (Halts h s)
    go : {x y : State} → Pair x y → Both (Goes x) (Goes y)
    finish : Both Finished Finished

  -- a step of one, beside the memory and the records of the other: it ends its run, or is on a side
  pub data Beside (K : List Frame) (t : ℕ) (k : Memory) (q : List Record) : Turn → Type 0 where
    halts : {h : Stop} {s : ℕ} → Beside K t k q (Halts h s)
    moves : {b : ℕ} {n : Option ℕ} {l : List Frame} {m : Memory} {r : List Record}
        → Side K t b n l → Alike W m k → shown r ≡ shown q → Beside K t k q (Goes (state b n l m r))

  -- a step of one that leaves the memory and the records
  pub data Turned (K : List Frame) (t : ℕ) (m : Memory) (r : List Record) : Turn → Type 0 where
    ended : {h : Stop} {s : ℕ} → Turned K t m r (Halts h s)
    turned : {b : ℕ} {n : Option ℕ} {l : List Frame} → Side K t b n l → Turned K t m r (Goes (state b n l m r))

module _ {P : Policy} {W : Viewer P} where
  pub both_check : (a c : Bool) (h : Stop) (s : ℕ) {x y : Turn} → Both W x y → Both W (check a h s x) (check c h s y)
  unfolding check
  both_check true true h s f = f
  both_check true false h s f = stop_right
  both_check false c h s f = stop_left

  pub beside_check : (a : Bool) (h : Stop) (s : ℕ) {K : List Frame} {t : ℕ} {k : Memory} {q : List Record} {x : Turn}
      → Beside W K t k q x → Beside W K t k q (check a h s x)
  unfolding check
  beside_check true h s f = f
  beside_check false h s f = halts

  module _ {K : List Frame} {t : ℕ} {m : Memory} {r : List Record} where
    pub turned_check : (a : Bool) (h : Stop) (s : ℕ) {x : Turn} → Turned W K t m r x → Turned W K t m r (check a h s x)
    unfolding check
    turned_check true h s f = f
    turned_check false h s f = ended

    pub both_turned : {K' : List Frame} {k : Memory} {q : List Record} {x y : Turn} → Good P t → Stacks W K K' → Alike W m k → shown W r ≡ shown W q
        → Turned W K t m r x → Turned W K' t k q y → Both W x y
    both_turned g f a e ended y = stop_left
    both_turned g f a e (turned x) ended = stop_right
    both_turned g f a e (turned x) (turned y) = go (split g f x y a e)

    pub beside_turned : {k : Memory} {q : List Record} {x : Turn} → Alike W m k → shown W r ≡ shown W q
        → Turned W K t m r x → Beside W K t k q x
    beside_turned a e ended = halts
    beside_turned a e (turned x) = moves x a e
