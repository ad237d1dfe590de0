-- Frame words, the frames held in an array, and what the loop does next. Assumes nothing.
use Prim.Native.Nat.{ℕ, suc, ◌+◌, ◌-◌, ◌*◌, ◌/◌, ◌%◌, ◌<◌, ◌≤◌}
use native.Mathlib.Numerals.{add-one, sub-one}
use native.Mathlib.Omega.{arith}
use mathlib.Core.Path.{◌≡◌, refl, ap, ◌∙◌}
use mathlib.Core.List.{List, [], ◌∷◌}
use lib.ListN.{length, get_or, set}
use lib.Seq.{get_or-set_same, get_or-set_other}
use Rattle.rules.specs.declared.Frame.{Frame}
use Rattle.rules.specs.declared.Frame.TheVariants.{Next, Join, Loop}
use Rattle.std.specs.Prelude.{Option, Some, None}
use Rattle.rules.specs.Policy.{policy_of}
use Rattle.rules.specs.Recipe.{recipe_of}
use Rattle.rules.proofs.Standing.{FrameOk, FramesOk, WaitingOk}
use Rattle.layout.specs.declared.Tables.{Tables}
use Rattle.layout.specs.Tables.{stmt_record}
use Rattle.layout.specs.Places.{Ready}
use Rattle.steps.proofs.Statements.{kind_below}
use Rattle.machine.specs.Frames.{word_of, Held, none, more}

-- ---- words

-- a word by its parts
pub record Parts (w kind s tag : ℕ) : Type 0 where
  pub kind_is : w / 8192 ≡ kind
  pub stmt_is : w / 16 % 512 ≡ s
  pub tag_is : w % 16 ≡ tag

pub parts : (w k s g : ℕ) → w ≡ 8192 * k + 16 * s + g → s < 512 → g < 16 → Parts w k s g
parts w k s g e ls lg =
    let a : w / 16 ≡ 512 * k + s = omega arith in
    let b : (512 * k + s) % 512 ≡ s = omega arith in
    record { kind_is = omega arith; stmt_is = rw a b; tag_is = omega arith }

-- ---- the array

pub frames_length : {st : List ℕ} {d : ℕ} {l : List Frame} → Held st d l → length l ≡ d
frames_length (none e) = refl
frames_length (more f e h) = ap suc (frames_length h)

-- a store above the depth changes none of the frames held
above : {st : List ℕ} {d : ℕ} {l : List Frame} → Held st d l → (i w : ℕ) → d < i → Held (set st i w) d l
above {st} (none e) i w h =
    let ne : 0 ≡ i → ⊥ = λ z. omega arith in
    none (get_or-set_other st i 0 w 0 ne ∙ e)
above {st} (more {d} f e k) i w h =
    let ne : suc d ≡ i → ⊥ = λ z. omega arith in
    more f (get_or-set_other st i (suc d) w 0 ne ∙ e) (above k i w (omega arith))

pub pushed : {st : List ℕ} {d : ℕ} {l : List Frame} → Held st d l → (f : Frame) (w : ℕ) → w ≡ word_of f → d + 1 < length st
    → Held (set st (d + 1) w) (d + 1) (f ∷ l)
pushed {st} {d} h f w e l = rw (add-one d) (more f (get_or-set_same st (suc d) w 0 (omega arith) ∙ e) (above h (suc d) w (omega arith)))

-- ---- what is done next

-- statement s of this kind is begun, or the top frame is taken, whose word has this kind and names s
pub data Turned (t : Tables) (st : List ℕ) (d kind s : ℕ) : Option ℕ → Type 0 where
  at_stmt : kind ≡ (stmt_record t s).kind → Turned t st d kind s (Some s)
  at_top : kind ≡ get_or st d 0 / 8192 → s ≡ get_or st d 0 / 16 % 512 → Turned t st d kind s None

frame_kind : (f : Frame) → 7 ≤ word_of f / 8192
frame_kind (Next a) = omega arith
frame_kind (Join g) = omega arith
frame_kind (Loop s g) = omega arith

top_kind : {st : List ℕ} {d : ℕ} {l : List Frame} → Held st d l → 7 ≤ get_or st d 0 / 8192
top_kind (none e) = rw e (omega arith)
top_kind (more f e h) = rw e (frame_kind f)

-- a kind below 7 is a statement's
pub by_stmt : {t : Tables} {st : List ℕ} {d kind s : ℕ} {w : Option ℕ} {l : List Frame} → Turned t st d kind s w → Held st d l → kind < 7
    → (w ≡ Some s) × (kind ≡ (stmt_record t s).kind)
by_stmt (at_stmt e) h low = (refl, e)
by_stmt (at_top e f) h low = absurd (omega (arith, top_kind h))

-- ---- the top frame

abbrev kind_in : Frame → ℕ
kind_in (Next a) = 7
kind_in (Join g) = 8
kind_in (Loop s g) = 9

abbrev stmt_in : Frame → ℕ
stmt_in (Next a) = a
stmt_in (Join g) = 0
stmt_in (Loop s g) = s

abbrev tag_in : Frame → ℕ
tag_in (Next a) = 0
tag_in (Join g) = g
tag_in (Loop s g) = g

module _ {r p : List ℕ} {t : Tables} {u : List ℕ} (a : Ready r p t u) where
  few_stmts : (recipe_of r).stmts ≤ 512
  few_stmts = a.recipe.counts.few_stmts

  few_tags : (policy_of p).tags ≤ 16
  few_tags = a.policy.few_tags

  frame_parts : (f : Frame) → FrameOk (policy_of p) (recipe_of r) f → {w : ℕ} → w ≡ word_of f → Parts w (kind_in f) (stmt_in f) (tag_in f)
  frame_parts (Next n) ok {w} e = parts w 7 n 0 e (omega (arith, ok, few_stmts)) (omega arith)
  frame_parts (Join g) ok {w} e = parts w 8 0 g e (omega arith) (omega (arith, ok, few_tags))
  frame_parts (Loop s g) ok {w} e = parts w 9 s g e (omega (arith, ok.0, few_stmts)) (omega (arith, ok.1, few_tags))

  pub kind_low : (s : ℕ) → s < (recipe_of r).stmts → (stmt_record t s).kind < 7
  kind_low s l = rw (a.decoded.stmts_as s l).kind (kind_below ((recipe_of r).stmt_at s))

  -- what is done next names a statement's number
  pub low_number : {st : List ℕ} {d kind s : ℕ} {w : Option ℕ} → WaitingOk (recipe_of r) w → Turned t st d kind s w → s < 512
  low_number ok (at_stmt e) = omega (arith, ok, few_stmts)
  low_number ok (at_top e f) = rw f (omega arith)

  -- frame f is the top, and is taken next
  pub record Top (st : List ℕ) (d : ℕ) (w : Option ℕ) (l : List Frame) (f : Frame) : Type 0 where
    pub rest : List Frame
    pub waits : w ≡ None
    pub frames_are : l ≡ f ∷ rest
    pub below : Held st (d - 1) rest
    pub some : 0 < d

  taken : {st : List ℕ} {d : ℕ} {l : List Frame} (f : Frame) → Held st d l → Top st (suc d) None (f ∷ l) f
  taken {d = d} {l = l} f h = record { rest = l; waits = refl; frames_are = refl; below = rw (sub-one (suc d)) h; some = omega arith }

  pub top_next : {st : List ℕ} {d kind s : ℕ} {w : Option ℕ} {l : List Frame} → WaitingOk (recipe_of r) w → Turned t st d kind s w → Held st d l
      → FramesOk (policy_of p) (recipe_of r) l → kind ≡ 7 → Top st d w l (Next s)
  top_next ok (at_stmt e) h fine k = absurd (omega (arith, kind_low _ ok))
  top_next ok (at_top e f) (none b) fine k = absurd (omega arith)
  top_next {s = s} ok (at_top e f) (more (Next n) b h) fine k =
      let q = frame_parts (Next n) fine.0 b in
      let i : s ≡ n = f ∙ q.stmt_is in
      rw i (taken (Next n) h)
  top_next ok (at_top e f) (more (Join g) b h) fine k = absurd (omega (arith, (frame_parts (Join g) fine.0 b).kind_is))
  top_next ok (at_top e f) (more (Loop n g) b h) fine k = absurd (omega (arith, (frame_parts (Loop n g) fine.0 b).kind_is))

  pub top_join : {st : List ℕ} {d kind s : ℕ} {w : Option ℕ} {l : List Frame} → WaitingOk (recipe_of r) w → Turned t st d kind s w → Held st d l
      → FramesOk (policy_of p) (recipe_of r) l → kind ≡ 8 → Top st d w l (Join (get_or st d 0 % 16))
  top_join ok (at_stmt e) h fine k = absurd (omega (arith, kind_low _ ok))
  top_join ok (at_top e f) (none b) fine k = absurd (omega arith)
  top_join ok (at_top e f) (more (Next n) b h) fine k = absurd (omega (arith, (frame_parts (Next n) fine.0 b).kind_is))
  top_join ok (at_top e f) (more (Join g) b h) fine k = rw (frame_parts (Join g) fine.0 b).tag_is (taken (Join g) h)
  top_join ok (at_top e f) (more (Loop n g) b h) fine k = absurd (omega (arith, (frame_parts (Loop n g) fine.0 b).kind_is))

  pub top_loop : {st : List ℕ} {d kind s : ℕ} {w : Option ℕ} {l : List Frame} → WaitingOk (recipe_of r) w → Turned t st d kind s w → Held st d l
      → FramesOk (policy_of p) (recipe_of r) l → kind ≡ 9 → Top st d w l (Loop s (get_or st d 0 % 16))
  top_loop ok (at_stmt e) h fine k = absurd (omega (arith, kind_low _ ok))
  top_loop ok (at_top e f) (none b) fine k = absurd (omega arith)
  top_loop ok (at_top e f) (more (Next n) b h) fine k = absurd (omega (arith, (frame_parts (Next n) fine.0 b).kind_is))
  top_loop ok (at_top e f) (more (Join g) b h) fine k = absurd (omega (arith, (frame_parts (Join g) fine.0 b).kind_is))
  top_loop {s = s} ok (at_top e f) (more (Loop n g) b h) fine k =
      let q = frame_parts (Loop n g) fine.0 b in
      let i : s ≡ n = f ∙ q.stmt_is in
      rw (i, q.tag_is) (taken (Loop n g) h)

  -- nothing is left to do
  pub top_none : {st : List ℕ} {d kind s : ℕ} {w : Option ℕ} {l : List Frame} → WaitingOk (recipe_of r) w → Turned t st d kind s w → Held st d l
      → FramesOk (policy_of p) (recipe_of r) l → 9 < kind → (w ≡ None) × (l ≡ [])
  top_none ok (at_stmt e) h fine k = absurd (omega (arith, kind_low _ ok))
  top_none ok (at_top e f) (none b) fine k = (refl, refl)
  top_none ok (at_top e f) (more (Next n) b h) fine k = absurd (omega (arith, (frame_parts (Next n) fine.0 b).kind_is))
  top_none ok (at_top e f) (more (Join g) b h) fine k = absurd (omega (arith, (frame_parts (Join g) fine.0 b).kind_is))
  top_none ok (at_top e f) (more (Loop n g) b h) fine k = absurd (omega (arith, (frame_parts (Loop n g) fine.0 b).kind_is))
