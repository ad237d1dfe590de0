-- Laws of checks: what passes, and how a loop that goes upwards finds the first that fails. Assumes nothing.
use Prim.Native.Nat.{ℕ, zero, suc, ◌+◌, ◌<◌}
use native.Mathlib.Nat.{not-suc-le-zero}
use native.Mathlib.Numerals.{add-one}
use native.Mathlib.Decide.{dec_lt}
use native.Mathlib.Omega.{arith}
use mathlib.Core.Path.{◌≡◌, refl, sym, ◌∙◌}
use mathlib.Core.Bool.{Bool, true, false}
use Rattle.rules.specs.declared.Refusal.{Refusal}
use Rattle.rules.specs.Checks.{Checked, require, ◌and_then◌, up_to, every}
use Rattle.std.specs.Prelude.{Ok, Err}
use Rattle.rules.proofs.Tests.{and_left, and_right, and_both}

-- ---- one check, and one after the other

pub required : (b : Bool) (x : Refusal) → require b x ≡ Ok tt → b ≡ true
unfolding require
required true x e = refl
required false x e = cc

pub passes : {b : Bool} (x : Refusal) → b ≡ true → require b x ≡ Ok tt
unfolding require
passes x e = rw e

pub fails : {b : Bool} (x : Refusal) → b ≡ false → require b x ≡ Err x
unfolding require
fails x e = rw e

pub first : (c d : Checked) → c and_then d ≡ Ok tt → c ≡ Ok tt
unfolding ◌and_then◌
first (Ok u) d e = refl
first (Err x) d e = e

pub second : (c d : Checked) → c and_then d ≡ Ok tt → d ≡ Ok tt
unfolding ◌and_then◌
second (Ok u) d e = e
second (Err x) d e = cc

-- a check that passes leaves the next to decide
pub next : {c : Checked} (d : Checked) → c ≡ Ok tt → c and_then d ≡ d
unfolding ◌and_then◌
next d e = rw e

-- a check that fails decides
pub stops : {c : Checked} {x : Refusal} (d : Checked) → c ≡ Err x → c and_then d ≡ Err x
unfolding ◌and_then◌
stops d e = rw e

pub both_pass : {c d : Checked} → c ≡ Ok tt → d ≡ Ok tt → c and_then d ≡ Ok tt
unfolding ◌and_then◌
both_pass e f = rw (e, f)

-- ---- upwards

pub up_none : (f : ℕ → Checked) → up_to 0 f ≡ Ok tt
unfolding up_to
up_none f = refl

-- one more that passes
pub up_more : (i : ℕ) (f : ℕ → Checked) → up_to i f ≡ Ok tt → f i ≡ Ok tt → up_to (i + 1) f ≡ Ok tt
unfolding up_to
up_more i f e g = rw (add-one i) (both_pass e g)

-- the first that fails decides
pub up_stops : (n i : ℕ) (f : ℕ → Checked) {x : Refusal} → i < n → up_to i f ≡ Ok tt → f i ≡ Err x → up_to n f ≡ Err x
unfolding up_to ◌and_then◌
up_stops zero i f l e g = absurd (not-suc-le-zero l)
up_stops (suc n) i f {x} l e g = by_place (λ h. up_stops n i f h e g) (dec_lt i n)
  where
    by_place : (i < n → up_to n f ≡ Err x) → Dec (i < n) → up_to n f and_then f n ≡ Err x
    by_place on (yes h) = stops (f n) (on h)
    by_place on (no h) =
        let q : i ≡ n = omega arith in
        rw (← q, e) g

pub up_each : (n : ℕ) (f : ℕ → Checked) → up_to n f ≡ Ok tt → (i : ℕ) → i < n → f i ≡ Ok tt
unfolding up_to
up_each zero f e i l = absurd (not-suc-le-zero l)
up_each (suc n) f e i l = by_place (up_each n f (first (up_to n f) (f n) e) i) (dec_lt i n)
  where
    by_place : (i < n → f i ≡ Ok tt) → Dec (i < n) → f i ≡ Ok tt
    by_place on (yes h) = on h
    by_place on (no h) =
        let q : i ≡ n = omega arith in
        rw q (second (up_to n f) (f n) e)

pub up_all : (n : ℕ) (f : ℕ → Checked) → ((i : ℕ) → i < n → f i ≡ Ok tt) → up_to n f ≡ Ok tt
unfolding up_to
up_all zero f h = refl
up_all (suc n) f h = both_pass (up_all n f (λ i l. h i (omega arith))) (h n (omega arith))

-- ---- a test of every number below n

pub each : (n : ℕ) (f : ℕ → Bool) → every n f ≡ true → (i : ℕ) → i < n → f i ≡ true
unfolding every
each zero f e i l = absurd (not-suc-le-zero l)
each (suc n) f e i l = by_place (each n f (and_left (every n f) (f n) e) i) (dec_lt i n)
  where
    by_place : (i < n → f i ≡ true) → Dec (i < n) → f i ≡ true
    by_place on (yes h) = on h
    by_place on (no h) =
        let q : i ≡ n = omega arith in
        rw q (and_right (every n f) (f n) e)

pub all : (n : ℕ) (f : ℕ → Bool) → ((i : ℕ) → i < n → f i ≡ true) → every n f ≡ true
unfolding every
all zero f h = refl
all (suc n) f h = and_both (all n f (λ i l. h i (omega arith))) (h n (omega arith))

-- one that fails
pub not_every : (n i : ℕ) (f : ℕ → Bool) → i < n → f i ≡ false → every n f ≡ false
not_every n i f l e = by_answer (every n f) refl
  where
    by_answer : (b : Bool) → every n f ≡ b → every n f ≡ false
    by_answer true g = let z : true ≡ false = sym (each n f g i l) ∙ e in g ∙ z
    by_answer false g = g
