-- Tests and what they say. Assumes nothing.
use Prim.Native.Nat.{ℕ, zero, suc}
use mathlib.Core.Path.{◌≡◌, refl, sym, ◌∙◌}
use mathlib.Core.Bool.{Bool, true, false, ◌&&◌}
use Rattle.rules.specs.Steps.{test}

pub and_left : (a b : Bool) → (a && b) ≡ true → a ≡ true
and_left true b e = refl
and_left false b e = e

pub and_right : (a b : Bool) → (a && b) ≡ true → b ≡ true
and_right true b e = e
and_right false b e = cc

pub and_both : {a b : Bool} → a ≡ true → b ≡ true → (a && b) ≡ true
and_both e f = rw (e, f)

-- a test that cannot pass fails
pub fails : (b : Bool) → (b ≡ true → b ≡ false) → b ≡ false
fails true f = f refl
fails false f = refl

-- a function's answer b to the test t, where the code goes by `!b`
pub denied : {b t : Bool} → b ≡ t → b ≡ false → t ≡ false
denied e h = sym e ∙ h

pub held : {b t : Bool} → b ≡ t → b ≡ true → t ≡ true
held e h = sym e ∙ h

-- what holds of both cases holds of the one that a value picks
pub picked : {A : Type 0} (C : A → Type 0) (v : ℕ) {x y : A} → C x → C y → C (test v x y)
unfolding test
picked C zero f g = g
picked C (suc v) f g = f

pub both_picked : {A : Type 0} (C : A → A → Type 0) (v : ℕ) {x y x' y' : A} → C x y → C x' y' → C (test v x x') (test v y y')
unfolding test
both_picked C zero f g = g
both_picked C (suc v) f g = f
