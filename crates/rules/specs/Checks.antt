-- Checks one after the other: the first that fails decides. Assumes nothing.
use Rattle.std.specs.Prelude.{ℕ, zero, suc, Bool, true, false, ◌&&◌, Result, Ok, Err}
use Rattle.rules.specs.declared.Refusal.{Refusal}

-- what a check finds: nothing to say, or why it refuses
abbrev pub Checked : Type 0
Checked = Result (Unit {0}) Refusal

unfoldable pub require : Bool → Refusal → Checked
require true x = Ok tt
require false x = Err x

infixr 20 ◌and_then◌
unfoldable pub ◌and_then◌ : Checked → Checked → Checked
(Ok u) and_then c = c
(Err x) and_then c = Err x

-- the checks of 0, 1, .. below n, upwards
unfoldable pub up_to : ℕ → (ℕ → Checked) → Checked
up_to zero f = Ok tt
up_to (suc n) f = up_to n f and_then f n

-- a test that passes for each number below n
unfoldable pub every : ℕ → (ℕ → Bool) → Bool
every zero f = true
every (suc n) f = every n f && f n
