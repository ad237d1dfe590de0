-- What the header and the entries of a policy promise before its laws are known. Assumes nothing.
use Rattle.std.specs.Prelude.{ℕ, ◌+◌, ◌*◌, ◌<◌, ◌≤◌, ◌≡◌, List, length}
use Rattle.rules.specs.Bytes.{byte, half}

-- the header passes: what 23 refuses is absent
pub record Headed (p : List ℕ) : Type 0 where
  pub mark : (byte p 0 ≡ 0x52) × (byte p 1 ≡ 0x4A) × (byte p 2 ≡ 0x50)
  pub version : half p 3 ≡ 1
  pub zero_byte : byte p 5 ≡ 0
  pub some_tag : 1 ≤ byte p 6
  pub few_tags : byte p 6 ≤ 16
  pub few_ports : byte p 7 ≤ 16
  pub long : length p ≡ 8 + byte p 6 * byte p 6 + byte p 7

-- the entries pass too: what 24 refuses is absent
pub record Filled (p : List ℕ) : Type 0 where
  pub headed : Headed p
  pub entries : (i : ℕ) → i < byte p 6 * byte p 6 + byte p 7 → byte p (8 + i) < byte p 6
