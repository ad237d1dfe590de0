-- The laws at one triple of tags in two parts, since three of the four need no third tag. Assumes nothing.
use Rattle.std.specs.Prelude.{ℕ, Bool, eqb, ◌&&◌}
use Rattle.rules.specs.Policy.{Policy}

-- join is commutative, and gives t for (t,t) and for (0,t)
unfoldable pub pair_laws : Policy → (t u : ℕ) → Bool
pair_laws P t u = eqb (P.join t u) (P.join u t) && eqb (P.join t t) t && eqb (P.join 0 t) t

-- join is associative
abbrev pub associates : Policy → (t u w : ℕ) → Bool
associates P t u w = eqb (P.join (P.join t u) w) (P.join t (P.join u w))
