-- The places, filled upwards, and the memory's bytes from them. Assumes nothing.
use Prim.Native.Nat.{ℕ, zero, suc, ◌+◌, ◌*◌, ◌^◌, ◌<◌, ◌≤◌}
use native.Mathlib.Omega.{arith}
use mathlib.Core.Path.{◌≡◌, refl, sym, ap, ◌∙◌}
use mathlib.Core.List.{List, [], ◌∷◌}
use borrow.Author.Count.{below_more}
use lib.ListN.{length}
use lib.Seq.{get_or-set_same, get_or-set_other}
use Rattle.rules.specs.declared.Place.{Place}
use Rattle.rules.specs.Bytes.{Bytes, byte, whole}
use Rattle.rules.specs.Memory.{◌#◌, value_of, Memory, place_at, write, places, place_bytes}
use Rattle.rules.proofs.Bytes.{length_places}
use Rattle.memory.specs.Layout.{placed}
use Rattle.memory.proofs.Places.{read, written, places_bytes}
use Rattle.layout.specs.Answers.{worth_of}
use Rattle.layout.specs.Places.{place_in, held_from}
use Rattle.decode.specs.Filled.{Kept, PlacesAs}

-- ---- places

pub places_kept : (m : List ℕ) (n : ℕ) {lo : ℕ} {u v : List ℕ} → Kept lo u v → n ≤ lo → PlacesAs m n u → PlacesAs m n v
places_kept m n k l all i h = ap worth_of (k.below i (omega arith)) ∙ all i h

-- ---- the memory

held_as : (u : List ℕ) (i n : ℕ) (m : Memory) → length m ≡ n → ((j : ℕ) → j < n → place_in u (i + j) ≡ place_at m j) → held_from u i n ≡ m
unfolding held_from
held_as u i zero [] e all = refl
held_as u i zero (x ∷ m) e all = absurd (omega arith)
held_as u i (suc n) [] e all = absurd (omega arith)
held_as u i (suc n) (x ∷ m) e all =
    let z : i + 0 ≡ i = omega arith in
    let here : place_in u i ≡ x = rw z at (all 0 (omega arith)) in
    rw (here, held_as u (suc i) n m (omega arith) (next u i n x m all))
  where
    next : (u : List ℕ) (i n : ℕ) (x : Place) (m : Memory) → ((j : ℕ) → j < suc n → place_in u (i + j) ≡ place_at (x ∷ m) j)
        → (j : ℕ) → j < n → place_in u (suc i + j) ≡ place_at m j
    next u i n x m all j h =
        let e : i + suc j ≡ suc i + j = omega arith in
        rw e at (all (suc j) (omega arith))

pub held_places : (u m : List ℕ) (n : ℕ) → PlacesAs m n u → held_from u 0 n ≡ places n m
held_places u m n all =
    held_as u 0 n (places n m) (length_places n m) (λ j h.
    let e : 0 + j ≡ j = omega arith in
    rw e (all j h ∙ sym (read n m j h)))

module _ (n : ℕ) (m : List ℕ) (long : 5 * n ≤ length m) (i : ℕ) (fits : i < n) (q : Place) (small : q.value < 2 ^ 32) where
  read_placed : (j : ℕ) → j < n → place_at (write (places n m) i q) j ≡ whole (placed m i q) (5 * j) # byte (placed m i q) (5 * j + 4)
  unfolding value_of
  read_placed j h = ap (λ (l : Memory). place_at l j) (sym (written n q small m i fits long)) ∙ read n (placed m i q) j h

  pub back_more : (u : List ℕ) → q ≡ place_in u i → PlacesAs m i u → PlacesAs (placed m i q) (i + 1) u
  back_more u e all =
      below_more _ i
      (λ j h.
      all j h ∙ sym (read n m j (omega arith))
      ∙ sym (get_or-set_other (places n m) i j q (0 # 0) (λ z. omega arith))
      ∙ read_placed j (omega arith))
      (sym e ∙ sym (get_or-set_same (places n m) i q (0 # 0) (omega (arith, length_places n m))) ∙ read_placed i fits)

pub back_done : (u m : List ℕ) (n : ℕ) → length m ≡ 5 * n → Bytes m → PlacesAs m n u → m ≡ place_bytes (held_from u 0 n)
back_done u m n e small all = rw (held_places u m n all) (sym (places_bytes n m (sym e) small))
