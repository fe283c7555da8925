-- What the frames carry, and whether the packet has the right size, as the code works them out. Assumes nothing.
use mathlib.Core.Path.{◌≡◌, sym, ap, ◌∙◌}
use mathlib.Core.Bool.{false}
use mathlib.Core.List.{List, [], ◌∷◌, ◌++◌}
use Prim.Native.Nat.{ℕ, ◌+◌, ◌/◌, ◌%◌, ◌^◌, ◌<◌, ◌≤◌}
use native.Mathlib.Omega.{arith}
use lib.ListN.{length, get_or, length-append, get_or-append, get_or-eq_default}
use lib.Seq.{get_or-append_seam, get_or-append-add}
use lib.Dec.{eqb}
use borrow.Author.Tests.{le-leb, lt-leb}
use Rattle.laws.proofs.Cases.{and_yes, and_no}
use Rattle.laws.proofs.Elements.{get_d_any}
use Rattle.crc.specs.Crc16.{crc16}
use Rattle.size.specs.Size.{packet_size}
use Rattle.std.specs.Prelude.{Result}
use Rattle.refusal.specs.declared.Refusal.{Refusal}
use Rattle.refusal.proofs.Numbers.{told_once}
use Rattle.air.specs.OnAir.{Aired, told, with_check, carried, sized}

module _ (p : List ℕ) (i : ℕ) where
  pub carried_packet : i < length p → get_or p i 0 ≡ carried p i
  unfolding carried with_check
  carried_packet h = get_d_any p i 0 0xFF h ∙ sym (get_or-append p _ 0xFF i h)

  pub carried_high : i ≡ length p → crc16 p / 2 ^ 8 ≡ carried p i
  unfolding carried with_check
  carried_high e = rw e (sym (get_or-append_seam p _ _ 0xFF))

  pub carried_low : i ≡ length p + 1 → crc16 p % 2 ^ 8 ≡ carried p i
  unfolding carried with_check
  carried_low e = rw e (sym (get_or-append-add p (crc16 p / 2 ^ 8 ∷ crc16 p % 2 ^ 8 ∷ []) 1 0xFF))

  pub carried_fill : length p + 2 ≤ i → 0xFF ≡ carried p i
  unfolding carried with_check
  carried_fill h =
      let l : length (p ++ (crc16 p / 2 ^ 8 ∷ crc16 p % 2 ^ 8 ∷ [])) ≤ i = omega (arith, length-append p (crc16 p / 2 ^ 8 ∷ crc16 p % 2 ^ 8 ∷ [])) in
      sym (get_or-eq_default (with_check p) 0xFF l)

module _ (p : List ℕ) where
  pub short : length p < 2 → false ≡ sized p
  unfolding sized
  short h = sym (and_no _ (lt-leb _ _ h))

  pub long : 2 ≤ length p → 250 < length p → false ≡ sized p
  unfolding sized
  long l h = sym (and_yes _ (le-leb _ _ l) ∙ and_no _ (lt-leb _ _ h))

  pub by_field : 2 ≤ length p → length p ≤ 250 → (n : ℕ) → n ≡ packet_size p → eqb (length p) n ≡ sized p
  unfolding sized
  by_field l h n e = ap (eqb (length p)) e ∙ sym (and_yes _ (le-leb _ _ l) ∙ and_yes _ (le-leb _ _ h))

-- what is told of a result tells the result
pub told_apart : (r s : Result ℕ Refusal) → told r ≡ told s → r ≡ s
told_apart r s e = told_once 0 r s (ap (λ (t : Aired). t.answer) e) (ap (λ (t : Aired). t.frames) e)
