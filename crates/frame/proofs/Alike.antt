-- An accepted frame of bytes is made of its heading and its four bytes of packet, so two with the same are the same frame. Assumes nothing.
use mathlib.Core.Path.{◌≡◌, refl}
use mathlib.Core.List.{List, [], ◌∷◌}
use Prim.Native.Nat.{ℕ, zero, suc, ◌+◌, ◌*◌, ◌/◌, ◌%◌, ◌<◌}
use native.Mathlib.Omega.{arith}
use lib.ListN.{get_or, get_or-eq_default}
use lib.Seq.{ext_get_or}
use Rattle.laws.specs.Refusals.{first}
use Rattle.frame.specs.declared.Heading.{Heading}
use Rattle.frame.specs.Heading.{refusals, heading_fields}
use Rattle.frame.proofs.Fields.{level_byte, version_byte, total_byte, number_bytes, fixed_bytes}
use Rattle.frame.proofs.Accepted.{eight_bytes, is_fixed}

-- the eight bytes, from the heading and the four
abbrev pub made : Heading → ℕ → ℕ → ℕ → ℕ → List ℕ
made h a b c d =
    (h.level * 32 + h.version) ∷ (h.total.0 * 4 + h.number.0 / 16) ∷ 0xB0 ∷ (h.number.0 % 16) ∷ a ∷ b ∷ c ∷ d ∷ []

module _ (f : List ℕ) (byte : (i : ℕ) → get_or f i 0 < 256) (e : first (refusals f) ≡ 0) where
  pub remade : f ≡ made (heading_fields f) (get_or f 4 0) (get_or f 5 0) (get_or f 6 0) (get_or f 7 0)
  unfolding heading_fields
  remade = ext_get_or 0 f (made (heading_fields f) (get_or f 4 0) (get_or f 5 0) (get_or f 6 0) (get_or f 7 0)) (eight_bytes f e) (λ i h. at i)
    where
      at : (i : ℕ) → get_or f i 0 ≡ get_or (made (heading_fields f) (get_or f 4 0) (get_or f 5 0) (get_or f 6 0) (get_or f 7 0)) i 0
      at zero = omega (arith, level_byte f (byte 0), version_byte f)
      at (suc zero) = omega (arith, total_byte f (byte 1), number_bytes f)
      at (suc (suc zero)) = (fixed_bytes f (byte 2) (byte 3) (is_fixed f e)).0
      at (suc (suc (suc zero))) = let z = (fixed_bytes f (byte 2) (byte 3) (is_fixed f e)).1 in omega (arith, number_bytes f)
      at (suc (suc (suc (suc zero)))) = refl
      at (suc (suc (suc (suc (suc zero))))) = refl
      at (suc (suc (suc (suc (suc (suc zero)))))) = refl
      at (suc (suc (suc (suc (suc (suc (suc zero))))))) = refl
      at (suc (suc (suc (suc (suc (suc (suc (suc i)))))))) = get_or-eq_default f 0 (omega (arith, eight_bytes f e))
