-- A heading that is put into bits comes back. Assumes nothing.
use mathlib.Core.Path.{◌≡◌, refl, sym, ap, ap₂, ◌∙◌}
use mathlib.Core.List.{List, [], ◌∷◌, ◌++◌}
use Prim.Native.Nat.{ℕ, zero, suc, ◌+◌, ◌*◌, ◌/◌, ◌%◌, ◌^◌, ◌<◌, ◌≤◌}
use native.Mathlib.Omega.{arith}
use lib.ListN.{length, get_or}
use Rattle.laws.specs.Bits.{at, bits_of, run}
use Rattle.laws.proofs.Bits.{at_bits}
use Rattle.laws.proofs.ByteFields.{at_parts, at_front, at_behind}
use Rattle.frame.specs.declared.Heading.{Heading}
use Rattle.frame.specs.Heading.{Fits, heading_of, heading_bits, heading_bytes}
use Rattle.frame.proofs.Fields.{says_0}

-- the fields behind each field
abbrev after_number : Heading → List ℕ
after_number h = bits_of 5 0b10110 ++ (bits_of 6 0 ++ (bits_of 1 0 ++ bits_of 4 (h.number.0 % 2 ^ 4)))

abbrev after_total : Heading → List ℕ
after_total h = bits_of 2 (h.number.0 / 2 ^ 4) ++ after_number h

abbrev after_version : Heading → List ℕ
after_version h = bits_of 6 h.total.0 ++ after_total h

abbrev after_level : Heading → List ℕ
after_level h = bits_of 5 h.version ++ after_version h

module _ (h : Heading) (f : Fits h) where
  abbrev hi : ℕ
  hi = h.number.0 / 2 ^ 4

  abbrev lo : ℕ
  lo = h.number.0 % 2 ^ 4

  -- block 1: its first byte, its second
  first_byte_lem : at (heading_bits h) 0 8 ≡ h.level * 32 + h.version
  unfolding heading_bits
  first_byte_lem =
      at_parts (bits_of 3 h.level ++ after_level h) 0 3 5
      ∙ ap₂ (λ (a b : ℕ). a * 32 + b)
      (at_front 3 h.level (after_level h) f.level)
      (at_behind 3 h.level (after_level h) 0 5 ∙ at_front 5 h.version (after_version h) f.version)

  second_byte : at (heading_bits h) 8 8 ≡ h.total.0 * 4 + hi
  unfolding heading_bits
  second_byte =
      at_behind 3 h.level (after_level h) 5 8
      ∙ at_behind 5 h.version (after_version h) 0 8
      ∙ at_parts (after_version h) 0 6 2
      ∙ ap₂ (λ (a b : ℕ). a * 4 + b)
      (at_front 6 h.total.0 (after_total h) f.total)
      (at_behind 6 h.total.0 (after_total h) 0 2 ∙ at_front 2 hi (after_number h) (let n = f.number in omega arith))

  -- block 2: 10110 000000 0 and the number's low bits
  behind : (p w : ℕ) → at (heading_bits h) (16 + p) w ≡ at (after_number h) p w
  unfolding heading_bits
  behind p w =
      let e : 16 + p ≡ 3 + (5 + (6 + (2 + p))) = omega arith in
      ap (λ (n : ℕ). at (heading_bits h) n w) e
      ∙ at_behind 3 h.level (after_level h) (5 + (6 + (2 + p))) w
      ∙ at_behind 5 h.version (after_version h) (6 + (2 + p)) w
      ∙ at_behind 6 h.total.0 (after_total h) (2 + p) w
      ∙ at_behind 2 hi (after_number h) p w

  third_byte : at (heading_bits h) 16 8 ≡ 0xB0
  unfolding bits_of at
  third_byte = behind 0 8

  low_bits : at (bits_of 1 0 ++ bits_of 4 lo) 1 4 ≡ lo
  low_bits = at_behind 1 0 (bits_of 4 lo) 0 4 ∙ at_bits 4 lo (omega arith)

  zeros : at (bits_of 6 0 ++ (bits_of 1 0 ++ bits_of 4 lo)) 3 4 ≡ 0
  unfolding at bits_of
  zeros = refl

  fourth_byte : at (heading_bits h) 24 8 ≡ lo
  fourth_byte =
      behind 8 8
      ∙ at_behind 5 0b10110 (bits_of 6 0 ++ (bits_of 1 0 ++ bits_of 4 lo)) 3 8
      ∙ at_parts (bits_of 6 0 ++ (bits_of 1 0 ++ bits_of 4 lo)) 3 4 4
      ∙ ap₂ (λ (a b : ℕ). a * 16 + b) zeros (at_behind 6 0 (bits_of 1 0 ++ bits_of 4 lo) 1 4 ∙ low_bits)
      ∙ omega arith

  length_heading : length (heading_bits h) ≡ 32
  unfolding heading_bits bits_of
  length_heading = refl

  -- the four bytes as the on-air writer works them out
  pub bytes_of : heading_bytes h ≡ (h.level * 32 + h.version) ∷ (h.total.0 * 4 + h.number.0 / 16) ∷ 0xB0 ∷ (h.number.0 % 16) ∷ []
  unfolding heading_bytes run
  bytes_of = rw (length_heading, first_byte_lem, second_byte, third_byte, fourth_byte)

  -- what was put in comes back, whatever the four bytes of packet: level 1 to 6, number below total
  pub comes_back : (a b c d : ℕ) → a < 256 → b < 256 → c < 256 → d < 256 → 1 ≤ h.level → h.level ≤ 6 → h.number.0 < h.total.0
      → heading_of (heading_bytes h ++ (a ∷ b ∷ c ∷ d ∷ [])) ≡ record { answer = 0; heading = h }
  comes_back a b c d ha hb hc hd l₁ l₆ n =
      let fl = f.level in
      let fv = f.version in
      let ft = f.total in
      let fn = f.number in
      let x = h.level * 32 + h.version in
      let y = h.total.0 * 4 + h.number.0 / 16 in
      let z = h.number.0 % 16 in
      let el : x / 32 ≡ h.level = omega arith in
      let ev : x % 32 ≡ h.version = omega arith in
      let et : y / 4 ≡ h.total.0 = omega arith in
      let en : y % 4 * 16 + z % 16 ≡ h.number.0 = omega arith in
      rw bytes_of
      (sym
      (says_0 (x ∷ y ∷ 0xB0 ∷ z ∷ a ∷ b ∷ c ∷ d ∷ []) (small x y z (omega arith) (omega arith) (omega arith)) refl refl (omega arith)
      (λ (e : x / 32 ≡ 0). omega arith) (λ (e : x / 32 ≡ 7). omega arith) (omega arith))
      ∙ rw (el, ev, et, en))
    where
      small : (x y z : ℕ) → x < 256 → y < 256 → z < 256 → (i : ℕ) → get_or (x ∷ y ∷ 0xB0 ∷ z ∷ a ∷ b ∷ c ∷ d ∷ []) i 0 < 256
      small x y z hx hy hz zero = hx
      small x y z hx hy hz (suc zero) = hy
      small x y z hx hy hz (suc (suc zero)) = omega arith
      small x y z hx hy hz (suc (suc (suc zero))) = hz
      small x y z hx hy hz (suc (suc (suc (suc zero)))) = ha
      small x y z hx hy hz (suc (suc (suc (suc (suc zero))))) = hb
      small x y z hx hy hz (suc (suc (suc (suc (suc (suc zero)))))) = hc
      small x y z hx hy hz (suc (suc (suc (suc (suc (suc (suc zero))))))) = hd
      small x y z hx hy hz (suc (suc (suc (suc (suc (suc (suc (suc i)))))))) = omega arith
