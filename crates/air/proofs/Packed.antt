-- The thirteen bytes of four blocks, as the code works them out. Assumes nothing.
use mathlib.Core.Path.{◌≡◌, refl, ◌∙◌}
use mathlib.Core.List.{List, [], ◌∷◌, ◌++◌}
use Prim.Native.Nat.{ℕ, ◌+◌, ◌-◌, ◌*◌, ◌/◌, ◌%◌, ◌^◌, ◌≤◌}
use native.Mathlib.Omega.{arith}
use lib.ListN.{length}
use Rattle.laws.specs.Bits.{at, bits_of, run}
use Rattle.laws.proofs.Bits.{length_bits_of, at_left}
use Rattle.laws.proofs.ByteFields.{at_parts, at_behind}
use Rattle.laws.proofs.Words.{at_within}
use Rattle.air.specs.Packed.{packed}

module _ (a b c d : ℕ) where
  abbrev line : List ℕ
  line = bits_of 26 a ++ (bits_of 26 b ++ (bits_of 26 c ++ bits_of 26 d))

  -- bits of the first of a list of numbers
  front : (x : ℕ) (l : List ℕ) (p u : ℕ) → p + u ≤ 26 → at (bits_of 26 x ++ l) p u ≡ x / 2 ^ (26 - (p + u)) % 2 ^ u
  front x l p u h = at_left (bits_of 26 x) l p u (omega (arith, length_bits_of 26 x)) ∙ at_within 26 x p u h

  in_a : (p u : ℕ) → p + u ≤ 26 → at line p u ≡ a / 2 ^ (26 - (p + u)) % 2 ^ u
  in_a p u h = front a (bits_of 26 b ++ (bits_of 26 c ++ bits_of 26 d)) p u h

  in_b : (p u : ℕ) → p + u ≤ 26 → at line (26 + p) u ≡ b / 2 ^ (26 - (p + u)) % 2 ^ u
  in_b p u h = at_behind 26 a (bits_of 26 b ++ (bits_of 26 c ++ bits_of 26 d)) p u ∙ front b (bits_of 26 c ++ bits_of 26 d) p u h

  in_c : (p u : ℕ) → p + u ≤ 26 → at line (26 + (26 + p)) u ≡ c / 2 ^ (26 - (p + u)) % 2 ^ u
  in_c p u h =
      at_behind 26 a (bits_of 26 b ++ (bits_of 26 c ++ bits_of 26 d)) (26 + p) u
      ∙ at_behind 26 b (bits_of 26 c ++ bits_of 26 d) p u
      ∙ front c (bits_of 26 d) p u h

  in_d : (p u : ℕ) → p + u ≤ 26 → at line (26 + (26 + (26 + p))) u ≡ d / 2 ^ (26 - (p + u)) % 2 ^ u
  in_d p u h =
      at_behind 26 a (bits_of 26 b ++ (bits_of 26 c ++ bits_of 26 d)) (26 + (26 + p)) u
      ∙ at_behind 26 b (bits_of 26 c ++ bits_of 26 d) (26 + p) u
      ∙ at_behind 26 c (bits_of 26 d) p u
      ∙ at_within 26 d p u h

  byte_3 : at line 24 8 ≡ a % 4 * 64 + b / 2 ^ 20 % 64
  byte_3 = at_parts line 24 2 6 ∙ omega (arith, in_a 24 2 (omega arith), in_b 0 6 (omega arith))

  byte_6 : at line 48 8 ≡ b % 16 * 16 + c / 2 ^ 22 % 16
  byte_6 = at_parts line 48 4 4 ∙ omega (arith, in_b 22 4 (omega arith), in_c 0 4 (omega arith))

  byte_9 : at line 72 8 ≡ c % 64 * 4 + d / 2 ^ 24 % 4
  byte_9 = at_parts line 72 6 2 ∙ omega (arith, in_c 20 6 (omega arith), in_d 0 2 (omega arith))

  byte_12 : at line 96 8 ≡ d % 256
  byte_12 = in_d 18 8 (omega arith) ∙ omega arith

  long : length line ≡ 104
  unfolding bits_of
  long = refl

  pub packed_bytes : packed a b c d
      ≡ (a / 2 ^ 18 % 256)
      ∷ (a / 2 ^ 10 % 256)
      ∷ (a / 2 ^ 2 % 256)
      ∷ (a % 4 * 64 + b / 2 ^ 20 % 64)
      ∷ (b / 2 ^ 12 % 256)
      ∷ (b / 2 ^ 4 % 256)
      ∷ (b % 16 * 16 + c / 2 ^ 22 % 16)
      ∷ (c / 2 ^ 14 % 256)
      ∷ (c / 2 ^ 6 % 256)
      ∷ (c % 64 * 4 + d / 2 ^ 24 % 4)
      ∷ (d / 2 ^ 16 % 256)
      ∷ (d / 2 ^ 8 % 256)
      ∷ (d % 256)
      ∷ []
  unfolding packed run
  packed_bytes =
      rw (long, in_a 0 8 (omega arith), in_a 8 8 (omega arith), in_a 16 8 (omega arith), byte_3, in_b 6 8 (omega arith), in_b 14 8 (omega arith), byte_6, in_c 4 8 (omega arith), in_c 12 8 (omega arith), byte_9, in_d 2 8 (omega arith), in_d 10 8 (omega arith), byte_12)
