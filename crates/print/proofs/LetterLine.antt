-- The line of 26 bits that carry a letter: when there is one, and what its three parts write together. Assumes nothing.
use mathlib.Core.Path.{◌≡◌, refl, sym, ap, ◌∙◌}
use mathlib.Core.List.{List, ◌++◌}
use Prim.Native.Nat.{ℕ, ◌+◌, ◌/◌, ◌^◌, ◌≤◌, ◌<◌}
use native.Mathlib.Omega.{arith}
use lib.ListN.{length, length-append}
use mathlib.Core.List.{append_assoc}
use lib.Dec.{ltb}
use lib.Seq.{sets}
use borrow.Author.Tests.{lt-ltb, le-ltb, eq-eqb, ne_eqb, ltb-true, ltb-false}
use Rattle.laws.proofs.Cases.{if_yes, if_no}
use Rattle.laws.proofs.Elements.{by_test}
use Rattle.laws.proofs.Writes.{join, from_front}
use Rattle.std.specs.Prelude.{Option, Some, None}
use Rattle.block.specs.declared.AnyLetter.{AnyLetter}
use Rattle.block.specs.declared.AnyLetter.TheVariants.{A, B, C, D, CPrime}
use Rattle.block.specs.Letters.{letter_of, place_of}
use Rattle.block.proofs.Letters.{wide_none}
use Rattle.print.specs.Letters.{number_text, letter_text, info_text, letter_line, letter_written, letter_output}
use Rattle.print.proofs.Numbers.{at_most_20}

pub letter_short : (c : Option AnyLetter) → length (letter_text c) ≤ 3
unfolding letter_text
letter_short None = omega arith
letter_short (Some A) = omega arith
letter_short (Some B) = omega arith
letter_short (Some C) = omega arith
letter_short (Some D) = omega arith
letter_short (Some CPrime) = omega arith

pub info_length : (info : ℕ) → length (info_text info) ≡ 6
unfolding info_text
info_length info = refl

-- what carries a letter has 26 bits
pub within : (bits : ℕ) → (place_of (letter_of bits) ≡ 0 → ⊥) → bits < 2 ^ 26
within bits h =
    by_test (ltb bits (2 ^ 26)) (λ t. ltb-true bits (2 ^ 26) t) (λ f. absurd (h (ap place_of (wide_none bits (ltb-false bits (2 ^ 26) f)))))

pub some_place : (x : AnyLetter) → place_of (Some x) ≡ 0 → ⊥
some_place A e = omega arith
some_place B e = omega arith
some_place C e = omega arith
some_place D e = omega arith
some_place CPrime e = omega arith

module _ (place bits : ℕ) (out : List ℕ) where
  pub short : length out < 29 → (0 ≡ letter_written place bits out) × (out ≡ letter_output place bits out)
  unfolding letter_written letter_output
  short h = let s = lt-ltb (length out) 29 h in (sym (if_yes _ _ s), sym (if_yes _ _ s))

  pub none : 29 ≤ length out → place_of (letter_of bits) ≡ 0 → (0 ≡ letter_written place bits out) × (out ≡ letter_output place bits out)
  unfolding letter_written letter_output letter_line
  none h e =
      let s = le-ltb (length out) 29 h in
      rw (s, eq-eqb (place_of (letter_of bits)) 0 e) (refl, refl)

  pub whole : 29 ≤ length out → (place_of (letter_of bits) ≡ 0 → ⊥) → (k m : ℕ) (a b c : List ℕ) → k ≡ length (number_text place) → a ≡ sets out 0 (number_text place)
      → m ≡ length (letter_text (letter_of bits)) → b ≡ sets a k (letter_text (letter_of bits)) → c ≡ sets b (k + m) (info_text (bits / 2 ^ 10))
      → (k + m + 6 ≡ letter_written place bits out) × (c ≡ letter_output place bits out)
  unfolding letter_written letter_output letter_line
  whole h some k m a b c ek ea em eb ec =
      let s = le-ltb (length out) 29 h in
      let long : length (letter_line place bits) ≡ k + m + 6 = ap length line ∙ length-append N (L ++ I) ∙ omega (arith, length-append L I, info_length (bits / 2 ^ 10)) in
      let fits : length (letter_line place bits) ≤ length out = omega (arith, long, at_most_20 place, letter_short (letter_of bits)) in
      let written : c ≡ sets out 0 (letter_line place bits) =
      join out b c (N ++ L) I 0 (k + m) (join out a b N L 0 k ea eb (omega arith)) ec (omega (arith, length-append N L))
      ∙ ap (sets out 0) (append_assoc N L I ∙ sym line) in
      (sym long ∙ sym (if_no _ _ s), written ∙ from_front (letter_line place bits) out fits ∙ sym (if_no _ _ s))
    where
      N : List ℕ
      N = number_text place

      L : List ℕ
      L = letter_text (letter_of bits)

      I : List ℕ
      I = info_text (bits / 2 ^ 10)

      line : letter_line place bits ≡ N ++ (L ++ I)
      line = if_no _ _ (ne_eqb (place_of (letter_of bits)) 0 some)
