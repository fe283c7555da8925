-- What the parts of a line write together, and how long a line is at most. Assumes nothing.
use mathlib.Core.Path.{◌≡◌, refl, ap, ◌∙◌}
use mathlib.Core.Bool.{Bool, true, false}
use mathlib.Core.List.{List, [], ◌∷◌, ◌++◌}
use Prim.Native.Nat.{ℕ, ◌+◌, ◌-◌, ◌≤◌}
use native.Mathlib.Omega.{arith}
use lib.ListN.{length, get_or, take, drop, length-append, length-drop}
use lib.Seq.{sets, length-sets}
use borrow.Rule.Slice.PartMut.{put_mid}
use Rattle.laws.proofs.Writes.{join}
use Rattle.laws.proofs.Parts.{part_is, in_part}
use Rattle.print.specs.Lines.{hex_of}
use Rattle.print.specs.Letters.{number_text, number_written, number_into}
use Rattle.print.proofs.Numbers.{at_most_20, number_room}
use Rattle.compare.specs.Differences.{Difference, differs, only}
use Rattle.compare.specs.Texts.{record_word, byte_word, left_words, right_words, phrase, pair_text, text_of}

pub phrase_length : (w : List ℕ) (n : ℕ) (e : List ℕ) → length (phrase w n e) ≡ length w + length (number_text n) + length e
unfolding phrase
phrase_length w n e = length-append w (number_text n ++ e) ∙ omega (arith, length-append (number_text n) e)

-- words, a number in the part behind them, words
module _ (w : List ℕ) (n : ℕ) (e : List ℕ) (at : ℕ) (out : List ℕ) (h : at + length w + 20 + length e ≤ length out)
    (from digits : ℕ) (a part : List ℕ) (ef : from ≡ at + length w) (ea : a ≡ sets out at w)
    (ed : digits ≡ number_written n (take (length a - from) (drop from a))) (ep : part ≡ number_into n (take (length a - from) (drop from a))) where
  as_long : length a ≡ length out
  as_long = ap length ea ∙ length-sets out at w

  room : 20 ≤ length (take (length a - from) (drop from a))
  room = rw (part_is a from) (omega (arith, length-drop from a, as_long))

  pub digits_are : digits ≡ length (number_text n)
  digits_are = ed ∙ (number_room n (take (length a - from) (drop from a)) room).0

  number_put : put_mid from (length a - from) a part ≡ sets a from (number_text n)
  number_put =
      in_part a (number_text n) part from (omega (arith, as_long, at_most_20 n)) (ep ∙ (number_room n (take (length a - from) (drop from a)) room).1)

  pub still_long : length (put_mid from (length a - from) a part) ≡ length out
  still_long = ap length number_put ∙ length-sets a from (number_text n) ∙ as_long

  pub fits : from + digits + length e ≤ length out
  fits = omega (arith, digits_are, at_most_20 n)

  pub phrase_put : (end : ℕ) (c : List ℕ) → end ≡ from + digits + length e → c ≡ sets (put_mid from (length a - from) a part) (from + digits) e
      → (end ≡ at + length (phrase w n e)) × (c ≡ sets out at (phrase w n e))
  unfolding phrase
  phrase_put end c ee ec =
      let p = put_mid from (length a - from) a part in (
        ee ∙ omega (arith, digits_are, length-append w (number_text n ++ e), length-append (number_text n) e),
        join out a c w (number_text n ++ e) at from ea (join a p c (number_text n) e from (from + digits) number_put ec (omega (arith, digits_are))) ef,
      )

-- ---- a record that only one shelf has
module _ (q : Bool) (n at end : ℕ) (out c : List ℕ) where
  abbrev Put : Difference → Type 0
  Put d = (end ≡ at + length (text_of d)) × (c ≡ sets out at (text_of d))

  pub right_put : q ≡ true → end ≡ at + length (phrase record_word n right_words) → c ≡ sets out at (phrase record_word n right_words) → Put (only q n)
  unfolding text_of
  right_put t e w = rw t (e, w)

  pub left_put : q ≡ false → end ≡ at + length (phrase record_word n left_words) → c ≡ sets out at (phrase record_word n left_words) → Put (only q n)
  unfolding text_of
  left_put t e w = rw t (e, w)

-- ---- a record of both
pub first_half : (n : ℕ) → length (phrase record_word n byte_word) ≤ 33
first_half n = omega (arith, phrase_length record_word n byte_word, at_most_20 n)

pair_is : (x y : ℕ) (a b : List ℕ) → a ≡ hex_of (x ∷ []) → b ≡ hex_of (y ∷ [])
    → (32 ∷ get_or a 0 0 ∷ get_or a 1 0 ∷ 32 ∷ get_or b 0 0 ∷ get_or b 1 0 ∷ 10 ∷ []) ≡ pair_text x y
unfolding pair_text hex_of
pair_is x y a b ea eb = rw (ea, eb) refl

pub differs_put : (n byte x y at : ℕ) (out : List ℕ) (a b : List ℕ) → a ≡ hex_of (x ∷ []) → b ≡ hex_of (y ∷ [])
    → (from end : ℕ) (m c : List ℕ) → from ≡ at + length (phrase record_word n byte_word) → m ≡ sets out at (phrase record_word n byte_word)
    → end ≡ from + length (phrase [] byte (32 ∷ get_or a 0 0 ∷ get_or a 1 0 ∷ 32 ∷ get_or b 0 0 ∷ get_or b 1 0 ∷ 10 ∷ []))
    → c ≡ sets m from (phrase [] byte (32 ∷ get_or a 0 0 ∷ get_or a 1 0 ∷ 32 ∷ get_or b 0 0 ∷ get_or b 1 0 ∷ 10 ∷ []))
    → (end ≡ at + length (text_of (differs n byte x y))) × (c ≡ sets out at (text_of (differs n byte x y)))
unfolding text_of
differs_put n byte x y at out a b ea eb from end m c ef em ee ec =
    let p = phrase record_word n byte_word in
    let q = phrase [] byte (pair_text x y) in
    let t = pair_is x y a b ea eb in
    let e : end ≡ from + length q = ee ∙ ap (λ (l : List ℕ). from + length (phrase [] byte l)) t in (
      omega (arith, e, length-append p q),
      join out m c p q at from em (ec ∙ ap (λ (l : List ℕ). sets m from (phrase [] byte l)) t) ef,
    )
