-- How a listing goes on: by no line, by one, by lines and lines; and what each record adds to it. Assumes nothing.
use mathlib.Core.Path.{◌≡◌, refl, sym, ap, ◌∙◌}
use mathlib.Core.Bool.{Bool, true, false}
use mathlib.Core.List.{List, [], ◌∷◌, ◌++◌, append-nil, append_assoc}
use Prim.Native.Nat.{ℕ, zero, suc, ◌+◌, ◌*◌, ◌≤◌, ◌<◌}
use native.Mathlib.Nat.{add-zero}
use native.Mathlib.Numerals.{add-one}
use native.Mathlib.Omega.{arith}
use lib.ListN.{length, get_or, drop, length-append, length-drop}
use lib.Seq.{sets, length-sets, length-take-le}
use lib.Dec.{eqb}
use native.Mathlib.Decide.{dec_lt}
use borrow.Author.Tests.{eq-eqb, ne_eqb, eqb-true, eqb-false, lt-ltb, le-ltb, le-leb, lt-leb}
use Rattle.laws.proofs.Cases.{if_yes, if_no, and_yes, and_no}
use Rattle.laws.proofs.Elements.{by_test}
use Rattle.laws.proofs.Writes.{join}
use Rattle.print.specs.Lines.{hex_of}
use Rattle.print.proofs.Numbers.{at_most_20}
use Rattle.shelf.specs.Summary.{record_at, records_in}
use Rattle.compare.specs.Differences.{Difference, differs, only, first_from, unlike, first_byte, of_both, of_record, below}
use Rattle.compare.specs.Texts.{record_word, byte_word, left_words, right_words, phrase, pair_text, text_of, texts_of, Further}
use Rattle.compare.proofs.Lines.{phrase_length}

-- ---- the texts of lists
texts_one : (d : Difference) → texts_of (d ∷ []) ≡ text_of d
unfolding texts_of
texts_one d = append-nil (text_of d)

texts_append : (ds es : List Difference) → texts_of (ds ++ es) ≡ texts_of ds ++ texts_of es
unfolding texts_of
texts_append [] es = refl
texts_append (d ∷ ds) es = ap (λ (l : List ℕ). text_of d ++ l) (texts_append ds es) ∙ sym (append_assoc (text_of d) (texts_of ds) (texts_of es))

-- no line is longer than 60
pair_length : (x y : ℕ) → length (pair_text x y) ≡ 7
unfolding pair_text hex_of
pair_length x y = refl

text_most : (d : Difference) → length (text_of d) ≤ 60
unfolding text_of
text_most (differs n byte x y) =
    omega (arith, length-append (phrase record_word n byte_word) (phrase [] byte (pair_text x y)), phrase_length record_word n byte_word, phrase_length [] byte (pair_text x y), pair_length x y, at_most_20 n, at_most_20 byte)
text_most (only false n) = omega (arith, phrase_length record_word n left_words, at_most_20 n)
text_most (only true n) = omega (arith, phrase_length record_word n right_words, at_most_20 n)

-- ---- going on
module _ (at lines : ℕ) (out : List ℕ) where
  pub further_none : Further at lines out [] at lines out
  unfolding texts_of
  further_none = (sym (add-zero at), sym (add-zero lines), refl)

  pub further_one : (d : Difference) (end : ℕ) (c : List ℕ) → end ≡ at + length (text_of d) → c ≡ sets out at (text_of d) → Further at lines out (d ∷ []) end (lines + 1) c
  further_one d end c e w =
      (e ∙ ap (λ (l : List ℕ). at + length l) (sym (texts_one d)), refl, w ∙ ap (sets out at) (sym (texts_one d)))

  pub further_on : (ds es : List Difference) (i m j n : ℕ) (a b : List ℕ) → Further at lines out ds i m a → Further i m a es j n b → Further at lines out (ds ++ es) j n b
  further_on ds es i m j n a b f g =
      let t = texts_append ds es in (
        g.0 ∙ omega (arith, f.0, ap length t, length-append (texts_of ds) (texts_of es)),
        g.1 ∙ omega (arith, f.1, length-append ds es),
        join out a b (texts_of ds) (texts_of es) at i f.2 g.2 f.0 ∙ ap (sets out at) (sym t),
      )

-- ---- what a record adds
from_most : (f : ℕ → Bool) (i k : ℕ) → first_from f i k ≤ i + k
unfolding first_from
from_most f i zero = omega arith
from_most f i (suc k) =
    by_test (f i) (λ t. rw t (omega arith)) (λ t. rw t (let r = from_most f (suc i) k in omega arith))

pub byte_within : (a b : List ℕ) (k : ℕ) → k ≡ first_byte a b → (k ≡ 256 → ⊥) → k < 256
unfolding first_byte
byte_within a b k e h = let r = from_most (unlike a b) 0 256 in omega arith

module _ (n : ℕ) (a b : List ℕ) (k : ℕ) (e : k ≡ first_byte a b) where
  pub both_none : k ≡ 256 → of_both n a b ≡ []
  unfolding of_both
  both_none z = if_yes _ _ (eq-eqb _ _ (sym e ∙ z))

  pub both_some : (k ≡ 256 → ⊥) → of_both n a b ≡ differs n k (get_or a k 0) (get_or b k 0) ∷ []
  unfolding of_both
  both_some h =
      if_no _ _ (ne_eqb _ _ (λ (z : first_byte a b ≡ 256). h (e ∙ z)))
      ∙ ap (λ (j : ℕ). differs n j (get_or a j 0) (get_or b j 0) ∷ []) (sym e)

module _ (l r : List ℕ) (n : ℕ) where
  pub record_right : records_in l ≤ n → of_record l r n ≡ only true n ∷ []
  unfolding of_record
  record_right h = if_no _ _ (and_no _ (le-ltb _ _ h)) ∙ ap (λ (q : Bool). only q n ∷ []) (le-leb _ _ h)

  module _ (g : n < records_in l) where
    pub record_left : records_in r ≤ n → of_record l r n ≡ only false n ∷ []
    unfolding of_record
    record_left h = if_no _ _ (and_yes _ (lt-ltb _ _ g) ∙ le-ltb _ _ h) ∙ ap (λ (q : Bool). only q n ∷ []) (lt-leb _ _ g)

    pub record_both : n < records_in r → of_record l r n ≡ of_both n (record_at l n) (record_at r n)
    unfolding of_record
    record_both h = if_yes _ _ (and_yes _ (lt-ltb _ _ g) ∙ lt-ltb _ _ h)

-- a shelf's record has 256 bytes
pub record_whole : (l : List ℕ) (n : ℕ) → n < records_in l → length (record_at l n) ≡ 256
record_whole l n h = length-take-le 256 (drop (256 * n) l) (omega (arith, length-drop (256 * n) l))

-- ---- at most one line of 60 bytes
abbrev Small : List Difference → Type 0
Small ds = (length ds ≤ 1) × (length (texts_of ds) ≤ 60)

small_none : Small []
unfolding texts_of
small_none = (omega arith, omega arith)

small_one : (d : Difference) → Small (d ∷ [])
small_one d = (omega arith, omega (arith, ap length (texts_one d), text_most d))

pub record_small : (l r : List ℕ) (n : ℕ) → Small (of_record l r n)
record_small l r n =
    elim (dec_lt n (records_in l)) [
      | yes g ↦ elim (dec_lt n (records_in r)) [
        | yes h ↦ rw (record_both l r n g h) (both (record_at l n) (record_at r n))
        | no h ↦ rw (record_left l r n g (omega arith)) (small_one (only false n))
      ]
      | no g ↦ rw (record_right l r n (omega arith)) (small_one (only true n))
    ]
  where
    both : (a b : List ℕ) → Small (of_both n a b)
    both a b = by_test (eqb (first_byte a b) 256) (λ t. rw (both_none n a b (first_byte a b) refl (eqb-true _ _ t)) small_none) (λ t. rw (both_some n a b (first_byte a b) refl (eqb-false _ _ t)) (small_one _))

-- ---- the loop over the records
pub record Going (l r out₀ out : List ℕ) (at lines i : ℕ) : Type 0 where
  pub near : at ≤ 60 * i
  pub few : lines ≤ i
  pub goes : Further 0 0 out₀ (below l r i) at lines out

module _ (l r out₀ : List ℕ) where
  pub going_first : Going l r out₀ out₀ 0 0 0
  unfolding below
  going_first = record { near = omega arith; few = omega arith; goes = further_none 0 0 out₀ }

  pub going_turn : (out after : List ℕ) (at lines end count i : ℕ) → Going l r out₀ out at lines i → Further at lines out (of_record l r i) end count after → Going l r out₀ after end count (i + 1)
  unfolding below
  going_turn out after at lines end count i g f =
      let s = record_small l r i in
      record {
        near = omega (arith, g.near, f.0, s.1);
        few = omega (arith, g.few, f.1, s.0);
        goes = rw (add-one i) (further_on 0 0 out₀ (below l r i) (of_record l r i) at lines end count out after g.goes f);
      }

  pub going_long : (out : List ℕ) (at lines i : ℕ) → Going l r out₀ out at lines i → length out ≡ length out₀
  going_long out at lines i g = ap length g.goes.2 ∙ length-sets out₀ 0 (texts_of (below l r i))
