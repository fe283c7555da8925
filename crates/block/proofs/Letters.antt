-- Which letter 26 bits carry: at most one of the five, and `letter_of` is that one. Assumes nothing.
use mathlib.Core.Path.{◌≡◌, refl, sym, ap, ◌∙◌, subst}
use mathlib.Core.Logic.{◌↔◌}
use mathlib.Core.Bool.{Bool, true, false, cond, false≢true}
use Prim.Native.Nat.{ℕ, ◌*◌, ◌/◌, ◌%◌, ◌^◌, ◌≤◌, ◌<◌}
use native.Mathlib.Omega.{arith}
use borrow.Author.Tests.{eq-eqb, ne_eqb, eqb-true, eqb-false, ltb-true, lt-ltb, le-ltb}
use lib.Dec.{eqb, ltb}
use Rattle.laws.specs.Poly.{◌⊕◌}
use Rattle.laws.proofs.Cases.{if_yes, if_no, and_yes, and_no, and_left}
use Rattle.laws.proofs.Elements.{by_test}
use Rattle.laws.proofs.Xor.{xor_undo}
use Rattle.block.specs.declared.Letter.{Letter}
use Rattle.block.specs.declared.Letter.TheVariants as frame
use Rattle.std.specs.Prelude.{Option, Some, None}
use Rattle.block.specs.declared.AnyLetter.{AnyLetter}
use Rattle.block.specs.declared.AnyLetter.TheVariants.{A, B, C, CPrime, D}
use Rattle.block.specs.Block.{syndrome, check_word, carries, is_valid}
use Rattle.block.specs.Letters.{any_of, offset_of_any, fits, first_of, letter_of, letter_with, likely_of, place_of}
use Rattle.block.proofs.Validity.{carries_remainder, by_parts}

-- the same test at every letter finds the same letter
first_same : (p q : AnyLetter → Bool) → ((x : AnyLetter) → p x ≡ q x) → first_of p ≡ first_of q
unfolding first_of
first_same p q e = rw (e A, e B, e C, e CPrime, e D)

-- a sum is a number exactly when that number's sum is the other part
turned : (s o c : ℕ) → eqb (s ⊕ o) c ≡ eqb (s ⊕ c) o
turned s o c =
    by_test (eqb (s ⊕ o) c)
    (λ t. t ∙ sym (eq-eqb (s ⊕ c) o (ap (λ (x : ℕ). s ⊕ x) (sym (eqb-true (s ⊕ o) c t)) ∙ xor_undo s o)))
    (λ f. f ∙ sym (ne_eqb (s ⊕ c) o (λ e. eqb-false (s ⊕ o) c f (ap (λ (x : ℕ). s ⊕ x) (sym e) ∙ xor_undo s c))))

-- the offset that 26 bits carry, looked up
pub letter_by_offset : (bits : ℕ) → bits < 2 ^ 26 → letter_of bits ≡ letter_with (check_word (bits / 2 ^ 10) (bits % 2 ^ 10))
unfolding letter_of letter_with fits carries check_word
letter_by_offset bits h =
    first_same (fits bits) (λ x. eqb (check_word (bits / 2 ^ 10) (bits % 2 ^ 10)) (offset_of_any x))
    (λ x. and_yes _ (lt-ltb bits (2 ^ 26) h) ∙ turned (syndrome (bits / 2 ^ 10 * 2 ^ 10)) (offset_of_any x) (bits % 2 ^ 10))

-- what carries an offset has 26 bits
pub within : (bits offset : ℕ) → carries bits offset ≡ true → ltb bits (2 ^ 26) ≡ true
unfolding carries
within bits offset t = and_left (ltb bits (2 ^ 26)) (eqb (check_word (bits / 2 ^ 10) offset) (bits % 2 ^ 10)) t

-- what is no 26 bits carries none
pub wide_none : (bits : ℕ) → 2 ^ 26 ≤ bits → letter_of bits ≡ None
unfolding letter_of fits carries first_of
wide_none bits h = first_same (fits bits) (λ x. false) (λ x. and_no _ (le-ltb bits (2 ^ 26) h))

-- the five offset words lead back to their letters, so they differ
pub own_letter : (x : AnyLetter) → letter_with (offset_of_any x) ≡ Some x
unfolding letter_with first_of
own_letter A = refl
own_letter B = refl
own_letter C = refl
own_letter CPrime = refl
own_letter D = refl

-- a word that is not that of its likely letter is that of none
likely_own : (x : AnyLetter) → likely_of (offset_of_any x) ≡ x
unfolding likely_of
likely_own A = refl
likely_own B = refl
likely_own C = refl
likely_own CPrime = refl
likely_own D = refl

pub unlikely : (offset : ℕ) → (offset ≡ offset_of_any (likely_of offset) → ⊥) → letter_with offset ≡ None
unfolding letter_with first_of
unlikely offset n =
    first_same (λ x. eqb offset (offset_of_any x)) (λ x. false) (λ x. ne_eqb offset (offset_of_any x) (λ e. n (e ∙ ap offset_of_any (sym (ap likely_of e ∙ likely_own x)))))

none_no_one : (x : AnyLetter) → None ≡ Some x → ⊥
none_no_one x e = cc

same_one : (x y : AnyLetter) → Some x ≡ Some y → x ≡ y
same_one x y e = cc

-- At most one of the five letters fits any number.
pub at_most_one : (bits : ℕ) (x y : AnyLetter) → fits bits x ≡ true → fits bits y ≡ true → x ≡ y
unfolding fits
at_most_one bits x y p q =
    same_one x y (sym (own_letter x) ∙ ap letter_with (sym (carries_remainder bits (offset_of_any x) p) ∙ carries_remainder bits (offset_of_any y) q) ∙ own_letter y)

-- what `first_of` finds has passed: of five tests, the one that decided
passed : (p : AnyLetter → Bool) (x : AnyLetter) → first_of p ≡ Some x → p x ≡ true
unfolding first_of
passed p x e =
    by_test (p A) (λ t. at A t (if_yes _ _ t))
    (λ a. by_test (p B) (λ t. at B t (if_no _ _ a ∙ if_yes _ _ t))
    (λ b. by_test (p C) (λ t. at C t (if_no _ _ a ∙ if_no _ _ b ∙ if_yes _ _ t))
    (λ c. by_test (p CPrime) (λ t. at CPrime t (if_no _ _ a ∙ if_no _ _ b ∙ if_no _ _ c ∙ if_yes _ _ t))
    (λ k. by_test (p D) (λ t. at D t (if_no _ _ a ∙ if_no _ _ b ∙ if_no _ _ c ∙ if_no _ _ k ∙ if_yes _ _ t))
    (λ d. absurd (none_no_one x (sym (if_no _ _ a ∙ if_no _ _ b ∙ if_no _ _ c ∙ if_no _ _ k ∙ if_no _ _ d) ∙ e)))))))
  where
    at : (y : AnyLetter) → p y ≡ true → first_of p ≡ Some y → p x ≡ true
    at y t f = subst (λ (z : AnyLetter). p z ≡ true) (same_one y x (sym f ∙ e)) t

-- The answer is a letter exactly when that letter fits,
pub carried_exact : (bits : ℕ) (x : AnyLetter) → (letter_of bits ≡ Some x) ↔ (fits bits x ≡ true)
unfolding letter_of fits
carried_exact bits x = (passed (fits bits) x, back)
  where
    back : fits bits x ≡ true → letter_of bits ≡ Some x
    back t =
        let h : bits < 2 ^ 26 = ltb-true bits (2 ^ 26) (within bits (offset_of_any x) t) in
        letter_by_offset bits h
        ∙ ap letter_with (sym (by_parts bits) ∙ carries_remainder bits (offset_of_any x) t)
        ∙ own_letter x

-- and none exactly when none of the five does.
pub none_exact : (bits : ℕ) → (letter_of bits ≡ None) ↔ ((x : AnyLetter) → fits bits x ≡ false)
unfolding letter_of first_of
none_exact bits =
    (λ e x. by_test (fits bits x) (λ t. absurd (none_no_one x (sym e ∙ (carried_exact bits x).1 t))) (λ f. f), λ n. first_same (fits bits) (λ x. false) n)

-- a block of a frame's letter is one of that letter among the five
pub valid_letter : (bits : ℕ) (letter : Letter) → is_valid bits letter ≡ fits bits (any_of letter)
unfolding is_valid fits
valid_letter bits frame.A = refl
valid_letter bits frame.B = refl
valid_letter bits frame.C = refl
valid_letter bits frame.D = refl

-- the six places lead back to their answers, so they differ
abbrev answer_at : ℕ → Option AnyLetter
answer_at p =
    cond (eqb p 1) (Some A) (cond (eqb p 2) (Some B) (cond (eqb p 3) (Some C) (cond (eqb p 4) (Some D) (cond (eqb p 5) (Some CPrime) None))))

own_place : (c : Option AnyLetter) → answer_at (place_of c) ≡ c
own_place None = refl
own_place (Some A) = refl
own_place (Some B) = refl
own_place (Some C) = refl
own_place (Some D) = refl
own_place (Some CPrime) = refl

-- A reader that expects a letter may ask for it in the answer, by its place in a frame.
pub asked : (bits : ℕ) (letter : Letter) → is_valid bits letter ≡ eqb (place_of (letter_of bits)) (place_of (Some (any_of letter)))
asked bits letter =
    by_test (is_valid bits letter)
    (λ t. t ∙ sym (eq-eqb _ _ (ap place_of ((carried_exact bits (any_of letter)).1 (sym (valid_letter bits letter) ∙ t)))))
    (λ f. f ∙ sym (ne_eqb (place_of (letter_of bits)) (place_of (Some (any_of letter))) (λ e. false≢true (sym f ∙ valid_letter bits letter ∙ (carried_exact bits (any_of letter)).0 (sym (own_place (letter_of bits)) ∙ ap answer_at e ∙ own_place (Some (any_of letter)))))))

-- At most one of a frame's letters fits any number.
pub one_letter : (bits : ℕ) (k l : Letter) → is_valid bits k ≡ true → is_valid bits l ≡ true → k ≡ l
one_letter bits k l p q = sym (own k) ∙ ap back (at_most_one bits (any_of k) (any_of l) (sym (valid_letter bits k) ∙ p) (sym (valid_letter bits l) ∙ q)) ∙ own l
  where
    back : AnyLetter → Letter
    back A = frame.A
    back B = frame.B
    back C = frame.C
    back CPrime = frame.C
    back D = frame.D

    own : (k : Letter) → back (any_of k) ≡ k
    own frame.A = refl
    own frame.B = refl
    own frame.C = refl
    own frame.D = refl
