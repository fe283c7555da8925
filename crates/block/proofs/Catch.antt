-- What the ten check bits catch (paper 02, K4; 000, 7.1.3, its claims a and b), in the words of the claim. Assumes nothing.
use mathlib.Core.Path.{◌≡◌, sym, ap, ◌∙◌, subst}
use mathlib.Core.Logic.{⊎_elim}
use mathlib.Core.Bool.{true, false, cond, ◌||◌}
use Prim.Native.Nat.{ℕ, ◌+◌, ◌*◌, ◌/◌, ◌^◌, ◌≤◌, ◌<◌}
use native.Mathlib.Nat.{zero-mul}
use native.Mathlib.Omega.{arith}
use borrow.Author.Tests.{eqb-true, eqb-false, ltb-true, ltb-false, leb-true, leb-false}
use lib.Dec.{eqb, ltb, leb}
use lib.Pow.{pow_mono}
use lib.Bits.{xor_lt}
use Rattle.laws.specs.Poly.{◌⊕◌}
use Rattle.laws.proofs.Cases.{if_yes, if_no, or_yes, or_no}
use Rattle.laws.proofs.Elements.{by_test}
use Rattle.laws.proofs.Xor.{xor_undo}
use Rattle.block.specs.Block.{syndrome, carries}
use Rattle.block.specs.declared.AnyLetter.{AnyLetter}
use Rattle.block.specs.Letters.{offset_of_any, fits}
use Rattle.block.specs.Damage.{bit_at, OneOrTwo, WithinTen, Altered}
use Rattle.block.proofs.Errors.{change, burst, pair}
use Rattle.block.proofs.Letters.{within}
use Rattle.block.proofs.Places.{same_bits, agreeing, differing, no_low, no_high, zero_bit, pair_bits}

-- a number of 26 bits, e, that the generator divides
module _ (e : ℕ) (he : e < 2 ^ 26) (z : syndrome e ≡ 0) where
  -- has no ten neighbouring bits without which it is 0
  in_ten : (k some : ℕ) → k ≤ 16 → bit_at e some ≡ 1 → ((p : ℕ) → p < 26 → p < k → bit_at e p ≡ 0) → ((p : ℕ) → p < 26 → k + 10 ≤ p → bit_at e p ≡ 0) → ⊥
  in_ten k some hk one low high =
      let shifted : e ≡ e / 2 ^ k * 2 ^ k = no_low k e (λ p l. low p (omega arith) l) in
      by_test (eqb (e / 2 ^ k) 0)
      (λ t. nothing (shifted ∙ ap (λ (x : ℕ). x * 2 ^ k) (eqb-true (e / 2 ^ k) 0 t) ∙ zero-mul (2 ^ k)))
      (λ f. let some_left : e / 2 ^ k ≡ 0 → ⊥ = eqb-false (e / 2 ^ k) 0 f in burst (e / 2 ^ k) k hk (omega arith) (no_high k e hk he high) (sym (ap syndrome shifted) ∙ z))
    where
      nothing : e ≡ 0 → ⊥
      nothing n = let b : bit_at e some ≡ 0 = ap (λ (x : ℕ). bit_at x some) n ∙ zero_bit some in omega arith

  -- wherever ten neighbours begin
  anywhere : (from some : ℕ) → bit_at e some ≡ 1 → ((p : ℕ) → p < 26 → p < from → bit_at e p ≡ 0) → ((p : ℕ) → p < 26 → from + 10 ≤ p → bit_at e p ≡ 0) → ⊥
  anywhere from some one low high =
      by_test (leb from 16)
      (λ t. in_ten from some (leb-true from 16 t) one low high)
      (λ f. let far : 16 < from = leb-false from 16 f in in_ten 16 some (omega arith) one (λ p l m. low p l (omega arith)) (λ p l m. absurd (omega arith)))

  -- and is not the sum of two powers
  two : (i j : ℕ) → i < 26 → j < i → bit_at e i ≡ 1 → bit_at e j ≡ 1 → ((p : ℕ) → p < 26 → (p ≡ i → ⊥) → (p ≡ j → ⊥) → bit_at e p ≡ 0) → ⊥
  two i j hi hj one other rest = pair i j hi hj (sym (ap syndrome is) ∙ z)
    where
      small : 2 ^ i + 2 ^ j < 2 ^ 26
      small =
          let hi' : i ≤ 25 = omega arith in
          let hj' : j ≤ 24 = omega arith in
          let li : 2 ^ i ≤ 2 ^ 25 = pow_mono hi' in
          let lj : 2 ^ j ≤ 2 ^ 24 = pow_mono hj' in
          omega arith

      at_place : (p : ℕ) → p < 26 → bit_at e p ≡ cond (eqb p i || eqb p j) 1 0
      at_place p hp =
          by_test (eqb p i)
          (λ t. subst (λ (x : ℕ). bit_at e x ≡ 1) (sym (eqb-true p i t)) one ∙ sym (if_yes 1 0 (or_yes (eqb p j) t)))
          (λ f. by_test (eqb p j)
          (λ t. subst (λ (x : ℕ). bit_at e x ≡ 1) (sym (eqb-true p j t)) other ∙ sym (if_yes 1 0 (or_no (eqb p j) f ∙ t)))
          (λ g. rest p hp (eqb-false p i f) (eqb-false p j g) ∙ sym (if_no 1 0 (or_no (eqb p j) f ∙ g))))

      is : e ≡ 2 ^ i + 2 ^ j
      is = same_bits 26 e (2 ^ i + 2 ^ j) he small (λ p l. at_place p l ∙ sym (pair_bits i j p hi hj l))

-- Two blocks of one offset, where the second is the first altered, cannot be.
both : (offset m n : ℕ) → carries m offset ≡ true → carries n offset ≡ true → Altered m n → ⊥
both offset m n p q = ⊎_elim few ten
  where
    e : ℕ
    e = m ⊕ n

    he : e < 2 ^ 26
    he = xor_lt 26 m n (ltb-true m (2 ^ 26) (within m offset p)) (ltb-true n (2 ^ 26) (within n offset q))

    z : syndrome e ≡ 0
    z = change m e offset p (subst (λ (x : ℕ). carries x offset ≡ true) (sym (xor_undo m n)) q)

    ten : WithinTen m n → ⊥
    ten w =
        anywhere e he z w.from w.some (differing m n w.some w.at_some)
        (λ x l b. agreeing m n x (w.before x l b)) (λ x l b. agreeing m n x (w.behind x l b))

    few : OneOrTwo m n → ⊥
    few w =
        let i = w.one in
        let j = w.other in
        let at_i = differing m n i w.at_one in
        let at_j = differing m n j w.at_other in
        let rest : (x : ℕ) → x < 26 → (x ≡ i → ⊥) → (x ≡ j → ⊥) → bit_at e x ≡ 0 = λ x l ni nj. agreeing m n x (w.elsewhere x l ni nj) in
        by_test (eqb i j)
        (λ t. let same = eqb-true i j t in
        anywhere e he z i i at_i (λ x l b. rest x l (λ y. omega arith) (λ y. omega arith)) (λ x l b. rest x l (λ y. omega arith) (λ y. omega arith)))
        (λ f. by_test (ltb j i)
        (λ t. two e he z i j w.one_within (ltb-true j i t) at_i at_j rest)
        (λ g. let apart = eqb-false i j f in two e he z j i w.other_within (let l = ltb-false j i g in omega arith) at_j at_i (λ x l nj ni. rest x l ni nj)))

-- What claims a and b of 7.1.3 promise, of the bare check, whatever the offset: if 26 bits carry it, and are altered in one or two bits, or only within ten
-- neighbouring bits and in at least one, then they do not carry it any more. What a receiver may later do to mend a burst has no part in this.
pub ten_bits_catch : (offset m n : ℕ) → carries m offset ≡ true → Altered m n → carries n offset ≡ false
ten_bits_catch offset m n p a = by_test (carries n offset) (λ q. absurd (both offset m n p q a)) (λ f. f)

-- So for each of the five letters.
pub letters_catch : (letter : AnyLetter) (m n : ℕ) → fits m letter ≡ true → Altered m n → fits n letter ≡ false
unfolding fits
letters_catch letter = ten_bits_catch (offset_of_any letter)
