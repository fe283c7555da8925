-- At most one block fits, the table tells which, and `mended_of` gives it. Assumes nothing.
use mathlib.Core.Path.{◌≡◌, refl, sym, ap, ap₂, ◌∙◌, subst}
use mathlib.Core.Bool.{Bool, true, false, true≢false, not, ◌&&◌}
use Prim.Native.Nat.{ℕ, ◌*◌, ◌/◌, ◌%◌, ◌^◌, ◌<◌}
use native.Mathlib.Nat.{mod-lt}
use native.Mathlib.Omega.{arith}
use borrow.Author.Tests.{eq-eqb, ne_eqb, eqb-true, ltb-true}
use lib.Dec.{eqb, ltb}
use lib.Pow.{pow_pos, split}
use lib.Bits.{xor_comm, xor_lt, xor_self, xor_zero_r}
use Rattle.laws.specs.Poly.{◌⊕◌}
use Rattle.laws.proofs.Cases.{and_both, and_left}
use Rattle.laws.proofs.Elements.{by_test}
use Rattle.laws.proofs.Xor.{xor_assoc, xor_undo}
use Rattle.block.specs.declared.Letter.{Letter}
use Rattle.block.specs.Block.{offset_of, syndrome, check_word, carries, is_valid}
use Rattle.block.proofs.Validity.{syndrome_xor, syndrome_block, valid_remainder, remainder_valid, check_word_small}
use Rattle.mend.specs.Mend.{near, fits, nothing, mended_of}
use Rattle.mend.specs.Table.{none, change_for, Corrects}
use Rattle.mend.proofs.Rule.{table_corrects}
use Rattle.mend.proofs.Near.{narrow_lt, near_narrow, narrow_near}
use Rattle.mend.proofs.Search.{used, sought_none, sought_one}

-- the entry asked for: the remainder less the letter's offset
abbrev pub index_of : ℕ → Letter → ℕ
index_of bits letter = syndrome bits ⊕ offset_of letter

-- the check bits as they should be, with those that are there
pub index_is : (bits : ℕ) (letter : Letter) → check_word (bits / 2 ^ 10) (offset_of letter) ⊕ bits % 2 ^ 10 ≡ index_of bits letter
unfolding check_word
index_is bits letter =
    let s = syndrome (bits / 2 ^ 10 * 2 ^ 10) in
    let o = offset_of letter in
    let k = bits % 2 ^ 10 in
    xor_assoc s o k ∙ ap (λ (x : ℕ). s ⊕ x) (xor_comm o k) ∙ sym (xor_assoc s k o)
    ∙ ap (λ (x : ℕ). x ⊕ o) (sym (syndrome_block (bits / 2 ^ 10) k (mod-lt bits (pow_pos 10))) ∙ ap syndrome (split bits 10))

pub index_lt : (bits : ℕ) (letter : Letter) → index_of bits letter < 2 ^ 10
index_lt bits letter =
    subst (λ (x : ℕ). x < 2 ^ 10) (index_is bits letter)
    (xor_lt 10 (check_word (bits / 2 ^ 10) (offset_of letter)) (bits % 2 ^ 10) (check_word_small (bits / 2 ^ 10) letter) (mod-lt bits (pow_pos 10)))

-- what fits is a valid block, and near
pub fits_is : (bits : ℕ) (letter : Letter) (c : ℕ) → fits bits letter c ≡ true → (is_valid c letter ≡ true) × (near 22 c bits ≡ true)
unfolding fits
fits_is bits letter c t = and_both (is_valid c letter) (near 22 c bits) t

pub valid_lt : (c : ℕ) (letter : Letter) → is_valid c letter ≡ true → c < 2 ^ 26
unfolding is_valid carries
valid_lt c letter t = ltb-true c (2 ^ 26) (and_left (ltb c (2 ^ 26)) (eqb (check_word (c / 2 ^ 10) (offset_of letter)) (c % 2 ^ 10)) t)

-- the entry p at the index decides
module _ (bits : ℕ) (letter : Letter) (p : ℕ) (e : Corrects (index_of bits letter) p) where
  change_is : (c : ℕ) → fits bits letter c ≡ true → p ≡ c ⊕ bits
  change_is c t =
      let f = fits_is bits letter c t in
      let n = near_narrow 22 c bits (omega arith) f.1 in
      let s : syndrome (c ⊕ bits) ≡ index_of bits letter =
      syndrome_xor c bits ∙ ap (λ (x : ℕ). x ⊕ syndrome bits) (valid_remainder c letter f.0) ∙ xor_comm (offset_of letter) (syndrome bits) in
      e.only n.pattern n.place n.short n.inside (sym (ap syndrome n.is) ∙ s) ∙ sym n.is

  pub entry_only : (c : ℕ) → fits bits letter c ≡ true → c ≡ bits ⊕ p
  entry_only c t = sym (xor_undo bits c) ∙ ap (λ (x : ℕ). bits ⊕ x) (xor_comm bits c ∙ sym (change_is c t))

  entry_some : (c : ℕ) → fits bits letter c ≡ true → p ≡ none → ⊥
  entry_some c t z =
      let l : (c ⊕ bits) < 2 ^ 26 = narrow_lt (c ⊕ bits) (near_narrow 22 c bits (omega arith) (fits_is bits letter c t).1) in
      let q : c ⊕ bits ≡ none = sym (change_is c t) ∙ z in
      big (c ⊕ bits) l q
    where
      big : (x : ℕ) → x < 2 ^ 26 → x ≡ none → ⊥
      big x l q = omega arith

  pub entry_fits : bits < 2 ^ 26 → (p ≡ none → ⊥) → fits bits letter (bits ⊕ p) ≡ true
  unfolding fits
  entry_fits h n =
      let r = e.right n in
      ap₂ ◌&&◌
      (remainder_valid (bits ⊕ p) letter (xor_lt 26 bits p h (narrow_lt p r.1))
      (syndrome_xor bits p ∙ ap (λ (x : ℕ). syndrome bits ⊕ x) r.0 ∙ xor_undo (syndrome bits) (offset_of letter)))
      (narrow_near bits p r.1)

  -- no entry, no block
  pub entry_none : p ≡ none → mended_of bits letter ≡ nothing
  unfolding mended_of
  entry_none z = sought_none (2 ^ 26) bits letter (λ c t. entry_some c t z)

  -- an entry: the bits changed by it
  pub entry_given : bits < 2 ^ 26 → (p ≡ none → ⊥) → record { found = true; changed = not (eqb p 0); block = bits ⊕ p } ≡ mended_of bits letter
  unfolding mended_of
  entry_given h n =
      ap (λ (x : Bool). record { found = true; changed = not x; block = bits ⊕ p }) same
      ∙ sym (sought_one (2 ^ 26) bits letter (bits ⊕ p) (valid_lt (bits ⊕ p) letter (fits_is bits letter (bits ⊕ p) (entry_fits h n)).0) (entry_fits h n) entry_only)
    where
      same : eqb p 0 ≡ eqb (bits ⊕ p) bits
      same =
          by_test (eqb p 0)
          (λ y. y ∙ sym (eq-eqb (bits ⊕ p) bits (ap (λ (x : ℕ). bits ⊕ x) (eqb-true p 0 y) ∙ xor_zero_r bits)))
          (λ y.
          y
          ∙ sym
          (ne_eqb (bits ⊕ p) bits
          (λ q. absurd (true≢false (sym (eq-eqb p 0 (sym (xor_undo bits p) ∙ ap (λ (x : ℕ). bits ⊕ x) q ∙ xor_self bits)) ∙ y)))))

-- the table's change is right there
pub change_right : (bits : ℕ) (letter : Letter) → Corrects (index_of bits letter) (change_for (index_of bits letter))
change_right bits letter = table_corrects (index_of bits letter) (index_lt bits letter)

-- At most one valid block of a letter differs from given bits only within five neighbouring bits.
pub only_one : (bits : ℕ) (letter : Letter) (c d : ℕ) → fits bits letter c ≡ true → fits bits letter d ≡ true → c ≡ d
only_one bits letter c d t u =
    entry_only bits letter (change_for (index_of bits letter)) (change_right bits letter) c t
    ∙ sym (entry_only bits letter (change_for (index_of bits letter)) (change_right bits letter) d u)

-- If there is one, it is given, and marked as changed just where it is another number than the bits.
pub given_one : (bits : ℕ) (letter : Letter) (c : ℕ) → fits bits letter c ≡ true → mended_of bits letter ≡ used bits c
unfolding mended_of
given_one bits letter c t =
    sought_one (2 ^ 26) bits letter c (valid_lt c letter (fits_is bits letter c t).0) t (λ d u. only_one bits letter d c u t)

-- If there is none, nothing is given.
pub given_none : (bits : ℕ) (letter : Letter) → ((c : ℕ) → fits bits letter c ≡ true → ⊥) → mended_of bits letter ≡ nothing
unfolding mended_of
given_none bits letter f = sought_none (2 ^ 26) bits letter f

-- A valid block is itself, unchanged.
pub whole_stays : (bits : ℕ) (letter : Letter) → is_valid bits letter ≡ true → mended_of bits letter ≡ record { found = true; changed = false; block = bits }
unfolding fits
whole_stays bits letter t =
    given_one bits letter bits
    (ap₂ ◌&&◌ t (ap (λ (x : ℕ). near 22 x bits) (sym (xor_zero_r bits)) ∙ narrow_near bits 0 (record { pattern = 0; place = 0; short = omega arith; inside = omega arith; is = refl })))
    ∙ ap (λ (x : Bool). record { found = true; changed = not x; block = bits }) (eq-eqb bits bits refl)
