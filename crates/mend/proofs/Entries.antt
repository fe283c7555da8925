-- The entries of the table: where each stands among its four, and what it tells. Assumes nothing.
use mathlib.Core.Path.{◌≡◌, refl, sym, ap, ap₂, ◌∙◌, subst}
use mathlib.Core.Bool.{Bool, true, true≢false, not}
use Prim.Native.Nat.{ℕ, zero, suc, ◌+◌, ◌*◌, ◌/◌, ◌%◌, ◌^◌, ◌<◌, ◌≤◌}
use native.Mathlib.Nat.{add-zero, mod-lt}
use native.Mathlib.Omega.{arith}
use borrow.Author.Tests.{lt-ltb, le-ltb, eq-eqb, ne_eqb, eqb-true}
use lib.Dec.{eqb}
use lib.Pow.{split, pow_pos}
use lib.Bits.{xor_shr, xor_mod, xor_lt}
use Rattle.laws.specs.Poly.{◌⊕◌, reduce, remainder}
use Rattle.laws.proofs.Cases.{if_yes, if_no, and_yes, and_no}
use Rattle.laws.proofs.Elements.{by_test}
use Rattle.laws.proofs.Remainder.{remainder_lt}
use Rattle.laws.proofs.Xor.{xor_assoc, xor_undo}
use Rattle.block.specs.declared.Letter.{Letter}
use Rattle.block.specs.Block.{generator, syndrome, check_word}
use Rattle.block.proofs.Validity.{by_parts}
use Rattle.mend.specs.Mend.{nothing, mended_of}
use Rattle.mend.specs.Table.{none, change_for, entry_of, entry_for, four_of, mended_by, Corrects}
use Rattle.mend.proofs.Rule.{table_corrects, entry_apart}
use Rattle.mend.proofs.OnlyOne.{index_of, index_lt, change_right, entry_none, entry_given}

-- the entry of a change that is one
pub entry_some : (s : ℕ) → (change_for s ≡ none → ⊥) → entry_for s ≡ change_for s / 2 ^ 10
unfolding entry_for entry_of
entry_some s n = if_no 65535 (change_for s / 2 ^ 10) (ne_eqb (change_for s) none n)

entry_lost : (s : ℕ) → change_for s ≡ none → entry_for s ≡ 65535
unfolding entry_for entry_of
entry_lost s e = if_yes 65535 (change_for s / 2 ^ 10) (eq-eqb (change_for s) none e)

-- whether there is one
by_change : (s : ℕ) {P : Type 0} → (change_for s ≡ none → P) → ((change_for s ≡ none → ⊥) → P) → P
by_change s y n =
    by_test (eqb (change_for s) none) (λ t. y (eqb-true (change_for s) none t))
    (λ t. n (λ e. true≢false (sym (eq-eqb (change_for s) none e) ∙ t)))

pub told_none : (s : ℕ) → s < 1024 → entry_for s ≡ 65535 → change_for s ≡ none
told_none s h t =
    by_change s (λ e. e)
    (λ n. let l = entry_apart s h n in let e = entry_some s n in absurd (omega arith))

pub told_some : (s : ℕ) → (entry_for s ≡ 65535 → ⊥) → change_for s ≡ none → ⊥
told_some s n e = n (entry_lost s e)

entry_small : (s : ℕ) → s < 1024 → entry_for s < 65536
entry_small s h =
    by_change s (λ e. let f = entry_lost s e in omega arith)
    (λ n. let l = entry_apart s h n in let f = entry_some s n in omega arith)

-- one of four numbers in one: shifted to the top, the others fall off or stay below
lane : (e : ℕ → ℕ) → ((i : ℕ) → i < 4 → e i < 65536) → (j : ℕ) → j < 4
    → (((e 0 * 65536 + e 1) * 65536 + e 2) * 65536 + e 3) * 2 ^ (j * 16) % 2 ^ 64 / 281474976710656 ≡ e j
lane e h zero l = omega (arith, h 0 (omega arith), h 1 (omega arith), h 2 (omega arith), h 3 (omega arith))
lane e h (suc zero) l = omega (arith, h 0 (omega arith), h 1 (omega arith), h 2 (omega arith), h 3 (omega arith))
lane e h (suc (suc zero)) l = omega (arith, h 0 (omega arith), h 1 (omega arith), h 2 (omega arith), h 3 (omega arith))
lane e h (suc (suc (suc zero))) l = omega (arith, h 0 (omega arith), h 1 (omega arith), h 2 (omega arith), h 3 (omega arith))
lane e h (suc (suc (suc (suc j)))) l = absurd (omega arith)

-- what `mend::entry` makes of the four
pub looked_up : (s f : ℕ) → s < 1024 → f ≡ four_of (s / 4) → f * 2 ^ (s % 4 * 16) % 2 ^ 64 / 281474976710656 ≡ entry_for s
unfolding four_of
looked_up s f h g =
    let k = s / 4 in
    let same : k * 4 + s % 4 ≡ s = omega arith in
    let first : four_of k ≡ ((entry_for (k * 4 + 0) * 65536 + entry_for (k * 4 + 1)) * 65536 + entry_for (k * 4 + 2)) * 65536 + entry_for (k * 4 + 3) =
    ap (λ (x : ℕ). ((x * 65536 + entry_for (k * 4 + 1)) * 65536 + entry_for (k * 4 + 2)) * 65536 + entry_for (k * 4 + 3)) (ap entry_for (sym (add-zero (k * 4)))) in
    ap (λ (x : ℕ). x * 2 ^ (s % 4 * 16) % 2 ^ 64 / 281474976710656) (g ∙ first)
    ∙ lane (λ (i : ℕ). entry_for (k * 4 + i)) (λ i l. entry_small (k * 4 + i) (omega arith)) (s % 4) (omega arith)
    ∙ ap entry_for same

-- ---- what `mend::mended_by` makes of an entry
-- a change is 0 just where its remainder is
both_zero : (s p : ℕ) → Corrects s p → (p ≡ none → ⊥) → eqb p 0 ≡ eqb s 0
unfolding syndrome remainder reduce
both_zero s p e n =
    by_test (eqb p 0)
    (λ y. y ∙ sym (eq-eqb s 0 (sym (e.right n).0 ∙ ap syndrome (eqb-true p 0 y))))
    (λ y.
    y
    ∙ sym
    (ne_eqb s 0 (λ z. absurd (true≢false (sym (eq-eqb p 0 (e.only 0 0 (omega arith) (omega arith) (sym z))) ∙ y)))))

-- what is no such bits, no such remainder, or has no entry
pub by_wide : (bits rest : ℕ) → 2 ^ 26 ≤ bits → nothing ≡ mended_by bits rest
unfolding mended_by
by_wide bits rest h = sym (if_no _ nothing (and_no _ (le-ltb bits (2 ^ 26) h)))

pub by_high : (bits rest : ℕ) → bits < 2 ^ 26 → 1024 ≤ rest → nothing ≡ mended_by bits rest
unfolding mended_by
by_high bits rest k h = sym (if_no _ nothing (and_yes _ (lt-ltb bits (2 ^ 26) k) ∙ and_no _ (le-ltb rest 1024 h)))

lost_by : (bits rest : ℕ) → bits < 2 ^ 26 → rest < 1024 → change_for rest ≡ none → nothing ≡ mended_by bits rest
unfolding mended_by
lost_by bits rest k h e =
    sym (if_no _ nothing (and_yes _ (lt-ltb bits (2 ^ 26) k) ∙ and_yes _ (lt-ltb rest 1024 h) ∙ ap not (eq-eqb (change_for rest) none e)))

given_by : (bits rest : ℕ) → bits < 2 ^ 26 → rest < 1024 → (change_for rest ≡ none → ⊥) → record { found = true; changed = not (eqb rest 0); block = bits ⊕ change_for rest } ≡ mended_by bits rest
unfolding mended_by
given_by bits rest k h n =
    sym (if_yes _ nothing (and_yes _ (lt-ltb bits (2 ^ 26) k) ∙ and_yes _ (lt-ltb rest 1024 h) ∙ ap not (ne_eqb (change_for rest) none n)))

pub by_none : (bits rest e : ℕ) → bits < 2 ^ 26 → rest < 1024 → e ≡ entry_for rest → e ≡ 65535 → nothing ≡ mended_by bits rest
by_none bits rest e k h g z = lost_by bits rest k h (told_none rest h (sym g ∙ z))

-- the parts of the changed block
pub info_lt : (bits rest e : ℕ) → bits < 2 ^ 26 → rest < 1024 → e ≡ entry_for rest → (bits / 2 ^ 10 ⊕ e) < 2 ^ 16
info_lt bits rest e k h g = xor_lt 16 (bits / 2 ^ 10) e (omega arith) (subst (λ (x : ℕ). x < 2 ^ 16) (sym g) (entry_small rest h))

pub check_lt : (bits rest e r : ℕ) → rest < 1024 → r ≡ syndrome (e * 2 ^ 10) → ((bits % 2 ^ 10 ⊕ r) ⊕ rest) < 2 ^ 10
unfolding syndrome
check_lt bits rest e r h g =
    xor_lt 10 (bits % 2 ^ 10 ⊕ r) rest
    (xor_lt 10 (bits % 2 ^ 10) r (mod-lt bits (pow_pos 10)) (subst (λ (x : ℕ). x < 2 ^ 10) (sym g) (remainder_lt 10 generator refl 26 (e * 2 ^ 10)))) h

-- the remainder of a change is that of its information and its check bits
low_bits : (p r rest : ℕ) → syndrome p ≡ rest → r ≡ syndrome (p / 2 ^ 10 * 2 ^ 10) → r ⊕ rest ≡ p % 2 ^ 10
unfolding check_word
low_bits p r rest e g = ap (λ (x : ℕ). r ⊕ x) (sym e ∙ by_parts p ∙ ap (λ (x : ℕ). x ⊕ p % 2 ^ 10) (sym g)) ∙ xor_undo r (p % 2 ^ 10)

pub by_some : (bits rest e r : ℕ) → bits < 2 ^ 26 → rest < 1024 → e ≡ entry_for rest → (e ≡ 65535 → ⊥) → r ≡ syndrome (e * 2 ^ 10)
    → record { found = true; changed = not (eqb rest 0); block = (bits / 2 ^ 10 ⊕ e) * 2 ^ 10 + ((bits % 2 ^ 10 ⊕ r) ⊕ rest) } ≡ mended_by bits rest
by_some bits rest e r k h g n er =
    let p = change_for rest in
    let some : p ≡ none → ⊥ = told_some rest (λ t. n (g ∙ t)) in
    let top : e ≡ p / 2 ^ 10 = g ∙ entry_some rest some in
    let low : r ⊕ rest ≡ p % 2 ^ 10 = low_bits p r rest ((table_corrects rest h).right some).0 (er ∙ ap (λ (x : ℕ). syndrome (x * 2 ^ 10)) top) in
    ap (λ (y : ℕ). record { found = true; changed = not (eqb rest 0); block = y })
    (ap₂ (λ (x y : ℕ). x * 2 ^ 10 + y) (ap (λ (x : ℕ). bits / 2 ^ 10 ⊕ x) top ∙ sym (xor_shr bits p 10))
    (xor_assoc (bits % 2 ^ 10) r rest ∙ ap (λ (x : ℕ). bits % 2 ^ 10 ⊕ x) low ∙ sym (xor_mod bits p 10))
    ∙ split (bits ⊕ p) 10)
    ∙ given_by bits rest k h some

-- ---- A remainder less the letter's offset gives the block of the letter, as it is sought among all.
pub by_letter : (bits : ℕ) (letter : Letter) → bits < 2 ^ 26 → mended_by bits (index_of bits letter) ≡ mended_of bits letter
by_letter bits letter h =
    let s = index_of bits letter in
    let l = index_lt bits letter in
    let right = change_right bits letter in
    by_change s (λ e. sym (lost_by bits s h l e) ∙ sym (entry_none bits letter (change_for s) right e))
    (λ n.
    sym (given_by bits s h l n)
    ∙ ap (λ (x : Bool). record { found = true; changed = not x; block = bits ⊕ change_for s }) (sym (both_zero s (change_for s) right n))
    ∙ entry_given bits letter (change_for s) right h n)
