-- What mending gives back: a sent block with a short burst, and what a block that was given has to do with the bits. Assumes nothing.
use mathlib.Core.Path.{◌≡◌, refl, sym, ap, ap₂, ◌∙◌}
use mathlib.Core.Bool.{true, false, true≢false, ◌&&◌}
use Prim.Native.Nat.{ℕ, zero, suc, ◌*◌, ◌^◌, ◌<◌}
use Rattle.laws.specs.Poly.{◌⊕◌, reduce, remainder}
use Rattle.laws.proofs.Cases.{if_yes, if_no}
use Rattle.laws.proofs.Elements.{by_test}
use Rattle.laws.proofs.Xor.{xor_cancel}
use Rattle.block.specs.declared.Letter.{Letter}
use Rattle.block.specs.declared.Letter.TheVariants.{A}
use Rattle.block.specs.Block.{syndrome, check_word, carries, is_valid}
use Rattle.mend.specs.Mend.{Outcome}
use Rattle.mend.specs.Mend.{same_but, near, fits, sought, mended_of}
use Rattle.mend.proofs.Near.{narrow_near}
use Rattle.mend.proofs.Search.{used}
use Rattle.mend.proofs.OnlyOne.{given_one}

-- A block that was sent, with a burst b within the five bits from bit k on, is mended to what was sent.
pub burst_mended : (block : ℕ) (letter : Letter) (b k : ℕ) → is_valid block letter ≡ true → b < 32 → k < 22 → mended_of (block ⊕ b * 2 ^ k) letter ≡ used (block ⊕ b * 2 ^ k) block
unfolding fits
burst_mended block letter b k t hb hk =
    let e = b * 2 ^ k in
    given_one (block ⊕ e) letter block
    (ap₂ ◌&&◌ t
    (ap (λ (x : ℕ). near 22 x (block ⊕ e)) (sym (xor_cancel block e))
    ∙ narrow_near (block ⊕ e) e (record { pattern = b; place = k; short = hb; inside = hk; is = refl })))

sought_fits : (n bits : ℕ) (letter : Letter) → (sought n bits letter).found ≡ true → fits bits letter (sought n bits letter).block ≡ true
unfolding sought
sought_fits zero bits letter t = absurd (true≢false (sym t))
sought_fits (suc n) bits letter t =
    by_test (fits bits letter n)
    (λ y. ap (λ (x : Outcome). fits bits letter x.block) (if_yes (used bits n) (sought n bits letter) y) ∙ y)
    (λ y.
    let e = if_no (used bits n) (sought n bits letter) y in
    ap (λ (x : Outcome). fits bits letter x.block) e ∙ sought_fits n bits letter (sym (ap (λ (x : Outcome). x.found) e) ∙ t))

-- A block that is given is a valid block of the letter, and differs from the bits only within five neighbouring bits.
pub found_fits : (bits : ℕ) (letter : Letter) → (mended_of bits letter).found ≡ true → fits bits letter (mended_of bits letter).block ≡ true
unfolding mended_of
found_fits bits letter t = sought_fits (2 ^ 26) bits letter t

-- Where nothing is given there is no such block.
pub lost : (bits : ℕ) (letter : Letter) → (mended_of bits letter).found ≡ false → (c : ℕ) → fits bits letter c ≡ true → ⊥
lost bits letter t c u = true≢false (sym (ap (λ (x : Outcome). x.found) (given_one bits letter c u)) ∙ t)

-- A burst of six bits may be mended wrongly: of the block A with information 0x1234 the lowest six bits changed by 101111 give information 0x1232.
sent_fine : is_valid 0x48D06A A ≡ true
unfolding is_valid carries check_word syndrome remainder reduce
sent_fine = refl

wrong_fits : fits (0x48D06A ⊕ 47) A 0x48C845 ≡ true
unfolding fits near same_but is_valid carries check_word syndrome remainder reduce
wrong_fits = refl

pub mended_wrongly : (is_valid 0x48D06A A ≡ true) × (mended_of (0x48D06A ⊕ 47) A ≡ record { found = true; changed = true; block = 0x48C845 })
mended_wrongly = (sent_fine, given_one (0x48D06A ⊕ 47) A 0x48C845 wrong_fits)
