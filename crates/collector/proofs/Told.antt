-- What the results of the code tell by numbers: no refusal is told as what was accepted. Assumes nothing.
use mathlib.Core.Path.{◌≡◌, sym, ap, ap₂, ◌∙◌, refl}
use mathlib.Core.Bool.{true, false, cond}
use Prim.Native.Nat.{ℕ, ◌<◌}
use native.Mathlib.Omega.{arith}
use borrow.Author.Rules.{rules}
use denote.Enum.Bare.{sameb, same_true, same_false}
use lib.Dec.{eqb}
use Rattle.refusal.specs.declared.Refusal.{Refusal}
use Rattle.refusal.specs.declared.Refusal.TheVariants as refusal
use Rattle.std.specs.Prelude.{Result, Ok, Err}
use Rattle.refusal.specs.Refusal.{number_of}
use Rattle.refusal.proofs.Numbers.{same_number, told_once}
use Rattle.collector.specs.declared.Kept.{Kept}
use Rattle.collector.specs.declared.Kept.TheVariants as pair
use Rattle.collector.specs.contracts.Kept.{the_type}
use Rattle.collector.specs.declared.Holdings.{Holdings}
use Rattle.collector.specs.declared.Offered.{Offered as Left}
use Rattle.collector.specs.Places.{Copied, copy_told, kept_number}
use Rattle.collector.specs.Layout.{Outcome, release_told, offer_told}

-- each number leads back to what an accepted frame makes of its pair
kept_of : ℕ → Kept
kept_of n = cond (eqb n 0) pair.Missing (cond (eqb n 1) pair.Whole (cond (eqb n 2) pair.Same (cond (eqb n 3) pair.BegunAgain pair.Spoiled)))

back : (k : Kept) → kept_of (kept_number k) ≡ k
unfolding kept_of
back pair.Missing = refl
back pair.Whole = refl
back pair.Same = refl
back pair.BegunAgain = refl
back pair.Spoiled = refl

-- so a number names one
pub same_kept : (j k : Kept) → kept_number j ≡ kept_number k → j ≡ k
same_kept j k h = sym (back j) ∙ ap kept_of h ∙ back k

-- what an arm of `==` knows of the numbers
module _ (j k : Kept) where
  pub is_kept : sameb the_type j k ≡ true → kept_number j ≡ kept_number k
  is_kept e = ap kept_number (same_true the_type (search rules) j k e)

  pub is_other : sameb the_type j k ≡ false → kept_number j ≡ kept_number k → ⊥
  is_other e h = same_false the_type j k e (same_kept j k h)

-- a refusal's number is above those of frames that leave a pair unfinished, whole or begun again
pub refusal_high : (e : Refusal) → 3 < number_of e
refusal_high refusal.Room = omega arith
refusal_high refusal.FixedBits = omega arith
refusal_high refusal.Level = omega arith
refusal_high refusal.Numbering = omega arith
refusal_high refusal.Contradiction = omega arith
refusal_high refusal.Place = omega arith
refusal_high refusal.Unheld = omega arith
refusal_high refusal.PacketSize = omega arith
refusal_high refusal.Type = omega arith
refusal_high refusal.ReservedBit = omega arith
refusal_high refusal.Digit = omega arith
refusal_high refusal.Length = omega arith
refusal_high refusal.Range = omega arith
refusal_high refusal.State = omega arith
refusal_high refusal.LoneByte = omega arith
refusal_high refusal.Parts = omega arith
refusal_high refusal.MessageNumber = omega arith
refusal_high refusal.Story = omega arith
refusal_high refusal.Shelf = omega arith
refusal_high refusal.Record = omega arith
refusal_high refusal.FullShelf = omega arith
refusal_high refusal.Symbol = omega arith
refusal_high refusal.Sample = omega arith
refusal_high refusal.Tag = omega arith

-- and no refusal has the number of a spoiled packet
not_spoiled : (e : Refusal) → number_of e ≡ 17 → ⊥
not_spoiled refusal.Room z = omega arith
not_spoiled refusal.FixedBits z = omega arith
not_spoiled refusal.Level z = omega arith
not_spoiled refusal.Numbering z = omega arith
not_spoiled refusal.Contradiction z = omega arith
not_spoiled refusal.Place z = omega arith
not_spoiled refusal.Unheld z = omega arith
not_spoiled refusal.PacketSize z = omega arith
not_spoiled refusal.Type z = omega arith
not_spoiled refusal.ReservedBit z = omega arith
not_spoiled refusal.Digit z = omega arith
not_spoiled refusal.Length z = omega arith
not_spoiled refusal.Range z = omega arith
not_spoiled refusal.State z = omega arith
not_spoiled refusal.LoneByte z = omega arith
not_spoiled refusal.Parts z = omega arith
not_spoiled refusal.MessageNumber z = omega arith
not_spoiled refusal.Story z = omega arith
not_spoiled refusal.Shelf z = omega arith
not_spoiled refusal.Record z = omega arith
not_spoiled refusal.FullShelf z = omega arith
not_spoiled refusal.Symbol z = omega arith
not_spoiled refusal.Sample z = omega arith
not_spoiled refusal.Tag z = omega arith

apart : (k : Kept) (e : Refusal) → kept_number k ≡ number_of e → ⊥
apart pair.Missing e h = omega (arith, refusal_high e)
apart pair.Whole e h = omega (arith, refusal_high e)
apart pair.Same e h = omega (arith, refusal_high e)
apart pair.BegunAgain e h = omega (arith, refusal_high e)
apart pair.Spoiled e h = not_spoiled e (sym h)

-- what is told of a result tells the result
pub copy_told_apart : (r s : Result ℕ Refusal) → copy_told r ≡ copy_told s → r ≡ s
copy_told_apart r s e = told_once 0 r s (ap (λ (t : Copied). t.answer) e) (ap (λ (t : Copied). t.length) e)

pub release_told_apart : (h : Holdings) (r s : Result Holdings Refusal) → release_told h r ≡ release_told h s → r ≡ s
release_told_apart h r s e = told_once h r s (ap (λ (t : Outcome). t.answer) e) (ap (λ (t : Outcome). t.collector) e)

pub offer_told_apart : (h : Holdings) (r s : Result Left Refusal) → offer_told h r ≡ offer_told h s → r ≡ s
offer_told_apart h (Ok a) (Ok b) e =
    ap₂ {C = Result Left Refusal} (λ k c. Ok (record { kept = k; collector = c })) (same_kept a.kept b.kept (ap (λ (t : Outcome). t.answer) e)) (ap (λ (t : Outcome). t.collector) e)
offer_told_apart h (Ok a) (Err d) e = absurd (apart a.kept d (ap (λ (t : Outcome). t.answer) e))
offer_told_apart h (Err d) (Ok b) e = absurd (apart b.kept d (sym (ap (λ (t : Outcome). t.answer) e)))
offer_told_apart h (Err c) (Err d) e = ap {B = Result Left Refusal} (λ x. Err x) (same_number c d (ap (λ (t : Outcome). t.answer) e))
