-- The numbers of refusals: none is that of a value, and no two are one. Assumes nothing.
use mathlib.Core.Path.{◌≡◌, refl, sym, ap, ◌∙◌}
use mathlib.Core.Bool.{cond}
use Prim.Native.Nat.{ℕ}
use native.Mathlib.Omega.{arith}
use borrow.Author.Rules.{rules}
use lib.Dec.{eqb}
use Rattle.std.specs.Prelude.{Result, Ok, Err, IsOk}
use Rattle.refusal.specs.declared.Refusal.{Refusal}
use Rattle.refusal.specs.declared.Refusal.TheVariants as refusal
use Rattle.refusal.specs.Refusal.{number_of, answer_of, value_or}

-- a refusal is not told as a value is
pub some_number : (e : Refusal) → number_of e ≡ 0 → ⊥
some_number refusal.Room z = omega arith
some_number refusal.FixedBits z = omega arith
some_number refusal.Level z = omega arith
some_number refusal.Numbering z = omega arith
some_number refusal.Contradiction z = omega arith
some_number refusal.Place z = omega arith
some_number refusal.Unheld z = omega arith
some_number refusal.PacketSize z = omega arith
some_number refusal.Type z = omega arith
some_number refusal.ReservedBit z = omega arith
some_number refusal.Digit z = omega arith
some_number refusal.Length z = omega arith
some_number refusal.Range z = omega arith
some_number refusal.State z = omega arith
some_number refusal.LoneByte z = omega arith
some_number refusal.Parts z = omega arith
some_number refusal.MessageNumber z = omega arith
some_number refusal.Story z = omega arith
some_number refusal.Shelf z = omega arith
some_number refusal.Record z = omega arith
some_number refusal.FullShelf z = omega arith
some_number refusal.Symbol z = omega arith
some_number refusal.Sample z = omega arith
some_number refusal.Tag z = omega arith

-- each number leads back to its refusal
abbrev refusal_of : ℕ → Refusal
refusal_of n =
    cond (eqb n 10) refusal.Room
    (cond (eqb n 12) refusal.FixedBits
    (cond (eqb n 13) refusal.Level
    (cond (eqb n 14) refusal.Numbering
    (cond (eqb n 15) refusal.Contradiction
    (cond (eqb n 16) refusal.Place
    (cond (eqb n 18) refusal.Unheld
    (cond (eqb n 20) refusal.PacketSize
    (cond (eqb n 23) refusal.Type
    (cond (eqb n 24) refusal.ReservedBit
    (cond (eqb n 25) refusal.Digit
    (cond (eqb n 26) refusal.Length
    (cond (eqb n 27) refusal.Range
    (cond (eqb n 28) refusal.State
    (cond (eqb n 30) refusal.LoneByte
    (cond (eqb n 31) refusal.Parts
    (cond (eqb n 32) refusal.MessageNumber
    (cond (eqb n 33) refusal.Story
    (cond (eqb n 34) refusal.Shelf
    (cond (eqb n 35) refusal.Record
    (cond (eqb n 36) refusal.FullShelf
    (cond (eqb n 37) refusal.Symbol
    (cond (eqb n 38) refusal.Sample
    refusal.Tag))))))))))))))))))))))

back : (e : Refusal) → refusal_of (number_of e) ≡ e
back refusal.Room = refl
back refusal.FixedBits = refl
back refusal.Level = refl
back refusal.Numbering = refl
back refusal.Contradiction = refl
back refusal.Place = refl
back refusal.Unheld = refl
back refusal.PacketSize = refl
back refusal.Type = refl
back refusal.ReservedBit = refl
back refusal.Digit = refl
back refusal.Length = refl
back refusal.Range = refl
back refusal.State = refl
back refusal.LoneByte = refl
back refusal.Parts = refl
back refusal.MessageNumber = refl
back refusal.Story = refl
back refusal.Shelf = refl
back refusal.Record = refl
back refusal.FullShelf = refl
back refusal.Symbol = refl
back refusal.Sample = refl
back refusal.Tag = refl

-- so an answer names one refusal
pub same_number : (d e : Refusal) → number_of d ≡ number_of e → d ≡ e
same_number d e h = sym (back d) ∙ ap refusal_of h ∙ back e

-- what is told by 0 is a value
pub value_told : {A : Type 0} (r : Result A Refusal) → answer_of r ≡ 0 → IsOk r
value_told (Ok value) z = search rules
value_told (Err e) z = absurd (some_number e z)

-- two results that tell the same number, and the same beside it, are the same
pub told_once : {A : Type 0} (beside : A) (r s : Result A Refusal) → answer_of r ≡ answer_of s → value_or beside r ≡ value_or beside s → r ≡ s
told_once beside (Ok x) (Ok y) n v = ap (λ z. Ok z) v
told_once beside (Ok x) (Err e) n v = absurd (some_number e (sym n))
told_once beside (Err d) (Ok y) n v = absurd (some_number d n)
told_once beside (Err d) (Err e) n v = ap (λ z. Err z) (same_number d e n)
