-- What is told of a telling's and a joining's result tells the result. Assumes nothing.
use mathlib.Core.Path.{◌≡◌, sym, ap, ap₂}
use Prim.Native.Nat.{ℕ}
use Rattle.std.specs.Prelude.{Result, Ok, Err}
use Rattle.refusal.specs.declared.Refusal.{Refusal}
use Rattle.refusal.proofs.Numbers.{some_number, same_number, told_once}
use Rattle.story.specs.declared.Told.{Told as Extent}
use Rattle.story.specs.Telling.{Told, told_as}
use Rattle.story.specs.Joining.{Joined, joined_as}

pub joined_as_apart : (r s : Result ℕ Refusal) → joined_as r ≡ joined_as s → r ≡ s
joined_as_apart r s e = told_once 0 r s (ap (λ (t : Joined). t.answer) e) (ap (λ (t : Joined). t.length) e)

pub told_as_apart : (r s : Result Extent Refusal) → told_as r ≡ told_as s → r ≡ s
told_as_apart (Ok t) (Ok u) e = ap₂ {C = Result Extent Refusal} (λ p n. Ok (record { parts = p; length = n })) (ap (λ (x : Told). x.parts) e) (ap (λ (x : Told). x.length) e)
told_as_apart (Ok t) (Err d) e = absurd (some_number d (sym (ap (λ (x : Told). x.answer) e)))
told_as_apart (Err c) (Ok u) e = absurd (some_number c (ap (λ (x : Told). x.answer) e))
told_as_apart (Err c) (Err d) e = ap {B = Result Extent Refusal} (λ x. Err x) (same_number c d (ap (λ (x : Told). x.answer) e))
