-- What is told of a writer's result tells the result, and what is told of a reader's. Assumes nothing.
use mathlib.Core.Path.{◌≡◌, sym, ap}
use Prim.Native.Nat.{ℕ}
use Rattle.std.specs.Prelude.{Result, Ok, Err}
use Rattle.refusal.specs.declared.Refusal.{Refusal}
use Rattle.refusal.proofs.Numbers.{some_number, same_number, told_once}
use Rattle.packet.specs.declared.Opened as code
use Rattle.packet.specs.Reading.{Opened, opened_told}
use Rattle.packet.specs.Writing.{Written, told}

pub told_apart : (r s : Result ℕ Refusal) → told r ≡ told s → r ≡ s
told_apart r s e = told_once 0 r s (ap (λ (t : Written). t.answer) e) (ap (λ (t : Written). t.length) e)

-- what stands beside the number
abbrev beside : Opened → code.Opened
beside o = record { fields = o.fields; codes = o.codes; entries = o.entries }

pub opened_told_apart : (r s : Result code.Opened Refusal) → opened_told r ≡ opened_told s → r ≡ s
opened_told_apart (Ok x) (Ok y) e = ap (λ (o : Opened). Ok (beside o)) e
opened_told_apart (Ok x) (Err d) e = absurd (some_number d (sym (ap (λ (o : Opened). o.answer) e)))
opened_told_apart (Err d) (Ok y) e = absurd (some_number d (ap (λ (o : Opened). o.answer) e))
opened_told_apart (Err d) (Err f) e = ap (λ z. Err z) (same_number d f (ap (λ (o : Opened). o.answer) e))
