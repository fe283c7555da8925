-- What is told of what `read` gives. Assumes nothing.
use mathlib.Core.Path.{◌≡◌, sym, ap}
use Rattle.std.specs.Prelude.{Result, Ok, Err}
use Rattle.refusal.specs.declared.Refusal.{Refusal}
use Rattle.refusal.proofs.Numbers.{some_number, same_number}
use Rattle.sister.specs.declared.Opened as given
use Rattle.sister.specs.Reading.{Opened, read_told}

-- what is told of a result tells the result
pub read_told_apart : (r s : Result given.Opened Refusal) → read_told r ≡ read_told s → r ≡ s
read_told_apart (Ok x) (Ok y) e = ap {B = Result given.Opened Refusal} (λ (t : Opened). Ok record { command = t.command; codes = t.codes }) e
read_told_apart (Ok x) (Err d) e = absurd (some_number d (sym (ap (λ (t : Opened). t.answer) e)))
read_told_apart (Err c) (Ok y) e = absurd (some_number c (ap (λ (t : Opened). t.answer) e))
read_told_apart (Err c) (Err d) e = ap (λ z. Err z) (same_number c d (ap (λ (t : Opened). t.answer) e))
