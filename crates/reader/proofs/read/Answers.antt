-- `reader::read`: what its goals need. Assumes nothing.
use mathlib.Core.Path.{sym, ap, ◌∙◌}
use Rattle.std.proofs.lemmas.Result.{err_from_is_err_and}
use Rattle.refusal.specs.Refusal.{number_of}
use Rattle.refusal.proofs.Numbers.{some_number}
use Rattle.packet.specs.Reading.{opened}
use Rattle.reader.specs.Taking.{Answered}
use Rattle.reader.proofs.Telling.{opened_of, opened_none, answered, either_way, none_opened}
use Rattle.reader.proofs.read.Goals as goal

pub returns-in_err-typenumber : goal.returns-in_err-typenumber
returns-in_err-typenumber c = let b = c.args.packet.now in
    let d = c.in_err-typenumber.field-0.0 in
    let e = ap (λ (t : Answered). t.answer) c.in_err-typenumber.ensures.told ∙ answered b in
    let p = err_from_is_err_and c.from_residual.result c.from_residual.ensures.1 in
    rw (p.1, p.2) (sym (opened_none b (number_of d) e (some_number d)))

pub returns : goal.returns
returns c = let b = c.args.packet.now in
    let e = c.in_ok-typenumber.ensures in
    opened_of (opened b) _ _ _ _
    record {
      told_is = e.told;
      codes_are = either_way b _ _ _ e.coded (λ n. c.zeros-codes.ensures ∙ sym (none_opened b n).codes_none);
      entries_are = either_way b _ _ _ e.listed (λ n. c.zeros-entries.ensures ∙ sym (none_opened b n).entries_none);
      digits_are = either_way b _ _ _ e.beside (λ n. c.zeros-digits.ensures ∙ sym (none_opened b n).digits_none);
    }
