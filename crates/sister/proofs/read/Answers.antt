-- `sister::read`: what its goals need. Assumes nothing.
use mathlib.Core.Path.{sym, ap, ◌∙◌}
use Rattle.std.proofs.lemmas.Result.{err_from_is_err_and}
use Rattle.refusal.proofs.Numbers.{some_number}
use Rattle.sister.specs.Reading.{opened, refused_as}
use Rattle.sister.proofs.Says.{not_opened}
use Rattle.sister.proofs.read.Goals as goal

pub returns-in_err-answer : goal.returns-in_err-answer
unfolding opened
returns-in_err-answer c =
    let p = err_from_is_err_and c.from_residual.result c.from_residual.ensures.1 in
    let e = c.in_err-answer.ensures in
    rw (p.1, p.2) (ap refused_as e ∙ sym (not_opened _ c.args.command.now (λ h. some_number c.in_err-answer.field-0.0 (e ∙ h))))

pub returns : goal.returns
unfolding opened
returns c = rw (← c.in_ok-answer.ensures, c.codes.ensures, c.command.ensures)
