use Rattle.packet.specs.Writing.{Written, written_answer}
use Rattle.story.specs.Telling.{head_of}
use mathlib.Core.Path.{ap, ◌∙◌}
use Rattle.packet.specs.declared.Fields.{Fields}
use Rattle.std.proofs.lemmas.Result.{err_from_is_err_and}
use Rattle.trips.proofs.Answers.{write_answer}
use Rattle.tell.proofs.packets.own_answer.Goals as goal

pub returns-in_err-write : goal.returns-in_err-write
returns-in_err-write c = let p = err_from_is_err_and c.from_residual.result c.from_residual.ensures.1 in
    rw (p.1, p.2) (ap (λ (w : Written). w.answer) c.in_err-write.ensures.answer ∙ write_answer _ _ _ _ ∙ ap (λ (f : Fields). written_answer f c.args.codes.now (head_of 1 1) 250) c.fields_with-f.ensures)

pub returns : goal.returns
returns c = ap (λ (w : Written). w.answer) c.in_ok-write.ensures.answer ∙ write_answer _ _ _ _ ∙ ap (λ (f : Fields). written_answer f c.args.codes.now (head_of 1 1) 250) c.fields_with-f.ensures
