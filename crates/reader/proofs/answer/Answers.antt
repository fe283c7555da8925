-- `reader::answer`: what its goals need. Assumes nothing.
use mathlib.Core.Path.{ap, ◌∙◌}
use Rattle.std.proofs.lemmas.Result.{err_from_is_err_and}
use Rattle.packet.specs.Reading.{Opened}
use Rattle.reader.proofs.Telling.{answered}
use Rattle.reader.proofs.answer.Goals as goal

pub returns-in_err-read : goal.returns-in_err-read
returns-in_err-read c = let p = err_from_is_err_and c.from_residual.result c.from_residual.ensures.1 in
    rw (p.1, p.2) (ap (λ (o : Opened). o.answer) c.in_err-read.ensures ∙ answered c.args.packet.now)

pub returns : goal.returns
returns c = ap (λ (o : Opened). o.answer) c.in_ok-read.ensures ∙ answered c.args.packet.now
