-- `writer::fits::line_fits`: what its goals need. Assumes nothing.
use mathlib.Core.Path.{sym, ◌∙◌}
use borrow.Author.Tests.{eq-eqb, lt-leb}
use Rattle.laws.proofs.Cases.{if_yes}
use Rattle.writer.proofs.Inside.{one_low, one_high}
use Rattle.writer.proofs.fits.line_fits.Goals as goal

pub returns-then-t-x : goal.returns-then-t-x
returns-then-t-x c = let a = c.args in
    sym (if_yes _ _ (eq-eqb a.t.answer a.a c.if-t-a.false) ∙ one_high a.t.lo a.t.hi a.x c.if-t-x.true)

pub returns-else-t-x : goal.returns-else-t-x
returns-else-t-x c = let a = c.args in
    lt-leb a.t.lo a.x c.if-t-x.false ∙ sym (if_yes _ _ (eq-eqb a.t.answer a.a c.if-t-a.false) ∙ one_low a.t.lo a.t.hi a.x c.if-t-x.false)
