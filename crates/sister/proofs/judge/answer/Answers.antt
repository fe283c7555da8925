-- `sister::judge::answer`: what its goals need. Assumes nothing.
use mathlib.Core.Path.{sym, ap, ◌∙◌}
use native.Mathlib.Omega.{arith}
use Rattle.sister.specs.Table.{tag_of}
use Rattle.sister.proofs.Says as says
use borrow.Author.Tests.{eq-eqb, ne_eqb}
use Rattle.sister.proofs.judge.answer.Goals as goal

pub returns-then-b-lt3 : goal.returns-then-b-lt3
returns-then-b-lt3 c = says.says_short c.args.b.now c.if-b-lt3.true

pub returns-then-tag_of-eq0 : goal.returns-then-tag_of-eq0
returns-then-tag_of-eq0 c = says.says_39 c.args.b.now (omega arith) (eq-eqb _ 0 (sym (c.tag_of.ensures ∙ ap tag_of c.kind.ensures) ∙ c.if-tag_of-eq0.true))

pub returns-then-length_bad : goal.returns-then-length_bad
returns-then-length_bad c = says.says_26 c.args.b.now (omega arith) (ne_eqb _ 0 (λ h. c.if-tag_of-eq0.false ((c.tag_of.ensures ∙ ap tag_of c.kind.ensures) ∙ h))) (sym c.length_bad.ensures ∙ c.if-length_bad.true)

pub returns : goal.returns
returns c = says.then_lines c.args.b.now (omega arith) (ne_eqb _ 0 (λ h. c.if-tag_of-eq0.false ((c.tag_of.ensures ∙ ap tag_of c.kind.ensures) ∙ h))) (sym c.length_bad.ensures ∙ c.if-length_bad.false) _ c.lines_answer.ensures
