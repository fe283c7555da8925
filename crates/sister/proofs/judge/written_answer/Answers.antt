-- `sister::judge::written_answer`: what its goals need. Assumes nothing.
use mathlib.Core.Path.{sym, ap, ◌∙◌}
use Rattle.sister.specs.Table.{tag_of}
use Rattle.sister.proofs.Says as says
use borrow.Author.Tests.{eq-eqb, ne_eqb}
use Rattle.sister.proofs.judge.written_answer.Goals as goal

pub returns-then-tag_of-eq0 : goal.returns-then-tag_of-eq0
returns-then-tag_of-eq0 c = let x = c.args in says.writes_39 x.c x.address.now x.codes.now x.room (eq-eqb _ 0 (sym (c.tag_of.ensures ∙ ap tag_of c.kind_for.ensures) ∙ c.if-tag_of-eq0.true))

pub returns-then-count_bad : goal.returns-then-count_bad
returns-then-count_bad c = let x = c.args in says.writes_26 x.c x.address.now x.codes.now x.room (ne_eqb _ 0 (λ h. c.if-tag_of-eq0.false ((c.tag_of.ensures ∙ ap tag_of c.kind_for.ensures) ∙ h))) (sym c.count_bad.ensures ∙ c.if-count_bad.true)

pub rest_answer-requires : goal.rest_answer-requires
rest_answer-requires c = sym c.count_bad.ensures ∙ c.if-count_bad.false

pub returns : goal.returns
returns c = let x = c.args in says.then_rest x.c x.address.now x.codes.now x.room (ne_eqb _ 0 (λ h. c.if-tag_of-eq0.false ((c.tag_of.ensures ∙ ap tag_of c.kind_for.ensures) ∙ h))) (sym c.count_bad.ensures ∙ c.if-count_bad.false) _ c.rest_answer.ensures
