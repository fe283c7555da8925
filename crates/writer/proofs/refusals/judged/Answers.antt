-- `writer::refusals::judged`: what its goals need: each way out has its law in Answers. Assumes nothing.
use mathlib.Core.Path.{sym, ◌∙◌}
use Rattle.writer.proofs.Answers.{says_23, says_26, then_rest}
use Rattle.writer.proofs.refusals.judged.Goals as goal

pub returns-then-not_written : goal.returns-then-not_written
returns-then-not_written c = says_23 _ _ _ _ (sym c.not_written.ensures ∙ c.if-not_written.true)

pub returns-then-counts_bad : goal.returns-then-counts_bad
returns-then-counts_bad c = says_26 _ _ _ _ (sym c.not_written.ensures ∙ c.if-not_written.false) (sym c.counts_bad.ensures ∙ c.if-counts_bad.true)

pub returns : goal.returns
returns c = c.rest_answer.ensures ∙ then_rest _ _ _ _ (sym c.not_written.ensures ∙ c.if-not_written.false) (sym c.counts_bad.ensures ∙ c.if-counts_bad.false)
