-- `board::level_with`: what its goals need. Assumes nothing.
use mathlib.Core.Path.{sym}
use borrow.Author.Tests.{eq-eqb, ne_eqb}
use Rattle.laws.proofs.Cases.{if_yes, if_no}
use Rattle.board.proofs.level_with.Goals as goal

pub returns-then-answer-eq1 : goal.returns-then-answer-eq1
returns-then-answer-eq1 c = sym (if_yes _ _ (eq-eqb _ _ c.if-answer-eq1.true))

pub returns-else-answer-eq1 : goal.returns-else-answer-eq1
returns-else-answer-eq1 c = sym (if_no _ _ (ne_eqb _ _ c.if-answer-eq1.false))
