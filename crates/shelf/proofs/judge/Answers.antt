-- `shelf::judge`: what its goals need. Assumes nothing.
use mathlib.Core.Path.{sym, ◌∙◌}
use borrow.Author.Tests.{not-true, not-false}
use Rattle.shelf.proofs.Answers.{judge_34, judge_35, judge_0}
use mathlib.Core.Path.{ap}
use mathlib.Core.Bool.{not}
use Rattle.shelf.proofs.judge.Goals as goal

pub returns-then-not-is_whole : goal.returns-then-not-is_whole
returns-then-not-is_whole c = judge_34 c.args.shelf.now (sym c.is_whole.ensures ∙ not-true _ (ap not c.if-not-is_whole.true))

pub returns-then-not-are_right : goal.returns-then-not-are_right
returns-then-not-are_right c = judge_35 c.args.shelf.now (sym c.is_whole.ensures ∙ not-false _ (ap not c.if-not-is_whole.false)) (sym c.are_right.ensures ∙ not-true _ (ap not c.if-not-are_right.true))

pub returns : goal.returns
returns c = judge_0 c.args.shelf.now (sym c.is_whole.ensures ∙ not-false _ (ap not c.if-not-is_whole.false)) (sym c.are_right.ensures ∙ not-false _ (ap not c.if-not-are_right.false))
