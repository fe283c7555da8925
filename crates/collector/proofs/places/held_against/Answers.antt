-- `collector::places::held_against`: what its goals need. Assumes nothing.
use mathlib.Core.Path.{sym, ◌∙◌}
use borrow.Author.Tests.{not-true, not-false}
use Rattle.collector.proofs.OnePlace.{other_total, new_number, same_frame, other_bytes}
use mathlib.Core.Path.{ap}
use mathlib.Core.Bool.{not}
use Rattle.collector.proofs.places.held_against.Goals as goal

pub returns-then-p-x : goal.returns-then-p-x
returns-then-p-x c = c.contradiction.ensures ∙ sym (other_total _ _ c.if-p-x.true)

pub returns-then-not-is_marked : goal.returns-then-not-is_marked
returns-then-not-is_marked c = sym (new_number _ _ c.if-p-x.false (sym c.is_marked.ensures ∙ not-true _ (ap not c.if-not-is_marked.true)))

pub returns-then-same_four : goal.returns-then-same_four
returns-then-same_four c = sym (same_frame _ _ c.if-p-x.false (sym c.is_marked.ensures ∙ not-false _ (ap not c.if-not-is_marked.false)) (sym c.same_four.ensures ∙ c.if-same_four.true))

pub returns : goal.returns
returns c = c.contradiction-2.ensures
    ∙ sym (other_bytes _ _ c.if-p-x.false (sym c.is_marked.ensures ∙ not-false _ (ap not c.if-not-is_marked.false)) (sym c.same_four.ensures ∙ c.if-same_four.false))
