-- `collector::places::state_of`: what its goals need. Assumes nothing.
use mathlib.Core.Path.{sym, ◌∙◌}
use borrow.Author.Tests.{not-true, not-false}
use Rattle.collector.proofs.OnePlace.{is_missing, is_whole_lem, is_spoiled}
use mathlib.Core.Path.{ap}
use mathlib.Core.Bool.{not}
use Rattle.collector.proofs.places.state_of.Goals as goal

pub returns-then-not-is_complete : goal.returns-then-not-is_complete
returns-then-not-is_complete c = sym (is_missing _ (sym c.is_complete.ensures ∙ not-true _ (ap not c.if-not-is_complete.true)))

pub returns-then-joined_passes : goal.returns-then-joined_passes
returns-then-joined_passes c = sym (is_whole_lem _ (sym c.is_complete.ensures ∙ not-false _ (ap not c.if-not-is_complete.false)) (sym c.joined_passes.ensures ∙ c.if-joined_passes.true))

pub returns-else-joined_passes : goal.returns-else-joined_passes
returns-else-joined_passes c = sym (is_spoiled _ (sym c.is_complete.ensures ∙ not-false _ (ap not c.if-not-is_complete.false)) (sym c.joined_passes.ensures ∙ c.if-joined_passes.false))
