-- `shelf::summary::clear`: what its goals need. Assumes nothing.
use Rattle.shelf.proofs.Entries.{Clearing}
use Rattle.shelf.proofs.summary.clear.Given as goal

abbrev pub invariant-loop-kind : goal.invariant-loop-kind
invariant-loop-kind l = Clearing l.initial.summary l.summary l.kind
