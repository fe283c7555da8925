-- `join::found::in_step`: what its goals need. Assumes nothing.
use Rattle.join.proofs.Stepping.{left}
use Rattle.story.specs.Joining.{lent, found, in_step, all_in_step}
use mathlib.Core.Path.{◌≡◌}
use Rattle.join.proofs.found.in_step.Given as goal

abbrev pub invariant-loop-k : goal.invariant-loop-k
invariant-loop-k l = all_in_step (found l.n (lent l.packets) 0 l.n) ≡ in_step l.first l.k (left l.n (lent l.packets) l.k)
