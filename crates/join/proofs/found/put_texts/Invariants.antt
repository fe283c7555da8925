-- `join::found::put_texts`: what its goals need. Assumes nothing.
use Rattle.join.proofs.Stepping.{Putting}
use Rattle.story.specs.Joining.{lent}
use Rattle.join.proofs.found.put_texts.Given as goal

abbrev pub invariant-loop-k : goal.invariant-loop-k
invariant-loop-k l = Putting l.n (lent l.packets) l.initial.out l.out l.p l.k
