-- `stories::tales::put_texts`: what its goals need. Assumes nothing.
use Rattle.stories.proofs.Texts.{Putting}
use Rattle.stories.proofs.tales.put_texts.Given as goal

abbrev pub invariant-loop-k : goal.invariant-loop-k
invariant-loop-k l = Putting l.p l.initial.out l.out l.to l.k
