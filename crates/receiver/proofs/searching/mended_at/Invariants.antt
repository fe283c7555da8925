-- `receiver::searching::mended_at`: what its goals need: each turn mends one block more. Assumes nothing.
use Rattle.receiver.proofs.Blocks.{Mends}
use Rattle.receiver.proofs.searching.mended_at.Given as goal

abbrev pub invariant-loop-k : goal.invariant-loop-k
invariant-loop-k l = Mends l.x l.y l.k l.words l.changed
