-- `air::put_frames`: what its goals need. Assumes nothing.
use Rattle.air.proofs.Stream.{Going}
use Rattle.air.proofs.put_frames.Given as goal

abbrev pub invariant-loop-number : goal.invariant-loop-number
invariant-loop-number l = Going l.packet l.level l.version l.initial.out l.total l.out (record { 0 = l.number })
