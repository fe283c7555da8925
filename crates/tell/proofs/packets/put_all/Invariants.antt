use Rattle.tell.proofs.Parting.{Going}
use Rattle.tell.proofs.packets.put_all.Given as goal

abbrev pub invariant-loop-k : goal.invariant-loop-k
invariant-loop-k l = Going l.story l.codes l.text l.parts.count l.parts.room l.initial.out l.out l.k l.i l.p
