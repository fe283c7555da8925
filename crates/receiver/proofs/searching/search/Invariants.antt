use Prim.Native.Nat.{◌-◌}
use Rattle.receiver.proofs.Onward.{Going}
use Rattle.receiver.proofs.searching.search.Given as goal

abbrev pub invariant-loop-from : goal.invariant-loop-from
invariant-loop-from l = Going l.b l.end l.behind l.start l.initial.out l.out l.initial.counts l.counts l.from l.frames l.follows

abbrev pub decreases-loop-from : goal.decreases-loop-from
decreases-loop-from l = l.end - l.from
