use Rattle.receiver.specs.Search.{Further}
use Prim.Native.Nat.{◌-◌}
use Rattle.receiver.proofs.places.open_from.Given as goal

abbrev pub invariant-loop-p : goal.invariant-loop-p
invariant-loop-p l = Further l.b l.end l.from l.last l.p

abbrev pub decreases-loop-p : goal.decreases-loop-p
decreases-loop-p l = l.last - l.p
