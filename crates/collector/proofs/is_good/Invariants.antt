-- `collector::is_good`: what its goals need. The loop's invariant: what the places left say is what all say. Assumes nothing.
use Rattle.std.proofs.Common.{◌≡◌, true, map, drop}
use Rattle.collector.specs.Collector.{good}
use Rattle.collector.specs.Layout.{tops_clear, as_place, as_collector}
use Rattle.collector.proofs.is_good.Given as goal

abbrev pub invariant-loop-i : goal.invariant-loop-i
invariant-loop-i l = (tops_clear l.fn.c ≡ true) × (good (as_collector l.fn.c).places ≡ good (map as_place (drop l.i l.fn.c.places)))
