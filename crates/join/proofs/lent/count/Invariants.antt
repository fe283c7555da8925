use mathlib.Core.Path.{◌≡◌}
use Prim.Native.Nat.{◌+◌, ◌-◌, ◌≤◌}
use lib.ListN.{length}
use Rattle.story.specs.Joining.{lent}
use Rattle.join.proofs.Cuts.{onward}
use Rattle.join.proofs.lent.count.Given as goal

abbrev pub invariant-loop-i : goal.invariant-loop-i
invariant-loop-i l = (length (lent l.packets) ≡ l.m + length (onward l.packets l.m l.i)) × (l.i ≤ l.n) × (l.n ≡ length l.packets) × (l.m ≤ 10)

abbrev pub decreases-loop-i : goal.decreases-loop-i
decreases-loop-i l = l.n - l.i
