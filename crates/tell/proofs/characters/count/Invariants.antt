use mathlib.Core.Path.{◌≡◌}
use Prim.Native.Nat.{◌+◌, ◌-◌, ◌≤◌}
use lib.ListN.{length, drop}
use Rattle.tell.specs.Steps.{parts_from}
use Rattle.tell.proofs.characters.count.Given as goal

abbrev pub invariant-loop-i : goal.invariant-loop-i
invariant-loop-i l = (parts_from l.room l.room l.text + 1 ≡ l.parts + parts_from l.room l.left (drop l.i l.text)) × (l.i ≤ l.n) × (l.n ≡ length l.text) × (l.parts ≤ l.i + 1) × (l.left ≤ l.room)

abbrev pub decreases-loop-i : goal.decreases-loop-i
decreases-loop-i l = l.n - l.i
