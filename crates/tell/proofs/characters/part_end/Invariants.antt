use mathlib.Core.Path.{◌≡◌}
use Prim.Native.Nat.{◌+◌, ◌-◌, ◌≤◌}
use lib.ListN.{length, drop}
use Rattle.tell.specs.Steps.{first_size}
use Rattle.tell.proofs.characters.part_end.Given as goal

abbrev pub invariant-loop-i : goal.invariant-loop-i
invariant-loop-i l = (l.from + first_size l.room l.room (drop l.from l.text) ≡ l.i + first_size l.room l.left (drop l.i l.text)) × (l.i ≤ l.n) × (l.n ≡ length l.text)

abbrev pub decreases-loop-i : goal.decreases-loop-i
decreases-loop-i l = l.n - l.i
