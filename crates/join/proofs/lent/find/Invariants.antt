-- `join::lent::find`: what its goals need. Assumes nothing.
use mathlib.Core.Bool.{true}
use Rattle.story.specs.Joining.{is_part}
use Rattle.laws.specs.Scan.{all}
use mathlib.Core.Path.{◌≡◌}
use Prim.Native.Nat.{◌+◌, ◌-◌, ◌≤◌}
use lib.ListN.{length}
use Rattle.story.specs.Telling.{head_of}
use Rattle.story.specs.Joining.{lent, with_head}
use Rattle.join.proofs.Cuts.{onward}
use Rattle.join.proofs.lent.find.Given as goal

abbrev pub invariant-loop-i : goal.invariant-loop-i
invariant-loop-i l = (with_head (head_of (l.k + 1) l.n) (lent l.packets) ≡ with_head (head_of (l.k + 1) l.n) (onward l.packets l.m l.i)) × (l.i ≤ l.e) × (l.e ≡ length l.packets) × (l.m ≤ 10) × (all is_part (onward l.packets l.m l.i) ≡ true)

abbrev pub decreases-loop-i : goal.decreases-loop-i
decreases-loop-i l = l.e - l.i
