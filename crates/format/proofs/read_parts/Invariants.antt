-- `format::read_parts`: what its goals need. Assumes nothing.
use mathlib.Core.Path.{◌≡◌}
use Prim.Native.Nat.{◌≤◌, ◌-◌}
use Rattle.laws.specs.Bits.{at, bits}
use Rattle.format.proofs.read_parts.Given as goal

abbrev pub invariant-loop-j : goal.invariant-loop-j
invariant-loop-j l = (l.j ≤ l.w) × (l.x ≡ at (bits l.b) l.p l.j)

abbrev pub decreases-loop-j : goal.decreases-loop-j
decreases-loop-j l = l.w - l.j
