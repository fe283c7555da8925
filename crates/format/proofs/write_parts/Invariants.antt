-- `format::write_parts`: what its goals need. Assumes nothing.
use mathlib.Core.Path.{◌≡◌}
use Prim.Native.Nat.{◌≤◌, ◌-◌, ◌+◌}
use lib.ListN.{length, drop}
use lib.Seq.{sets}
use Rattle.laws.specs.Bits.{bits, bits_of}
use Rattle.format.proofs.write_parts.Given as goal

abbrev pub invariant-loop-j : goal.invariant-loop-j
invariant-loop-j l = (l.j ≤ l.w) × (length l.out ≡ length l.initial.out) × (sets (bits l.initial.out) l.p (bits_of l.w l.x) ≡ sets (bits l.out) (l.p + l.j) (drop l.j (bits_of l.w l.x)))

abbrev pub decreases-loop-j : goal.decreases-loop-j
decreases-loop-j l = l.w - l.j
