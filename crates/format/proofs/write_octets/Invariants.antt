-- `format::write_octets`: what its goals need. Assumes nothing.
use mathlib.Core.Path.{◌≡◌}
use Prim.Native.Nat.{◌*◌}
use lib.ListN.{length, take}
use lib.Seq.{sets}
use Rattle.laws.specs.Bits.{bits, spread}
use Rattle.format.proofs.write_octets.Given as goal

abbrev pub invariant-loop-j : goal.invariant-loop-j
invariant-loop-j l = (length l.out ≡ length l.initial.out) × (bits l.out ≡ sets (bits l.initial.out) (l.k * 8) (spread 8 (take l.j l.d)))
