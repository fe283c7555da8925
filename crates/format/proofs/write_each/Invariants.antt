-- `format::write_each`: what its goals need. Assumes nothing.
use mathlib.Core.Path.{◌≡◌}
use lib.ListN.{take}
use lib.Seq.{sets}
use Rattle.laws.specs.Bits.{bits, spread}
use Rattle.format.proofs.write_each.Given as goal

abbrev pub invariant-loop-j : goal.invariant-loop-j
invariant-loop-j l = bits l.out ≡ sets (bits l.initial.out) l.p (spread l.w (take l.j l.d))
