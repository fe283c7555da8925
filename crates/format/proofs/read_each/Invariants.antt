-- `format::read_each`: what its goals need. Assumes nothing.
use mathlib.Core.Path.{◌≡◌}
use lib.Seq.{sets}
use Rattle.laws.specs.Bits.{bits, run}
use Rattle.format.proofs.read_each.Given as goal

abbrev pub invariant-loop-j : goal.invariant-loop-j
invariant-loop-j l = l.out ≡ sets l.initial.out l.to (run (bits l.b) l.p l.j l.w)
