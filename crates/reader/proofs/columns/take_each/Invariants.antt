-- `reader::columns::take_each`: what its goals need. Assumes nothing.
use mathlib.Core.Path.{◌≡◌}
use lib.Seq.{sets}
use Rattle.laws.specs.Bits.{run, bits}
use Rattle.format.specs.Format.{inside}
use Rattle.reader.proofs.columns.take_each.Given as goal

abbrev pub invariant-loop-j : goal.invariant-loop-j
invariant-loop-j l = (l.out ≡ sets l.initial.out l.i (run (bits l.b) l.p l.j l.t.width)) × (l.good ≡ inside l.t.lo l.t.hi (run (bits l.b) l.p l.j l.t.width))
