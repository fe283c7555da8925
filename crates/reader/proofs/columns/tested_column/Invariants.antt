-- `reader::columns::tested_column`: what its goals need. Assumes nothing.
use mathlib.Core.Path.{◌≡◌}
use Prim.Native.Nat.{ℕ, ◌+◌, ◌*◌}
use Rattle.laws.specs.Bits.{bits, run}
use Rattle.laws.specs.Strips.{strips, every}
use Rattle.format.specs.Format.{inside}
use Rattle.reader.proofs.columns.tested_column.Given as goal

abbrev pub invariant-loop-j : goal.invariant-loop-j
invariant-loop-j l = (l.out ≡ strips l.initial.out l.i l.s.places l.j (λ (r : ℕ). run (bits l.b) (l.k * 8 + r * (l.s.bytes * 8)) 1 8)) × (l.good ≡ every l.j (λ (r : ℕ). inside l.lo l.hi (run (bits l.b) (l.k * 8 + r * (l.s.bytes * 8)) 1 8)))
