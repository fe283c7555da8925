-- `reader::columns::copy_column`: what its goals need. Assumes nothing.
use mathlib.Core.Path.{◌≡◌}
use Prim.Native.Nat.{ℕ, ◌+◌, ◌*◌}
use Rattle.laws.specs.Bits.{bits, run}
use Rattle.laws.specs.Strips.{strips}
use Rattle.reader.proofs.columns.copy_column.Given as goal

abbrev pub invariant-loop-j : goal.invariant-loop-j
invariant-loop-j l = l.out ≡ strips l.initial.out l.i l.s.places l.j (λ (r : ℕ). run (bits l.b) (l.k * 8 + r * (l.s.bytes * 8)) 1 8)
