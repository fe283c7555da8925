-- `writer::columns::Column::put`: what its goals need. Assumes nothing.
use mathlib.Core.Path.{◌≡◌}
use Prim.Native.Nat.{ℕ, ◌+◌, ◌*◌}
use lib.ListN.{drop}
use Rattle.laws.specs.Bits.{bits, spread}
use Rattle.laws.specs.Strips.{strips}
use Rattle.writer.specs.Puts.{value_of}
use Rattle.writer.proofs.columns.Column.put.Given as goal

abbrev pub invariant-loop-r : goal.invariant-loop-r
invariant-loop-r l = bits l.out ≡ strips (bits l.initial.out) l.p l.s l.r (λ (k : ℕ). spread l.self.line.width (value_of l.self.line (drop (l.self.first + k * l.self.numbers) l.xs)))
