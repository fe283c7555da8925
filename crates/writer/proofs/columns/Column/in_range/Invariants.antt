-- `writer::columns::Column::in_range`: what its goals need. Assumes nothing.
use mathlib.Core.Path.{◌≡◌}
use mathlib.Core.Bool.{true}
use Prim.Native.Nat.{ℕ, ◌+◌, ◌*◌}
use lib.ListN.{drop}
use Rattle.format.specs.Format.{inside}
use Rattle.laws.specs.Strips.{every}
use Rattle.writer.specs.Puts.{value_of}
use Rattle.writer.proofs.columns.Column.in_range.Given as goal

abbrev pub invariant-loop-r : goal.invariant-loop-r
invariant-loop-r l = every l.r (λ (k : ℕ). inside l.self.line.lo l.self.line.hi (value_of l.self.line (drop (l.self.first + k * l.self.numbers) l.xs))) ≡ true
