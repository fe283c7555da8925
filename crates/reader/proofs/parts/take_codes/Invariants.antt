-- `reader::parts::take_codes`: what its goals need. Assumes nothing.
use mathlib.Core.Path.{◌≡◌}
use Prim.Native.Nat.{ℕ, ◌+◌, ◌*◌}
use Rattle.laws.specs.Bits.{bits, run}
use Rattle.laws.specs.Strips.{strips, every}
use Rattle.format.specs.Format.{inside}
use Rattle.reader.proofs.parts.take_codes.Given as goal

abbrev pub invariant-loop-j : goal.invariant-loop-j
invariant-loop-j l = (l.out ≡ strips l.initial.out 0 23 l.j (λ (x : ℕ). run (bits l.b) (28 + x * 96) 23 4))
    × (l.ones ≡ every l.j (λ (x : ℕ). inside 15 15 (run (bits l.b) (24 + x * 96) 1 4))) × (l.good ≡ every l.j (λ (x : ℕ). inside 0 9 (run (bits l.b) (28 + x * 96) 23 4)))
