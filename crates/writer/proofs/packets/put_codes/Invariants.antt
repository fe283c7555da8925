-- `writer::packets::put_codes`: what its goals need. Assumes nothing.
use mathlib.Core.Path.{◌≡◌}
use Prim.Native.Nat.{ℕ, ◌*◌}
use lib.ListN.{drop}
use Rattle.laws.specs.Bits.{bits}
use Rattle.laws.specs.Strips.{strips}
use Rattle.writer.specs.Parts.{code_bits}
use Rattle.writer.proofs.packets.put_codes.Given as goal

abbrev pub invariant-loop-j : goal.invariant-loop-j
invariant-loop-j l = bits l.out ≡ strips (bits l.initial.out) 24 96 l.j (λ (r : ℕ). code_bits (drop (r * 23) l.codes))
