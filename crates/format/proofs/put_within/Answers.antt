-- `format::put_within`: what its goals need. Assumes nothing.
use mathlib.Core.Path.{ap, ◌∙◌}
use Prim.Native.Nat.{ℕ}
use native.Mathlib.Omega.{arith}
use lib.ListN.{set}
use lib.Seq.{sets}
use Rattle.laws.specs.Bits.{at, bits, bits_of}
use Rattle.laws.proofs.Bits.{under_bits_of, length_bits_of}
use Rattle.format.proofs.Within.{field_put}
use Rattle.format.proofs.put_within.Goals as goal

pub returns : goal.returns
returns c = let a = c.args in
    let e = c.with_field-y.ensures ∙ ap (λ (x : ℕ). at (sets (bits_of 8 x) a.i (bits_of a.w a.v)) 0 8) c.byte-x.ensures in
    ap bits (c.put.ensures ∙ ap (λ (y : ℕ). set a.out.now a.k y) e) ∙ field_put a.out.now a.k a.i (bits_of a.w a.v) (under_bits_of a.w a.v) (omega (arith, length_bits_of a.w a.v, c.requires))
