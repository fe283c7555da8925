-- `collector::places::with_mark`: what its goals need. Assumes nothing.
use mathlib.Core.Path.{ap, ◌∙◌}
use Prim.Native.Nat.{ℕ, ◌^◌}
use native.Mathlib.Omega.{arith}
use lib.Bits.{bit_or, or_lt}
use lib.Pow.{pow-lt}
use Rattle.collector.specs.Layout.{marks_of}
use Rattle.collector.proofs.NumberMarks.{mark_more, one_bit}
use Rattle.collector.proofs.places.with_mark.Goals as goal

pub returns : goal.returns
returns c = let a = c.args in
    let e = one_bit a.number.0 (omega (arith, c.requires.0)) in record {
      result_value = ap (λ (x : ℕ). marks_of (bit_or a.marks x)) e ∙ mark_more 63 a.marks a.number.0 c.requires.0;
      top = rw e (or_lt 63 a.marks (2 ^ a.number.0) c.requires.1 (pow-lt c.requires.0));
    }
