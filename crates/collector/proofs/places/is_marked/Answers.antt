-- `collector::places::is_marked`: what its goals need. Assumes nothing.
use mathlib.Core.Path.{sym, ap, ◌∙◌}
use Prim.Native.Nat.{ℕ, ◌/◌, ◌^◌}
use lib.Bits.{and_mask}
use lib.Dec.{eqb}
use Rattle.collector.proofs.NumberMarks.{mark_is_bit}
use Rattle.collector.proofs.places.is_marked.Goals as goal

pub returns : goal.returns
returns c = let a = c.args in
    ap (λ (x : ℕ). eqb x 1) (and_mask (a.marks / 2 ^ a.number.0) 1) ∙ sym (mark_is_bit 63 a.marks a.number.0 c.requires)
