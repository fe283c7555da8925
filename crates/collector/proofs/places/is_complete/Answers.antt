-- `collector::places::is_complete`: what its goals need. Assumes nothing.
use mathlib.Core.Path.{sym, ap, ◌∙◌}
use Prim.Native.Nat.{ℕ, ◌-◌, ◌^◌}
use lib.Bits.{bit_and, and_mask}
use lib.Dec.{eqb}
use lib.Pow.{pow_pos}
use Rattle.collector.specs.Places.{complete}
use Rattle.collector.specs.Layout.{as_place}
use Rattle.collector.proofs.Marks.{total_over}
use Rattle.collector.proofs.NumberMarks.{length_marks, one_bit, all_marked}
use Rattle.collector.proofs.places.is_complete.Goals as goal

pub returns-then-p-gt63 : goal.returns-then-p-gt63
returns-then-p-gt63 c = let p = c.args.p in sym (total_over (as_place p) (length_marks 63 p.marks) c.if-p-gt63.true)

pub overflow_sub-all : goal.overflow_sub-all
overflow_sub-all c = let p = c.args.p in rw (one_bit p.total.0 c.if-p-gt63.false) (pow_pos p.total.0)

pub returns : goal.returns
unfolding complete
returns c = let p = c.args.p in
    let h = c.if-p-gt63.false in
    ap (λ (x : ℕ). eqb (bit_and p.marks (x - 1)) (x - 1)) (one_bit p.total.0 h)
    ∙ ap (λ (x : ℕ). eqb x (2 ^ p.total.0 - 1)) (and_mask p.marks p.total.0)
    ∙ sym (all_marked 63 p.marks p.total.0 h)
