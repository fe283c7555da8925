-- `writer::refusals::counts_bad`: what its goals need. Assumes nothing.
use mathlib.Core.Path.{◌≡◌, sym, ap, ◌∙◌}
use mathlib.Core.Bool.{◌&&◌, not}
use Prim.Native.Nat.{◌*◌}
use native.Mathlib.Omega.{arith}
use lib.Dec.{leb, eqb}
use lib.ListN.{length}
use borrow.Author.Tests.{lt-leb, lt-ltb, le-leb}
use Rattle.laws.proofs.Cases.{and_yes, and_no, or_yes, or_no}
use Rattle.packet.specs.Writing.{count_bad}
use Rattle.writer.proofs.refusals.counts_bad.Goals as goal
use Rattle.writer.proofs.refusals.counts_bad.Goals.{then-f-gt255, else-f-gt255}

pub returns-then-codes-f : goal.returns-then-codes-f
unfolding count_bad
returns-then-codes-f c = let a = c.args in
    let v : c.if-f-gt255.value ≡ not (leb a.f.codes 255 && eqb (length a.codes.now) (a.f.codes * 23)) =
    elim c.if-f-gt255.branch [
      | then-f-gt255 w ↦ w.value-is ∙ lt-ltb _ _ w.if-f-gt255.true ∙ sym (ap not (and_no _ (lt-leb _ _ w.if-f-gt255.true)))
      | else-f-gt255 w ↦ w.value-is ∙ sym (ap not (and_yes _ (le-leb _ _ (omega (arith, w.if-f-gt255.false)))))
    ] in
    c.if-codes-f.true ∙ sym (or_yes _ (sym v ∙ c.if-codes-f.true))

pub returns-else-codes-f : goal.returns-else-codes-f
unfolding count_bad
returns-else-codes-f c = let a = c.args in
    let v : c.if-f-gt255.value ≡ not (leb a.f.codes 255 && eqb (length a.codes.now) (a.f.codes * 23)) =
    elim c.if-f-gt255.branch [
      | then-f-gt255 w ↦ w.value-is ∙ lt-ltb _ _ w.if-f-gt255.true ∙ sym (ap not (and_no _ (lt-leb _ _ w.if-f-gt255.true)))
      | else-f-gt255 w ↦ w.value-is ∙ sym (ap not (and_yes _ (le-leb _ _ (omega (arith, w.if-f-gt255.false)))))
    ] in
    c.lent_bad.ensures ∙ sym (or_no _ (sym v ∙ c.if-codes-f.false))
