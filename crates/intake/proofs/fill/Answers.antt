-- What one more read gives stands behind what came before it.
use Rattle.std.proofs.Common.{◌≡◌, ℕ, ◌+◌, List, ◌++◌, take, drop, sym, ap, ◌∙◌, subst}
use lib.Seq.{take-add}
use Rattle.std.specs.Io.KnownBytes.{Consumes}
use Rattle.std.proofs.KnownBytes.{Consumes-trans}
use Rattle.intake.proofs.fill.Goals as goal

grown : (k n : ℕ) (old new : List ℕ) → take k new ≡ take k old → take k old ++ take n (drop k new) ≡ take (k + n) new
grown k n old new front = ap (λ l. l ++ take n (drop k new)) (sym front) ∙ sym (take-add k n new)

pub loop-done-preserved : goal.loop-done-preserved
loop-done-preserved g c = (
  c.in_ok-n.ensures.within,
  subst (Consumes _ _) (grown c.loop-done.done c.in_ok-n.n c.loop-done.piece c.more.new.piece c.in_ok-n.ensures.front)
      (Consumes-trans _ _ _ _ _ c.loop-done.invariant.1 c.in_ok-n.ensures.bytes),
)
