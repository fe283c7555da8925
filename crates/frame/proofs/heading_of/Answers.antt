-- `frame::heading_of`: what its goals need: each way out has its law in Fields. Assumes nothing.
use mathlib.Core.Path.{◌∙◌}
use mathlib.Core.Logic.{⊎_elim}
use native.Mathlib.Omega.{arith}
use Rattle.frame.proofs.Fields.{says_26, says_12, says_13, says_14, says_0, reserved_low, reserved_high}
use Rattle.frame.proofs.heading_of.Goals as goal
use Rattle.frame.proofs.heading_of.Goals.{then-frame-via-then-frame, then-frame-via-else-frame+then-frame-ne0}

pub returns-then-frame-ne8 : goal.returns-then-frame-ne8
returns-then-frame-ne8 c = says_26 _ (λ i. (c.type_inv.frame i).fits) c.if-frame-ne8.true

pub returns-then-frame : goal.returns-then-frame
returns-then-frame c =
    elim c.then-frame.branch [
      | then-frame-via-then-frame w ↦ says_12 _ (λ i. (c.type_inv.frame i).fits) c.if-frame-ne8.false (λ e. w.if-frame.true e.0)
      | then-frame-via-else-frame+then-frame-ne0 w ↦ says_12 _ (λ i. (c.type_inv.frame i).fits) c.if-frame-ne8.false (λ e. w.if-frame-ne0.true e.1)
    ]

pub returns-then-level-eq0 : goal.returns-then-level-eq0
returns-then-level-eq0 c =
    says_13 _ (λ i. (c.type_inv.frame i).fits) c.if-frame-ne8.false c.if-frame.false c.if-frame-ne0.false
    (⊎_elim (λ z. reserved_low _ z) (λ n. reserved_high _ (omega (arith, n.1))) c.then-level-eq0.either)

pub returns-then-total-number : goal.returns-then-total-number
returns-then-total-number c = says_14 _ (λ i. (c.type_inv.frame i).fits) c.if-frame-ne8.false c.if-frame.false c.if-frame-ne0.false c.if-level-eq0.false c.if-level-eq7.false c.if-total-number.true

pub returns : goal.returns
returns c = says_0 _ (λ i. (c.type_inv.frame i).fits) c.if-frame-ne8.false c.if-frame.false c.if-frame-ne0.false c.if-level-eq0.false c.if-level-eq7.false c.if-total-number.false
