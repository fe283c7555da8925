-- `writer::refusals::nothing_lost`: what its goals need. Assumes nothing.
use mathlib.Core.Path.{◌≡◌, sym, ap, ◌∙◌}
use mathlib.Core.Bool.{◌&&◌, not}
use lib.Dec.{eqb}
use lib.ListN.{length}
use borrow.Author.Tests.{eq-eqb, ne_eqb}
use Rattle.laws.proofs.Cases.{and_yes, and_no}
use Rattle.packet.specs.Table.{kind_of, type_of}
use Rattle.packet.specs.Content.{kind_for}
use Rattle.packet.specs.Writing.{row_for, body_lost, digits_lost}
use Rattle.writer.proofs.Taken.{then_both, else_none, none_lost}
use Rattle.writer.proofs.refusals.nothing_lost.Goals as goal
use Rattle.writer.proofs.refusals.nothing_lost.Goals.{then-type_of, else-type_of, then-not-body_lost, else-not-body_lost}

pub returns-then-digits_kept : goal.returns-then-digits_kept
returns-then-digits_kept c = let f = c.args.f in
    let t = c.type_of.ensures ∙ ap type_of c.kind_of.ensures in
    let u = c.type_of-2.ensures ∙ ap type_of c.kind_for.ensures in
    let T = eqb (type_of (kind_of f.typenumber)) (type_of (kind_for f.content)) in
    let B = not (body_lost (row_for f.content).counting (length c.args.body.now)) in
    let v : c.if-type_of.value ≡ (T && B) =
    elim c.if-type_of.branch [
      | then-type_of w ↦ then_both w.value-is (ap not w.body_lost.ensures) (eq-eqb _ _ (sym t ∙ w.if-type_of.true ∙ u))
      | else-type_of w ↦ else_none _ (w.value-is ∙ ne_eqb _ _ w.if-type_of.false) (ne_eqb _ _ (λ q. w.if-type_of.false (t ∙ q ∙ sym u)))
    ] in
    let x : c.if-not-body_lost.value ≡ ((T && B) && not (digits_lost f.content f.digits)) =
    elim c.if-not-body_lost.branch [
      | then-not-body_lost w ↦ then_both w.value-is w.digits_kept.ensures (sym v ∙ w.if-not-body_lost.true)
      | else-not-body_lost w ↦ else_none _ (w.value-is ∙ w.if-not-body_lost.false) (sym v ∙ w.if-not-body_lost.false)
    ] in
    ap not c.codes_lost.ensures ∙ sym (none_lost f c.args.body.now ∙ and_yes _ (sym x ∙ c.if-digits_kept.true))

pub returns-else-digits_kept : goal.returns-else-digits_kept
returns-else-digits_kept c = let f = c.args.f in
    let t = c.type_of.ensures ∙ ap type_of c.kind_of.ensures in
    let u = c.type_of-2.ensures ∙ ap type_of c.kind_for.ensures in
    let T = eqb (type_of (kind_of f.typenumber)) (type_of (kind_for f.content)) in
    let B = not (body_lost (row_for f.content).counting (length c.args.body.now)) in
    let v : c.if-type_of.value ≡ (T && B) =
    elim c.if-type_of.branch [
      | then-type_of w ↦ then_both w.value-is (ap not w.body_lost.ensures) (eq-eqb _ _ (sym t ∙ w.if-type_of.true ∙ u))
      | else-type_of w ↦ else_none _ (w.value-is ∙ ne_eqb _ _ w.if-type_of.false) (ne_eqb _ _ (λ q. w.if-type_of.false (t ∙ q ∙ sym u)))
    ] in
    let x : c.if-not-body_lost.value ≡ ((T && B) && not (digits_lost f.content f.digits)) =
    elim c.if-not-body_lost.branch [
      | then-not-body_lost w ↦ then_both w.value-is w.digits_kept.ensures (sym v ∙ w.if-not-body_lost.true)
      | else-not-body_lost w ↦ else_none _ (w.value-is ∙ w.if-not-body_lost.false) (sym v ∙ w.if-not-body_lost.false)
    ] in
    c.if-digits_kept.false ∙ sym (none_lost f c.args.body.now ∙ and_no _ (sym x ∙ c.if-digits_kept.false))
