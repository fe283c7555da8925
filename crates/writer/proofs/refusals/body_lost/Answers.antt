-- `writer::refusals::body_lost`: what its goals need. Assumes nothing.
use mathlib.Core.Path.{◌≡◌, sym, ap, ◌∙◌}
use mathlib.Core.Bool.{true≢false}
use Rattle.packet.specs.declared.Kind.{Kind}
use Rattle.packet.specs.declared.Counting.{Counting}
use Rattle.packet.specs.Table.{row_of}
use Rattle.packet.specs.Writing.{row_for, body_lost}
use Rattle.packet.proofs.Spans.{stands}
use Rattle.writer.proofs.Taken.{not_lost}
use Rattle.writer.proofs.refusals.body_lost.Goals as goal
use Rattle.writer.proofs.refusals.body_lost.Goals.{in-Fixed, in_default}

pub returns-then-matches : goal.returns-then-matches
returns-then-matches c = let a = c.args in
    let s : c.row_of-s.result.counting ≡ (row_for a.c).counting = (stands _ c.row_of-s.ensures).same ∙ ap (λ (f : Kind). (row_of f).counting) c.kind_for.ensures in
    elim c.match-matches.branch [
      | in-Fixed w ↦ sym (ap (λ (t : Counting). body_lost t a.lent) (sym s ∙ w.in-Fixed.is))
      | in_default w ↦ absurd (true≢false (sym c.if-matches.true ∙ w.matches-is))
    ]

pub returns-else-matches : goal.returns-else-matches
returns-else-matches c = let a = c.args in
    let s : c.row_of-s.result.counting ≡ (row_for a.c).counting = (stands _ c.row_of-s.ensures).same ∙ ap (λ (f : Kind). (row_of f).counting) c.kind_for.ensures in
    elim c.match-matches.branch [
      | in-Fixed w ↦ absurd (true≢false (sym w.matches-is ∙ c.if-matches.false))
      | in_default w ↦ c.if-matches.false ∙ not_lost _ a.lent w.in_default.not-Fixed ∙ ap (λ (t : Counting). body_lost t a.lent) s
    ]
