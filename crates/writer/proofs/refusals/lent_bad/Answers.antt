-- `writer::refusals::lent_bad`: what its goals need. Assumes nothing.
use mathlib.Core.Path.{◌≡◌, sym, ap, ◌∙◌}
use mathlib.Core.Bool.{true≢false}
use Rattle.packet.proofs.Spans.{stands}
use Rattle.packet.specs.declared.Kind.{Kind}
use Rattle.packet.specs.Table.{row_of}
use Rattle.packet.specs.Reading.{sizes_of}
use Rattle.packet.specs.Writing.{row_for}
use Rattle.writer.proofs.Sizes.{row_few, bad_by}
use Rattle.writer.proofs.Taken.{not_counted}
use Rattle.writer.proofs.refusals.lent_bad.Goals as goal
use Rattle.writer.proofs.refusals.lent_bad.Goals.{in-Counted, in_default}

pub rows_bad-requires : goal.rows_bad-requires
rows_bad-requires c = row_few c.args.c _ (c.sizes_of-z.ensures ∙ ap sizes_of c.kind_for-f.ensures)

pub returns-then-matches : goal.returns-then-matches
returns-then-matches c = let a = c.args in
    let s : (row_for a.c).counting ≡ c.row_of-s.result.counting = sym ((stands _ c.row_of-s.ensures).same ∙ ap (λ (f : Kind). (row_of f).counting) c.kind_for-f.ensures) in
    elim c.match-matches.branch [
      | in-Counted w ↦ bad_by a.c _ (c.sizes_of-z.ensures ∙ ap sizes_of c.kind_for-f.ensures) _ a.lent c.count_for-k.ensures _ _ (s ∙ w.in-Counted.is) c.rows_bad.ensures
      | in_default w ↦ absurd (true≢false (sym c.if-matches.true ∙ w.matches-is))
    ]

pub returns-else-matches : goal.returns-else-matches
returns-else-matches c = let a = c.args in
    let s : (row_for a.c).counting ≡ c.row_of-s.result.counting = sym ((stands _ c.row_of-s.ensures).same ∙ ap (λ (f : Kind). (row_of f).counting) c.kind_for-f.ensures) in
    elim c.match-matches.branch [
      | in-Counted w ↦ absurd (true≢false (sym w.matches-is ∙ c.if-matches.false))
      | in_default w ↦ bad_by a.c _ (c.sizes_of-z.ensures ∙ ap sizes_of c.kind_for-f.ensures) _ a.lent c.count_for-k.ensures _ _ s (c.if-matches.false ∙ not_counted _ _ _ a.lent w.in_default.not-Counted)
    ]
