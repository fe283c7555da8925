-- `writer::refusals::body_fine`: what its goals need. Assumes nothing.
use mathlib.Core.Path.{◌≡◌, sym, ap, ◌∙◌, subst}
use Prim.Native.Nat.{ℕ}
use native.Mathlib.Omega.{arith}
use Rattle.packet.proofs.Spans.{Listed, stands}
use Rattle.format.specs.Format.{fine, fill, times}
use Rattle.packet.specs.declared.Kind.{Kind}
use Rattle.packet.specs.Table.{row_of}
use Rattle.packet.specs.Content.{kind_for, count_for}
use Rattle.packet.specs.Reading.{has_entries}
use Rattle.packet.specs.InCode.{row_at}
use Rattle.packet.specs.Writing.{row_for}
use Rattle.packet.proofs.Good.{good}
use Rattle.writer.proofs.Rules.{class_of, rows_untested, entries_are}
use Rattle.writer.proofs.Shapes.{can_put_rows, have_fit_rows}
use Rattle.writer.proofs.Parted.{told}
use Rattle.writer.proofs.refusals.body_fine.Goals as goal

pub rows_fit-requires : goal.rows_fit-requires
rows_fit-requires c = let x = c.args in
    let f = c.kind_for-f.ensures in
    let w : Listed c.row_of-s.result.each (row_for x.c).each = subst (λ (f : Kind). Listed c.row_of-s.result.each (row_of f).each) f (stands _ c.row_of-s.ensures).rows in
    let z : c.row_of-s.result ≡ row_at (kind_for x.c) = c.row_of-s.ensures ∙ ap row_at f in
    let t = told (kind_for x.c) z in
    let r = t.each_numbers in
    let h = c.requires.1 (sym (c.has_entries.ensures ∙ ap has_entries f) ∙ c.if-has_entries.true) in
    let k = c.count_for-k.ensures in
    let g = good (kind_for x.c) in
    can_put_rows _ _ w _ _ _ _ (sym r) (omega (arith, r, g.entry)) (omega (arith, g.row)) (omega (arith, h.few, k)) (rw (k, r) h.numbers) (omega arith)

pub returns-then-has_entries : goal.returns-then-has_entries
returns-then-has_entries c = let x = c.args in
    let f = c.kind_for-f.ensures in
    let w : Listed c.row_of-s.result.each (row_for x.c).each = subst (λ (f : Kind). Listed c.row_of-s.result.each (row_of f).each) f (stands _ c.row_of-s.ensures).rows in
    let h = c.requires.1 (sym (c.has_entries.ensures ∙ ap has_entries f) ∙ c.if-has_entries.true) in
    let k : c.count_for-k.result ≡ count_for x.c x.body.now = c.count_for-k.ensures in
    c.rows_fit.ensures ∙ have_fit_rows _ _ w x.answer _ x.body.now ∙ ap (λ (n : ℕ). fine x.answer (times n (row_for x.c).each) (fill (times n (row_for x.c).each) x.body.now)) k ∙ entries_are x.answer x.c x.body.now h

pub returns-else-has_entries : goal.returns-else-has_entries
returns-else-has_entries c = let x = c.args in
    sym (rows_untested (class_of x.answer c.requires.0) x.c x.body.now (sym (c.has_entries.ensures ∙ ap has_entries c.kind_for-f.ensures) ∙ c.if-has_entries.false))
