-- `writer::content::count_for`: what its goals need. Assumes nothing.
use mathlib.Core.Path.{sym, ◌∙◌}
use mathlib.Core.Logic.{inl, inr}
use Rattle.packet.proofs.Spans.{stands}
use Rattle.writer.proofs.Sizes.{counted}
use Rattle.writer.proofs.content.count_for.Goals as goal

pub returns-in-Fixed : goal.returns-in-Fixed
returns-in-Fixed c = let a = c.args in
    let s = sym (stands _ c.row_of-s.ensures).same in
    elim c.in-Fixed.is [
      | inl e ↦ counted a.c a.lent c.lay-l.result _ c.lay-l.ensures (s ∙ e)
      | inr e ↦ counted a.c a.lent c.lay-l.result _ c.lay-l.ensures (s ∙ e)
    ]

pub returns-in-Counted : goal.returns-in-Counted
returns-in-Counted c = let a = c.args in counted a.c a.lent c.lay-l.result _ c.lay-l.ensures (sym (stands _ c.row_of-s.ensures).same ∙ c.in-Counted.is)

pub returns-in-Raw : goal.returns-in-Raw
returns-in-Raw c = let a = c.args in counted a.c a.lent c.lay-l.result _ c.lay-l.ensures (sym (stands _ c.row_of-s.ensures).same ∙ c.in-Raw.is)
