use mathlib.Core.Path.{sym, ap, ◌∙◌}
use borrow.Author.Tests.{eqb-true, eqb-false}
use Rattle.collector.specs.declared.Holdings.{Holdings}
use Rattle.collector.specs.Layout.{offer_gives, Outcome}
use Rattle.board.proofs.Hearing.{full_told, ready_again, ready_as_is}
use Rattle.board.proofs.offer_with_room.Goals as goal

pub returns-then-is_refused : goal.returns-then-is_refused
returns-then-is_refused c = let x = c.args in
    let full = eqb-true _ _ (sym (full_told x.c x.first) ∙ sym c.is_refused.ensures ∙ c.if-is_refused.true) in
    c.offer.ensures ∙ ap (λ (d : Holdings). offer_gives d x.frame.now) c.make_room-room.ensures ∙ sym (ready_again x.c x.frame.now (ap (λ (o : Outcome). o.answer) (sym c.requires) ∙ full))

pub returns : goal.returns
returns c = let x = c.args in
    let room = eqb-false _ _ (sym (full_told x.c x.first) ∙ sym c.is_refused.ensures ∙ c.if-is_refused.false) in
    c.requires ∙ sym (ready_as_is x.c x.frame.now (λ z. room (ap (λ (o : Outcome). o.answer) c.requires ∙ z)))
