-- `board::take_whole`: what its goals need. Assumes nothing.
use mathlib.Core.Path.{sym, ap, ◌∙◌}
use Rattle.std.specs.Prelude.{Result}
use Rattle.refusal.specs.declared.Refusal.{Refusal}
use Rattle.refusal.proofs.Numbers.{value_told}
use Rattle.frame.specs.declared.Heading.{Heading}
use Rattle.frame.specs.Heading.{Headed, told}
use Rattle.collector.specs.Layout.{left_by, Outcome}
use Rattle.stories.specs.Tales.{zeros}
use Rattle.board.specs.Board.{ready_for}
use Rattle.board.proofs.Hearing.{heading_is, heading_read, taken_or, packet_copied, whole_output, whole_heard_lem}
use Rattle.board.proofs.take_whole.Goals as goal

pub unwrap-h-requires : goal.unwrap-h-requires
unwrap-h-requires c = let x = c.args in
    value_told c.heading_of.result
    (ap (λ (y : Headed). y.answer) c.heading_of.ensures ∙ heading_read (ready_for x.board.collector x.frame.now) x.frame.now (ap (λ (y : Outcome). y.answer) (sym c.requires.0) ∙ c.requires.1))

pub returns : goal.returns
unfolding zeros
returns c = let x = c.args in
    let f = x.frame.now in
    let e = c.requires.0 in
    let h = c.unwrap-h.result in
    let eh = ap (λ (r : Result Heading Refusal). (told r).heading) (sym c.unwrap-h.ensures) ∙ ap (λ (y : Headed). y.heading) c.heading_of.ensures ∙ heading_is (ready_for x.board.collector f) f (ap (λ (y : Outcome). y.answer) (sym e) ∙ c.requires.1) in
    let p = c.part.result.now in
    let ep = packet_copied x.offered.collector h.level h.version c.copy.result c.unwrap_or-n.result _ p c.copy.ensures.value c.unwrap_or-n.ensures c.copy.ensures.bytes c.part.ensures in record {
      answer = whole_heard_lem x.board f x.out.now (left_by x.offered) e h eh p ep c.take_in-shown.result c.unwrap_or-d.result c.level_with.result c.take_in-shown.ensures.answer (c.unwrap_or-d.ensures ∙ taken_or c.release.result x.offered.collector ∙ ap (λ (y : Outcome). y.collector) c.release.ensures) c.level_with.ensures;
      output = c.take_in-shown.ensures.output ∙ whole_output x.board f x.out.now (left_by x.offered) e h eh p ep;
    }
