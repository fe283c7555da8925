use mathlib.Core.Path.{◌≡◌, refl, ap, ◌∙◌}
use native.Mathlib.Omega.{arith}
use lib.ListN.{length}
use Rattle.refusal.proofs.Numbers.{value_told}
use Rattle.packet.specs.Writing.{Written}
use Rattle.trips.proofs.Answers.{write_answer}
use Rattle.tell.proofs.Putting.{body_put_250, part_sent, part_done}
use borrow.Author.Rules.{rules}
use Rattle.tell.proofs.packets.put_part.Goals as goal

pub unwrap-requires : goal.unwrap-requires
unwrap-requires c = let x = c.args in
    let h = c.requires in
    let d : length x.story.digits ≡ 35 = search (rules, c.well_formed) in
    let lc : length x.story.certificate ≡ 12 = search (rules, c.well_formed) in
    let ls : length x.story.signature ≡ 64 = search (rules, c.well_formed) in
    value_told c.write.result
    (ap (λ (w : Written). w.answer) c.write.ensures.answer
    ∙ write_answer _ _ _ _
    ∙ part_sent x.story x.codes.now x.n x.k x.piece.now _ _ _ _ _ record { digits_long = d; certificate_long = lc; signature_long = ls } h c.fields_with-f.ensures c.number_after-d.ensures refl
    (body_put_250 _ _ x.n x.k x.piece.now c.put_head.ensures c.put_text.ensures (omega (arith, h.fits))))

pub returns : goal.returns
returns c = let x = c.args in
    let h = c.requires in
    let d : length x.story.digits ≡ 35 = search (rules, c.well_formed) in
    let lc : length x.story.certificate ≡ 12 = search (rules, c.well_formed) in
    let ls : length x.story.signature ≡ 64 = search (rules, c.well_formed) in
    part_done x.story x.codes.now x.n x.k x.piece.now x.out.now _ _ _ _ _ record { digits_long = d; certificate_long = lc; signature_long = ls } h c.fields_with-f.ensures c.number_after-d.ensures refl
    (body_put_250 _ _ x.n x.k x.piece.now c.put_head.ensures c.put_text.ensures (omega (arith, h.fits))) c.write.ensures.output
