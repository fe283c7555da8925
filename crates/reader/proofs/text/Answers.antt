-- `reader::text`: what its goals need. Assumes nothing.
use mathlib.Core.Path.{refl, sym, ◌∙◌}
use Rattle.packet.specs.Reading.{text_answer, text_of}
use Rattle.packet.proofs.Refused.{no_part}
use Rattle.refusal.proofs.Numbers.{some_number}
use Rattle.reader.proofs.Whole as whole
use Rattle.reader.proofs.text.Goals as goal

pub behind_lead-requires : goal.behind_lead-requires
behind_lead-requires c = let b = c.args.packet.now in
    let e = sym c.in-Ok.ensures in
    (whole.text_end b _ _ refl _ refl e c.text_length.ensures, whole.most b (whole.text_there b e).0)

pub returns-in-Ok : goal.returns-in-Ok
returns-in-Ok c = let b = c.args.packet.now in
    c.behind_lead.ensures ∙ whole.text_part b _ _ refl _ refl (sym c.in-Ok.ensures) c.text_length.ensures

pub returns-in-Err : goal.returns-in-Err
unfolding text_of
returns-in-Err c = let b = c.args.packet.now in
    let e = c.in-Err.ensures in
    sym (no_part (text_answer b) _ _ b (λ h. some_number c.in-Err.field-0 (e ∙ h)))
