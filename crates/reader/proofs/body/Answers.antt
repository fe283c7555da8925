-- `reader::body`: what its goals need. Assumes nothing.
use mathlib.Core.Path.{refl, sym, ◌∙◌}
use Rattle.packet.specs.Reading.{read_answer, body_of}
use Rattle.packet.proofs.Refused.{no_part}
use Rattle.refusal.proofs.Numbers.{some_number}
use Rattle.reader.proofs.Whole as whole
use Rattle.reader.proofs.body.Goals as goal

pub behind_lead-requires : goal.behind_lead-requires
behind_lead-requires c = let b = c.args.packet.now in
    let e = sym c.in-Ok.ensures in
    (whole.body_end b _ _ refl _ refl e c.bytes_count.ensures, whole.most b e)

pub returns-in-Ok : goal.returns-in-Ok
returns-in-Ok c = let b = c.args.packet.now in
    c.behind_lead.ensures ∙ whole.body_part b _ _ refl _ refl (sym c.in-Ok.ensures) c.bytes_count.ensures

pub returns-in-Err : goal.returns-in-Err
unfolding body_of
returns-in-Err c = let b = c.args.packet.now in
    let e = c.in-Err.ensures in
    sym (no_part (read_answer b) _ _ b (λ h. some_number c.in-Err.field-0 (e ∙ h)))
