use native.Mathlib.Omega.{arith}
use Rattle.story.specs.Given.{Lengths}
use Rattle.tell.proofs.Parting.{going_first, going_far, going_send, going_turn, going_last, wide_of}
use borrow.Author.Rules.{rules}
use Rattle.tell.proofs.packets.put_all.Goals as goal

pub loop-k-init : goal.loop-k-init
loop-k-init c = going_first _ _ _ _ _ _ _ c.requires

pub put_part-requires : goal.put_part-requires
put_part-requires c = let x = c.args in
    let y : Lengths x.story = record { digits_long = search (rules, c.well_formed); certificate_long = search (rules, c.well_formed); signature_long = search (rules, c.well_formed) } in
    going_send _ _ _ _ _ _ _ _ _ _ _ y c.requires (wide_of _ _ _ _ _ _ _ y c.requires) c.loop-k.invariant (omega arith) _ c.part_end-e.ensures.0

pub overflow_add-p : goal.overflow_add-p
overflow_add-p c = let x = c.args in
    let y : Lengths x.story = record { digits_long = search (rules, c.well_formed); certificate_long = search (rules, c.well_formed); signature_long = search (rules, c.well_formed) } in
    omega (arith, going_far _ _ _ _ _ _ _ _ _ _ _ y c.requires (wide_of _ _ _ _ _ _ _ y c.requires) c.loop-k.invariant (omega arith) _ c.part_end-e.ensures.0 c.part_end-e.ensures.1, c.loop-k.invariant.kept)

pub overflow_add-p-in-loop-k : goal.overflow_add-p-in-loop-k
overflow_add-p-in-loop-k c = let x = c.args in
    let y : Lengths x.story = record { digits_long = search (rules, c.well_formed); certificate_long = search (rules, c.well_formed); signature_long = search (rules, c.well_formed) } in
    omega (arith, going_far _ _ _ _ _ _ _ _ _ _ _ y c.requires (wide_of _ _ _ _ _ _ _ y c.requires) c.loop-k.invariant (omega arith) _ c.part_end-e.ensures.0 c.part_end-e.ensures.1, c.loop-k.invariant.kept)

pub loop-k-preserved : goal.loop-k-preserved
loop-k-preserved c = let x = c.args in
    let y : Lengths x.story = record { digits_long = search (rules, c.well_formed); certificate_long = search (rules, c.well_formed); signature_long = search (rules, c.well_formed) } in
    going_turn _ _ _ _ _ _ _ _ _ _ _ y c.requires (wide_of _ _ _ _ _ _ _ y c.requires) c.loop-k.invariant (omega arith) _ _ c.part_end-e.ensures.0 c.part_end-e.ensures.1 c.put_part.ensures

pub returns : goal.returns
returns c = going_last _ _ _ _ _ _ _ _ _ _ c.loop-k.invariant (omega arith)
