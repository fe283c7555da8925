-- `shelf::add`: what its goals need. Assumes nothing.
use mathlib.Core.Path.{sym, ◌∙◌}
use native.Mathlib.Omega.{arith}
use Rattle.shelf.proofs.Answers.{add_shelf, add_record, add_summary, add_wrong, add_wrong_record, add_full, add_done}
use Rattle.shelf.proofs.Rules.{at_most}
use Rattle.shelf.proofs.add.Goals as goal
use Rattle.shelf.proofs.add.Goals.{then-not-is_whole-via-then-not-is_whole, then-not-is_whole-via-else-not-is_whole+then-given-ne256, then-not-is_whole-via-else-not-is_whole+else-given-ne256+then-summary-ne256, then-not-are_right-via-then-not-are_right, then-not-are_right-via-else-not-are_right+then-not-is_right}

pub returns-then-not-is_whole : goal.returns-then-not-is_whole
returns-then-not-is_whole c =
    elim c.then-not-is_whole.branch [
      | then-not-is_whole-via-then-not-is_whole w ↦ let all = add_shelf c.args.shelf.now c.args.given.now c.args.summary.now (sym c.is_whole.ensures ∙ w.if-not-is_whole.true) in record { answer = all.0; output = all.1 }
      | then-not-is_whole-via-else-not-is_whole+then-given-ne256 w ↦ let all = add_record c.args.shelf.now c.args.given.now c.args.summary.now (sym c.is_whole.ensures ∙ w.if-not-is_whole.false) w.if-given-ne256.true in record { answer = all.0; output = all.1 }
      | then-not-is_whole-via-else-not-is_whole+else-given-ne256+then-summary-ne256 w ↦ let all = add_summary c.args.shelf.now c.args.given.now c.args.summary.now (sym c.is_whole.ensures ∙ w.if-not-is_whole.false) w.if-given-ne256.false w.if-summary-ne256.true in record { answer = all.0; output = all.1 }
    ]

pub returns-then-not-are_right : goal.returns-then-not-are_right
returns-then-not-are_right c =
    let whole = sym c.is_whole.ensures ∙ c.if-not-is_whole.false in
    elim c.then-not-are_right.branch [
      | then-not-are_right-via-then-not-are_right w ↦ let all = add_wrong c.args.shelf.now c.args.given.now c.args.summary.now whole c.if-given-ne256.false c.if-summary-ne256.false (sym c.are_right.ensures ∙ w.if-not-are_right.true) in record { answer = all.0; output = all.1 }
      | then-not-are_right-via-else-not-are_right+then-not-is_right w ↦ let all = add_wrong_record c.args.shelf.now c.args.given.now c.args.summary.now whole c.if-given-ne256.false c.if-summary-ne256.false (sym c.are_right.ensures ∙ w.if-not-are_right.false) (sym w.is_right.ensures ∙ w.if-not-is_right.true) in record { answer = all.0; output = all.1 }
    ]

pub returns-then-number-eq4096 : goal.returns-then-number-eq4096
returns-then-number-eq4096 c = let all = add_full c.args.shelf.now c.args.given.now c.args.summary.now (sym c.is_whole.ensures ∙ c.if-not-is_whole.false) c.if-given-ne256.false c.if-summary-ne256.false (sym c.are_right.ensures ∙ c.if-not-are_right.false) (sym c.is_right.ensures ∙ c.if-not-is_right.false) c.if-number-eq4096.true in record { answer = all.0; output = all.1 }

pub overflow_cast-number : goal.overflow_cast-number
overflow_cast-number c = omega (arith, at_most c.args.shelf.now (sym c.is_whole.ensures ∙ c.if-not-is_whole.false))

pub returns : goal.returns
returns c = let all = add_done c.args.shelf.now c.args.given.now c.args.summary.now (sym c.is_whole.ensures ∙ c.if-not-is_whole.false) c.if-given-ne256.false c.if-summary-ne256.false (sym c.are_right.ensures ∙ c.if-not-are_right.false) (sym c.is_right.ensures ∙ c.if-not-is_right.false) c.if-number-eq4096.false c.type_in.result c.type_in.ensures.0 _ c.note.ensures in record { answer = all.0; output = all.1 }
