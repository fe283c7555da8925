-- `shelf::summarize`: what its goals need. Assumes nothing.
use mathlib.Core.Path.{sym, ◌∙◌}
use Rattle.shelf.proofs.Answers.{sum_shelf, sum_summary, sum_wrong, sum_done}
use Rattle.shelf.proofs.Rules.{at_most}
use Rattle.shelf.proofs.Entries.{from_none}
use Rattle.shelf.proofs.summarize.Goals as goal
use Rattle.shelf.proofs.summarize.Goals.{then-not-is_whole-via-then-not-is_whole, then-not-is_whole-via-else-not-is_whole+then-summary-ne256}

pub returns-then-not-is_whole : goal.returns-then-not-is_whole
returns-then-not-is_whole c =
    elim c.then-not-is_whole.branch [
      | then-not-is_whole-via-then-not-is_whole w ↦ let all = sum_shelf c.args.shelf.now c.args.summary.now (sym c.is_whole.ensures ∙ w.if-not-is_whole.true) in record { answer = all.0; output = all.1 }
      | then-not-is_whole-via-else-not-is_whole+then-summary-ne256 w ↦ let all = sum_summary c.args.shelf.now c.args.summary.now (sym c.is_whole.ensures ∙ w.if-not-is_whole.false) w.if-summary-ne256.true in record { answer = all.0; output = all.1 }
    ]

pub returns-then-not-are_right : goal.returns-then-not-are_right
returns-then-not-are_right c = let all = sum_wrong c.args.shelf.now c.args.summary.now (sym c.is_whole.ensures ∙ c.if-not-is_whole.false) c.if-summary-ne256.false (sym c.are_right.ensures ∙ c.if-not-are_right.true) in record { answer = all.0; output = all.1 }

pub count-requires : goal.count-requires
count-requires c = (c.clear.ensures ∙ from_none c.args.shelf.now, at_most c.args.shelf.now (sym c.is_whole.ensures ∙ c.if-not-is_whole.false))

pub returns : goal.returns
returns c = let all = sum_done c.args.shelf.now c.args.summary.now (sym c.is_whole.ensures ∙ c.if-not-is_whole.false) c.if-summary-ne256.false (sym c.are_right.ensures ∙ c.if-not-are_right.false) _ c.count.ensures in record { answer = all.0; output = all.1 }
