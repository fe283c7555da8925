-- `shelf::line`: what its goals need. Assumes nothing.
use mathlib.Core.Path.{sym, ◌∙◌}
use borrow.Author.Tests.{not-true, not-false}
use Rattle.shelf.proofs.Answers.{line_34, line_35, line_10, line_0, same_words}
use mathlib.Core.Path.{ap}
use mathlib.Core.Bool.{not}
use Rattle.shelf.proofs.line.Goals as goal

pub returns-then-given-ne256 : goal.returns-then-given-ne256
returns-then-given-ne256 c = let all = line_34 c.args.given.now c.args.out.now c.if-given-ne256.true in record { answer = all.0; output = all.1 }

pub returns-then-not-is_right : goal.returns-then-not-is_right
returns-then-not-is_right c = let all = line_35 c.args.given.now c.args.out.now c.if-given-ne256.false (sym c.is_right.ensures ∙ not-true _ (ap not c.if-not-is_right.true)) in record { answer = all.0; output = all.1 }

pub returns-then-n-eq0 : goal.returns-then-n-eq0
returns-then-n-eq0 c = let a = c.args in
    let s = same_words a.given.now c.byte.result c.byte-2.result c.size_in.result _ c.byte.ensures c.byte-2.ensures c.size_in.ensures c.part.ensures a.out.now in let all = line_10 a.given.now a.out.now c.if-given-ne256.false (sym c.is_right.ensures ∙ not-false _ (ap not c.if-not-is_right.false)) c.record_line-n.result _ (c.record_line-n.ensures.length ∙ s.0) (c.record_line-n.ensures.output ∙ s.1) c.if-n-eq0.true in record { answer = all.0; output = all.1 }

pub returns : goal.returns
returns c = let a = c.args in
    let s = same_words a.given.now c.byte.result c.byte-2.result c.size_in.result _ c.byte.ensures c.byte-2.ensures c.size_in.ensures c.part.ensures a.out.now in let all = line_0 a.given.now a.out.now c.if-given-ne256.false (sym c.is_right.ensures ∙ not-false _ (ap not c.if-not-is_right.false)) c.record_line-n.result _ (c.record_line-n.ensures.length ∙ s.0) (c.record_line-n.ensures.output ∙ s.1) c.if-n-eq0.false in record { answer = all.0; output = all.1 }
