-- `receiver::searching::frame_at`: what its goals need: two blocks and two. Assumes nothing.
use mathlib.Core.Path.{refl, sym, ◌∙◌}
use borrow.Author.Tests.{not-true, not-false}
use Rattle.receiver.proofs.Onward.{stop_first, stop_second, all_four}
use mathlib.Core.Path.{ap}
use mathlib.Core.Bool.{not}
use Rattle.receiver.proofs.searching.frame_at.Goals as goal

pub returns-then-not-both_pass : goal.returns-then-not-both_pass
returns-then-not-both_pass c = let e = c in
    (stop_first e.args.b.now e.args.end e.args.from c.window-x.result _ e.requires.0 e.requires.1 c.window-x.ensures refl (sym c.both_pass.ensures ∙ not-true _ (ap not c.if-not-both_pass.true)))

pub returns-then-not-both_pass-2 : goal.returns-then-not-both_pass-2
returns-then-not-both_pass-2 c = let e = c in
    (stop_second e.args.b.now e.args.end e.args.from c.window-x.result c.window-y.result e.requires.0 e.requires.1 c.window-x.ensures c.window-y.ensures (sym c.both_pass.ensures ∙ not-false _ (ap not c.if-not-both_pass.false)) (sym c.both_pass-2.ensures ∙ not-true _ (ap not c.if-not-both_pass-2.true)))

pub returns : goal.returns
returns c = let e = c in
    all_four e.args.b.now e.args.end e.args.from c.window-x.result c.window-y.result e.requires.0 e.requires.1 c.window-x.ensures c.window-y.ensures (sym c.both_pass.ensures ∙ not-false _ (ap not c.if-not-both_pass.false)) c.words_of.result c.words_of.ensures (sym c.both_pass-2.ensures ∙ not-false _ (ap not c.if-not-both_pass-2.false))
