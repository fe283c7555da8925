-- `tell::characters::lone`: what its goals need. Assumes nothing.
use mathlib.Core.Path.{◌∙◌}
use mathlib.Core.Bool.{false}
use borrow.Author.Rules.{rules}
use borrow.Author.Tests.{tests}
use Rattle.std.proofs.lemmas.Iterator.{YieldsList-from_slice}
use Rattle.std.proofs.lemmas.Iterator.Consumers.{fold_from_yields_List}
use Rattle.tell.proofs.Stepping.{opens, lone_fold}
use Rattle.tell.proofs.characters.lone.Goals as goal

pub returns : goal.returns
returns c = fold_from_yields_List _ opens false _ c.fold.ensures.ran (YieldsList-from_slice c.args.text.now cc) (λ a x b q k. search (rules, tests)) ∙ lone_fold c.args.text.now
