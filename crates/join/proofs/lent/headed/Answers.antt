use Rattle.join.proofs.Cuts.{head_no, head_by}
use lib.ListN.{take}
use mathlib.Core.Path.{sym, ap, ◌∙◌}
use Rattle.join.proofs.lent.headed.Goals as goal

pub returns-then-u-ne4 : goal.returns-then-u-ne4
returns-then-u-ne4 c = sym (head_no c.args.b.now _ c.args.k c.args.n (c.part-u.ensures ∙ ap (take 4) c.body_of-t.ensures) c.if-u-ne4.true)

pub returns : goal.returns
returns c = head_by c.args.b.now _ c.args.k c.args.n _ (c.part-u.ensures ∙ ap (take 4) c.body_of-t.ensures) c.same_bytes.ensures
