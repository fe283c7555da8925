-- `compare::put_only`: what its goals need. Assumes nothing.
use Rattle.compare.proofs.Lines.{right_put, left_put}
use Rattle.compare.proofs.put_only.Goals as goal

pub returns-then-right : goal.returns-then-right
returns-then-right c = right_put c.args.right c.args.n c.args.at _ c.args.out.now _ c.if-right.true c.put_phrase.ensures.0 c.put_phrase.ensures.1

pub returns : goal.returns
returns c = left_put c.args.right c.args.n c.args.at _ c.args.out.now _ c.if-right.false c.put_phrase-2.ensures.0 c.put_phrase-2.ensures.1
