use Rattle.receiver.proofs.Marked.{clear}
use Rattle.receiver.proofs.places.marked.Goals as goal

pub returns : goal.returns
returns c = clear c.args.b.now c.args.from c.window.result c.marks.result c.window.ensures c.marks.ensures
