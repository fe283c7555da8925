use Rattle.receiver.proofs.Octets.{eight_bytes}
use Rattle.receiver.proofs.window.eight.Goals as goal

pub returns : goal.returns
returns c = eight_bytes c.args.b.now c.args.i c.four.result c.four-2.result c.four.ensures.0 c.four-2.ensures.0
