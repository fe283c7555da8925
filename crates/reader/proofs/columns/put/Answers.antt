-- `reader::columns::put`: what its goals need. Assumes nothing.
use mathlib.Core.Path.{sym}
use lib.Seq.{set_out}
use Rattle.reader.proofs.columns.put.Goals as goal

pub returns-else-i-out : goal.returns-else-i-out
returns-else-i-out c = sym (set_out c.args.out.now c.args.i c.args.x c.if-i-out.false)
