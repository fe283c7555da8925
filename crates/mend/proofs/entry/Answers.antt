-- `mend::entry`: what its goals need: the one of four. Assumes nothing.
use Rattle.mend.proofs.Entries.{looked_up}
use Rattle.mend.proofs.entry.Goals as goal

pub returns : goal.returns
returns c = looked_up c.args.s c.four.result c.requires c.four.ensures
