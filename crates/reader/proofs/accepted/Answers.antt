-- `reader::accepted`: what its goals need. Assumes nothing.
use Rattle.reader.proofs.accepted.Goals as goal

pub returns : goal.returns
returns c = rw (c.type_in.ensures, c.time.ensures, c.signature.ensures)
