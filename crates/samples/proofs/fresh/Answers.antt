-- The previous pair of a fresh state is plus zero. Assumes nothing.
use borrow.Author.Rules.{rules}
use lib.Ieee.{of_bits, of_int}
use Rattle.samples.proofs.fresh.Goals as goal

pub returns : goal.returns
unfolding of_bits of_int
returns c = search rules
