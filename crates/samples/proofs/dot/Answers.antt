-- The dot product, exactly. Assumes nothing.
use lib.Ieee.{of_bits, of_int}
use Rattle.samples.proofs.Steps.{dot_is}
use Rattle.samples.proofs.dot.Goals as goal

pub returns : goal.returns
unfolding of_bits of_int
returns c = let d = c in
    dot_is d.args.a d.args.b d.requires.t d.requires.t_2
