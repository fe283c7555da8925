-- A number of a state is a whole number within its bounds. Assumes nothing.
use lib.Ieee.{of_bits, neg}
use Rattle.samples.specs.Whole.{is_whole, whole_of, within}
use Rattle.samples.proofs.is_part.Goals as goal

pub whole_within-requires : goal.whole_within-requires
unfolding within is_whole whole_of neg of_bits
whole_within-requires c = record {
  t = tt;
  t_2 = tt;
}

pub returns : goal.returns
unfolding whole_of neg of_bits
returns c = c.whole_within.ensures
