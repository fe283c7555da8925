-- The number is that of the pattern of eight bytes. Assumes nothing.
use mathlib.Core.Path.{◌∙◌, ap}
use lib.Ieee.{of_bits, binary64}
use Rattle.samples.specs.Numbers.{number_at}
use Rattle.samples.proofs.number.Goals as goal

pub returns : goal.returns
unfolding number_at
returns c = c.of_pattern.ensures ∙ ap (of_bits binary64) c.word_at.ensures
