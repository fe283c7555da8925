-- A whole number within bounds, told by a shifted sum. Assumes nothing.
use lib.Ieee.{of_bits, of_int}
use Rattle.samples.proofs.Shifted.{below_stops, above_stops, last_decides}
use Rattle.samples.proofs.whole_within.Goals as goal

pub returns-then-shifted-low : goal.returns-then-shifted-low
unfolding of_bits of_int
returns-then-shifted-low c = let a = c.args in
    below_stops a.low a.high a.x c.requires.t c.requires.t_2 c.if-shifted-low.true

pub returns-then-high-shifted : goal.returns-then-high-shifted
unfolding of_bits of_int
returns-then-high-shifted c = let a = c.args in
    above_stops a.low a.high a.x c.requires.t c.requires.t_2 c.if-high-shifted.true

pub returns : goal.returns
unfolding of_bits of_int
returns c = let a = c.args in
    last_decides a.low a.high a.x c.requires.t c.requires.t_2 c.if-shifted-low.false c.if-high-shifted.false
