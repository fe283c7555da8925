-- Above zero, below zero, zero. Assumes nothing.
use lib.Ieee.{of_bits, of_int}
use Rattle.samples.proofs.Steps.{verdict_above, verdict_under, verdict_neither}
use Rattle.samples.proofs.verdict_of.Goals as goal

pub returns-then-product : goal.returns-then-product
unfolding of_bits of_int
returns-then-product c = verdict_above c.args.product c.requires.t c.requires.product_value c.if-product.true

pub returns-then-product-2 : goal.returns-then-product-2
unfolding of_bits of_int
returns-then-product-2 c = verdict_under c.args.product c.requires.t c.requires.product_value c.if-product-2.true

pub returns : goal.returns
unfolding of_bits of_int
returns c = verdict_neither c.args.product c.requires.t c.requires.product_value c.if-product.false c.if-product-2.false
