-- `format::read_field`: what its goals need. Assumes nothing.
use Rattle.format.proofs.Within.{read_within}
use Rattle.format.proofs.read_field.Goals as goal

pub returns-then-i-w-le8 : goal.returns-then-i-w-le8
returns-then-i-w-le8 c = let a = c.args in
    read_within a.b.now a.p a.w c.byte.result c.bits_within.result c.if-i-w-le8.true c.byte.ensures c.bits_within.ensures
