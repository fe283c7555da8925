-- `format::read_each`: what its goals need. Assumes nothing.
use mathlib.Core.Path.{refl}
use Rattle.laws.specs.Bits.{bits, run}
use Rattle.format.proofs.Leaves.{store_more}
use Rattle.format.proofs.read_each.Goals as goal

pub loop-j-init : goal.loop-j-init
unfolding run
loop-j-init c = refl

pub loop-j-preserved : goal.loop-j-preserved
loop-j-preserved c = let a = c.args in
    store_more (bits a.b.now) a.out.now c.loop-j.out c.put.new.out a.to a.p c.loop-j.j a.w c.small-x.result c.loop-j.invariant c.put.ensures c.small-x.ensures
