-- `format::write_each`: what its goals need. Assumes nothing.
use mathlib.Core.Path.{refl}
use native.Mathlib.Omega.{arith}
use Rattle.laws.specs.Bits.{bits, spread}
use Rattle.format.proofs.Leaves.{spread_more}
use Rattle.format.proofs.write_each.Goals as goal

pub loop-j-init : goal.loop-j-init
unfolding spread
loop-j-init c = refl

pub loop-j-preserved : goal.loop-j-preserved
loop-j-preserved c = let a = c.args in
    spread_more a.w a.d.now (bits a.out.now) (bits c.loop-j.out) (bits c.write_field.new.out) a.p c.loop-j.j c.from.result (omega arith) c.loop-j.invariant c.write_field.ensures c.from.ensures
