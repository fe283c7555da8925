-- `reader::columns::take_pairs`: what its goals need. Assumes nothing.
use mathlib.Core.Path.{refl}
use Prim.Native.Nat.{◌+◌}
use native.Mathlib.Omega.{arith}
use lib.ListN.{get_or}
use Rattle.laws.specs.Bits.{run}
use Rattle.format.specs.Format.{inside}
use Rattle.reader.proofs.Leaves.{pair_stored, pair_counted}
use Rattle.reader.proofs.columns.take_pairs.Goals as goal

pub loop-j-init : goal.loop-j-init
unfolding run inside
loop-j-init c = (refl, refl, omega arith)

pub loop-j-preserved : goal.loop-j-preserved
loop-j-preserved c = let a = c.args in
    let k = c.loop-j in
    let x = get_or a.b.now (a.k + k.j) 0 in
    let small = (c.type_inv.b (a.k + k.j)).fits in
    (pair_stored a.b.now a.k k.j x small refl a.out.now k.out a.to k.invariant.0, pair_counted a.b.now a.k k.j x small refl k.wrong k.invariant.1, omega (arith, small, k.invariant.2))
