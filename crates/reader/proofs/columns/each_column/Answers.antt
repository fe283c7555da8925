-- `reader::columns::each_column`: what its goals need. Assumes nothing.
use mathlib.Core.Path.{refl}
use mathlib.Core.Bool.{◌&&◌}
use mathlib.Core.List.{List}
use Prim.Native.Nat.{ℕ, ◌+◌, ◌*◌}
use Rattle.laws.specs.Bits.{bits, run}
use Rattle.laws.specs.Strips.{strips, every}
use Rattle.format.specs.Format.{inside}
use Rattle.reader.proofs.Leaves.{strips_turn, every_turn}
use Rattle.reader.proofs.columns.each_column.Goals as goal

pub loop-j-init : goal.loop-j-init
unfolding strips every
loop-j-init c = (refl, refl)

pub loop-j-preserved : goal.loop-j-preserved
loop-j-preserved c = let a = c.args in
    let k = c.loop-j in
    let t = a.t in
    let to = a.i + k.j * a.s.places in
    let here = c.take_each-good.result in
    let done = c.take_each-good.ensures in
    let P : ℕ → List ℕ = λ r. run (bits a.b.now) (a.p + r * (a.s.bytes * 8)) t.count t.width in (
      strips_turn a.out.now k.out c.take_each-good.new.out (P k.j) a.i a.s.places k.j to P k.invariant.0 refl done.0 refl,
      every_turn k.good (k.good && here) k.j (λ (r : ℕ). inside t.lo t.hi (P r)) here k.invariant.1 refl done.1,
    )
