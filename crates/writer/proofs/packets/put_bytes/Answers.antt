-- `writer::packets::put_bytes`: what its goals need. Assumes nothing.
use mathlib.Core.Path.{ap, ◌∙◌}
use Prim.Native.Nat.{◌+◌, ◌-◌}
use native.Mathlib.Omega.{arith}
use lib.ListN.{length}
use Rattle.laws.specs.Bits.{bits}
use Rattle.laws.proofs.Parts.{in_place}
use Rattle.writer.proofs.Straight.{bytes_put}
use Rattle.writer.proofs.packets.put_bytes.Goals as goal

pub returns : goal.returns
returns c = let a = c.args in
    let d = a.d.now in
    ap bits (in_place a.out.now d c.copy_from_slice.new.self a.k (a.k + length d - a.k) (omega arith) c.requires c.copy_from_slice.ensures.after)
    ∙ bytes_put a.out.now d a.k (λ i. omega (arith, c.type_inv.d i))
