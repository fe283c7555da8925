-- `format::write_octets`: what its goals need. Assumes nothing.
use mathlib.Core.Path.{refl, ap, ◌∙◌}
use Prim.Native.Nat.{ℕ, ◌*◌, ◌+◌}
use native.Mathlib.Omega.{arith}
use lib.ListN.{length-set, get_or, set}
use lib.Seq.{sets}
use Rattle.laws.specs.Bits.{bits, bits_of, spread}
use Rattle.format.proofs.Leaves.{spread_more}
use Rattle.format.proofs.Halves.{bits_set}
use Rattle.format.proofs.write_octets.Goals as goal

pub loop-j-init : goal.loop-j-init
unfolding spread
loop-j-init c = (refl, refl)

pub loop-j-preserved : goal.loop-j-preserved
loop-j-preserved c = let a = c.args in
    let o = c.loop-j.out in
    let j = c.loop-j.j in
    let x = get_or a.d.now j 0 in (
      length-set o (a.k + j) x ∙ c.loop-j.invariant.0,
      spread_more 8 a.d.now (bits a.out.now) (bits o) (bits (set o (a.k + j) x)) (a.k * 8) j x (omega arith) c.loop-j.invariant.1 (bits_set o (a.k + j) x (c.type_inv.d j).fits ∙ ap (λ (q : ℕ). sets (bits o) q (bits_of 8 x)) (omega arith)) refl,
    )
