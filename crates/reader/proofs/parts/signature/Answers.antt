-- `reader::parts::signature`: what its goals need. Assumes nothing.
use mathlib.Core.Path.{◌≡◌, sym, ap, ◌∙◌}
use Prim.Native.Nat.{ℕ, ◌-◌, ◌*◌}
use native.Mathlib.Omega.{arith}
use lib.ListN.{length, drop, length-drop}
use lib.Seq.{take_all}
use Rattle.laws.specs.Bits.{bits, run}
use Rattle.reader.proofs.Leaves.{octets_last}
use Rattle.reader.proofs.parts.signature.Goals as goal

pub returns : goal.returns
returns c = let b = c.args.b.now in
    let k = length b - 64 in
    let n : length b - k ≡ 64 = omega arith in
    c.copy_from_slice.ensures.after
    ∙ take_all (length b - k) (drop k b) (omega (arith, length-drop k b))
    ∙ sym (octets_last b k (λ i. (c.type_inv.b i).fits) (omega arith))
    ∙ ap (λ (m : ℕ). run (bits b) (8 * k) m 8) n
