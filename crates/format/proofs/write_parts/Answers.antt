-- `format::write_parts`: what its goals need. Assumes nothing.
use mathlib.Core.Path.{◌≡◌, ap, ◌∙◌}
use Prim.Native.Nat.{ℕ, ◌-◌, ◌+◌, ◌*◌, ◌/◌, ◌%◌, ◌^◌}
use lib.Seq.{sets}
use native.Mathlib.Omega.{arith}
use Rattle.laws.specs.Bits.{bits, bits_of}
use Rattle.laws.proofs.Bits.{length_bits_of}
use Rattle.laws.proofs.Writes as writes
use Rattle.format.proofs.Leaves as laws
use Rattle.format.proofs.Parts.{parts_turn}
use Rattle.format.proofs.write_parts.Goals as goal

pub loop-j-preserved : goal.loop-j-preserved
loop-j-preserved c = let a = c.args in
    let k = c.loop-j in
    let n = c.min-k.result in
    let o = c.put_within.new.out in
    let i = a.p + k.j in
    let v = bits_of n (a.x / 2 ^ (a.w - k.j - n)) in
    let q : i / 8 * 8 + i % 8 ≡ i = omega arith in
    let s : bits o ≡ sets (bits k.out) i v = c.put_within.ensures ∙ ap (λ (m : ℕ). sets (bits k.out) m v) q in (
      omega (arith, c.min-k.ensures),
      laws.same_long o k.out i v s ∙ k.invariant.1,
      parts_turn a.w a.x k.j n (bits k.out) (bits o) (sets (bits a.out.now) a.p (bits_of a.w a.x)) a.p (omega (arith, c.min-k.ensures)) k.invariant.2 s,
    )

pub returns : goal.returns
returns c = let a = c.args in
    let k = c.loop-j in
    writes.put_done (bits_of a.w a.x) (bits k.out) (sets (bits a.out.now) a.p (bits_of a.w a.x)) (a.p + k.j) k.j (omega (arith, length_bits_of a.w a.x)) k.invariant.2
