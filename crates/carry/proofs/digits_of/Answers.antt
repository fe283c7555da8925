-- `carry::digits_of`: what its goals need. Assumes nothing.
use mathlib.Core.Path.{◌≡◌, ap, ◌∙◌}
use Prim.Native.Nat.{ℕ}
use native.Mathlib.Omega.{arith}
use lib.ListN.{length, take, length-take}
use lib.Seq.{sets}
use Rattle.packet.specs.Reading.{zeros}
use Rattle.carry.proofs.digits_of.Goals as goal

pub padded-requires : goal.padded-requires
padded-requires c = let n = c.code_digits.result in
    let x = c.args.codes.now in
    let e : length c.part.result.now ≡ length (take n x) = ap length c.part.ensures in
    omega (arith, e, length-take n x, c.code_digits.ensures.1)

pub returns : goal.returns
returns c = c.padded.ensures ∙ ap (sets (zeros 35) 0) (c.part.ensures ∙ ap (λ (n : ℕ). take n c.args.codes.now) c.code_digits.ensures.0)
