-- `format::bits_within`: what its goals need. Assumes nothing.
use mathlib.Core.Path.{ap, ◌∙◌}
use Prim.Native.Nat.{ℕ, ◌+◌, ◌-◌, ◌/◌, ◌%◌, ◌^◌}
use lib.Bits.{bit_and, and_mask}
use Rattle.format.proofs.bits_within.Goals as goal

pub returns : goal.returns
returns c = let a = c.args in
    let y = c.from.result / 2 ^ (8 - (a.i + a.w)) in
    ap (bit_and y) c.ones.ensures ∙ and_mask y a.w ∙ ap (λ (x : ℕ). x / 2 ^ (8 - (a.i + a.w)) % 2 ^ a.w) c.from.ensures
