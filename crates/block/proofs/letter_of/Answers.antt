-- `block::letter_of`: what its goals need: the sum of remainder and check bits is the offset that the bits carry. Assumes nothing.
use mathlib.Core.Path.{sym, ap, ◌∙◌}
use Prim.Native.Nat.{ℕ, ◌%◌}
use Rattle.laws.specs.Poly.{◌⊕◌}
use Rattle.block.specs.Block.{check_word}
use Rattle.block.specs.Letters.{letter_with}
use Rattle.block.proofs.Letters.{letter_by_offset, wide_none}
use Rattle.block.proofs.letter_of.Goals as goal

pub returns-then-bits-lt67108864 : goal.returns-then-bits-lt67108864
unfolding check_word
returns-then-bits-lt67108864 c = let bits = c.args.bits in
    c.letter_with.ensures
    ∙ ap (λ (x : ℕ). letter_with (x ⊕ bits % 1024)) c.remainder_of.ensures
    ∙ sym (letter_by_offset bits c.if-bits-lt67108864.true)

pub returns-else-bits-lt67108864 : goal.returns-else-bits-lt67108864
returns-else-bits-lt67108864 c = sym (wide_none _ c.if-bits-lt67108864.false)
