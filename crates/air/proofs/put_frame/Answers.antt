-- `air::put_frame`: what its goals need. Assumes nothing.
use mathlib.Core.Path.{◌≡◌, sym, ap, ◌∙◌}
use Prim.Native.Nat.{ℕ, ◌+◌, ◌%◌}
use lib.Seq.{sets}
use Rattle.block.specs.declared.Letter.TheVariants.{A, B, C, D}
use Rattle.air.specs.Packed.{packed, first_word}
use Rattle.air.proofs.Frame.{block_number, frame_packed}
use Rattle.air.proofs.put_frame.Goals as goal

pub returns : goal.returns
returns c = let h = c.args.heading in
    let ea : c.block_of-a.result ≡ block_number (first_word h) A = c.block_of-a.ensures ∙ ap (λ (w : ℕ). block_number w A) c.first_word.ensures in
    let eb : c.block_of-b.result ≡ block_number (0xB000 + h.number.0 % 16) B = c.block_of-b.ensures in
    let ec : c.block_of-c.result ≡ block_number c.carried_word.result C = c.block_of-c.ensures in
    let ed : c.block_of-d.result ≡ block_number c.carried_word-2.result D = c.block_of-d.ensures in
    let four : packed c.block_of-a.result c.block_of-b.result c.block_of-c.result c.block_of-d.result
    ≡ packed (block_number (first_word h) A) (block_number (0xB000 + h.number.0 % 16) B) (block_number c.carried_word.result C) (block_number c.carried_word-2.result D) = rw (ea, eb, ec, ed) in
    c.put_blocks.ensures
    ∙ ap (sets c.args.out.now 0) (four ∙ sym (frame_packed c.args.packet.now h c.requires.1 c.carried_word.result c.carried_word-2.result c.carried_word.ensures c.carried_word-2.ensures))
