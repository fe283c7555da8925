-- `block::letter_with`: what its goals need. Assumes nothing.
use mathlib.Core.Path.{◌≡◌, sym, ap, ◌∙◌}
use Rattle.std.specs.Prelude.{Some}
use Rattle.block.specs.declared.AnyLetter.{AnyLetter}
use Rattle.block.specs.Letters.{offset_of_any, likely_of, letter_with}
use Rattle.block.proofs.Letters.{own_letter, unlikely}
use Rattle.block.proofs.letter_with.Goals as goal

pub returns-then-offset-offset_of_any : goal.returns-then-offset-offset_of_any
returns-then-offset-offset_of_any c = let l = likely_of c.args.offset in
    let w : c.offset_of_any.result ≡ offset_of_any l = c.offset_of_any.ensures ∙ ap offset_of_any c.likely-letter.ensures in
    ap (λ (x : AnyLetter). Some x) c.likely-letter.ensures ∙ sym (ap letter_with (c.if-offset-offset_of_any.true ∙ w) ∙ own_letter l)

pub returns-else-offset-offset_of_any : goal.returns-else-offset-offset_of_any
returns-else-offset-offset_of_any c = let l = likely_of c.args.offset in
    let w : c.offset_of_any.result ≡ offset_of_any l = c.offset_of_any.ensures ∙ ap offset_of_any c.likely-letter.ensures in
    sym (unlikely _ (λ e. c.if-offset-offset_of_any.false (e ∙ sym w)))
