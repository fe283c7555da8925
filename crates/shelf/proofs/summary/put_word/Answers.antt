-- `shelf::summary::put_word`: what its goals need. Assumes nothing.
use Rattle.std.proofs.Common.{◌≡◌, ◌+◌, ◌-◌, ◌/◌, ◌%◌, ◌^◌, ◌∷◌, [], ap, ◌∙◌, arith}
use Rattle.laws.proofs.Parts.{in_place}
use Rattle.shelf.specs.Summary.{word}
use Rattle.shelf.proofs.summary.put_word.Goals as goal

pub returns : goal.returns
unfolding word
returns c =
    let a = c.args in
    let top : a.x / 2 ^ 24 % 256 ≡ a.x / 2 ^ 24 = omega arith in
    in_place a.summary.now (word a.x) _ a.at (a.at + 4 - a.at) (omega arith) (omega arith)
    (c.copy_from_slice.ensures.after ∙ c.to_be_bytes.ensures ∙ ap (λ y. y ∷ a.x / 2 ^ 16 % 2 ^ 8 ∷ a.x / 2 ^ 8 % 2 ^ 8 ∷ a.x % 2 ^ 8 ∷ []) top)
