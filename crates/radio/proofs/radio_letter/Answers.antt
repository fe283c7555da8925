-- `radio::radio_letter`: what its goals need. Assumes nothing.
use mathlib.Core.Path.{ap, ◌∙◌}
use Rattle.radio.specs.Radio.{letter_number}
use Rattle.radio.proofs.radio_letter.Goals as goal

pub returns : goal.returns
returns c = c.letter_number.ensures ∙ ap letter_number c.letter_of.ensures
