-- `reader::parts::form`: what its goals need. Assumes nothing.
use mathlib.Core.Path.{ap, ◌∙◌}
use Rattle.packet.specs.Table.{kind_of}
use Rattle.reader.proofs.parts.kind.Goals as goal

pub returns : goal.returns
returns c = c.kind_of.ensures ∙ ap kind_of c.type_in.ensures
