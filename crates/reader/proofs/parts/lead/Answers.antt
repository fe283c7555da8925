-- `reader::parts::lead`: what its goals need. Assumes nothing.
use mathlib.Core.Path.{ap, ◌∙◌}
use Rattle.packet.specs.declared.Kind.{Kind}
use Rattle.packet.specs.Table.{row_of}
use Rattle.packet.specs.Reading.{part_at}
use Rattle.reader.proofs.Whole as whole
use Rattle.reader.proofs.parts.lead.Goals as goal

pub returns : goal.returns
returns c = let y = whole.sizes c.kind.result c.sizes_of.result c.sizes_of.ensures in
    (y.lead ∙ ap (λ (f : Kind). part_at (row_of f)) c.kind.ensures, y.lead_most)
