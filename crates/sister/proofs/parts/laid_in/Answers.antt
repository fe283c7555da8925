-- `sister::parts::laid_in`: what its goals need. Assumes nothing.
use mathlib.Core.Path.{ap₂, ◌∙◌}
use Rattle.sister.specs.Layout.{layout_of}
use Rattle.sister.proofs.parts.laid_in.Goals as goal

pub returns : goal.returns
returns c = c.laid.ensures ∙ ap₂ layout_of c.kind.ensures c.count.ensures.0
