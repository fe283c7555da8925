-- `sister::puts::laid_for`: what its goals need. Assumes nothing.
use mathlib.Core.Path.{ap₂, ◌∙◌}
use Rattle.sister.specs.Layout.{layout_of}
use Rattle.sister.proofs.puts.laid_for.Goals as goal

pub returns : goal.returns
returns c = c.laid.ensures ∙ ap₂ layout_of c.kind_for.ensures c.count_for.ensures
