-- `table::line_at`: what its goals need: each line is computed. Assumes nothing.
use mathlib.Core.Path.{sym, ◌∙◌}
use lib.ListN.{get_or-eq_default}
use Rattle.laws.proofs.Arms.{Apart, not_below}
use Rattle.format.specs.Format.{octets}
use Rattle.packet.specs.InCode.{lines_of_each, every_line}
use Rattle.table.proofs.line_at.Goals as goal

-- past the last
pub returns-in_default : goal.returns-in_default
unfolding Apart every_line lines_of_each
returns-in_default c = let i = c.args.i in
    c.an_octets-in_default.ensures ∙ sym (get_or-eq_default every_line (octets 0) {n = i} (not_below 32 i c.in_default.in_default-own.rest))
