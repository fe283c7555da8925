-- `join::lent::size_at`: what its goals need. Assumes nothing.
use mathlib.Core.Path.{ap, ◌∙◌}
use native.Mathlib.Omega.{arith}
use lib.ListN.{length, drop, length-drop}
use lib.Seq.{take_all}
use Rattle.size.specs.Size.{packet_size}
use Rattle.join.proofs.lent.size_at.Goals as goal

pub returns : goal.returns
returns c = let x = c.args in
    c.packet_size.ensures ∙ ap packet_size (c.part-b.ensures ∙ take_all (length x.packets.now) (drop x.i x.packets.now) (omega (arith, length-drop x.i x.packets.now)))
