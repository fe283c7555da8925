-- `air::right_size`: what its goals need. Assumes nothing.
use mathlib.Core.Logic.{inl, inr}
use native.Mathlib.Omega.{arith}
use Rattle.air.proofs.Laws.{short, long, by_field}
use Rattle.air.proofs.right_size.Goals as goal

pub returns-then-packet-lt2 : goal.returns-then-packet-lt2
returns-then-packet-lt2 c = elim c.then-packet-lt2.either [ inl s ↦ short _ s | inr l ↦ long _ l.0 l.1 ]

pub returns : goal.returns
returns c = by_field c.args.packet.now (omega arith) (omega arith) c.packet_size.result c.packet_size.ensures
