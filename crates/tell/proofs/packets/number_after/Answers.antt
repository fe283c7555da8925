-- `tell::packets::number_after`: what its goals need. Assumes nothing.
use mathlib.Core.Path.{ap, ◌∙◌}
use mathlib.Core.List.{◌++◌}
use lib.ListN.{take}
use Prim.Native.Nat.{ℕ, ◌+◌}
use Rattle.story.specs.Telling.{four_of, number_after}
use Rattle.tell.proofs.packets.number_after.Goals as goal

pub returns : goal.returns
unfolding number_after
returns c = c.with_last_four.ensures ∙ ap (λ (y : ℕ). take 31 c.args.digits ++ four_of (y + c.args.k)) c.last_four.ensures
