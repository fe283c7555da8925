use mathlib.Core.Path.{ap, ◌∙◌}
use lib.ListN.{take, drop}
use Rattle.join.proofs.lent.piece.Goals as goal

pub returns : goal.returns
returns c = c.part.ensures ∙ ap (λ n. take n (drop c.args.i c.args.packets.now)) c.size_at-size.ensures
