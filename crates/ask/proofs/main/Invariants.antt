-- A record a turn, none of them empty: what is left grows shorter.
use Rattle.std.proofs.Common.{length}
use Rattle.ask.proofs.main.Given as goal

abbrev pub decreases-loop-left : goal.decreases-loop-left
decreases-loop-left l = length l.left
