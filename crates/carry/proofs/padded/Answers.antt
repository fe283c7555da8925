-- `carry::padded`: what its goals need. Assumes nothing.
use mathlib.Core.Path.{sym, ap, ◌∙◌}
use mathlib.Core.List.{List, ◌++◌}
use Prim.Native.Nat.{ℕ}
use lib.ListN.{length, drop}
use Rattle.laws.proofs.Writes.{from_front}
use Rattle.packet.specs.Reading.{zeros}
use Rattle.carry.proofs.padded.Goals as goal

pub returns : goal.returns
unfolding zeros
returns c = let xs = c.args.xs.now in ap (λ (l : List ℕ). l ++ drop (length xs) (zeros 35)) c.copy_from_slice.ensures.after ∙ sym (from_front xs (zeros 35) c.requires)
