-- `receiver::searching::taken_at`: what its goals need: a frame as it is is a frame behind another too. Assumes nothing.
use mathlib.Core.Path.{refl}
use mathlib.Core.Bool.{true}
use Rattle.receiver.proofs.Onward.{either}
use Rattle.receiver.proofs.searching.taken_at.Goals as goal

pub returns-in-Some : goal.returns-in-Some
returns-in-Some c = let a = c.args in
    either a.b.now a.end a.from a.follows (record { frame = true; words = c.in-Some.found.words; mended = c.in-Some.found.mended }) c.requires.0 c.requires.1 c.in-Some.ensures refl
