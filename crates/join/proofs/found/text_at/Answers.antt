-- `join::found::text_at`: what its goals need. Assumes nothing.
use mathlib.Core.Path.{ap, ◌∙◌}
use native.Mathlib.Omega.{arith}
use lib.ListN.{length, drop, length-drop}
use lib.Seq.{take_all}
use Rattle.packet.specs.Reading.{body_of}
use Rattle.story.specs.Joining.{is_part}
use Rattle.join.proofs.found.text_at.Goals as goal

pub body_of-t-requires : goal.body_of-t-requires
body_of-t-requires c = ap is_part c.piece-b.ensures ∙ c.requires

pub returns : goal.returns
returns c = let t = c.body_of-t.result.now in
    c.part.ensures ∙ take_all (length t) (drop 4 t) (omega (arith, length-drop 4 t)) ∙ ap (drop 4) (c.body_of-t.ensures ∙ ap body_of c.piece-b.ensures)
