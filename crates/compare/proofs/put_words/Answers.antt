-- `compare::put_words`: what its goals need. Assumes nothing.
use Rattle.std.proofs.Common.{◌+◌, ◌-◌, length, refl, arith}
use Rattle.laws.proofs.Parts.{in_place}
use Rattle.compare.proofs.put_words.Goals as goal

pub returns : goal.returns
returns c =
    let words = c.args.words.now in
    let at = c.args.at in
    (refl, in_place c.args.out.now words _ at (at + length words - at) (omega arith) c.requires c.copy_from_slice.ensures.after)
