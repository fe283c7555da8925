-- `collector::places::marks_below`: what its goals need. Assumes nothing.
use mathlib.Core.Path.{sym}
use borrow.Author.Tests.{ltb-true}
use Rattle.collector.specs.Places.{astray, marks_below}
use Rattle.collector.proofs.NumberMarks.{none_astray}
use Rattle.collector.proofs.places.marks_below.Goals as goal

pub returns : goal.returns
unfolding marks_below astray
returns c = let p = c.args.p in
    sym (none_astray 63 p.marks p.total.0 c.requires.1 (ltb-true _ _ c.requires.0))
