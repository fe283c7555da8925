-- `compare::put_one`: what its goals need. Assumes nothing.
use Rattle.compare.specs.Differences.{only}
use Rattle.compare.proofs.Going.{further_one}
use Rattle.compare.proofs.put_one.Goals as goal

pub returns : goal.returns
returns c = let a = c.args in
    further_one a.so.at a.so.lines a.out.now (only a.right a.n) _ _ c.put_only.ensures.0 c.put_only.ensures.1
