-- `shelf::all_are`: what its goals need. Assumes nothing.
use mathlib.Core.Path.{◌≡◌}
use lib.Dec.{eqb}
use lib.ListN.{take}
use Rattle.laws.specs.Scan.{all}
use Rattle.shelf.proofs.all_are.Given as goal

abbrev pub invariant-loop-x : goal.invariant-loop-x
invariant-loop-x l = l.good ≡ all (eqb l.value) (take l.x-index l.b)
