-- `join::found::all_found`: what its goals need. Assumes nothing.
use Rattle.story.specs.Joining.{lent, is_part, found}
use Rattle.laws.specs.Scan.{all}
use Prim.Native.Nat.{◌-◌}
use mathlib.Core.Path.{◌≡◌}
use Rattle.join.proofs.found.all_found.Given as goal

abbrev pub invariant-loop-k : goal.invariant-loop-k
invariant-loop-k l = all is_part (found l.n (lent l.packets) 0 l.n) ≡ all is_part (found l.n (lent l.packets) l.k (l.n - l.k))
