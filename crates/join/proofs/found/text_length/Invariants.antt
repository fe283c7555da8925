-- `join::found::text_length`: what its goals need. Assumes nothing.
use Rattle.join.proofs.Stepping.{left}
use Rattle.story.specs.Joining.{lent, found, texts}
use lib.ListN.{length}
use Prim.Native.Nat.{◌+◌, ◌*◌, ◌≤◌}
use mathlib.Core.Path.{◌≡◌}
use Rattle.join.proofs.found.text_length.Given as goal

abbrev pub invariant-loop-k : goal.invariant-loop-k
invariant-loop-k l = (length (texts (found l.n (lent l.packets) 0 l.n)) ≡ l.sum + length (texts (left l.n (lent l.packets) l.k))) × (l.sum ≤ 250 * l.k)
