-- Eight bytes, a byte a turn. Assumes nothing.
use Prim.Native.Nat.{◌≤◌, ◌<◌, ◌-◌, ◌*◌, ◌^◌}
use mathlib.Core.Path.{◌≡◌}
use Rattle.samples.specs.Numbers.{word_at}
use Rattle.samples.proofs.word_at.Given as goal

abbrev pub invariant-loop-k : goal.invariant-loop-k
invariant-loop-k l = (l.n ≡ word_at l.bytes l.at l.k) × (l.n < 2 ^ (8 * l.k))
