-- A number a turn, 32 in all. Assumes nothing.
use Rattle.std.proofs.Common.{◌≡◌, ℕ, ◌+◌, ◌-◌, ◌*◌, ◌<◌, ◌≤◌, length, get_or}
use lib.Ieee.{nan}
use Rattle.samples.specs.Numbers.{number_at}
use Rattle.bits.proofs.symbol_at.Given as goal

abbrev pub invariant-loop-k : goal.invariant-loop-k
invariant-loop-k l = (l.k ≤ 32) × (length l.s ≡ 32) × ((j : ℕ) → j < l.k → get_or l.s j nan ≡ number_at l.bytes (l.at + 8 * j))
