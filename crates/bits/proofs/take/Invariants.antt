-- A symbol a turn: what is still to come gives what was to come. Assumes nothing.
use Rattle.std.proofs.Common.{◌≡◌, ◌-◌, ◌/◌, ◌≤◌, length}
use Rattle.bits.specs.Packed.{symbols_from, symbols_in}
use Rattle.bits.proofs.Packed.{Going}
use Rattle.bits.proofs.take.Given as goal

abbrev pub invariant-loop-k : goal.invariant-loop-k
invariant-loop-k l = (l.k ≤ length l.bytes / 256) × (length l.out ≡ length l.initial.out) × Going l.initial.so_far l.so_far l.k l.initial.out l.out (symbols_in l.bytes) (symbols_from l.bytes l.k (length l.bytes / 256 - l.k))
