-- `reader::columns::take_own`: what its goals need. Assumes nothing.
use mathlib.Core.Path.{◌≡◌}
use Prim.Native.Nat.{ℕ, ◌≤◌, ◌+◌, ◌*◌}
use lib.ListN.{take, drop}
use lib.Seq.{sets}
use Rattle.laws.specs.Bits.{bits}
use Rattle.format.specs.Format.{size, need, decode, fine}
use Rattle.packet.specs.InCode.{every_line}
use Rattle.packet.specs.Reading.{numbers_at}
use Rattle.reader.proofs.Due.{Going}
use Rattle.reader.proofs.columns.take_own.Given as goal

abbrev pub invariant-loop-j : goal.invariant-loop-j
invariant-loop-j l = (l.place ≡ l.p + size (take l.j (take l.m (drop l.from every_line)))) × (l.numbers ≡ need (take l.j (take l.m (drop l.from every_line)))) × (l.place ≤ l.p + 2048 * l.j) × (l.numbers ≤ 64 * l.j)
    × (sets l.initial.out 0 (numbers_at (take l.m (drop l.from every_line)) l.b l.p) ≡ sets l.out l.numbers (numbers_at (drop l.j (take l.m (drop l.from every_line))) l.b l.place))
    × Going (λ (k : ℕ). fine k (take l.m (drop l.from every_line)) (decode (take l.m (drop l.from every_line)) (bits l.b) l.p)) (λ (k : ℕ). fine k (drop l.j (take l.m (drop l.from every_line))) (decode (drop l.j (take l.m (drop l.from every_line))) (bits l.b) l.place)) l.due
