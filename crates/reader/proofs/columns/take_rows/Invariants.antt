-- `reader::columns::take_rows`: what its goals need. Assumes nothing.
use mathlib.Core.Path.{◌≡◌}
use Prim.Native.Nat.{ℕ, ◌≤◌, ◌+◌, ◌*◌}
use lib.ListN.{take, drop}
use Rattle.laws.specs.Bits.{bits}
use Rattle.laws.specs.Strips.{strips, every}
use Rattle.format.specs.Format.{size, need, decode, fine}
use Rattle.packet.specs.InCode.{lines_in}
use Rattle.packet.specs.Reading.{numbers_at}
use Rattle.reader.proofs.Due.{Going}
use Rattle.reader.proofs.columns.take_rows.Given as goal

abbrev pub invariant-loop-j : goal.invariant-loop-j
invariant-loop-j l = (l.q ≡ l.p + size (take l.j (lines_in l.ts))) × (l.to ≡ l.i + need (take l.j (lines_in l.ts))) × (l.q ≤ l.p + 2048 * l.j) × (l.to ≤ l.i + 64 * l.j)
    × (l.out ≡ strips l.initial.out l.i l.s.places l.s.rows (λ (k : ℕ). numbers_at (take l.j (lines_in l.ts)) l.b (l.p + k * (l.s.bytes * 8))))
    × Going (λ (a : ℕ). every l.s.rows (λ (k : ℕ). fine a (lines_in l.ts) (decode (lines_in l.ts) (bits l.b) (l.p + k * (l.s.bytes * 8))))) (λ (a : ℕ). every l.s.rows (λ (k : ℕ). fine a (drop l.j (lines_in l.ts)) (decode (drop l.j (lines_in l.ts)) (bits l.b) (l.q + k * (l.s.bytes * 8))))) l.d
