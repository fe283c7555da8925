-- `sister::parts::codes`: what its goals need. Assumes nothing.
use mathlib.Core.Path.{◌≡◌}
use Prim.Native.Nat.{◌+◌, ◌*◌, ◌-◌}
use lib.Seq.{sets}
use Rattle.format.specs.Format.{times}
use Rattle.packet.specs.Table.{code}
use Rattle.packet.specs.Reading.{numbers_at}
use Rattle.sister.proofs.parts.codes.Given as goal

abbrev pub invariant-loop-j : goal.invariant-loop-j
invariant-loop-j l = sets l.initial.out 0 (numbers_at (times l.l.codes code) l.b l.l.place) ≡ sets l.out (23 * l.j) (numbers_at (times (l.l.codes - l.j) code) l.b (l.l.place + 96 * l.j))
