-- `sister::puts::put_codes`: what its goals need. Assumes nothing.
use mathlib.Core.Path.{◌≡◌}
use Prim.Native.Nat.{◌+◌, ◌*◌, ◌-◌}
use lib.ListN.{drop}
use lib.Seq.{sets}
use Rattle.laws.specs.Bits.{bits}
use Rattle.sister.specs.Layout.{code_bits}
use Rattle.sister.proofs.puts.put_codes.Given as goal

abbrev pub invariant-loop-j : goal.invariant-loop-j
invariant-loop-j l = sets (bits l.initial.out) l.p (code_bits l.n l.codes) ≡ sets (bits l.out) (l.p + 96 * l.j) (code_bits (l.n - l.j) (drop (23 * l.j) l.codes))
