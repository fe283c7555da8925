-- A byte that is not there is 0. Assumes nothing.
use mathlib.Core.Path.{sym}
use Prim.Native.Nat.{◌+◌}
use native.Mathlib.Omega.{arith}
use lib.ListN.{get_or-eq_default}
use Rattle.samples.proofs.byte.Goals as goal

pub returns-then-n-at : goal.returns-then-n-at
returns-then-n-at c = let a = c.args in record {
  value = sym (get_or-eq_default a.bytes.now 0 {n = a.at + a.k} (omega arith));
  small = omega arith;
}

pub returns-then-n-at-2 : goal.returns-then-n-at-2
returns-then-n-at-2 c = let a = c.args in record {
  value = sym (get_or-eq_default a.bytes.now 0 {n = a.at + a.k} (omega arith));
  small = omega arith;
}
