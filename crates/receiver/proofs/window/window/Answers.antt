use native.Mathlib.Omega.{arith}
use Prim.Native.Nat.{◌+◌, ◌/◌}
use Rattle.laws.proofs.Bits.{at_small}
use Rattle.receiver.proofs.Octets.{nine_bytes}
use Rattle.receiver.proofs.window.window.Goals as goal

pub overflow_add-result-2 : goal.overflow_add-result-2
overflow_add-result-2 c = let a = c.args in
    omega (arith, nine_bytes a.b.now a.from c.four-x.result c.four-y.result (c.type_inv.b (a.from / 8 + 8)).fits c.four-x.ensures.0 c.four-y.ensures.0, at_small a.b.now a.from 64 64 (omega arith))

pub overflow_cast-result-3 : goal.overflow_cast-result-3
overflow_cast-result-3 c = omega (arith, c.shared_slice_known-2-1.given (c.args.from / 8 + 8))

pub overflow_add-result-4 : goal.overflow_add-result-4
overflow_add-result-4 c = let a = c.args in
    omega (arith, nine_bytes a.b.now a.from c.four-x.result c.four-y.result (c.type_inv.b (a.from / 8 + 8)).fits c.four-x.ensures.0 c.four-y.ensures.0, at_small a.b.now a.from 64 64 (omega arith))

pub returns : goal.returns
returns c = let a = c.args in
    nine_bytes a.b.now a.from c.four-x.result c.four-y.result (c.type_inv.b (a.from / 8 + 8)).fits c.four-x.ensures.0 c.four-y.ensures.0
