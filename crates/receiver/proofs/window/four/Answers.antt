use native.Mathlib.Omega.{arith}
use Prim.Native.Nat.{◌+◌}
use Rattle.receiver.proofs.Octets.{four_bytes}
use Rattle.receiver.proofs.window.four.Goals as goal

pub overflow_cast-x : goal.overflow_cast-x
overflow_cast-x c = omega (arith, c.shared_slice_known-1.given c.args.i)

pub overflow_mul-x : goal.overflow_mul-x
overflow_mul-x c = omega (arith, c.shared_slice_known-1.given c.args.i)

pub overflow_cast-x-2 : goal.overflow_cast-x-2
overflow_cast-x-2 c = omega (arith, c.shared_slice_known-2-1.given (c.args.i + 1))

pub overflow_add-x-2 : goal.overflow_add-x-2
overflow_add-x-2 c = omega (arith, c.shared_slice_known-2-1.given c.args.i, c.shared_slice_known-2-1.given (c.args.i + 1))

pub overflow_cast-y : goal.overflow_cast-y
overflow_cast-y c = omega (arith, c.shared_slice_known-3-1.given (c.args.i + 2))

pub overflow_mul-y : goal.overflow_mul-y
overflow_mul-y c = omega (arith, c.shared_slice_known-3-1.given (c.args.i + 2))

pub overflow_cast-y-2 : goal.overflow_cast-y-2
overflow_cast-y-2 c = omega (arith, c.shared_slice_known-4-1.given (c.args.i + 3))

pub overflow_add-y-3 : goal.overflow_add-y-3
overflow_add-y-3 c = omega (arith, c.shared_slice_known-4-1.given (c.args.i + 2), c.shared_slice_known-4-1.given (c.args.i + 3))

pub overflow_mul-result : goal.overflow_mul-result
overflow_mul-result c = omega (arith, c.shared_slice_known-4-1.given c.args.i, c.shared_slice_known-4-1.given (c.args.i + 1))

pub overflow_add-result : goal.overflow_add-result
overflow_add-result c = omega (arith, c.shared_slice_known-4-1.given c.args.i, c.shared_slice_known-4-1.given (c.args.i + 1), c.shared_slice_known-4-1.given (c.args.i + 2), c.shared_slice_known-4-1.given (c.args.i + 3))

pub returns : goal.returns
returns c = (
  four_bytes c.args.b.now c.args.i (λ i. (c.type_inv.b i).fits),
  omega (arith, c.shared_slice_known-4-1.given c.args.i, c.shared_slice_known-4-1.given (c.args.i + 1), c.shared_slice_known-4-1.given (c.args.i + 2), c.shared_slice_known-4-1.given (c.args.i + 3)),
)
