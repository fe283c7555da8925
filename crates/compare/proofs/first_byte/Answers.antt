-- `compare::first_byte`: what its goals need. Assumes nothing.
use Rattle.compare.proofs.First.{begun, next_byte, found_byte, no_byte}
use Rattle.std.proofs.Common.{sym, arith}
use Rattle.compare.proofs.first_byte.Goals as goal

pub loop-i-init : goal.loop-i-init
loop-i-init c = begun _ _

pub returns-then-a-i : goal.returns-then-a-i
returns-then-a-i c = (found_byte c.args.a.now c.args.b.now c.loop-i.i (omega arith) c.if-a-i.true c.loop-i.invariant, omega arith)

pub loop-i-preserved : goal.loop-i-preserved
loop-i-preserved c = next_byte c.args.a.now c.args.b.now c.loop-i.i (omega arith) c.if-a-i.false c.loop-i.invariant

pub returns : goal.returns
returns c = sym (no_byte c.args.a.now c.args.b.now c.loop-i.i (omega arith) c.loop-i.invariant)
