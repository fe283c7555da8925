use Prim.Native.Nat.{◌-◌, ◌*◌}
use native.Mathlib.Omega.{arith}
use lib.Pow.{pow_pos}
use Rattle.receiver.proofs.Octets.{shifted_one}
use Rattle.receiver.proofs.Ends.{few_left, many_left}
use Rattle.receiver.proofs.rest.Goals as goal

pub nonzero_rem-result : goal.nonzero_rem-result
nonzero_rem-result c = let a = c.args in rw (shifted_one (a.bytes * 8 - a.from) 64 (omega arith)) (pow_pos (a.bytes * 8 - a.from))

pub returns-then-n-lt64 : goal.returns-then-n-lt64
returns-then-n-lt64 c = let a = c.args in
    let p = c.requires in
    few_left a.b.now a.bytes a.from c.eight-low.result p.0 p.1 p.3 p.4 c.eight-low.ensures a.follows c.one.result c.one.ensures c.if-n-lt64.true

pub nonzero_rem-result-2 : goal.nonzero_rem-result-2
nonzero_rem-result-2 c = let a = c.args in rw (shifted_one (a.bytes * 8 - a.from - 64) 64 (omega arith)) (pow_pos (a.bytes * 8 - a.from - 64))

pub returns : goal.returns
returns c = let a = c.args in
    let p = c.requires in
    many_left a.b.now a.bytes a.from c.eight-low.result p.0 p.1 p.3 p.4 c.eight-low.ensures a.follows c.one-2.result c.one-2.ensures c.eight-high.result c.eight-high.ensures c.if-n-lt64.false
