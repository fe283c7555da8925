use mathlib.Core.Path.{sym, ap, ◌∙◌}
use native.Mathlib.Omega.{arith}
use Prim.Native.Nat.{◌+◌}
use lib.ListN.{length, drop, drop_of_length-le}
use Rattle.size.specs.Size.{packet_size}
use Rattle.join.proofs.lent.next.Goals as goal

pub returns-then-size-n : goal.returns-then-size-n
unfolding packet_size
returns-then-size-n c = let x = c.args in
    let e = c.size_at-size.ensures in
    (ap (λ n. drop (x.i + n) x.packets.now) e, omega (arith, e), omega (arith, c.if-size-n.true))

pub returns-else-size-n : goal.returns-else-size-n
unfolding packet_size
returns-else-size-n c = let x = c.args in
    let b = x.packets.now in
    (drop_of_length-le b {i = length b} (omega arith) ∙ sym (drop_of_length-le b {i = x.i + packet_size (drop x.i b)} (omega (arith, c.if-size-n.false))), c.requires, omega arith)
