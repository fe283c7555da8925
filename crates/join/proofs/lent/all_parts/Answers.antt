use Rattle.size.specs.Size.{packet_size}
use mathlib.Core.Path.{refl, sym, ap, ◌∙◌}
use native.Mathlib.Omega.{arith}
use Prim.Native.Nat.{◌+◌}
use lib.ListN.{take, drop}
use borrow.Author.Tests.{not-true, not-false}
use Rattle.laws.specs.Scan.{all}
use Rattle.story.specs.Joining.{is_part}
use Rattle.join.proofs.Cuts.{onward_next, onward_end, onward_ten, parts_next, parts_stop, parts_end}
use mathlib.Core.Bool.{not}
use Rattle.join.proofs.lent.all_parts.Goals as goal

pub loop-i-init : goal.loop-i-init
loop-i-init c = (refl, omega arith, refl, omega arith)

pub returns-then-m-eq10 : goal.returns-then-m-eq10
returns-then-m-eq10 c = let v = c.loop-i.invariant in
    sym (v.0 ∙ ap (all is_part) (onward_ten c.args.packets.now c.loop-i.m c.loop-i.i c.if-m-eq10.true) ∙ parts_end)

pub returns-then-not-is_part : goal.returns-then-not-is_part
returns-then-not-is_part c = let v = c.loop-i.invariant in
    sym (v.0 ∙ ap (all is_part) (onward_next c.args.packets.now c.loop-i.m c.loop-i.i (c.loop-i.i + packet_size (drop c.loop-i.i c.args.packets.now)) (omega (arith, c.if-m-eq10.false, v.3)) (omega (arith, v.2)) refl) ∙ parts_stop (take (packet_size (drop c.loop-i.i c.args.packets.now)) (drop c.loop-i.i c.args.packets.now)) _ (ap is_part (sym c.piece-b.ensures) ∙ sym c.is_part.ensures ∙ not-true _ (ap not c.if-not-is_part.true)))

pub next-i-requires : goal.next-i-requires
next-i-requires c = omega (arith, c.loop-i.invariant.2)

pub overflow_add-m : goal.overflow_add-m
overflow_add-m c = omega (arith, c.loop-i.invariant.3)

pub loop-i-smaller : goal.loop-i-smaller
loop-i-smaller c = omega (arith, c.next-i.ensures.1, c.next-i.ensures.2, c.loop-i.invariant.2)

pub loop-i-preserved : goal.loop-i-preserved
loop-i-preserved c = let v = c.loop-i.invariant in
    (v.0 ∙ ap (all is_part) (onward_next c.args.packets.now c.loop-i.m c.loop-i.i c.next-i.result (omega (arith, c.if-m-eq10.false, v.3)) (omega (arith, v.2)) c.next-i.ensures.0) ∙ parts_next (take (packet_size (drop c.loop-i.i c.args.packets.now)) (drop c.loop-i.i c.args.packets.now)) _ (ap is_part (sym c.piece-b.ensures) ∙ sym c.is_part.ensures ∙ not-false _ (ap not c.if-not-is_part.false)), omega (arith, c.next-i.ensures.2, v.2), v.2, omega (arith, c.if-m-eq10.false, v.3))

pub returns : goal.returns
returns c = let v = c.loop-i.invariant in
    sym (v.0 ∙ ap (all is_part) (onward_end c.args.packets.now c.loop-i.m c.loop-i.i (omega (arith, v.2))) ∙ parts_end)
