-- `join::lent::find`: what its goals need. Assumes nothing.
use Rattle.join.proofs.Bodies.{piece_part}
use Rattle.story.specs.Joining.{is_part}
use mathlib.Core.Path.{refl, sym, ap, ◌∙◌}
use native.Mathlib.Omega.{arith}
use Prim.Native.Nat.{◌+◌}
use lib.ListN.{drop}
use Rattle.size.specs.Size.{packet_size}
use Rattle.story.specs.Telling.{head_of}
use Rattle.story.specs.Joining.{with_head, headed}
use Rattle.story.proofs.Shuffled.{with_yes, with_no}
use Rattle.join.specs.Places.{piece_at}
use Rattle.join.proofs.Cuts.{onward_next, onward_end, onward_ten, head_end, piece_end}
use Rattle.join.proofs.lent.find.Goals as goal

pub loop-i-init : goal.loop-i-init
loop-i-init c = (refl, omega arith, refl, omega arith, c.requires.2)

pub returns-then-m-eq10 : goal.returns-then-m-eq10
returns-then-m-eq10 c = let v = c.loop-i.invariant in
    let x = c.args in
    let b = x.packets.now in
    let h = head_of (x.k + 1) x.n in
    piece_end b ∙ sym (v.0 ∙ ap (with_head h) (onward_ten b c.loop-i.m c.loop-i.i c.if-m-eq10.true) ∙ head_end h)

pub headed-requires : goal.headed-requires
headed-requires c = let v = c.loop-i.invariant in
    let b = c.args.packets.now in
    let i = c.loop-i.i in
    (c.requires.0, c.requires.1, ap is_part c.piece-b.ensures ∙ (piece_part b c.loop-i.m i (i + packet_size (drop i b)) (omega (arith, c.if-m-eq10.false, v.3)) (omega (arith, v.2)) refl v.4).0)

pub returns-then-headed : goal.returns-then-headed
returns-then-headed c = let v = c.loop-i.invariant in
    let x = c.args in
    let b = x.packets.now in
    let h = head_of (x.k + 1) x.n in
    let i = c.loop-i.i in
    sym (v.0 ∙ ap (with_head h) (onward_next b c.loop-i.m i (i + packet_size (drop i b)) (omega (arith, c.if-m-eq10.false, v.3)) (omega (arith, v.2)) refl) ∙ with_yes h (piece_at b i) _ (ap (headed h) (sym c.piece-b.ensures) ∙ sym c.headed.ensures ∙ c.if-headed.true))

pub next-i-requires : goal.next-i-requires
next-i-requires c = omega (arith, c.loop-i.invariant.2)

pub overflow_add-m : goal.overflow_add-m
overflow_add-m c = omega (arith, c.loop-i.invariant.3)

pub loop-i-smaller : goal.loop-i-smaller
loop-i-smaller c = omega (arith, c.next-i.ensures.1, c.next-i.ensures.2, c.loop-i.invariant.2)

pub loop-i-preserved : goal.loop-i-preserved
loop-i-preserved c = let v = c.loop-i.invariant in
    let x = c.args in
    let b = x.packets.now in
    let h = head_of (x.k + 1) x.n in
    let i = c.loop-i.i in
    let m = c.loop-i.m in
    let few = c.if-m-eq10.false in (
      v.0 ∙ ap (with_head h) (onward_next b m i c.next-i.result (omega (arith, few, v.3)) (omega (arith, v.2)) c.next-i.ensures.0) ∙ with_no h (piece_at b i) _ (ap (headed h) (sym c.piece-b.ensures) ∙ sym c.headed.ensures ∙ c.if-headed.false),
      omega (arith, c.next-i.ensures.2, v.2),
      v.2,
      omega (arith, few, v.3),
      (piece_part b m i c.next-i.result (omega (arith, few, v.3)) (omega (arith, v.2)) c.next-i.ensures.0 v.4).1,
    )

pub returns : goal.returns
returns c = let v = c.loop-i.invariant in
    let x = c.args in
    let b = x.packets.now in
    let h = head_of (x.k + 1) x.n in
    piece_end b ∙ sym (v.0 ∙ ap (with_head h) (onward_end b c.loop-i.m c.loop-i.i (omega (arith, v.2))) ∙ head_end h)
