-- `shelf::make`: what its goals need. Assumes nothing.
use lib.ListN.{set}
use Prim.Native.Nat.{◌+◌}
use Rattle.shelf.proofs.Answers.{four_kept}
use Rattle.shelf.proofs.Stores.{ending}
use mathlib.Core.Path.{sym, ap, ◌∙◌}
use native.Mathlib.Omega.{arith}
use borrow.Author.Tests.{not-true, not-false}
use lib.ListN.{length, length-set}
use lib.Seq.{length-sets}
use Rattle.air.proofs.Answers.{sized_short}
use Rattle.shelf.proofs.Answers.{make_20, make_13, make_27, make_34, make_done, put_record}
use mathlib.Core.Bool.{not}
use Rattle.shelf.proofs.make.Goals as goal

pub returns-then-not-right_size : goal.returns-then-not-right_size
returns-then-not-right_size c = let all = make_20 c.args.level c.args.version c.args.packet.now c.args.out.now (sym c.right_size.ensures ∙ not-true _ (ap not c.if-not-right_size.true)) in record { answer = all.0; output = all.1 }

pub returns-then-is_reserved : goal.returns-then-is_reserved
returns-then-is_reserved c = let all = make_13 c.args.level c.args.version c.args.packet.now c.args.out.now (sym c.right_size.ensures ∙ not-false _ (ap not c.if-not-right_size.false)) (sym c.is_reserved.ensures ∙ c.if-is_reserved.true) in record { answer = all.0; output = all.1 }

pub returns-then-version-gt31 : goal.returns-then-version-gt31
returns-then-version-gt31 c = let all = make_27 c.args.level c.args.version c.args.packet.now c.args.out.now (sym c.right_size.ensures ∙ not-false _ (ap not c.if-not-right_size.false)) (sym c.is_reserved.ensures ∙ c.if-is_reserved.false) (omega arith) in record { answer = all.0; output = all.1 }

pub returns-then-out-ne256 : goal.returns-then-out-ne256
returns-then-out-ne256 c = let all = make_34 c.args.level c.args.version c.args.packet.now c.args.out.now (sym c.right_size.ensures ∙ not-false _ (ap not c.if-not-right_size.false)) (sym c.is_reserved.ensures ∙ c.if-is_reserved.false) (omega arith) c.if-out-ne256.true in record { answer = all.0; output = all.1 }

pub bounds-out-0 : goal.bounds-out-0
bounds-out-0 c = omega (arith, c.if-out-ne256.false)

pub bounds-out-1 : goal.bounds-out-1
bounds-out-1 c = simp length-set (omega (arith, c.if-out-ne256.false))

pub bounds-out-2 : goal.bounds-out-2
bounds-out-2 c = simp length-set (omega (arith, c.if-out-ne256.false))

pub overflow_cast-out : goal.overflow_cast-out
overflow_cast-out c = omega (arith, sized_short c.args.packet.now (sym c.right_size.ensures ∙ not-false _ (ap not c.if-not-right_size.false)))

pub bounds-out-3 : goal.bounds-out-3
bounds-out-3 c = simp length-set (omega (arith, c.if-out-ne256.false))

pub put_packet-requires : goal.put_packet-requires
put_packet-requires c = simp length-set (omega (arith, c.if-out-ne256.false, sized_short c.args.packet.now (sym c.right_size.ensures ∙ not-false _ (ap not c.if-not-right_size.false))))

pub put_end-requires : goal.put_end-requires
put_end-requires c = let a = c.args in (
  ap length c.put_packet.ensures ∙ length-sets (set (set (set (set a.out.now 0 a.level) 1 a.version) 2 0) 3 (length a.packet.now)) 4 a.packet.now ∙ four_kept a.out.now a.level a.version 0 (length a.packet.now) ∙ c.if-out-ne256.false,
  omega (arith, sized_short a.packet.now (sym c.right_size.ensures ∙ not-false _ (ap not c.if-not-right_size.false))),
)

pub shape_of-out : goal.shape_of-out
shape_of-out c = let a = c.args in
    ap length c.put_end.ensures ∙ length-sets c.put_packet.new.out (4 + length a.packet.now) (ending (4 + length a.packet.now))
    ∙ ap length c.put_packet.ensures ∙ length-sets (set (set (set (set a.out.now 0 a.level) 1 a.version) 2 0) 3 (length a.packet.now)) 4 a.packet.now ∙ four_kept a.out.now a.level a.version 0 (length a.packet.now)

pub returns : goal.returns
returns c = let all = make_done c.args.level c.args.version c.args.packet.now c.args.out.now (sym c.right_size.ensures ∙ not-false _ (ap not c.if-not-right_size.false)) (sym c.is_reserved.ensures ∙ c.if-is_reserved.false) (omega arith) c.if-out-ne256.false _ (put_record c.args.level c.args.version c.args.packet.now c.args.out.now c.put_packet.new.out _ c.if-out-ne256.false (sized_short c.args.packet.now (sym c.right_size.ensures ∙ not-false _ (ap not c.if-not-right_size.false))) c.put_packet.ensures c.put_end.ensures) in record { answer = all.0; output = all.1 }
