-- `air::on_air`: what its goals need. Assumes nothing.
use borrow.Author.Tests.{not-true, not-false}
use mathlib.Core.Path.{◌≡◌, sym, ◌∙◌}
use mathlib.Core.Bool.{true}
use native.Mathlib.Omega.{arith}
use Rattle.frame.proofs.Fields.{reserved_low, reserved_high, reserved_no}
use Rattle.air.specs.OnAir.{sized}
use Rattle.air.proofs.Stream.{few_total}
use Rattle.air.proofs.Answers.{sized_short, says_20, says_13, says_27, says_10, says_0}
use mathlib.Core.Path.{ap}
use mathlib.Core.Bool.{not}
use Rattle.air.proofs.on_air.Goals as goal
use Rattle.air.proofs.on_air.Goals.{then-level-eq0-via-then-level-eq0, then-level-eq0-via-else-level-eq0+then-level-ge7}

pub returns-then-not-right_size : goal.returns-then-not-right_size
returns-then-not-right_size c = let all = says_20 _ _ _ _ (sym c.right_size.ensures ∙ not-true c.right_size.result (ap not c.if-not-right_size.true)) in record { answer = all.0; output = all.1 }

pub returns-then-level-eq0 : goal.returns-then-level-eq0
returns-then-level-eq0 c =
    let s : sized c.args.packet.now ≡ true = sym c.right_size.ensures ∙ not-false c.right_size.result (ap not c.if-not-right_size.false) in
    elim c.then-level-eq0.branch [
      | then-level-eq0-via-then-level-eq0 w ↦ let all = says_13 _ _ _ _ s (reserved_low _ w.if-level-eq0.true) in record { answer = all.0; output = all.1 }
      | then-level-eq0-via-else-level-eq0+then-level-ge7 w ↦ let all = says_13 _ _ _ _ s (reserved_high _ (omega arith)) in record { answer = all.0; output = all.1 }
    ]

pub returns-then-version-gt31 : goal.returns-then-version-gt31
returns-then-version-gt31 c = let s : sized c.args.packet.now ≡ true = sym c.right_size.ensures ∙ not-false c.right_size.result (ap not c.if-not-right_size.false) in let all = says_27 _ _ _ _ s (reserved_no _ c.if-level-eq0.false (omega arith)) (omega arith) in record { answer = all.0; output = all.1 }

pub total_for-frames-requires : goal.total_for-frames-requires
total_for-frames-requires c = let s : sized c.args.packet.now ≡ true = sym c.right_size.ensures ∙ not-false c.right_size.result (ap not c.if-not-right_size.false) in
    sized_short _ s

pub overflow_mul-frames : goal.overflow_mul-frames
overflow_mul-frames c = let s : sized c.args.packet.now ≡ true = sym c.right_size.ensures ∙ not-false c.right_size.result (ap not c.if-not-right_size.false) in
    omega (arith, (few_total c.args.packet.now _ (sized_short _ s) c.total_for-frames.ensures).1)

pub returns-then-out-frames : goal.returns-then-out-frames
returns-then-out-frames c = let s : sized c.args.packet.now ≡ true = sym c.right_size.ensures ∙ not-false c.right_size.result (ap not c.if-not-right_size.false) in
    let t = (few_total c.args.packet.now _ (sized_short _ s) c.total_for-frames.ensures).0 in let all = says_10 _ _ _ _ s (reserved_no _ c.if-level-eq0.false (omega arith)) (omega arith) (omega arith) in record { answer = all.0; output = all.1 }

pub put_frames-requires : goal.put_frames-requires
put_frames-requires c = let s : sized c.args.packet.now ≡ true = sym c.right_size.ensures ∙ not-false c.right_size.result (ap not c.if-not-right_size.false) in
    let t = (few_total c.args.packet.now _ (sized_short _ s) c.total_for-frames.ensures).0 in
    record { short = sized_short _ s; level_small = omega arith; version_small = omega arith; room = omega arith }

pub returns : goal.returns
returns c = let s : sized c.args.packet.now ≡ true = sym c.right_size.ensures ∙ not-false c.right_size.result (ap not c.if-not-right_size.false) in
    let t = (few_total c.args.packet.now _ (sized_short _ s) c.total_for-frames.ensures).0 in let all = says_0 _ _ _ c.args.out.now s (reserved_no _ c.if-level-eq0.false (omega arith)) (omega arith) (omega arith) _ t _ c.put_frames.ensures in record { answer = all.0; output = all.1 }
