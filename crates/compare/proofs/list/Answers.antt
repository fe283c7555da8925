-- `compare::list`: what its goals need. Assumes nothing.
use mathlib.Core.Path.{◌≡◌, sym, ap, ◌∙◌}
use mathlib.Core.List.{[], ◌∷◌}
use native.Mathlib.Omega.{arith}
use lib.ListN.{length}
use lib.Seq.{length-sets}
use Rattle.std.proofs.lemmas.Result.{err_from_is_err_and}
use Rattle.refusal.specs.Refusal.{number_of}
use Rattle.refusal.proofs.Numbers.{some_number}
use Rattle.print.proofs.Numbers.{at_most_20}
use Rattle.compare.specs.Differences.{below}
use Rattle.compare.specs.Texts.{last_word, texts_of}
use Rattle.compare.proofs.Lines.{phrase_length}
use Rattle.compare.specs.declared.Unlisted.TheVariants as unlisted
use Rattle.compare.proofs.Answers.{passed, refused_as, longer_most, report_put, left_refused, right_refused_lem, too_short, listed, room_left, room_right, room_short, room_enough}
use Rattle.compare.proofs.list.Goals as goal

pub returns-in_err-map_err : goal.returns-in_err-map_err
returns-in_err-map_err c = let a = c.args in
    let p = err_from_is_err_and c.from_residual.result c.from_residual.ensures.1 in
    let w = refused_as _ _ c.judge.result c.in_err-map_err.ensures.variant c.in_err-map_err.ensures.cases in
    let side : c.in_err-map_err.field-0.0 ≡ unlisted.Left w.0 = w.2 in
    let e = sym w.1 ∙ c.judge.ensures in
    let all = left_refused a.left.now a.right.now a.out.now (number_of w.0) e (some_number w.0) in record {
      answer = rw (p.1, p.2, side) all.0;
      room = rw (p.1, p.2, side) (room_left a.left.now a.right.now a.out.now (number_of w.0) e (some_number w.0));
      output = all.1;
    }

pub returns-in_err-map_err-2 : goal.returns-in_err-map_err-2
returns-in_err-map_err-2 c = let a = c.args in
    let p = err_from_is_err_and c.from_residual-in_err-map_err-2.result c.from_residual-in_err-map_err-2.ensures.1 in
    let el = sym c.judge.ensures ∙ passed c.judge.result c.in_ok-map_err.ensures.variant in
    let w = refused_as _ _ c.judge-2.result c.in_err-map_err-2.ensures.variant c.in_err-map_err-2.ensures.cases in
    let side : c.in_err-map_err-2.field-0.0 ≡ unlisted.Right w.0 = w.2 in
    let e = sym w.1 ∙ c.judge-2.ensures in
    let all = right_refused_lem a.left.now a.right.now a.out.now el (number_of w.0) e (some_number w.0) in record {
      answer = rw (p.1, p.2, side) all.0;
      room = rw (p.1, p.2, side) (room_right a.left.now a.right.now a.out.now el (number_of w.0) e (some_number w.0));
      output = all.1;
    }

pub returns-then-out-lt262144 : goal.returns-then-out-lt262144
returns-then-out-lt262144 c = let a = c.args in
    let el = sym c.judge.ensures ∙ passed c.judge.result c.in_ok-map_err.ensures.variant in
    let er = sym c.judge-2.ensures ∙ passed c.judge-2.result c.in_ok-map_err-2.ensures.variant in
    let all = too_short a.left.now a.right.now a.out.now el er (omega arith) in
    record { answer = all.0; room = room_short a.left.now a.right.now a.out.now el er (omega arith); output = all.1 }

pub put_below-so-requires : goal.put_below-so-requires
put_below-so-requires c = let a = c.args in
    (longer_most a.left.now a.right.now c.longer.result c.longer.ensures (sym c.judge.ensures ∙ passed c.judge.result c.in_ok-map_err.ensures.variant) (sym c.judge-2.ensures ∙ passed c.judge-2.result c.in_ok-map_err-2.ensures.variant), omega arith)

pub put_phrase-requires : goal.put_phrase-requires
put_phrase-requires c = let a = c.args in
    let p = c.put_below-so in
    let n = c.longer.result in
    omega (arith, p.ensures.0, ap length p.ensures.2.2 ∙ length-sets a.out.now 0 (texts_of (below a.left.now a.right.now n)), longer_most a.left.now a.right.now n c.longer.ensures (sym c.judge.ensures ∙ passed c.judge.result c.in_ok-map_err.ensures.variant) (sym c.judge-2.ensures ∙ passed c.judge-2.result c.in_ok-map_err-2.ensures.variant))

pub returns : goal.returns
returns c = let a = c.args in
    let p = c.put_below-so in
    let q = c.put_phrase in
    let n = c.longer.result in
    let el = sym c.judge.ensures ∙ passed c.judge.result c.in_ok-map_err.ensures.variant in
    let er = sym c.judge-2.ensures ∙ passed c.judge-2.result c.in_ok-map_err-2.ensures.variant in
    let w = report_put a.left.now a.right.now a.out.now p.new.out q.new.out n p.result.at p.result.lines q.result c.longer.ensures p.ensures.2 q.ensures.0 q.ensures.1 in let all = listed a.left.now a.right.now a.out.now el er (omega arith) _ _ w.0 w.1
    (omega (arith, q.ensures.0, p.ensures.0, longer_most a.left.now a.right.now n c.longer.ensures el er, phrase_length last_word p.result.lines (10 ∷ []), at_most_20 p.result.lines)) in record { answer = all.0; room = room_enough a.left.now a.right.now a.out.now el er (omega arith); output = all.1 }
