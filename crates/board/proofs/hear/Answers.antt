use mathlib.Core.Path.{sym, ap, ◌∙◌}
use borrow.Author.Tests.{not-true, not-false, eqb-true, eqb-false}
use Prim.Native.Nat.{ℕ}
use native.Mathlib.Omega.{arith}
use Rattle.collector.specs.declared.Kept.TheVariants as pair
use Rattle.std.specs.Prelude.{Result}
use Rattle.refusal.specs.declared.Refusal.{Refusal}
use Rattle.collector.specs.declared.Offered.{Offered}
use Rattle.collector.specs.Layout.{offer_told, Outcome}
use Rattle.collector.proofs.Told.{is_kept, is_other, refusal_high}
use Rattle.board.specs.Board.{unheard}
use Rattle.board.proofs.Hearing.{bad_told, bad_stories, bad_collector, no_room, not_whole, is_whole_lem}
use mathlib.Core.Bool.{not}
use Rattle.board.proofs.hear.Goals as goal

pub returns-then-not-is_good : goal.returns-then-not-is_good
returns-then-not-is_good c = let x = c.args in
    let k = bad_stories x.board x.frame.now x.out.now (sym c.is_good.ensures ∙ not-true _ (ap not c.if-not-is_good.true)) in record {
      answer = c.unheard.ensures ∙ k.0;
      output = k.1;
    }

pub returns-then-is_refused : goal.returns-then-is_refused
returns-then-is_refused c = let x = c.args in
    let bad = eqb-true _ _ (sym (bad_told x.board.collector c.offer-first.result) ∙ sym c.is_refused.ensures ∙ c.if-is_refused.true) in
    let k = bad_collector x.board x.frame.now x.out.now (sym c.is_good.ensures ∙ not-false _ (ap not c.if-not-is_good.false)) (ap (λ (o : Outcome). o.answer) (sym c.offer-first.ensures) ∙ bad) in record {
      answer = c.unheard-then-is_refused.ensures ∙ k.0;
      output = k.1;
    }

pub returns-then-out-lt1341 : goal.returns-then-out-lt1341
returns-then-out-lt1341 c = let x = c.args in
    let sound = eqb-false _ _ (sym (bad_told x.board.collector c.offer-first.result) ∙ sym c.is_refused.ensures ∙ c.if-is_refused.false) in
    let k = no_room x.board x.frame.now x.out.now (sym c.is_good.ensures ∙ not-false _ (ap not c.if-not-is_good.false)) (λ z. sound (ap (λ (o : Outcome). o.answer) c.offer-first.ensures ∙ z)) c.if-out-lt1341.true in record {
      answer = c.unheard-then-out-lt1341.ensures ∙ k.0;
      output = k.1;
    }

pub take_whole-requires : goal.take_whole-requires
take_whole-requires c =
    let r = ap (λ (y : Result Offered Refusal). offer_told c.offer_with_room-trial.result.collector y) (sym c.in-Ok.is) ∙ c.offer_with_room-trial.ensures in
    (r, is_kept c.in-Ok.o.kept pair.Whole (sym c.eq.ensures ∙ c.if-eq.true))

pub returns-then-eq : goal.returns-then-eq
returns-then-eq c = let x = c.args in
    let sound = eqb-false _ _ (sym (bad_told x.board.collector c.offer-first.result) ∙ sym c.is_refused.ensures ∙ c.if-is_refused.false) in
    let r = ap (λ (y : Result Offered Refusal). offer_told c.offer_with_room-trial.result.collector y) (sym c.in-Ok.is) ∙ c.offer_with_room-trial.ensures in
    let k = is_whole_lem x.board x.frame.now x.out.now (sym c.is_good.ensures ∙ not-false _ (ap not c.if-not-is_good.false)) (λ z. sound (ap (λ (o : Outcome). o.answer) c.offer-first.ensures ∙ z)) c.if-out-lt1341.false (ap (λ (o : Outcome). o.answer) (sym r) ∙ is_kept c.in-Ok.o.kept pair.Whole (sym c.eq.ensures ∙ c.if-eq.true)) in record {
      answer = c.take_whole.ensures.answer ∙ k.0;
      output = c.take_whole.ensures.output ∙ k.1;
    }

pub returns-else-eq : goal.returns-else-eq
returns-else-eq c = let x = c.args in
    let sound = eqb-false _ _ (sym (bad_told x.board.collector c.offer-first.result) ∙ sym c.is_refused.ensures ∙ c.if-is_refused.false) in
    let r = ap (λ (y : Result Offered Refusal). offer_told c.offer_with_room-trial.result.collector y) (sym c.in-Ok.is) ∙ c.offer_with_room-trial.ensures in
    let k = not_whole x.board x.frame.now x.out.now (sym c.is_good.ensures ∙ not-false _ (ap not c.if-not-is_good.false)) (λ z. sound (ap (λ (o : Outcome). o.answer) c.offer-first.ensures ∙ z)) c.if-out-lt1341.false (λ z. is_other c.in-Ok.o.kept pair.Whole (sym c.eq.ensures ∙ c.if-eq.false) (ap (λ (o : Outcome). o.answer) r ∙ z)) in record {
      answer = c.unheard-in-Ok.ensures ∙ ap (λ (n : ℕ). unheard n (record { collector = c.in-Ok.o.collector; stories = x.board.stories })) c.number.ensures ∙ ap (λ (o : Outcome). unheard o.answer (record { collector = o.collector; stories = x.board.stories })) r ∙ k.0;
      output = k.1;
    }

pub returns-in-Err : goal.returns-in-Err
returns-in-Err c = let x = c.args in
    let sound = eqb-false _ _ (sym (bad_told x.board.collector c.offer-first.result) ∙ sym c.is_refused.ensures ∙ c.if-is_refused.false) in
    let d = c.offer_with_room-trial.result.collector in
    let r = ap (λ (y : Result Offered Refusal). offer_told d y) (sym c.in-Err.is) ∙ c.offer_with_room-trial.ensures in
    let high = refusal_high c.in-Err.refusal in
    let k = not_whole x.board x.frame.now x.out.now (sym c.is_good.ensures ∙ not-false _ (ap not c.if-not-is_good.false)) (λ z. sound (ap (λ (o : Outcome). o.answer) c.offer-first.ensures ∙ z)) c.if-out-lt1341.false (λ z. let w = ap (λ (o : Outcome). o.answer) r ∙ z in omega (arith, w, high)) in record {
      answer = c.unheard-in-Err.ensures ∙ ap (λ (n : ℕ). unheard n (record { collector = d; stories = x.board.stories })) c.number-in-Err.ensures ∙ ap (λ (o : Outcome). unheard o.answer (record { collector = o.collector; stories = x.board.stories })) r ∙ k.0;
      output = k.1;
    }
