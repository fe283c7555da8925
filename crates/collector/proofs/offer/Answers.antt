-- `collector::offer`: what its goals need. Assumes nothing.
use mathlib.Core.Path.{◌≡◌, sym, ap, ◌∙◌}
use Prim.Native.Nat.{ℕ}
use native.Mathlib.Omega.{arith}
use Rattle.std.proofs.lemmas.Result.{err_from_is_err_and}
use borrow.Author.Tests.{not-true, not-false}
use Rattle.collector.proofs.Calls.{offer_heading, offer_taken}
use Rattle.collector.specs.Collector.{piece_with, piece_of, taken_in}
use Rattle.refusal.specs.Refusal.{number_of}
use Rattle.refusal.proofs.Numbers.{some_number}
use Rattle.frame.specs.Heading.{refusals, heading_fields}
use Rattle.frame.specs.declared.Heading.{Heading}
use Rattle.frame.specs.Heading.{Headed}
use Rattle.frame.proofs.Accepted.{answer_is, fields_are, eight_bytes, bounds}
use Rattle.collector.specs.declared.Piece.{Piece}
use Rattle.laws.specs.Refusals.{first}
use Rattle.laws.proofs.Cases.{and_both}
use Rattle.collector.specs.Layout.{tops_clear, as_collector}
use Rattle.collector.proofs.Seen.{offer_bad, offer_seen}
use mathlib.Core.Bool.{not}
use Rattle.collector.proofs.offer.Goals as goal

pub returns-then-not-is_good : goal.returns-then-not-is_good
returns-then-not-is_good c = offer_bad _ (sym c.is_good.ensures ∙ not-true _ (ap not c.if-not-is_good.true)) _

pub piece_of-requires : goal.piece_of-requires
piece_of-requires c = let f = c.args.frame.now in
    let e : first (refusals f) ≡ 0 = sym (ap (λ (h : Headed). h.answer) c.in_ok-heading.ensures ∙ answer_is f) in
    eight_bytes f e

pub take_in-requires : goal.take_in-requires
take_in-requires c = let f = c.args.frame.now in
    let h = c.args.collector in
    let e : first (refusals f) ≡ 0 = sym (ap (λ (k : Headed). k.answer) c.in_ok-heading.ensures ∙ answer_is f) in
    let w : c.piece_of.result.heading ≡ heading_fields f = ap (λ (x : Piece). x.heading) c.piece_of.ensures ∙ ap (λ (k : Headed). k.heading) c.in_ok-heading.ensures ∙ fields_are f e in
    let b = bounds f e in
    (rw w (omega (arith, b.number_below, b.total_high)), (and_both (tops_clear h) _ (sym c.is_good.ensures ∙ not-false _ (ap not c.if-not-is_good.false))).0)

pub returns : goal.returns
returns c = let f = c.args.frame.now in
    let h = c.args.collector in
    let d = as_collector h in
    let g = and_both (tops_clear h) _ (sym c.is_good.ensures ∙ not-false _ (ap not c.if-not-is_good.false)) in
    let e : first (refusals f) ≡ 0 = sym (ap (λ (k : Headed). k.answer) c.in_ok-heading.ensures ∙ answer_is f) in
    let w : c.piece_of.result ≡ piece_of f = c.piece_of.ensures ∙ ap (λ (k : Heading). piece_with k f) (ap (λ (k : Headed). k.heading) c.in_ok-heading.ensures ∙ fields_are f e) in
    offer_seen h g.0 f _ c.take_in.ensures.top (c.take_in.ensures.result_value ∙ ap (taken_in d) w ∙ offer_taken d f g.1 e)

pub returns-in_err-heading : goal.returns-in_err-heading
returns-in_err-heading c = let f = c.args.frame.now in
    let h = c.args.collector in
    let d = as_collector h in
    let g = and_both (tops_clear h) _ (sym c.is_good.ensures ∙ not-false _ (ap not c.if-not-is_good.false)) in
    let r = c.in_err-heading.field-0.0 in
    let e : number_of r ≡ first (refusals f) = ap (λ (k : Headed). k.answer) c.in_err-heading.ensures ∙ answer_is f in
    let p = err_from_is_err_and c.from_residual.result c.from_residual.ensures.1 in
    rw (p.1, p.2) (offer_seen h g.0 f _ g.0
    (ap (λ (n : ℕ). record { answer = n; collector = d }) e
    ∙ offer_heading d f g.1 (λ (z : first (refusals f) ≡ 0). some_number r (e ∙ z))))
