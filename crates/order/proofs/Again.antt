-- A frame that contradicts what is held for its pair: a whole pair stays, another begins again with this frame. Assumes nothing.
use mathlib.Core.Path.{◌≡◌, refl, sym, ap, subst, ◌∙◌}
use mathlib.Core.List.{List, []}
use mathlib.Core.Option.{some}
use mathlib.Core.Bool.{true, false, cond, not, ◌&&◌, true≢false}
use Prim.Native.Nat.{ℕ, ◌<◌, ◌≤◌}
use native.Mathlib.Omega.{arith}
use lib.ListN.{length}
use lib.Dec.{eqb, ltb}
use borrow.Author.Tests.{eqb-true, eqb-false, ltb-true, ltb-false, not-true}
use Rattle.laws.proofs.Below.{below_yes}
use Rattle.laws.proofs.Cases.{if_yes, if_no, and_yes, and_no, and_left, and_right, and_both, or_no}
use Rattle.laws.proofs.Elements.{by_test}
use Rattle.laws.proofs.Refusals.{stop, pass, none_left}
use Rattle.frame.specs.Heading.{accepted}
use Rattle.frame.proofs.Accepted.{Bounds, bounds}
use Rattle.collector.specs.declared.Place.{Place}
use Rattle.collector.specs.declared.Collector.{Collector}
use Rattle.collector.specs.declared.Piece.{Piece}
use Rattle.collector.specs.Whole.{passes}
use Rattle.collector.specs.Places.{marked, complete, shaped, same_four, contradicts, again, against, taken_for, stored, joined, whole, state}
use Rattle.collector.specs.Collector.{index_of_pair, its_place, contradicted, piece_of, begun, offered, Offered}
use Rattle.collector.proofs.OnePlace.{opposed, is_missing, is_whole_lem, is_spoiled}
use Rattle.collector.proofs.AllPlaces.{is_not_held, take_against, take_begun}
use Rattle.collector.proofs.Marks.{stored_shaped, taken_shaped, mark_own, mark_other, mark_none, one_missing}
use Rattle.order.specs.Held.{Good, four_at, starts_over}
use Rattle.order.specs.Given.{four, bytes_of, joined_to, Afresh}
use Rattle.order.proofs.HeldPlace.{four_own}
use Rattle.order.proofs.Outcome.{at_pair}
use Rattle.order.proofs.Keeping.{begun_collector}
use Rattle.order.proofs.Stepping.{begun_afresh}
use Rattle.order.proofs.Declaring.{joined_full}
use Rattle.order.proofs.Offering.{offered_taken, accepted_none}

-- what contradicts a place is not held by it already
pub opposed_again : (p : Place) (x : Piece) → contradicts p x ≡ true → again p x ≡ false
unfolding contradicts again
opposed_again p x e =
    by_test (eqb p.total.0 x.heading.total.0)
    (λ t.
    let r = and_both (marked p x.heading.number) (not (same_four p x)) (sym (or_no _ (ap not t)) ∙ e) in
    and_yes _ t ∙ and_yes _ r.0 ∙ not-true _ r.1)
    (λ t. and_no _ t)

-- the numbers against a frame that neither keep it nor begin again
pub against_else : (p : Place) (x : Piece) (P : ℕ → Type 0) → P 15 → P 2 → (a : ℕ) → a ≡ against p x → (a ≡ 0 → ⊥) → (a ≡ 3 → ⊥) → P a
unfolding against
against_else p x P fifteen two a e n m =
    by_test (contradicts p x && whole p)
    (λ t. subst P (sym (e ∙ stop 15 _ t)) fifteen)
    (λ t.
    by_test (again p x)
    (λ u. subst P (sym (e ∙ pass 15 _ t ∙ stop 2 _ u)) two)
    (λ u.
    by_test (contradicts p x)
    (λ k. absurd (m (e ∙ pass 15 _ t ∙ pass 2 _ u ∙ stop 3 [] k)))
    (λ k. absurd (n (e ∙ pass 15 _ t ∙ pass 2 _ u ∙ pass 3 [] k ∙ none_left)))))

module _ (c : Collector) (x : Piece) where
  pub whole_fifteen : contradicted c x ≡ true → whole (its_place c x) ≡ true → against (its_place c x) x ≡ 15
  whole_fifteen e w =
      let k = and_right (its_place c x).held (contradicts (its_place c x) x) e in
      opposed (its_place c x) x k (opposed_again (its_place c x) x k) ∙ if_yes _ _ w

  pub over_three : starts_over c x ≡ true → against (its_place c x) x ≡ 3
  over_three s =
      let r = and_both (contradicted c x) (not (whole (its_place c x))) s in
      let k = and_right (its_place c x).held (contradicts (its_place c x) x) r.0 in
      opposed (its_place c x) x k (opposed_again (its_place c x) x k) ∙ if_no 15 3 (not-true (whole (its_place c x)) r.1)

  pub its_index : (its_place c x).held ≡ true → at_pair c x < length c.places
  unfolding index_of_pair
  its_index h =
      by_test (ltb (at_pair c x) (length c.places))
      (λ t. ltb-true _ _ t)
      (λ t. absurd (true≢false (sym h ∙ is_not_held c.places x.heading.level x.heading.version (ltb-false _ _ t))))

-- ---- what a place taken afresh is with its first frame
module _ (x : Piece) (b : Bounds x.heading) where
  abbrev q : Place
  q = stored (taken_for x) x

  small : x.heading.number.0 < 63
  small = let n = b.number_below in let u = b.total_high in omega arith

  q_total : q.total.0 ≡ x.heading.total.0
  unfolding stored taken_for
  q_total = refl

  q_shaped : shaped q ≡ true
  q_shaped = stored_shaped (taken_for x) x ∙ taken_shaped x

  -- with a total above 1 some number is missing
  more_missing : (x.heading.total.0 ≡ 1 → ⊥) → state q ≡ 0
  more_missing ne =
      is_missing q
      (by_test (eqb x.heading.number.0 0)
      (λ e.
      let z : x.heading.number.0 ≡ 0 = eqb-true _ _ e in
      lacks 1 (let n = b.number_below in let t = q_total in two t) (λ (k : 1 ≡ x.heading.number.0). omega arith))
      (λ e. lacks 0 (let n = b.number_below in let t = q_total in omega arith) (λ (k : 0 ≡ x.heading.number.0). eqb-false _ _ e (sym k))))
    where
      two : q.total.0 ≡ x.heading.total.0 → 1 < q.total.0
      two t =
          let n = b.number_below in
          by_test (ltb 1 x.heading.total.0)
          (λ w. let y : 1 < x.heading.total.0 = ltb-true _ _ w in omega arith)
          (λ w. let y : x.heading.total.0 ≤ 1 = ltb-false _ _ w in absurd (ne (omega arith)))

      lacks : (k : ℕ) → k < q.total.0 → (k ≡ x.heading.number.0 → ⊥) → complete q ≡ false
      lacks k h d = one_missing q (record { 0 = k }) h (mark_other (taken_for x) x (record { 0 = k }) d ∙ mark_none x (record { 0 = k }))

  module _ (one : x.heading.total.0 ≡ 1) where
    zeroth : x.heading.number.0 ≡ 0
    zeroth = let n = b.number_below in omega arith

    q_complete : complete q ≡ true
    unfolding complete
    q_complete =
        below_yes q.total.0 (λ n. marked q (record { 0 = n }))
        (λ k h.
        let t = q_total in
        let z = zeroth in
        let e : x.heading.number.0 ≡ k = omega arith in
        ap (λ (n : ℕ). marked q (record { 0 = n })) (sym e) ∙ mark_own (taken_for x) x (taken_shaped x) small)

    q_joined : joined q ≡ bytes_of (some (four x))
    unfolding joined_to
    q_joined =
        let u = b.total_high in
        let t = q_total in
        joined_full q q_shaped (omega arith) q_complete
        ∙ ap (λ (n : ℕ). joined_to n (four_at q)) (t ∙ one)
        ∙ ap bytes_of (ap (λ (n : ℕ). four_at q (record { 0 = n })) (sym zeroth) ∙ four_own (taken_for x) x (taken_shaped x) small)

    alone_state : state q ≡ cond (passes (bytes_of (some (four x)))) 1 17
    alone_state =
        by_test (passes (bytes_of (some (four x))))
        (λ w. is_whole_lem q q_complete (ap passes q_joined ∙ w) ∙ sym (if_yes _ _ w))
        (λ w. is_spoiled q q_complete (ap passes q_joined ∙ w) ∙ sym (if_no _ _ w))

  -- 3, or 1 or 17 where a total of 1 completes
  abbrev begun_answer : ℕ
  begun_answer = cond (eqb x.heading.total.0 1) (cond (passes (bytes_of (some (four x)))) 1 17) 3

  begun_answer_lem : (c : Collector) (i : ℕ) → (begun c i x).answer ≡ begun_answer
  unfolding begun
  begun_answer_lem c i =
      by_test (eqb x.heading.total.0 1)
      (λ t.
      let s = alone_state (eqb-true _ _ t) in
      by_test (passes (bytes_of (some (four x))))
      (λ w. ap (λ (n : ℕ). cond (eqb n 0) 3 n) (s ∙ if_yes _ _ w) ∙ sym (if_yes _ _ t ∙ if_yes _ _ w))
      (λ w. ap (λ (n : ℕ). cond (eqb n 0) 3 n) (s ∙ if_no _ _ w) ∙ sym (if_yes _ _ t ∙ if_no _ _ w)))
      (λ t. ap (λ (n : ℕ). cond (eqb n 0) 3 n) (more_missing (eqb-false _ _ t)) ∙ sym (if_no _ _ t))

-- A frame with an accepted heading that contradicts what a good collector holds for its pair: where the pair is whole, 15, and nothing changes.
-- Where it is not, the pair then holds exactly this frame's four bytes at its number and its total, nothing of what it held before; every other
-- pair is as it was; and the answer is 3, or 1 or 17 by the rule of a whole packet where the total is 1.
pub begun_again : (c : Collector) (f : List ℕ) → Good c → accepted f ≡ true → contradicted c (piece_of f) ≡ true
    → (whole (its_place c (piece_of f)) ≡ true → offered c f ≡ record { answer = 15; collector = c })
    × (whole (its_place c (piece_of f)) ≡ false
    → Afresh c (piece_of f) (offered c f).collector
    × ((offered c f).answer ≡ cond (eqb (piece_of f).heading.total.0 1) (cond (passes (bytes_of (some (four (piece_of f))))) 1 17) 3))
unfolding index_of_pair
begun_again c f g a e =
    let x = piece_of f in
    let held = and_left (its_place c x).held (contradicts (its_place c x) x) e in
    let b = bounds f (accepted_none f a) in
    let t = offered_taken c f g a in (
      λ w. t ∙ sym (take_against c x held 15 (sym (whole_fifteen c x e w)) (λ (z : 15 ≡ 0). omega arith) (λ (z : 15 ≡ 3). omega arith)),
      λ w.
          let o = take_begun c x held (over_three c x (and_yes _ e ∙ ap not w)) in (
            subst (Afresh c x) (sym (begun_collector c (at_pair c x) x) ∙ ap (λ (r : Offered). r.collector) (o ∙ sym t)) (begun_afresh c x (its_index c x held) (small x b)),
            sym (ap (λ (r : Offered). r.answer) (o ∙ sym t)) ∙ begun_answer_lem x b c (at_pair c x),
          ),
    )
