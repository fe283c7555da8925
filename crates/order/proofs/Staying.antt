-- What a collector holds is neither lost nor changed by an offer, unless a contradiction clears it. Assumes nothing.
use mathlib.Core.Path.{◌≡◌, sym, ap, ap₂, subst, ◌∙◌}
use mathlib.Core.List.{List, [], ◌∷◌}
use mathlib.Core.Option.{Option, none, some}
use mathlib.Core.Bool.{Bool, true, false, not, ◌&&◌, true≢false}
use Prim.Native.Nat.{ℕ, ◌≤◌, ◌<◌}
use native.Mathlib.Omega.{arith}
use lib.ListN.{length}
use lib.Dec.{eqb}
use borrow.Author.Tests.{eqb-true, not-true}
use Rattle.laws.proofs.Cases.{if_yes, if_no, and_yes, and_left, and_right, and_both}
use Rattle.laws.proofs.Elements.{by_test, all_at}
use Rattle.frame.specs.declared.Total.{Total}
use Rattle.frame.specs.declared.Number.{Number}
use Rattle.frame.specs.Heading.{accepted}
use Rattle.frame.proofs.Accepted.{Bounds, bounds}
use Rattle.collector.specs.declared.Collector.{Collector}
use Rattle.collector.specs.declared.Piece.{Piece}
use Rattle.collector.specs.Places.{blank, shaped, against, stored, taken_for}
use Rattle.collector.specs.Collector.{index_of_pair, its_place, put, piece_of, taken_in, offered, Offered}
use Rattle.collector.proofs.AllPlaces.{is_held_lem, against_three}
use Rattle.order.specs.Held.{Good, Stays, Four, four_at, holds_in, total_in, holds, total_held, offer_all, starts_over, clears, uncleared}
use Rattle.order.specs.Given.{of_pair, of_number, Added}
use Rattle.order.proofs.Outcome.{Outcome, turned, joins, begins, starts, finds_none, outcome, at_pair, at_free, zero_total, zero_missing}
use Rattle.order.proofs.HeldPlace.{held_place_found, held_place_missing}
use Rattle.order.proofs.Keeping.{kept_collector, begun_collector, offer_good}
use Rattle.order.proofs.Stepping.{Stepped, held_stepped, new_stepped, begun_afresh}
use Rattle.order.proofs.Running.{some_inj, none_some, number_parts}
use Rattle.order.proofs.Offering.{offered_taken, offered_refused, accepted_none}

stays_same : (l v : ℕ) (c : Collector) → Stays l v c c
stays_same l v c = record { bytes = λ n b e. e; total = λ t e. e }

-- a frame that was kept where its pair has no such number yet, and no other total
stepped_stays : (c : Collector) (x : Piece) (d : Collector) → Stepped c x d
    → holds c x.heading.level x.heading.version x.heading.number ≡ none
    → ((t : Total) → total_held c x.heading.level x.heading.version ≡ some t → t ≡ x.heading.total) → (l v : ℕ) → Stays l v c d
stepped_stays c x d s new same l v = record { bytes = on_bytes; total = on_total }
  where
    on_bytes : (n : Number) (b : Four) → holds c l v n ≡ some b → holds d l v n ≡ some b
    on_bytes n b e =
        by_test (of_number l v n x)
        (λ k.
        let p = number_parts l v n x k in
        let here : holds c x.heading.level x.heading.version x.heading.number ≡ some b =
        ap₂ (λ (i j : ℕ). holds c i j x.heading.number) p.0 p.1 ∙ ap (λ (m : ℕ). holds c l v (record { 0 = m })) p.2 ∙ e in
        absurd (none_some (sym new ∙ here)))
        (λ k. s.held l v n ∙ if_no _ _ k ∙ e)

    on_total : (t : Total) → total_held c l v ≡ some t → total_held d l v ≡ some t
    on_total t e =
        by_test (of_pair l v x)
        (λ k.
        let el : x.heading.level ≡ l = eqb-true _ _ (and_left (eqb x.heading.level l) (eqb x.heading.version v) k) in
        let ev : x.heading.version ≡ v = eqb-true _ _ (and_right (eqb x.heading.level l) (eqb x.heading.version v) k) in
        s.total l v ∙ if_yes _ _ k ∙ ap some (sym (same t (ap₂ (total_held c) el ev ∙ e))))
        (λ k. s.total l v ∙ if_no _ _ k ∙ e)

added_stays : (c : Collector) (x : Piece) (d : Collector) → Added c x d → (l v : ℕ) → Stays l v c d
added_stays c x d a = stepped_stays c x d (record { held = a.bytes; total = a.total }) a.new a.agrees

stepped_added : (c : Collector) (x : Piece) (d : Collector) → Stepped c x d
    → holds c x.heading.level x.heading.version x.heading.number ≡ none
    → ((t : Total) → total_held c x.heading.level x.heading.version ≡ some t → t ≡ x.heading.total) → Added c x d
stepped_added c x d s new same = record { new = new; agrees = same; bytes = s.held; total = s.total }

module _ (c : Collector) (x : Piece) (g : Good c) (b : Bounds x.heading) where
  pub joins_added : at_pair c x < length c.places → against (its_place c x) x ≡ 0 → Added c x (put c (at_pair c x) (stored (its_place c x) x))
  unfolding index_of_pair holds total_held four_at
  joins_added h e =
      let p = its_place c x in
      let n = b.number_below in
      let u = b.total_high in
      let sh : shaped p ≡ true = all_at shaped c.places (at_pair c x) blank g.shape h in
      let found = held_place_found x.heading.level x.heading.version c.places h in
      stepped_added c x (put c (at_pair c x) (stored p x)) (held_stepped c x h sh (omega arith) (zero_total (its_place c x) x e))
      (ap (λ (o : Option _). holds_in o x.heading.number) found ∙ if_no _ none (zero_missing (its_place c x) x e))
      (λ t k. some_inj (sym k ∙ ap total_in found) ∙ ap (λ (m : ℕ). record { 0 = m }) (zero_total (its_place c x) x e))

  pub starts_added : length c.places ≤ at_pair c x → at_free c < length c.places → Added c x (put c (at_free c) (stored (taken_for x) x))
  unfolding index_of_pair holds total_held
  starts_added none_held h =
      let n = b.number_below in
      let u = b.total_high in
      let lost = held_place_missing x.heading.level x.heading.version c.places none_held in
      stepped_added c x (put c (at_free c) (stored (taken_for x) x)) (new_stepped c x none_held h (omega arith))
      (ap (λ (o : Option _). holds_in o x.heading.number) lost)
      (λ t k. absurd (none_some (sym (ap total_in lost) ∙ k)))

  taken_stays : (l v : ℕ) → (of_pair l v x && starts_over c x) ≡ false → Stays l v c (taken_in c x).collector
  unfolding index_of_pair
  taken_stays l v k = by_outcome (outcome c x)
    where
      begins_stays : at_pair c x < length c.places → against (its_place c x) x ≡ 3 → Stays l v c (put c (at_pair c x) (stored (taken_for x) x))
      begins_stays h e =
          let n = b.number_below in
          let u = b.total_high in
          let z = against_three (its_place c x) x e in
          let over : starts_over c x ≡ true = and_yes _ (and_yes _ (is_held_lem c.places x.heading.level x.heading.version h) ∙ z.0) ∙ ap not z.2 in
          let w = begun_afresh c x h (omega arith) in
          let other : of_pair l v x ≡ false =
          by_test (of_pair l v x) (λ p. absurd (true≢false (sym (and_yes _ p ∙ over) ∙ k))) (λ p. p) in
          record {
            bytes = λ m d q. w.bytes l v m ∙ if_no _ _ other ∙ q;
            total = λ t q. w.total l v ∙ if_no _ _ other ∙ q;
          }

      by_outcome : Outcome c x → Stays l v c (taken_in c x).collector
      by_outcome (turned a h e n m o) = subst (Stays l v c) (ap (λ (r : Offered). r.collector) o) (stays_same l v c)
      by_outcome (joins h e o) = subst (Stays l v c) (sym (kept_collector c (at_pair c x) (its_place c x) x) ∙ ap (λ (r : Offered). r.collector) o) (added_stays c x _ (joins_added h e) l v)
      by_outcome (begins h e o) = subst (Stays l v c) (sym (begun_collector c (at_pair c x) x) ∙ ap (λ (r : Offered). r.collector) o) (begins_stays h e)
      by_outcome (starts h a o) = subst (Stays l v c) (sym (kept_collector c (at_free c) (taken_for x) x) ∙ ap (λ (r : Offered). r.collector) o) (added_stays c x _ (starts_added h a) l v)
      by_outcome (finds_none h a o) = subst (Stays l v c) (ap (λ (r : Offered). r.collector) o) (stays_same l v c)

-- Whatever frame is offered, a pair's total and every four bytes that were held for it are held still, unless the frame clears its place.
pub held_stays : (l v : ℕ) (c : Collector) (f : List ℕ) → Good c → clears l v c f ≡ false → Stays l v c (offered c f).collector
unfolding clears
held_stays l v c f g k =
    by_test (accepted f)
    (λ e.
    subst (Stays l v c) (ap (λ (r : Offered). r.collector) (sym (offered_taken c f g e)))
    (taken_stays c (piece_of f) g (bounds f (accepted_none f e)) l v (ap (λ (t : Bool). of_pair l v (piece_of f) && t) (sym (and_yes (starts_over c (piece_of f)) e)) ∙ k)))
    (λ e. subst (Stays l v c) (ap (λ (r : Offered). r.collector) (sym (offered_refused c f g e))) (stays_same l v c))

-- So it is after any number of frames: a pair stays, and nothing of it is lost, until it is released or a contradiction clears it.
pub nothing_lost : (l v : ℕ) (fs : List (List ℕ)) (c : Collector) → Good c → uncleared l v c fs ≡ true → Stays l v c (offer_all c fs)
unfolding offer_all uncleared
nothing_lost l v [] c g k = stays_same l v c
nothing_lost l v (f ∷ fs) c g k =
    let u = and_both (not (clears l v c f)) (uncleared l v (offered c f).collector fs) k in
    let one = held_stays l v c f g (not-true _ u.0) in
    let rest = nothing_lost l v fs (offered c f).collector (offer_good c f g) u.1 in
    record {
      bytes = λ n b e. rest.bytes n b (one.bytes n b e);
      total = λ t e. rest.total t (one.total t e);
    }
