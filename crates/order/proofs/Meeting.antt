-- What becomes of a pair's place when a frame of the pair comes, and that every other pair's stays. Assumes nothing.
use mathlib.Core.Path.{◌≡◌, refl, sym, ap, ap₂, ◌∙◌}
use mathlib.Core.List.{List, [], ◌∷◌}
use mathlib.Core.Option.{some}
use mathlib.Core.Bool.{true, false, cond, true≢false}
use Prim.Native.Nat.{ℕ, ◌<◌}
use native.Mathlib.Omega.{arith}
use lib.ListN.{length, get_or}
use lib.Dec.{eqb, ltb}
use borrow.Author.Tests.{eqb-true, eqb-false, ltb-true, ltb-false, not-true}
use Rattle.laws.proofs.Cases.{if_yes, if_no, and_no, and_left, and_right}
use Rattle.laws.proofs.Elements.{by_test, index_holds}
use Rattle.frame.specs.Heading.{accepted}
use Rattle.frame.proofs.Accepted.{Bounds, bounds}
use Rattle.collector.specs.declared.Place.{Place}
use Rattle.collector.specs.declared.Collector.{Collector}
use Rattle.collector.specs.declared.Piece.{Piece}
use Rattle.collector.specs.Places.{blank, is_pair, contradicts, against, taken_for, stored, whole, state}
use Rattle.collector.specs.Collector.{is_free, index_of_pair, its_place, piece_of, taken_in, kept, begun, offered, Offered}
use Rattle.collector.proofs.OnePlace.{whole_is, not_whole}
use Rattle.collector.proofs.AllPlaces.{against_three}
use Rattle.collector.proofs.Marks.{one_missing}
use Rattle.order.specs.Held.{Good, held_place, offer_all}
use Rattle.order.specs.Given.{of_pair}
use Rattle.order.proofs.HeldPlace.{held_place_found, held_place_missing, held_place_hit, held_place_miss}
use Rattle.order.proofs.Outcome.{Outcome, turned, joins, begins, starts, finds_none, outcome, at_pair, at_free, zero_total, zero_missing}
use Rattle.order.proofs.Keeping.{offer_good}
use Rattle.order.proofs.Stepping.{pair_alike, stored_pair, new_pair, new_own}
use Rattle.order.proofs.Running.{some_inj, none_some}
use Rattle.order.proofs.Offering.{offered_taken, offered_refused, accepted_none}

-- the answer to a frame that meets a place of its pair, and the place then
pub data Meets (p : Place) (x : Piece) (a : ℕ) (q : Place) : Type 0 where
  adds : against p x ≡ 0 → q ≡ stored p x → a ≡ state q → Meets p x a q
  over : contradicts p x ≡ true → whole p ≡ false → q ≡ stored (taken_for x) x → a ≡ cond (eqb (state q) 0) 3 (state q) → Meets p x a q
  same : a ≡ against p x → (a ≡ 0 → ⊥) → (a ≡ 3 → ⊥) → q ≡ p → Meets p x a q

-- a place that lacks a number of the frame's total is not whole
pub zero_open : (p : Place) (x : Piece) → against p x ≡ 0 → x.heading.number.0 < x.heading.total.0 → whole p ≡ false
unfolding whole
zero_open p x e n = let t = zero_total p x e in and_no _ (one_missing p x.heading.number (omega arith) (zero_missing p x e))

-- 1 is the answer just where the place is whole then
pub says_one : (q : Place) → eqb (state q) 1 ≡ whole q
says_one q =
    by_test (eqb (state q) 1)
    (λ t. t ∙ sym (whole_is q (eqb-true _ _ t)))
    (λ t. t ∙ sym (not_whole q (eqb-false _ _ t)))

pub says_one_over : (q : Place) → eqb (cond (eqb (state q) 0) 3 (state q)) 1 ≡ whole q
says_one_over q =
    by_test (eqb (state q) 0)
    (λ t. ap (λ (n : ℕ). eqb n 1) (if_yes 3 (state q) t) ∙ sym (not_whole q (λ (k : state q ≡ 1). let z : state q ≡ 0 = eqb-true _ _ t in omega arith)))
    (λ t. ap (λ (n : ℕ). eqb n 1) (if_no 3 (state q) t) ∙ says_one q)

module _ (c : Collector) (x : Piece) where
  abbrev l : ℕ
  l = x.heading.level

  abbrev v : ℕ
  v = x.heading.version

  -- ---- the pair's own place
  module _ (p : Place) (e : held_place l v c.places ≡ some p) where
    found_at : at_pair c x < length c.places
    found_at =
        by_test (ltb (at_pair c x) (length c.places))
        (λ t. ltb-true _ _ t)
        (λ t. absurd (none_some (sym (held_place_missing l v c.places (ltb-false _ _ t)) ∙ e)))

    pub its_is : its_place c x ≡ p
    unfolding index_of_pair
    its_is = some_inj (sym (held_place_found l v c.places found_at) ∙ e)

    mine : is_pair l v (its_place c x) ≡ true
    unfolding index_of_pair
    mine = index_holds (is_pair l v) c.places blank (at_pair c x) refl found_at

    abbrev pub Met : Type 0
    Met = (q : Place) × (held_place l v (taken_in c x).collector.places ≡ some q) × Meets p x (taken_in c x).answer q

    -- what became of it
    pub met : Met
    unfolding kept begun
    met = by_outcome (outcome c x)
      where
        there : (r : Offered) → r ≡ taken_in c x → (q : Place) → held_place l v r.collector.places ≡ some q → held_place l v (taken_in c x).collector.places ≡ some q
        there r o q h = ap (λ (w : Offered). held_place l v w.collector.places) (sym o) ∙ h

        said : (r : Offered) → r ≡ taken_in c x → (taken_in c x).answer ≡ r.answer
        said r o = sym (ap (λ (w : Offered). w.answer) o)

        by_outcome : Outcome c x → (q : Place) × (held_place l v (taken_in c x).collector.places ≡ some q) × Meets p x (taken_in c x).answer q
        by_outcome (turned a h k n m o) = (
          p,
          there _ o p e,
          same (said _ o ∙ k ∙ ap (λ (w : Place). against w x) its_is) (λ z. n (sym (said _ o) ∙ z)) (λ z. m (sym (said _ o) ∙ z)) refl,
        )
        by_outcome (joins h k o) = (
          stored (its_place c x) x,
          there _ o _ (held_place_hit l v c.places (at_pair c x) (stored (its_place c x) x) refl h (stored_pair (its_place c x) x l v ∙ mine)),
          adds (ap (λ (w : Place). against w x) (sym its_is) ∙ k) (ap (λ (w : Place). stored w x) its_is) (said _ o),
        )
        by_outcome (begins h k o) = (
          stored (taken_for x) x,
          there _ o _ (held_place_hit l v c.places (at_pair c x) (stored (taken_for x) x) refl h (new_own c x)),
          let z = against_three p x (ap (λ (w : Place). against w x) (sym its_is) ∙ k) in over z.0 z.2 refl (said _ o),
        )
        by_outcome (starts h k o) = let z = found_at in absurd (omega arith)
        by_outcome (finds_none h k o) = let z = found_at in absurd (omega arith)

  -- ---- another pair's place
  pub other_place : (i j : ℕ) → of_pair i j x ≡ false → held_place i j (taken_in c x).collector.places ≡ held_place i j c.places
  unfolding index_of_pair kept begun
  other_place i j k = by_outcome (outcome c x)
    where
      there : (r : Offered) → r ≡ taken_in c x → held_place i j r.collector.places ≡ held_place i j c.places → held_place i j (taken_in c x).collector.places ≡ held_place i j c.places
      there r o h = ap (λ (w : Offered). held_place i j w.collector.places) (sym o) ∙ h

      its : at_pair c x < length c.places → is_pair i j (its_place c x) ≡ false
      its h = pair_alike (its_place c x) x (index_holds (is_pair l v) c.places blank (at_pair c x) refl h) i j k

      by_outcome : Outcome c x → held_place i j (taken_in c x).collector.places ≡ held_place i j c.places
      by_outcome (turned a h e n m o) = there _ o refl
      by_outcome (joins h e o) = there _ o (held_place_miss i j c.places (at_pair c x) (stored (its_place c x) x) h (its h) (stored_pair (its_place c x) x i j ∙ its h))
      by_outcome (begins h e o) = there _ o (held_place_miss i j c.places (at_pair c x) (stored (taken_for x) x) h (its h) (new_pair c x i j ∙ k))
      by_outcome (starts h e o) =
          let empty : (get_or c.places (at_free c) blank).held ≡ false = not-true _ (index_holds is_free c.places blank (at_free c) refl e) in
          there _ o (held_place_miss i j c.places (at_free c) (stored (taken_for x) x) e (and_no _ empty) (new_pair c x i j ∙ k))
      by_outcome (finds_none h e o) = there _ o refl

-- ---- a whole pair
module _ (l v : ℕ) where
  whole_step : (c : Collector) (f : List ℕ) (p : Place) → Good c → held_place l v c.places ≡ some p → whole p ≡ true → held_place l v (offered c f).collector.places ≡ some p
  whole_step c f p g e w =
      by_test (accepted f)
      (λ a.
      let x = piece_of f in
      let b = bounds f (accepted_none f a) in
      ap (λ (o : Offered). held_place l v o.collector.places) (offered_taken c f g a)
      ∙ by_test (of_pair l v x)
      (λ k.
      let el : x.heading.level ≡ l = eqb-true _ _ (and_left (eqb x.heading.level l) (eqb x.heading.version v) k) in
      let ev : x.heading.version ≡ v = eqb-true _ _ (and_right (eqb x.heading.level l) (eqb x.heading.version v) k) in
      let m = met c x p (ap₂ (λ (i j : ℕ). held_place i j c.places) el ev ∙ e) in
      ap₂ (λ (i j : ℕ). held_place i j (taken_in c x).collector.places) (sym el) (sym ev) ∙ m.1 ∙ ap some (stays x b m.2))
      (λ k. other_place c x l v k ∙ e))
      (λ a. ap (λ (o : Offered). held_place l v o.collector.places) (offered_refused c f g a) ∙ e)
    where
      stays : (x : Piece) → Bounds x.heading → {a : ℕ} {q : Place} → Meets p x a q → q ≡ p
      stays x b (adds k r s) = absurd (true≢false (sym w ∙ zero_open p x k b.number_below))
      stays x b (over k n r s) = absurd (true≢false (sym w ∙ n))
      stays x b (same k n m r) = r

  -- A whole pair is never cleared: whatever is offered, its place is as it was.
  pub never_cleared : (fs : List (List ℕ)) (c : Collector) (p : Place) → Good c → held_place l v c.places ≡ some p → whole p ≡ true → held_place l v (offer_all c fs).places ≡ some p
  unfolding offer_all
  never_cleared [] c p g e w = e
  never_cleared (f ∷ fs) c p g e w = never_cleared fs (offered c f).collector p (offer_good c f g) (whole_step c f p g e w) w
