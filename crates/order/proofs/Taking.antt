-- A frame that contradicts nothing held, of one of four pairs at most: what is held then, and its answer. Assumes nothing.
use mathlib.Core.Path.{◌≡◌, refl, sym, ap, subst, ◌∙◌}
use mathlib.Core.List.{List}
use mathlib.Core.Option.{Option, none, some}
use mathlib.Core.Bool.{true, false, cond}
use Prim.Native.Nat.{ℕ, ◌≤◌, ◌<◌}
use native.Mathlib.Omega.{arith}
use lib.ListN.{length, set}
use lib.Dec.{ltb}
use borrow.Author.Tests.{ltb-true, ltb-false, eq-eqb}
use Rattle.laws.specs.Scan.{index_of}
use Rattle.laws.specs.Refusals.{first}
use Rattle.laws.proofs.Cases.{if_yes, if_no, and_yes}
use Rattle.laws.proofs.Elements.{by_test, all_at, all_set, index_holds}
use Rattle.frame.specs.declared.Total.{Total}
use Rattle.frame.specs.declared.Number.{Number}
use Rattle.frame.proofs.Accepted.{Bounds}
use Rattle.collector.specs.declared.Place.{Place}
use Rattle.collector.specs.declared.Collector.{Collector}
use Rattle.collector.specs.declared.Piece.{Piece}
use Rattle.collector.specs.Places.{blank, is_pair, marked, shaped, same_four, against, stored, taken_for, state}
use Rattle.collector.specs.Collector.{is_free, index_of_pair, its_place, put, taken_in, kept, Offered}
use Rattle.collector.proofs.OnePlace.{new_number, same_frame}
use Rattle.collector.proofs.Marks.{stored_shaped, taken_shaped}
use Rattle.order.specs.Held.{Good, Four, bytes_at, four_at, held_place, holds_in, total_in, holds, total_held}
use Rattle.order.specs.Given.{four, Pair, pair_among, is_some, declare_cases}
use Rattle.order.proofs.Outcome.{Outcome, turned, joins, begins, starts, finds_none, outcome, at_pair, at_free, zero_total}
use Rattle.order.proofs.HeldPlace.{held_place_found, held_place_missing, held_place_hit, held_place_new}
use Rattle.order.proofs.Keeping.{kept_collector, joined_good, started_good}
use Rattle.order.proofs.Stepping.{Stepped, Agrees, again_stepped, held_stepped, new_stepped, stored_pair, stored_total, new_own, new_total}
use Rattle.order.proofs.Room.{Within, ok_among, crowded, all_held_among}
use Rattle.order.proofs.Declaring.{marked_four, four_marked, declare_alike, state_declared}

-- what became of the frame
pub record Took (qs : List Pair) (c : Collector) (x : Piece) : Type 0 where
  pub good : Good (taken_in c x).collector
  pub stepped : Stepped c x (taken_in c x).collector
  pub within : Within qs (taken_in c x).collector
  pub answer : (taken_in c x).answer
      ≡ cond (is_some (holds c x.heading.level x.heading.version x.heading.number)) 2
      (first (declare_cases x.heading.total (holds (taken_in c x).collector x.heading.level x.heading.version)))

kept_answer : (c : Collector) (i : ℕ) (p : Place) (x : Piece) → (kept c i p x).answer ≡ state (stored p x)
unfolding kept
kept_answer c i p x = refl

pub same_bytes : (p : Place) (x : Piece) → bytes_at p x.heading.number ≡ four x → same_four p x ≡ true
same_bytes p x b =
    and_yes _ (eq-eqb _ _ (ap (λ (w : Four). w.0) b))
    ∙ and_yes _ (eq-eqb _ _ (ap (λ (w : Four). w.1) b))
    ∙ and_yes _ (eq-eqb _ _ (ap (λ (w : Four). w.2) b))
    ∙ eq-eqb _ _ (ap (λ (w : Four). w.3) b)

held_within : (qs : List Pair) (c : Collector) (x : Piece) → Within qs c → at_pair c x < length c.places → Within qs (put c (at_pair c x) (stored (its_place c x) x))
unfolding Within stored index_of_pair
held_within qs c x w h = all_set (ok_among qs) c.places (at_pair c x) (stored (its_place c x) x) w (all_at (ok_among qs) c.places (at_pair c x) blank w h)

new_within : (qs : List Pair) (c : Collector) (x : Piece) → Within qs c → pair_among x.heading.level x.heading.version qs ≡ true → Within qs (put c (at_free c) (stored (taken_for x) x))
unfolding Within stored taken_for
new_within qs c x w m = all_set (ok_among qs) c.places (at_free c) (stored (taken_for x) x) w m

-- what is held for a pair whose place was just put
seen : (c : Collector) (l v : ℕ) (q : Place) (i : ℕ) → held_place l v (set c.places i q) ≡ some q → (k : Number) → holds (put c i q) l v k ≡ four_at q k
unfolding holds
seen c l v q i e k = ap (λ (o : Option Place). holds_in o k) e

module _ (qs : List Pair) (few : length qs ≤ 4) (c : Collector) (x : Piece) (g : Good c) (w : Within qs c)
    (m : pair_among x.heading.level x.heading.version qs ≡ true) (b : Bounds x.heading) (a : Agrees c x) where
  abbrev l : ℕ
  l = x.heading.level

  abbrev v : ℕ
  v = x.heading.version

  -- ---- the pair is held
  module _ (h : at_pair c x < length c.places) where
    held_total : total_held c l v ≡ some (its_place c x).total
    unfolding total_held index_of_pair
    held_total = ap total_in (held_place_found l v c.places h)

    held_four : (n : Number) → holds c l v n ≡ four_at (its_place c x) n
    unfolding holds index_of_pair
    held_four n = ap (λ (o : Option Place). holds_in o n) (held_place_found l v c.places h)

    its_total : (its_place c x).total ≡ x.heading.total
    its_total = a.total (its_place c x).total held_total

    -- held already: the same four bytes, so the same frame
    was_there : marked (its_place c x) x.heading.number ≡ true → (holds c l v x.heading.number ≡ some (four x)) × (against (its_place c x) x ≡ 2)
    was_there e =
        let here = held_four x.heading.number ∙ marked_four (its_place c x) x.heading.number e in
        let same = a.bytes (bytes_at (its_place c x) x.heading.number) here in
        (here ∙ ap some same, same_frame (its_place c x) x (ap (λ (t : Total). t.0) its_total) e (same_bytes (its_place c x) x same))

    was_missing : marked (its_place c x) x.heading.number ≡ false → (is_some (holds c l v x.heading.number) ≡ false) × (against (its_place c x) x ≡ 0)
    was_missing e = (
      ap is_some (held_four x.heading.number) ∙ four_marked (its_place c x) x.heading.number ∙ e,
      new_number (its_place c x) x (ap (λ (t : Total). t.0) its_total) e,
    )

    -- nothing that agrees begins again
    never_begins : against (its_place c x) x ≡ 3 → ⊥
    never_begins e =
        by_test (marked (its_place c x) x.heading.number)
        (λ t. let z : 2 ≡ 3 = sym (was_there t).1 ∙ e in omega arith)
        (λ t. let z : 0 ≡ 3 = sym (was_missing t).1 ∙ e in omega arith)

    turned_took : (k : ℕ) → k ≡ against (its_place c x) x → (k ≡ 0 → ⊥) → record { answer = k; collector = c } ≡ taken_in c x → Took qs c x
    turned_took k e n o =
        by_test (marked (its_place c x) x.heading.number)
        (λ t.
        let there = was_there t in
        let d : (taken_in c x).collector ≡ c = sym (ap (λ (r : Offered). r.collector) o) in
        record {
          good = subst Good (sym d) g;
          stepped = subst (Stepped c x) (sym d) (again_stepped c x there.0 (held_total ∙ ap some its_total));
          within = subst (Within qs) (sym d) w;
          answer = sym (ap (λ (r : Offered). r.answer) o) ∙ e ∙ there.1 ∙ sym (if_yes _ _ (ap is_some there.0));
        })
        (λ t. absurd (n (e ∙ (was_missing t).1)))

    -- a place of the pair with the frame kept in it
    joins_took : against (its_place c x) x ≡ 0 → kept c (at_pair c x) (its_place c x) x ≡ taken_in c x → Took qs c x
    unfolding index_of_pair
    joins_took e o =
        let p = its_place c x in
        let q = stored p x in
        let d : put c (at_pair c x) q ≡ (taken_in c x).collector = sym (kept_collector c (at_pair c x) p x) ∙ ap (λ (r : Offered). r.collector) o in
        let t = zero_total (its_place c x) x e in
        let n = b.number_below in
        let u = b.total_high in
        let sh : shaped p ≡ true = all_at shaped c.places (at_pair c x) blank g.shape h in
        let missing : marked p x.heading.number ≡ false =
        by_test (marked p x.heading.number) (λ y. let z : 2 ≡ 0 = sym (was_there y).1 ∙ e in absurd (omega arith)) (λ y. y) in
        let mine : is_pair l v p ≡ true = index_holds (is_pair l v) c.places blank (at_pair c x) refl h in
        let hit = held_place_hit l v c.places (at_pair c x) q refl h (stored_pair p x l v ∙ mine) in
        let qt : q.total ≡ x.heading.total = stored_total p x ∙ its_total in
        record {
          good = subst Good d (joined_good c x g b h t);
          stepped = subst (Stepped c x) d (held_stepped c x h sh (omega arith) t);
          within = subst (Within qs) d (held_within qs c x w h);
          answer =
              sym (ap (λ (r : Offered). r.answer) o)
              ∙ kept_answer c (at_pair c x) p x
              ∙ state_declared q (stored_shaped p x ∙ sh) (subst (λ (k : Total). k.0 ≤ 63) (sym qt) u)
              ∙ ap (λ (k : Total). first (declare_cases k (four_at q))) qt
              ∙ ap first (declare_alike x.heading.total (four_at q) (holds (taken_in c x).collector l v) (λ k. sym (seen c l v q (at_pair c x) hit k) ∙ ap (λ (r : Collector). holds r l v k) d))
              ∙ sym (if_no _ _ (was_missing missing).0);
        }

  -- ---- the pair is not held, and there is room
  module _ (none_held : length c.places ≤ at_pair c x) where
    room : at_free c < length c.places
    unfolding Within
    room =
        by_test (ltb (at_free c) (length c.places))
        (λ t. ltb-true _ _ t)
        (λ t.
        let full : length c.places ≤ index_of is_free c.places = ltb-false _ _ t in
        let k = crowded c.places qs l v g.order (all_held_among qs c.places full w) none_held m in
        absurd (omega (arith, g.count)))

    holds_none : (n : Number) → holds c l v n ≡ none
    unfolding holds
    holds_none n = ap (λ (o : Option Place). holds_in o n) (held_place_missing l v c.places none_held)

    starts_took : at_free c < length c.places → kept c (at_free c) (taken_for x) x ≡ taken_in c x → Took qs c x
    starts_took h o =
        let q = stored (taken_for x) x in
        let d : put c (at_free c) q ≡ (taken_in c x).collector = sym (kept_collector c (at_free c) (taken_for x) x) ∙ ap (λ (r : Offered). r.collector) o in
        let n = b.number_below in
        let u = b.total_high in
        let hit = held_place_new l v c.places (at_free c) q none_held h (new_own c x) in
        let qt : q.total ≡ x.heading.total = new_total c x in
        record {
          good = subst Good d (started_good c x g b none_held h);
          stepped = subst (Stepped c x) d (new_stepped c x none_held h (omega arith));
          within = subst (Within qs) d (new_within qs c x w m);
          answer =
              sym (ap (λ (r : Offered). r.answer) o)
              ∙ kept_answer c (at_free c) (taken_for x) x
              ∙ state_declared q (stored_shaped (taken_for x) x ∙ taken_shaped x) (subst (λ (k : Total). k.0 ≤ 63) (sym qt) u)
              ∙ ap (λ (k : Total). first (declare_cases k (four_at q))) qt
              ∙ ap first (declare_alike x.heading.total (four_at q) (holds (taken_in c x).collector l v) (λ k. sym (seen c l v q (at_free c) hit k) ∙ ap (λ (r : Collector). holds r l v k) d))
              ∙ sym (if_no _ _ (ap is_some (holds_none x.heading.number)));
        }

  -- what becomes of the frame
  pub took : Took qs c x
  took = by_outcome (outcome c x)
    where
      by_outcome : Outcome c x → Took qs c x
      by_outcome (turned k h e n m o) = turned_took h k e n o
      by_outcome (joins h e o) = joins_took h e o
      by_outcome (begins h e o) = absurd (never_begins h e)
      by_outcome (starts h k o) = starts_took h k o
      by_outcome (finds_none h k o) = let z = room h in absurd (omega arith)
