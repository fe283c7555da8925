-- Outside the bounds of demand 3: what each number keeps, what a release leaves, and where 15 comes from. Assumes nothing.
use mathlib.Core.Path.{◌≡◌, refl, sym, ap, ap₂, subst, ◌∙◌}
use mathlib.Core.List.Memᴰ
use mathlib.Core.List.{List, [], ◌∷◌, Memᴰ}
use mathlib.Core.Logic.{◌↔◌, ⊎_elim}
use mathlib.Core.Option.{Option, none, some}
use mathlib.Core.Bool.{Bool, true, false, cond, not, ◌&&◌, ◌||◌, true≢false, and-false, or-true}
use Prim.Native.Nat.{ℕ, zero, suc, ◌<◌, ◌≤◌}
use native.Mathlib.Nat.{not-suc-le-zero, le_of_suc-le-suc}
use native.Mathlib.Omega.{arith}
use lib.ListN.{length, get_or, set}
use lib.Dec.{eqb, ltb}
use borrow.Author.Tests.{eqb-true, eq-eqb, ltb-true, ltb-false, not-true}
use Rattle.laws.specs.Scan.{all, index_of}
use Rattle.laws.specs.Refusals.{first}
use Rattle.laws.proofs.Cases.{if_yes, if_no, and_yes, and_no, and_left, and_right, and_both, or_yes, or_no}
use Rattle.laws.proofs.Elements.{by_test, index_yes, index_no, index_holds, all_head, all_tail}
use Rattle.laws.proofs.Refusals.{exact}
use Rattle.frame.specs.declared.Total.{Total}
use Rattle.frame.specs.declared.Number.{Number}
use Rattle.frame.specs.Heading.{refusals, accepted}
use Rattle.frame.proofs.Accepted.{Bounds, bounds, refused_with}
use Rattle.collector.specs.declared.Place.{Place}
use Rattle.collector.specs.declared.Collector.{Collector}
use Rattle.collector.specs.declared.Piece.{Piece}
use Rattle.collector.specs.Places.{blank, is_pair, pairs_apart, marked, same_four, contradicts, against, taken_for, freed, whole}
use Rattle.collector.specs.Collector.{nothing, good, index_of_pair, its_place, contradicted, put, piece_of, take_cases, keeps, taken_in, offer_cases, offered, released, Offered}
use Rattle.collector.proofs.Calls.{offer_apart, release_0, release_18}
use Rattle.collector.proofs.AllPlaces.{is_held_lem, is_not_held, take_against, against_three}
use Rattle.order.specs.Held.{Good, Four, bytes_at, four_at, held_place, holds_in, total_in, holds, total_held, starts_over, clears, Act, offering, releasing, run}
use Rattle.order.specs.Given.{four, of_pair, of_number, same_bytes, contradict, is_some, Said, Added, Afresh, Kept, kept_since}
use Rattle.order.proofs.HeldPlace.{held_place_no, held_place_found, held_place_missing, held_place_miss}
use Rattle.order.proofs.Keeping.{kept_collector, begun_collector, freed_is, good_apart, good_tail, empty_good, offer_good, release_good}
use Rattle.order.proofs.Outcome.{Outcome, turned, joins, begins, starts, finds_none, outcome, at_pair, at_free}
use Rattle.order.proofs.Stepping.{begun_afresh}
use Rattle.order.proofs.Declaring.{four_marked, marked_four}
use Rattle.order.proofs.Again.{against_else, whole_fifteen, over_three}
use Rattle.order.proofs.Running.{some_inj, none_some}
use Rattle.order.proofs.Offering.{offered_taken, offered_refused, accepted_none, refused_some}
use Rattle.order.proofs.Theorems.{run_keeps_good, refusal_keeps}
use Rattle.order.proofs.Staying.{joins_added, starts_added, held_stays}
use Rattle.order.proofs.Only.{one_pair}

-- ---- what is kept
-- what is against a frame does not keep it
turns_away : (p : Place) (x : Piece) (a : ℕ) → a ≡ against p x → (a ≡ 0 → ⊥) → (a ≡ 3 → ⊥) → keeps a ≡ false
unfolding keeps
turns_away p x a e n m = against_else p x (λ (k : ℕ). keeps k ≡ false) refl refl a e n m

keeps_not : (k : ℕ) → keeps k ≡ false → (c : Collector) (x : Piece) → record { answer = k; collector = c } ≡ taken_in c x → keeps (taken_in c x).answer ≡ true → ⊥
keeps_not k n c x o e = true≢false (sym (ap (λ (r : Offered). keeps r.answer) o ∙ e) ∙ n)

keeps_16 : keeps 16 ≡ false
unfolding keeps
keeps_16 = refl

module _ (c : Collector) (x : Piece) (g : Good c) (b : Bounds x.heading) where
  taken_kept : keeps (taken_in c x).answer ≡ true → Kept c x (taken_in c x).collector
  unfolding index_of_pair
  taken_kept e = by_outcome (outcome c x)
    where
      over : at_pair c x < length c.places → against (its_place c x) x ≡ 3 → starts_over c x ≡ true
      over h a =
          let z = against_three (its_place c x) x a in
          and_yes _ (and_yes _ (is_held_lem c.places x.heading.level x.heading.version h) ∙ z.0) ∙ ap not z.2

      never : length c.places ≤ at_pair c x → starts_over c x ≡ true → ⊥
      never h s =
          true≢false (sym (and_left (its_place c x).held _ (and_left (contradicted c x) _ s)) ∙ is_not_held c.places x.heading.level x.heading.version h)

      fits : x.heading.number.0 < 63
      fits = let n = b.number_below in let u = b.total_high in omega arith

      by_outcome : Outcome c x → Kept c x (taken_in c x).collector
      by_outcome (turned k h a n m o) = absurd (keeps_not k (turns_away (its_place c x) x k a n m) c x o e)
      by_outcome (joins h a o) = (
        λ s. subst (Added c x) (sym (kept_collector c (at_pair c x) (its_place c x) x) ∙ ap (λ (r : Offered). r.collector) o) (joins_added c x g b h a),
        λ s. let z : ◌≡◌ {A = ℕ} 3 0 = sym (over_three c x s) ∙ a in absurd (omega arith),
      )
      by_outcome (begins h a o) = (
        λ s. absurd (true≢false (sym (over h a) ∙ s)),
        λ s. subst (Afresh c x) (sym (begun_collector c (at_pair c x) x) ∙ ap (λ (r : Offered). r.collector) o) (begun_afresh c x h fits),
      )
      by_outcome (starts h k o) = (
        λ s. subst (Added c x) (sym (kept_collector c (at_free c) (taken_for x) x) ∙ ap (λ (r : Offered). r.collector) o) (starts_added c x g b h k),
        λ s. absurd (never h s),
      )
      by_outcome (finds_none h k o) = absurd (keeps_not 16 keeps_16 c x o e)

refused_keeps_none : (f : List ℕ) → accepted f ≡ false → keeps (first (refusals f)) ≡ false
unfolding keeps
refused_keeps_none f e = refused_with f (refused_some f e) (λ (k : ℕ). keeps k ≡ false) refl refl refl refl

-- Whatever frame is offered to a good collector: 0, 1, 3 and 17 keep exactly this frame, whose heading is accepted: beside what is held, where its
-- number was not; in place of what was held for its pair, where it contradicts a pair that is not whole. With any other number the collector is
-- the one that was given.
pub kept_exactly : (c : Collector) (f : List ℕ) → Good c
    → (keeps (offered c f).answer ≡ true → (accepted f ≡ true) × Kept c (piece_of f) (offered c f).collector)
    × (keeps (offered c f).answer ≡ false → (offered c f).collector ≡ c)
kept_exactly c f g = (
  λ k.
      by_test (accepted f)
      (λ a.
      let w = offered_taken c f g a in
      (a, subst (λ (o : Offered). Kept c (piece_of f) o.collector) (sym w) (taken_kept c (piece_of f) g (bounds f (accepted_none f a)) (sym (ap (λ (o : Offered). keeps o.answer) w) ∙ k))))
      (λ a. absurd (true≢false (sym k ∙ ap (λ (o : Offered). keeps o.answer) (offered_refused c f g a) ∙ refused_keeps_none f a))),
  λ k. (refusal_keeps c).0 f k,
)

-- ---- a release
module _ (l v : ℕ) where
  -- the places apart from one of a pair are of other pairs
  none_apart : (x : Place) (xs : List Place) → is_pair l v x ≡ true → all (pairs_apart x) xs ≡ true → held_place l v xs ≡ none
  unfolding held_place
  none_apart x [] t a = refl
  none_apart x (r ∷ rs) t a =
      by_test (is_pair l v r)
      (λ u. absurd (true≢false (sym (all_head (pairs_apart x) r rs a) ∙ ap not (one_pair x r (and_left r.held _ u) (both x r t u)))))
      (λ u. if_no (some r) (held_place l v rs) u ∙ none_apart x rs t (all_tail (pairs_apart x) r rs a))
    where
      both : (x r : Place) → is_pair l v x ≡ true → is_pair l v r ≡ true → is_pair r.level r.version x ≡ true
      both x r t u =
          let w = and_right r.held (eqb r.level l && eqb r.version v) u in
          let el : r.level ≡ l = eqb-true _ _ (and_left (eqb r.level l) (eqb r.version v) w) in
          let ev : r.version ≡ v = eqb-true _ _ (and_right (eqb r.level l) (eqb r.version v) w) in
          ap₂ (λ (i j : ℕ). is_pair i j x) el ev ∙ t

  -- once the place of a pair is free, no place is of it
  held_place_gone : (xs : List Place) (i : ℕ) (q : Place) → good xs ≡ true → i ≡ index_of (is_pair l v) xs → i < length xs → q.held ≡ false → held_place l v (set xs i q) ≡ none
  held_place_gone [] i q g e h f = absurd (not-suc-le-zero h)
  held_place_gone (x ∷ xs) zero q g e h f =
      by_test (is_pair l v x)
      (λ t. held_place_no l v q xs (and_no _ f) ∙ none_apart x xs t (good_apart x xs g))
      (λ t. let w = index_no (is_pair l v) x xs t in absurd (omega arith))
  held_place_gone (x ∷ xs) (suc i) q g e h f =
      by_test (is_pair l v x)
      (λ t. let w = index_yes (is_pair l v) x xs t in absurd (omega arith))
      (λ t.
      let w = index_no (is_pair l v) x xs t in
      held_place_no l v x (set xs i q) t ∙ held_place_gone xs i q (good_tail x xs g) (omega arith) (le_of_suc-le-suc h) f)

module _ (c : Collector) (l v : ℕ) (g : Good c) (i j : ℕ) where
  abbrev it : ℕ
  it = index_of (is_pair l v) c.places

  same_key : (eqb l i && eqb v j) ≡ true → (l ≡ i) × (v ≡ j)
  same_key e = (eqb-true _ _ (and_left (eqb l i) (eqb v j) e), eqb-true _ _ (and_right (eqb l i) (eqb v j) e))

  gone : held_place i j (released c l v).collector.places ≡ cond (eqb l i && eqb v j) none (held_place i j c.places)
  unfolding index_of_pair
  gone =
      by_test (ltb it (length c.places))
      (λ t.
      let h = ltb-true _ _ t in
      let p = get_or c.places it blank in
      let w : (released c l v).collector ≡ put c it (freed p) = sym (ap (λ (o : Offered). o.collector) (release_0 c l v g.order (is_held_lem c.places l v h))) in
      let mine : is_pair l v p ≡ true = index_holds (is_pair l v) c.places blank it refl h in
      ap (λ (d : Collector). held_place i j d.places) w
      ∙ by_test (eqb l i && eqb v j)
      (λ e.
      let k = same_key e in
      ap₂ (λ (a b : ℕ). held_place a b (set c.places it (freed p))) (sym k.0) (sym k.1)
      ∙ held_place_gone l v c.places it (freed p) g.order refl h (freed_is p)
      ∙ sym (if_yes _ _ e))
      (λ e. held_place_miss i j c.places it (freed p) h (other_pair p mine e) (and_no _ (freed_is p)) ∙ sym (if_no _ _ e)))
      (λ t.
      let h : length c.places ≤ it = ltb-false _ _ t in
      let w : (released c l v).collector ≡ c = sym (ap (λ (o : Offered). o.collector) (release_18 c l v g.order (is_not_held c.places l v h))) in
      ap (λ (d : Collector). held_place i j d.places) w
      ∙ by_test (eqb l i && eqb v j)
      (λ e.
      let k = same_key e in
      ap₂ (λ (a b : ℕ). held_place a b c.places) (sym k.0) (sym k.1) ∙ held_place_missing l v c.places h ∙ sym (if_yes _ _ e))
      (λ e. sym (if_no _ _ e)))
    where
      other_pair : (p : Place) → is_pair l v p ≡ true → (eqb l i && eqb v j) ≡ false → is_pair i j p ≡ false
      other_pair p m e =
          let r = and_right p.held (eqb p.level l && eqb p.version v) m in
          let el : p.level ≡ l = eqb-true _ _ (and_left (eqb p.level l) (eqb p.version v) r) in
          let ev : p.version ≡ v = eqb-true _ _ (and_right (eqb p.level l) (eqb p.version v) r) in
          ap₂ (λ (a b : ℕ). p.held && (eqb a i && eqb b j)) el ev ∙ ap (λ (t : Bool). p.held && t) e ∙ and-false p.held

  -- After a release the pair is held no more, and every other pair as it was: its bytes, its numbers and its total.
  pub released_exactly : ((n : Number) → holds (released c l v).collector i j n ≡ cond (eqb l i && eqb v j) none (holds c i j n))
      × (total_held (released c l v).collector i j ≡ cond (eqb l i && eqb v j) none (total_held c i j))
  unfolding holds total_held
  released_exactly = (
    λ n. ap (λ (o : Option Place). holds_in o n) gone ∙ push (λ o. holds_in o n) refl (eqb l i && eqb v j) (held_place i j c.places),
    ap total_in gone ∙ push total_in refl (eqb l i && eqb v j) (held_place i j c.places),
  )
    where
      push : {A B : Type 0} (f : Option A → Option B) → f none ≡ none → (b : Bool) (o : Option A) → f (cond b none o) ≡ cond b none (f o)
      push f e true o = e
      push f e false o = refl

-- ---- where 15 comes from
-- all that is held for the pair was said by these frames
record HeldBy (l v : ℕ) (gs : List (List ℕ)) (c : Collector) : Type 0 where
  bytes : (n : Number) (b : Four) → holds c l v n ≡ some b → Said (of_number l v n) four gs b
  total : (t : Total) → total_held c l v ≡ some t → Said (of_pair l v) (λ x. x.heading.total) gs t

said_more : {B : Type 0} (is : Piece → Bool) (val : Piece → B) (f : List ℕ) (gs : List (List ℕ)) (b : B) → Said is val gs b → Said is val (f ∷ gs) b
said_more is val f gs b s = (s.0, Memᴰ.tail s.1, s.2, s.3, s.4)

module _ (l v : ℕ) (gs : List (List ℕ)) (c : Collector) (f : List ℕ) (y : HeldBy l v gs c) (d : Collector) (a : accepted f ≡ true) (k : Added c (piece_of f) d) where
  added_mine : of_pair l v (piece_of f) ≡ true → HeldBy l v (f ∷ gs) d
  added_mine p =
      record {
        bytes = λ n b e.
            by_test (of_number l v n (piece_of f))
            (λ t. (f, Memᴰ.head refl, a, t, some_inj (sym (k.bytes l v n ∙ if_yes _ _ t) ∙ e)))
            (λ t. said_more (of_number l v n) four f gs b (y.bytes n b (sym (k.bytes l v n ∙ if_no _ _ t) ∙ e)));
        total = λ t e. (f, Memᴰ.head refl, a, p, some_inj (sym (k.total l v ∙ if_yes _ _ p) ∙ e));
      }

  added_other : of_pair l v (piece_of f) ≡ false → HeldBy l v gs d
  added_other p =
      record {
        bytes = λ n b e. y.bytes n b (sym (k.bytes l v n ∙ if_no _ _ (and_no _ p)) ∙ e);
        total = λ t e. y.total t (sym (k.total l v ∙ if_no _ _ p) ∙ e);
      }

module _ (l v : ℕ) (gs : List (List ℕ)) (c : Collector) (f : List ℕ) (d : Collector) (k : Afresh c (piece_of f) d) where
  afresh_mine : accepted f ≡ true → of_pair l v (piece_of f) ≡ true → HeldBy l v (f ∷ []) d
  afresh_mine a p =
      let x = piece_of f in
      record {
        bytes = λ n b e.
            by_test (eqb x.heading.number.0 n.0)
            (λ t. (f, Memᴰ.head refl, a, and_yes _ p ∙ t, some_inj (sym (k.bytes l v n ∙ if_yes _ _ p ∙ if_yes _ _ t) ∙ e)))
            (λ t. absurd (none_some (sym (k.bytes l v n ∙ if_yes _ _ p ∙ if_no _ _ t) ∙ e)));
        total = λ t e. (f, Memᴰ.head refl, a, p, some_inj (sym (k.total l v ∙ if_yes _ _ p) ∙ e));
      }

  afresh_other : HeldBy l v gs c → of_pair l v (piece_of f) ≡ false → HeldBy l v gs d
  afresh_other y p =
      record {
        bytes = λ n b e. y.bytes n b (sym (k.bytes l v n ∙ if_no _ _ p) ∙ e);
        total = λ t e. y.total t (sym (k.total l v ∙ if_no _ _ p) ∙ e);
      }

-- a frame of the pair with an accepted heading clears it just where it starts over
clears_own : (l v : ℕ) (c : Collector) (f : List ℕ) → accepted f ≡ true → of_pair l v (piece_of f) ≡ true → clears l v c f ≡ starts_over c (piece_of f)
unfolding clears
clears_own l v c f a p = and_yes _ p ∙ and_yes _ a

clears_other : (l v : ℕ) (c : Collector) (f : List ℕ) → of_pair l v (piece_of f) ≡ false → clears l v c f ≡ false
unfolding clears
clears_other l v c f p = and_no _ p

module _ (l v : ℕ) where
  offer_held_by : (gs : List (List ℕ)) (c : Collector) (f : List ℕ) → Good c → HeldBy l v gs c
      → HeldBy l v (cond (of_pair l v (piece_of f) && keeps (offered c f).answer) (f ∷ cond (clears l v c f) [] gs) gs) (offered c f).collector
  offer_held_by gs c f g y =
      let d = (offered c f).collector in
      by_test (keeps (offered c f).answer)
      (λ k.
      let w = (kept_exactly c f g).0 k in
      by_test (of_pair l v (piece_of f))
      (λ p.
      subst (λ (hs : List (List ℕ)). HeldBy l v hs d) (sym (if_yes _ _ (and_yes _ p ∙ k)))
      (by_test (starts_over c (piece_of f))
      (λ s.
      subst (λ (hs : List (List ℕ)). HeldBy l v (f ∷ hs) d) (sym (if_yes _ _ (clears_own l v c f w.0 p ∙ s))) (afresh_mine l v gs c f d (w.1.1 s) w.0 p))
      (λ s.
      subst (λ (hs : List (List ℕ)). HeldBy l v (f ∷ hs) d) (sym (if_no _ _ (clears_own l v c f w.0 p ∙ s))) (added_mine l v gs c f y d w.0 (w.1.0 s) p))))
      (λ p.
      subst (λ (hs : List (List ℕ)). HeldBy l v hs d) (sym (if_no _ _ (and_no _ p)))
      (by_test (starts_over c (piece_of f))
      (λ s. afresh_other l v gs c f d (w.1.1 s) y p)
      (λ s. added_other l v gs c f y d w.0 (w.1.0 s) p))))
      (λ k.
      subst (λ (hs : List (List ℕ)). HeldBy l v hs (offered c f).collector) (sym (if_no _ _ (ap (λ (t : Bool). of_pair l v (piece_of f) && t) k ∙ and-false (of_pair l v (piece_of f)))))
      (subst (HeldBy l v gs) (sym ((kept_exactly c f g).1 k)) y))

  release_held_by : (gs : List (List ℕ)) (c : Collector) (i j : ℕ) → Good c → HeldBy l v gs c → HeldBy l v (cond (eqb i l && eqb j v) [] gs) (released c i j).collector
  release_held_by gs c i j g y =
      let w = released_exactly c i j g l v in
      by_test (eqb i l && eqb j v)
      (λ t.
      record {
        bytes = λ n b e. absurd (none_some (sym (w.0 n ∙ if_yes _ _ t) ∙ e));
        total = λ u e. absurd (none_some (sym (w.1 ∙ if_yes _ _ t) ∙ e));
      })
      (λ t.
      subst (λ (hs : List (List ℕ)). HeldBy l v hs (released c i j).collector) (sym (if_no _ _ t))
      (record {
        bytes = λ n b e. y.bytes n b (sym (w.0 n ∙ if_no _ _ t) ∙ e);
        total = λ u e. y.total u (sym (w.1 ∙ if_no _ _ t) ∙ e);
      }))

  run_held_by : (acts : List Act) (c : Collector) (gs : List (List ℕ)) → Good c → HeldBy l v gs c → HeldBy l v (kept_since l v c acts gs) (run c acts)
  unfolding kept_since run
  run_held_by [] c gs g y = y
  run_held_by (offering f ∷ acts) c gs g y = run_held_by acts (offered c f).collector _ (offer_good c f g) (offer_held_by gs c f g y)
  run_held_by (releasing i j ∷ acts) c gs g y = run_held_by acts (released c i j).collector _ (release_good c i j g) (release_held_by gs c i j g y)

  empty_held_by : HeldBy l v [] nothing
  unfolding holds total_held held_place
  empty_held_by = record { bytes = λ n b e. absurd (none_some e); total = λ t e. absurd (none_some e) }

-- what the case of 15 says of the place of the frame's pair
case_15 : (c : Collector) (f : List ℕ) → (offered c f).answer ≡ 15 → (contradicted c (piece_of f) && whole (its_place c (piece_of f))) ≡ true
unfolding offered offer_cases refusals take_cases
case_15 c f e = ((exact (offer_cases c f) (offer_apart c f) 5 (omega arith)).0 e).0

-- and of its heading
taken_15 : (c : Collector) (f : List ℕ) → Good c → (offered c f).answer ≡ 15 → accepted f ≡ true
taken_15 c f g e =
    by_test (accepted f)
    (λ a. a)
    (λ a.
    let n = refused_some f a in
    absurd (refused_with f n (λ (k : ℕ). k ≡ 15 → ⊥) (λ (z : 26 ≡ 15). omega arith) (λ (z : 12 ≡ 15). omega arith) (λ (z : 13 ≡ 15). omega arith) (λ (z : 14 ≡ 15). omega arith) (sym (ap (λ (o : Offered). o.answer) (offered_refused c f g a)) ∙ e)))

its_there : (c : Collector) (x : Piece) → (its_place c x).held ≡ true → held_place x.heading.level x.heading.version c.places ≡ some (its_place c x)
unfolding index_of_pair
its_there c x held =
    by_test (ltb (at_pair c x) (length c.places))
    (λ t. held_place_found x.heading.level x.heading.version c.places (ltb-true _ _ t))
    (λ t. absurd (true≢false (sym held ∙ is_not_held c.places x.heading.level x.heading.version (ltb-false _ _ t))))

-- a frame that contradicts the place contradicts one of the frames that were kept in it
module _ (c : Collector) (x : Piece) (gs : List (List ℕ)) (y : HeldBy x.heading.level x.heading.version gs c) (held : (its_place c x).held ≡ true) where
  abbrev Against : Type 0
  Against = (g : List ℕ) × Memᴰ g gs × (accepted g ≡ true) × (contradict (piece_of g) x ≡ true)

  there : held_place x.heading.level x.heading.version c.places ≡ some (its_place c x)
  there = its_there c x held

  by_total : eqb (its_place c x).total.0 x.heading.total.0 ≡ false → Against
  unfolding total_held contradict
  by_total e =
      let s = y.total (its_place c x).total (ap total_in there) in
      (s.0, s.1, s.2, and_yes _ s.3 ∙ or_yes _ (ap not (ap (λ (t : Total). eqb t.0 x.heading.total.0) s.4 ∙ e)))

  by_bytes : marked (its_place c x) x.heading.number ≡ true → same_four (its_place c x) x ≡ false → Against
  unfolding holds contradict
  by_bytes m e =
      let p = its_place c x in
      let n = x.heading.number in
      let s = y.bytes n (bytes_at p n) (ap (λ (o : Option Place). holds_in o n) there ∙ marked_four p n m) in
      let z = piece_of s.0 in
      let pr = and_left (of_pair x.heading.level x.heading.version z) (eqb z.heading.number.0 n.0) s.3 in
      let nr = and_right (of_pair x.heading.level x.heading.version z) (eqb z.heading.number.0 n.0) s.3 in
      let sb : same_bytes z x ≡ false = ap (λ (w : Four). eqb w.0 x.a && (eqb w.1 x.b && (eqb w.2 x.c && eqb w.3 x.d))) s.4 ∙ e in
      let other = not (eqb z.heading.total.0 x.heading.total.0) in
      (s.0, s.1, s.2, and_yes _ pr ∙ ap (λ (b : Bool). other || b) (and_yes _ nr ∙ ap not sb) ∙ or-true other)

  by_place : contradicts (its_place c x) x ≡ true → Against
  unfolding contradicts
  by_place e =
      by_test (eqb (its_place c x).total.0 x.heading.total.0)
      (λ t.
      let r : (marked (its_place c x) x.heading.number && not (same_four (its_place c x) x)) ≡ true = sym (or_no _ (ap not t)) ∙ e in
      by_bytes (and_left (marked (its_place c x) x.heading.number) (not (same_four (its_place c x) x)) r)
      (not-true _ (and_right (marked (its_place c x) x.heading.number) (not (same_four (its_place c x) x)) r)))
      (λ t. by_total t)

-- ---- and the other way: each of those frames is held
AreHeld : ℕ → ℕ → List (List ℕ) → Collector → Type 0
AreHeld l v gs c =
    (g : List ℕ) → Memᴰ g gs
    → (holds c l v (piece_of g).heading.number ≡ some (four (piece_of g))) × (total_held c l v ≡ some (piece_of g).heading.total)

module _ (l v : ℕ) where
  offer_are_held : (gs : List (List ℕ)) (c : Collector) (f : List ℕ) → Good c → AreHeld l v gs c
      → AreHeld l v (cond (of_pair l v (piece_of f) && keeps (offered c f).answer) (f ∷ cond (clears l v c f) [] gs) gs) (offered c f).collector
  unfolding AreHeld
  offer_are_held gs c f g y =
      by_test (of_pair l v (piece_of f) && keeps (offered c f).answer)
      (λ t. subst (λ (hs : List (List ℕ)). AreHeld l v hs (offered c f).collector) (sym (if_yes _ _ t)) (with_it t))
      (λ t. subst (λ (hs : List (List ℕ)). AreHeld l v hs (offered c f).collector) (sym (if_no _ _ t)) (without t))
    where
      d : Collector
      d = (offered c f).collector

      -- a frame that is held, with its pair's total
      Own : List ℕ → Type 0
      Own z = (holds d l v (piece_of z).heading.number ≡ some (four (piece_of z))) × (total_held d l v ≡ some (piece_of z).heading.total)

      still : clears l v c f ≡ false → AreHeld l v gs d
      still k h m =
          let s = held_stays l v c f g k in
          let w = y h m in
          (s.bytes (piece_of h).heading.number (four (piece_of h)) w.0, s.total (piece_of h).heading.total w.1)

      without : (of_pair l v (piece_of f) && keeps (offered c f).answer) ≡ false → AreHeld l v gs d
      without t =
          by_test (keeps (offered c f).answer)
          (λ k. still (clears_other l v c f (by_test (of_pair l v (piece_of f)) (λ p. absurd (true≢false (sym (and_yes _ p ∙ k) ∙ t))) (λ p. p))))
          (λ k. subst (AreHeld l v gs) (sym ((kept_exactly c f g).1 k)) y)

      with_first : (hs : List (List ℕ)) → Own f → AreHeld l v hs d → AreHeld l v (f ∷ hs) d
      with_first hs own rest h m = ⊎_elim (λ (q : h ≡ f). subst Own (sym q) own) (λ r. rest h r) (Memᴰ.cases_cons m)

      with_it : (of_pair l v (piece_of f) && keeps (offered c f).answer) ≡ true → AreHeld l v (f ∷ cond (clears l v c f) [] gs) d
      with_it t =
          let x = piece_of f in
          let p = and_left (of_pair l v x) (keeps (offered c f).answer) t in
          let w = (kept_exactly c f g).0 (and_right (of_pair l v x) (keeps (offered c f).answer) t) in
          let same = eq-eqb x.heading.number.0 x.heading.number.0 refl in
          by_test (starts_over c x)
          (λ s.
          let k = w.1.1 s in
          let own : Own f = (k.bytes l v x.heading.number ∙ if_yes _ _ p ∙ if_yes _ _ same, k.total l v ∙ if_yes _ _ p) in
          subst (λ (hs : List (List ℕ)). AreHeld l v (f ∷ hs) d) (sym (if_yes _ _ (clears_own l v c f w.0 p ∙ s)))
          (with_first [] own (λ h m. absurd (Memᴰ.not-nil m))))
          (λ s.
          let k = w.1.0 s in
          let n = clears_own l v c f w.0 p ∙ s in
          let own : Own f = (k.bytes l v x.heading.number ∙ if_yes _ _ (and_yes _ p ∙ same), k.total l v ∙ if_yes _ _ p) in
          subst (λ (hs : List (List ℕ)). AreHeld l v (f ∷ hs) d) (sym (if_no _ _ n)) (with_first gs own (still n)))

  release_are_held : (gs : List (List ℕ)) (c : Collector) (i j : ℕ) → Good c → AreHeld l v gs c → AreHeld l v (cond (eqb i l && eqb j v) [] gs) (released c i j).collector
  unfolding AreHeld
  release_are_held gs c i j g y =
      let w = released_exactly c i j g l v in
      by_test (eqb i l && eqb j v)
      (λ t. subst (λ (hs : List (List ℕ)). AreHeld l v hs (released c i j).collector) (sym (if_yes _ _ t)) (λ h m. absurd (Memᴰ.not-nil m)))
      (λ t.
      subst (λ (hs : List (List ℕ)). AreHeld l v hs (released c i j).collector) (sym (if_no _ _ t))
      (λ h m. (w.0 (piece_of h).heading.number ∙ if_no _ _ t ∙ (y h m).0, w.1 ∙ if_no _ _ t ∙ (y h m).1)))

  run_are_held : (acts : List Act) (c : Collector) (gs : List (List ℕ)) → Good c → AreHeld l v gs c → AreHeld l v (kept_since l v c acts gs) (run c acts)
  unfolding kept_since run
  run_are_held [] c gs g y = y
  run_are_held (offering f ∷ acts) c gs g y = run_are_held acts (offered c f).collector _ (offer_good c f g) (offer_are_held gs c f g y)
  run_are_held (releasing i j ∷ acts) c gs g y = run_are_held acts (released c i j).collector _ (release_good c i j g) (release_are_held gs c i j g y)

  none_are_held : AreHeld l v [] nothing
  unfolding AreHeld
  none_are_held h m = absurd (Memᴰ.not-nil m)

module _ (c : Collector) (x z : Piece)
    (bytes : holds c x.heading.level x.heading.version z.heading.number ≡ some (four z))
    (total : total_held c x.heading.level x.heading.version ≡ some z.heading.total) where
  its_held : (its_place c x).held ≡ true
  unfolding index_of_pair total_held
  its_held =
      by_test (ltb (at_pair c x) (length c.places))
      (λ t. is_held_lem c.places x.heading.level x.heading.version (ltb-true _ _ t))
      (λ t. absurd (none_some (sym (ap total_in (held_place_missing x.heading.level x.heading.version c.places (ltb-false _ _ t))) ∙ total)))

  found_its : held_place x.heading.level x.heading.version c.places ≡ some (its_place c x)
  found_its = its_there c x its_held

  its_total : (its_place c x).total ≡ z.heading.total
  unfolding total_held
  its_total = some_inj (sym (ap total_in found_its) ∙ total)

  its_four : four_at (its_place c x) z.heading.number ≡ some (four z)
  unfolding holds
  its_four = sym (ap (λ (o : Option Place). holds_in o z.heading.number) found_its) ∙ bytes

  its_mark : marked (its_place c x) z.heading.number ≡ true
  its_mark = sym (four_marked (its_place c x) z.heading.number) ∙ ap is_some its_four

  its_bytes : bytes_at (its_place c x) z.heading.number ≡ four z
  its_bytes = some_inj (sym (marked_four (its_place c x) z.heading.number its_mark) ∙ its_four)

  goes_against : contradict z x ≡ true → contradicts (its_place c x) x ≡ true
  unfolding contradict contradicts
  goes_against e =
      let p = its_place c x in
      let r = and_right (of_pair x.heading.level x.heading.version z) _ e in
      let te : eqb p.total.0 x.heading.total.0 ≡ eqb z.heading.total.0 x.heading.total.0 = ap (λ (t : Total). eqb t.0 x.heading.total.0) its_total in
      by_test (eqb z.heading.total.0 x.heading.total.0)
      (λ t.
      let u : (eqb z.heading.number.0 x.heading.number.0 && not (same_bytes z x)) ≡ true = sym (or_no _ (ap not t)) ∙ r in
      let en : z.heading.number.0 ≡ x.heading.number.0 = eqb-true _ _ (and_left (eqb z.heading.number.0 x.heading.number.0) (not (same_bytes z x)) u) in
      let m : marked p x.heading.number ≡ true = ap (λ (k : ℕ). marked p (record { 0 = k })) (sym en) ∙ its_mark in
      let b : bytes_at p x.heading.number ≡ four z = ap (λ (k : ℕ). bytes_at p (record { 0 = k })) (sym en) ∙ its_bytes in
      let sf : same_four p x ≡ same_bytes z x = ap (λ (w : Four). eqb w.0 x.a && (eqb w.1 x.b && (eqb w.2 x.c && eqb w.3 x.d))) b in
      or_no _ (ap not (te ∙ t)) ∙ and_yes _ m ∙ ap not (sf ∙ not-true _ (and_right (eqb z.heading.number.0 x.heading.number.0) (not (same_bytes z x)) u)))
      (λ t. or_yes _ (ap not (te ∙ t)))

  says_15 : contradict z x ≡ true → whole (its_place c x) ≡ true → (taken_in c x).answer ≡ 15
  says_15 e w =
      let a = whole_fifteen c x (and_yes _ its_held ∙ goes_against e) w in
      sym (ap (λ (o : Offered). o.answer) (take_against c x its_held 15 (sym a) (λ (q : 15 ≡ 0). omega arith) (λ (q : 15 ≡ 3). omega arith)))

-- After any offers and releases from an empty collector, 15 comes exactly if the frame's heading is accepted, its pair is whole, and it contradicts a
-- frame of the pair that was offered and kept since the pair's place was taken, or taken afresh.
pub fifteen_exactly : (acts : List Act) (f : List ℕ)
    → ((offered (run nothing acts) f).answer ≡ 15)
    ↔ ((accepted f ≡ true)
    × (whole (its_place (run nothing acts) (piece_of f)) ≡ true)
    × ((g : List ℕ) × Memᴰ g (kept_since (piece_of f).heading.level (piece_of f).heading.version nothing acts []) × (accepted g ≡ true) × (contradict (piece_of g) (piece_of f) ≡ true)))
unfolding AreHeld
fifteen_exactly acts f =
    let c = run nothing acts in
    let x = piece_of f in
    let l = x.heading.level in
    let v = x.heading.version in
    let gc = run_keeps_good acts nothing empty_good in (
      λ e.
          let r = and_both (contradicted c x) (whole (its_place c x)) (case_15 c f e) in
          let w = r.0 in (
            taken_15 c f gc e,
            r.1,
            by_place c x (kept_since l v nothing acts []) (run_held_by l v acts nothing [] empty_good (empty_held_by l v))
                (and_left (its_place c x).held (contradicts (its_place c x) x) w)
                (and_right (its_place c x).held (contradicts (its_place c x) x) w),
          ),
      λ w.
          let y = run_are_held l v acts nothing [] empty_good (none_are_held l v) w.2.0 w.2.1 in
          ap (λ (o : Offered). o.answer) (offered_taken c f gc w.0) ∙ says_15 c x (piece_of w.2.0) y.0 y.1 w.2.3 w.1,
    )
