-- A good record stays good: whatever is offered or released. Assumes nothing.
use mathlib.Core.Path.{◌≡◌, refl, sym, ap, ap₂, subst, ◌∙◌}
use mathlib.Core.List.{List, [], ◌∷◌}
use mathlib.Core.Bool.{Bool, true, false, not, ◌&&◌, ◌||◌, and-false}
use Prim.Native.Nat.{ℕ, zero, suc, ◌≤◌, ◌<◌}
use native.Mathlib.Nat.{not-suc-le-zero, le_of_suc-le-suc}
use native.Mathlib.Omega.{arith}
use lib.ListN.{length, get_or, set, length-set}
use lib.Dec.{leb, ltb, eqb}
use borrow.Author.Tests.{ltb-true, ltb-false, eqb-true, eqb-false, eq-eqb, ne_eqb, le-leb}
use Rattle.laws.specs.Scan.{all, index_of}
use Rattle.laws.specs.Refusals.{first}
use Rattle.laws.proofs.Cases.{and_yes, and_no, and_left, and_right, or_yes}
use Rattle.laws.proofs.Elements.{by_test, index_yes, index_no, index_holds, all_cons, all_head, all_tail, all_at, all_set, all_map}
use Rattle.frame.specs.Heading.{refusals}
use Rattle.frame.proofs.Accepted.{Bounds, bounds}
use Rattle.collector.specs.declared.Place.{Place}
use Rattle.collector.specs.declared.Collector.{Collector}
use Rattle.collector.specs.declared.Piece.{Piece}
use Rattle.collector.specs.Places.{blank, is_pair, pairs_apart, fair, shaped, stored, taken_for, freed}
use Rattle.collector.specs.Collector.{good, nothing, index_of_pair, its_place, piece_of, put, taken_in, kept, begun, offered, released, Offered}
use Rattle.collector.proofs.Calls.{offer_heading, offer_taken, release_18, release_0}
use Rattle.collector.proofs.AllPlaces.{good_at, is_held_lem, is_not_held}
use Rattle.collector.proofs.Marks.{stored_shaped, taken_shaped, freed_shaped, stored_below, taken_below}
use Rattle.order.specs.Held.{Good}
use Rattle.order.proofs.Outcome.{Outcome, turned, joins, begins, starts, finds_none, outcome, at_pair, at_free, zero_total}

module _ (x : Place) (xs : List Place) where
  good_ok : good (x ∷ xs) ≡ true → fair x ≡ true
  unfolding good
  good_ok e = and_left (fair x) (all (pairs_apart x) xs && good xs) e

  pub good_apart : good (x ∷ xs) ≡ true → all (pairs_apart x) xs ≡ true
  unfolding good
  good_apart e = and_left (all (pairs_apart x) xs) (good xs) (and_right (fair x) (all (pairs_apart x) xs && good xs) e)

  pub good_tail : good (x ∷ xs) ≡ true → good xs ≡ true
  unfolding good
  good_tail e = and_right (all (pairs_apart x) xs) (good xs) (and_right (fair x) (all (pairs_apart x) xs && good xs) e)

  good_cons : fair x ≡ true → all (pairs_apart x) xs ≡ true → good xs ≡ true → good (x ∷ xs) ≡ true
  unfolding good
  good_cons a b c = and_yes (all (pairs_apart x) xs && good xs) a ∙ (and_yes (good xs) b ∙ c)

-- a place is replaced by one of the same pair
good_same : (xs : List Place) (i : ℕ) (q : Place) → i < length xs → good xs ≡ true → fair q ≡ true
    → ((r : Place) → pairs_apart q r ≡ pairs_apart (get_or xs i blank) r) → ((r : Place) → pairs_apart r q ≡ pairs_apart r (get_or xs i blank)) → good (set xs i q) ≡ true
good_same [] i q h e k a b = absurd (not-suc-le-zero h)
good_same (x ∷ xs) zero q h e k a b =
    good_cons q xs k (all_map (pairs_apart x) (pairs_apart q) xs (λ r w. a r ∙ w) (good_apart x xs e)) (good_tail x xs e)
good_same (x ∷ xs) (suc i) q h e k a b =
    good_cons x (set xs i q) (good_ok x xs e)
    (all_set (pairs_apart x) xs i q (good_apart x xs e) (b x ∙ all_at (pairs_apart x) xs i blank (good_apart x xs e) (le_of_suc-le-suc h)))
    (good_same xs i q (le_of_suc-le-suc h) (good_tail x xs e) k a b)

-- a place is replaced by one whose pair no place has
good_new : (xs : List Place) (i : ℕ) (q : Place) → i < length xs → good xs ≡ true → fair q ≡ true
    → all (pairs_apart q) xs ≡ true → ((r : Place) → pairs_apart r q ≡ pairs_apart q r) → good (set xs i q) ≡ true
good_new [] i q h e k a b = absurd (not-suc-le-zero h)
good_new (x ∷ xs) zero q h e k a b = good_cons q xs k (all_tail (pairs_apart q) x xs a) (good_tail x xs e)
good_new (x ∷ xs) (suc i) q h e k a b =
    good_cons x (set xs i q) (good_ok x xs e)
    (all_set (pairs_apart x) xs i q (good_apart x xs e) (b x ∙ all_head (pairs_apart q) x xs a))
    (good_new xs i q (le_of_suc-le-suc h) (good_tail x xs e) k (all_tail (pairs_apart q) x xs a) b)

stored_ok : (p : Place) (x : Piece) → x.heading.number.0 < p.total.0 → fair (stored p x) ≡ fair p
unfolding fair stored
stored_ok p x h =
    ap
    (λ (b : Bool).
    not p.held
    || (leb 1 p.level && (leb p.level 6 && (leb p.version 31 && (leb 1 p.total.0 && (leb p.total.0 63 && b))))))
    (stored_below p x h)

taken_ok : (x : Piece) → Bounds x.heading → fair (taken_for x) ≡ true
unfolding fair taken_for
taken_ok x b =
    and_yes _ (le-leb 1 x.heading.level b.level_low)
    ∙ and_yes _ (le-leb x.heading.level 6 b.level_high)
    ∙ and_yes _ (le-leb x.heading.version 31 b.version_high)
    ∙ and_yes _ (le-leb 1 x.heading.total.0 (let n = b.number_below in omega arith))
    ∙ and_yes _ (le-leb x.heading.total.0 63 b.total_high)
    ∙ taken_below x

-- being of one pair goes both ways
pub eqb_sym : (a b : ℕ) → eqb a b ≡ eqb b a
eqb_sym a b =
    by_test (eqb a b)
    (λ e. e ∙ sym (eq-eqb b a (sym (eqb-true a b e))))
    (λ e. e ∙ sym (ne_eqb b a (λ (k : b ≡ a). eqb-false a b e (sym k))))

and_swap : (a b c : Bool) → (a && (b && c)) ≡ (b && (a && c))
and_swap true true c = refl
and_swap true false c = refl
and_swap false true c = refl
and_swap false false c = refl

apart_sym : (r q : Place) → pairs_apart r q ≡ pairs_apart q r
apart_sym r q =
    ap not
    (and_swap r.held q.held (eqb q.level r.level && eqb q.version r.version)
    ∙ ap₂ (λ (s t : Bool). q.held && (r.held && (s && t))) (eqb_sym q.level r.level) (eqb_sym q.version r.version))

-- where no place is of a pair, each is apart from a place of that pair
missing_apart : (q : Place) (l v : ℕ) (xs : List Place) → q.level ≡ l → q.version ≡ v → length xs ≤ index_of (is_pair l v) xs → all (pairs_apart q) xs ≡ true
missing_apart q l v [] el ev h = refl
missing_apart q l v (r ∷ rs) el ev h =
    by_test (is_pair l v r)
    (λ e. let w = index_yes (is_pair l v) r rs e in absurd (omega arith))
    (λ e.
    let w = index_no (is_pair l v) r rs e in
    all_cons (pairs_apart q) r rs
    (ap not (ap₂ (λ (a b : ℕ). q.held && is_pair a b r) el ev ∙ ap (λ (t : Bool). q.held && t) e ∙ and-false q.held))
    (missing_apart q l v rs el ev (omega arith)))

stored_apart : (p : Place) (x : Piece) (r : Place) → pairs_apart (stored p x) r ≡ pairs_apart p r
unfolding stored
stored_apart p x r = refl

stored_apart' : (p : Place) (x : Piece) (r : Place) → pairs_apart r (stored p x) ≡ pairs_apart r p
unfolding stored
stored_apart' p x r = refl

taken_pair : (x : Piece) → ((taken_for x).level ≡ x.heading.level) × ((taken_for x).version ≡ x.heading.version)
unfolding taken_for
taken_pair x = (refl, refl)

taken_total : (x : Piece) → (taken_for x).total.0 ≡ x.heading.total.0
unfolding taken_for
taken_total x = refl

stored_number : (p : Place) (x : Piece) → ((stored p x).level ≡ p.level) × ((stored p x).version ≡ p.version)
unfolding stored
stored_number p x = (refl, refl)

pub kept_collector : (c : Collector) (i : ℕ) (p : Place) (x : Piece) → (kept c i p x).collector ≡ put c i (stored p x)
unfolding kept
kept_collector c i p x = refl

pub begun_collector : (c : Collector) (i : ℕ) (x : Piece) → (begun c i x).collector ≡ put c i (stored (taken_for x) x)
unfolding begun
begun_collector c i x = refl

-- places of one pair are apart from the same places
same_apart : (p q r : Place) → q.held ≡ p.held → q.level ≡ p.level → q.version ≡ p.version → (pairs_apart q r ≡ pairs_apart p r) × (pairs_apart r q ≡ pairs_apart r p)
same_apart p q r eh el ev = (rw (eh, el, ev), rw (eh, el, ev))

-- a place taken afresh for its pair
afresh_pair : (p : Place) (x : Piece) → is_pair x.heading.level x.heading.version p ≡ true
    → ((stored (taken_for x) x).held ≡ p.held) × ((stored (taken_for x) x).level ≡ p.level) × ((stored (taken_for x) x).version ≡ p.version)
unfolding stored taken_for
afresh_pair p x m =
    let r = and_right p.held (eqb p.level x.heading.level && eqb p.version x.heading.version) m in (
      sym (and_left p.held (eqb p.level x.heading.level && eqb p.version x.heading.version) m),
      sym (eqb-true _ _ (and_left (eqb p.level x.heading.level) (eqb p.version x.heading.version) r)),
      sym (eqb-true _ _ (and_right (eqb p.level x.heading.level) (eqb p.version x.heading.version) r)),
    )

module _ (c : Collector) (x : Piece) (g : Good c) (b : Bounds x.heading) where
  begun_good : at_pair c x < length c.places → Good (put c (at_pair c x) (stored (taken_for x) x))
  unfolding index_of_pair
  begun_good h =
      let p = its_place c x in
      let q = stored (taken_for x) x in
      let n = b.number_below in
      let w = afresh_pair p x (index_holds (is_pair x.heading.level x.heading.version) c.places blank (at_pair c x) refl h) in
      record {
        count = length-set c.places (at_pair c x) q ∙ g.count;
        shape = all_set shaped c.places (at_pair c x) q g.shape (stored_shaped (taken_for x) x ∙ taken_shaped x);
        order =
            good_same c.places (at_pair c x) q h g.order
            (stored_ok (taken_for x) x (subst (λ (t : ℕ). x.heading.number.0 < t) (sym (taken_total x)) n) ∙ taken_ok x b)
            (λ r. (same_apart p q r w.0 w.1 w.2).0)
            (λ r. (same_apart p q r w.0 w.1 w.2).1);
      }

  pub joined_good : at_pair c x < length c.places → (its_place c x).total.0 ≡ x.heading.total.0 → Good (put c (at_pair c x) (stored (its_place c x) x))
  unfolding index_of_pair
  joined_good h t =
      let p = its_place c x in
      let n = b.number_below in
      record {
        count = length-set c.places (at_pair c x) (stored p x) ∙ g.count;
        shape =
            all_set shaped c.places (at_pair c x) (stored p x) g.shape
            (stored_shaped p x ∙ all_at shaped c.places (at_pair c x) blank g.shape h);
        order =
            good_same c.places (at_pair c x) (stored p x) h g.order
            (stored_ok p x (omega arith) ∙ good_at c.places (at_pair c x) blank h g.order)
            (stored_apart p x) (stored_apart' p x);
      }

  pub started_good : length c.places ≤ at_pair c x → at_free c < length c.places → Good (put c (at_free c) (stored (taken_for x) x))
  started_good none h =
      let q = stored (taken_for x) x in
      let n = b.number_below in
      let fp = taken_pair x in
      let sk = stored_number (taken_for x) x in
      record {
        count = length-set c.places (at_free c) q ∙ g.count;
        shape = all_set shaped c.places (at_free c) q g.shape (stored_shaped (taken_for x) x ∙ taken_shaped x);
        order =
            good_new c.places (at_free c) q h g.order
            (stored_ok (taken_for x) x (subst (λ (t : ℕ). x.heading.number.0 < t) (sym (taken_total x)) n) ∙ taken_ok x b)
            (missing_apart q x.heading.level x.heading.version c.places (sk.0 ∙ fp.0) (sk.1 ∙ fp.1) none)
            (λ r. apart_sym r q);
      }

  -- whatever becomes of a frame, the record stays good
  taken_good : Good (taken_in c x).collector
  taken_good = by_outcome (outcome c x)
    where
      by_outcome : Outcome c x → Good (taken_in c x).collector
      by_outcome (turned a h e n m w) = subst (λ (o : Offered). Good o.collector) w g
      by_outcome (joins h e w) =
          subst (λ (o : Offered). Good o.collector) w
          (subst Good (sym (kept_collector c (at_pair c x) (its_place c x) x)) (joined_good h (zero_total (its_place c x) x e)))
      by_outcome (begins h e w) =
          subst (λ (o : Offered). Good o.collector) w (subst Good (sym (begun_collector c (at_pair c x) x)) (begun_good h))
      by_outcome (starts h k w) =
          subst (λ (o : Offered). Good o.collector) w
          (subst Good (sym (kept_collector c (at_free c) (taken_for x) x)) (started_good h k))
      by_outcome (finds_none h k w) = subst (λ (o : Offered). Good o.collector) w g

pub empty_good : Good nothing
unfolding good fair
empty_good = record { count = refl; shape = refl; order = refl }

pub offer_good : (c : Collector) (f : List ℕ) → Good c → Good (offered c f).collector
offer_good c f g =
    by_test (eqb (first (refusals f)) 0)
    (λ t.
    let e = eqb-true _ _ t in
    subst (λ (o : Offered). Good o.collector) (offer_taken c f g.order e) (taken_good c (piece_of f) g (bounds f e)))
    (λ t. subst (λ (o : Offered). Good o.collector) (offer_heading c f g.order (eqb-false _ _ t)) g)

-- a place made free is fair, apart from every other, and has its lengths still
pub freed_is : (p : Place) → (freed p).held ≡ false
unfolding freed
freed_is p = refl

free_apart : (q : Place) (xs : List Place) → q.held ≡ false → all (pairs_apart q) xs ≡ true
free_apart q [] h = refl
free_apart q (r ∷ rs) h = all_cons (pairs_apart q) r rs (ap not (and_no _ h)) (free_apart q rs h)

free_fair : (q : Place) → q.held ≡ false → fair q ≡ true
unfolding fair
free_fair q h = or_yes _ (ap not h)

pub freed_good : (c : Collector) (i : ℕ) → Good c → i < length c.places → Good (put c i (freed (get_or c.places i blank)))
freed_good c i g h =
    let p = get_or c.places i blank in
    let k = freed_is p in
    record {
      count = length-set c.places i (freed p) ∙ g.count;
      shape = all_set shaped c.places i (freed p) g.shape (freed_shaped p ∙ all_at shaped c.places i blank g.shape h);
      order =
          good_new c.places i (freed p) h g.order (free_fair (freed p) k) (free_apart (freed p) c.places k)
          (λ r. apart_sym r (freed p));
    }

pub release_good : (c : Collector) (l v : ℕ) → Good c → Good (released c l v).collector
release_good c l v g =
    by_test (ltb (index_of_pair l v c.places) (length c.places))
    (λ t.
    let h = ltb-true _ _ t in
    subst (λ (o : Offered). Good o.collector) (release_0 c l v g.order (is_held_lem c.places l v h))
    (freed_good c (index_of_pair l v c.places) g h))
    (λ t.
    subst (λ (o : Offered). Good o.collector) (release_18 c l v g.order (is_not_held c.places l v (ltb-false _ _ t))) g)
