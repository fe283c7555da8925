-- A record with one number for the marks, seen with 63 marks and back; what the calls give is what the definitions say of the record seen.
-- Assumes nothing.
use mathlib.Core.Path.{◌≡◌, refl, sym, ap, ap₂, subst, ◌∙◌}
use mathlib.Core.Logic.{◌↔◌}
use mathlib.Core.Bool.{Bool, true, false, true≢false, not, ◌&&◌}
use mathlib.Core.List.{List, [], ◌∷◌, ◌++◌, map}
use Prim.Native.Nat.{ℕ, zero, suc, ◌^◌, ◌<◌}
use native.Mathlib.Omega.{arith}
use lib.ListN.{length, get_or, set, length-map, length-set, get_or-map}
use lib.Dec.{ltb, eqb}
use borrow.Author.Tests.{ltb-true, ltb-false, lt-ltb, eqb-true, eq-eqb, not-false}
use Rattle.laws.specs.Scan.{all}
use Rattle.frame.specs.Heading.{refusals}
use Rattle.laws.specs.Refusals.{first, among, apart}
use Rattle.laws.proofs.Cases.{if_yes, if_no, and_both, and_yes, and_no}
use Rattle.laws.proofs.Refusals.{stop, not_due}
use Rattle.laws.proofs.Elements.{by_test, get_d_any, all_at, all_head, all_tail, all_cons, all_set}
use Rattle.collector.specs.declared.Place.{Place}
use Rattle.collector.specs.declared.Collector.{Collector}
use Rattle.collector.specs.declared.Piece.{Piece}
use Rattle.collector.specs.declared.Holding.{Holding}
use Rattle.collector.specs.declared.Holdings.{Holdings}
use Rattle.collector.specs.Places.{blank, taken_for, stored, freed, contradicts, copy_cases, copy_answer, Copied}
use Rattle.collector.specs.Collector.{good, place_of, index_of_pair, put, piece_of, its_place, spot, after, keeps, offer_cases, offered, release_cases, released, answered, copied, nothing, take_cases, copied_cases, Offered}
use Rattle.collector.specs.Layout.{marks_from, number_of, top_clear, tops_clear, as_place, as_collector, as_offered, from_place, from_collector, from_offered, no_holdings, bad_record, sound, offer_due, release_due, copy_due, offer_gives, release_gives, copy_gives, copy_leaves, Outcome}
use Rattle.collector.proofs.AllPlaces.{is_not_held}
use Rattle.collector.proofs.Calls.{offer_28, release_28, copy_28, bad_first}
use Rattle.collector.proofs.NumberMarks.{length_marks, number_of_marks, marks_of_number, number_small}

-- ---- seen, and back
-- a place whose top bit is clear comes back
pub place_back : (p : Holding) → top_clear p ≡ true → from_place (as_place p) ≡ p
place_back p e =
    ap (λ (m : ℕ). record { held = p.held; level = p.level; version = p.version; total = p.total; marks = m; bytes = p.bytes })
    (number_of_marks 63 p.marks (ltb-true _ _ e))

places_back : (ps : List Holding) → all top_clear ps ≡ true → map from_place (map as_place ps) ≡ ps
places_back [] e = refl
places_back (p ∷ ps) e = ap₂ (λ (q : Holding) (qs : List Holding). q ∷ qs) (place_back p (all_head top_clear p ps e)) (places_back ps (all_tail top_clear p ps e))

pub record_back : (h : Holdings) → tops_clear h ≡ true → from_collector (as_collector h) ≡ h
record_back h e = ap (λ (ps : List Holding). record { places = ps }) (places_back h.places e)

pub outcome_back : (r : Outcome) → tops_clear r.collector ≡ true → from_offered (as_offered r) ≡ r
outcome_back r e = ap (λ (ps : List Holding). record { answer = r.answer; collector = record { places = ps } }) (places_back r.collector.places e)

-- ---- back, and seen
abbrev sixty_three : Place → Bool
sixty_three p = eqb (length p.marks) 63

place_there : (p : Place) → sixty_three p ≡ true → as_place (from_place p) ≡ p
place_there p e =
    ap (λ (ms : List Bool). record { held = p.held; level = p.level; version = p.version; total = p.total; marks = ms; bytes = p.bytes })
    (ap (λ (n : ℕ). marks_from n (number_of p.marks)) (sym (eqb-true _ _ e)) ∙ marks_of_number p.marks)

places_there : (ps : List Place) → all sixty_three ps ≡ true → map as_place (map from_place ps) ≡ ps
places_there [] e = refl
places_there (p ∷ ps) e = ap₂ (λ (q : Place) (qs : List Place). q ∷ qs) (place_there p (all_head sixty_three p ps e)) (places_there ps (all_tail sixty_three p ps e))

pub collector_there : (c : Collector) → all sixty_three c.places ≡ true → as_collector (from_collector c) ≡ c
collector_there c e = ap (λ (ps : List Place). record { places = ps }) (places_there c.places e)

-- what comes back of 63 marks has its top bit clear
pub from_clear : (ps : List Place) → all sixty_three ps ≡ true → all top_clear (map from_place ps) ≡ true
from_clear [] e = refl
from_clear (p ∷ ps) e =
    all_cons top_clear (from_place p) (map from_place ps)
    (lt-ltb _ _ (subst (λ (n : ℕ). number_of p.marks < 2 ^ n) (eqb-true _ _ (all_head sixty_three p ps e)) (number_small p.marks)))
    (from_clear ps (all_tail sixty_three p ps e))

-- a record seen has 63 marks in each place
pub seen_63 : (ps : List Holding) → all sixty_three (map as_place ps) ≡ true
seen_63 [] = refl
seen_63 (p ∷ ps) = all_cons sixty_three (as_place p) (map as_place ps) (eq-eqb _ _ (length_marks 63 p.marks)) (seen_63 ps)

-- ---- one place of the record seen
pub seen_at : (ps : List Holding) (i : ℕ) (d : Holding) → i < length ps → get_or (map as_place ps) i blank ≡ as_place (get_or ps i d)
seen_at ps i d h = get_d_any (map as_place ps) i blank (as_place d) (omega (arith, length-map ps as_place)) ∙ get_or-map as_place ps i d

pub seen_set : (ps : List Holding) (i : ℕ) (p : Holding) → map as_place (set ps i p) ≡ set (map as_place ps) i (as_place p)
seen_set [] i p = refl
seen_set (q ∷ ps) zero p = refl
seen_set (q ∷ ps) (suc i) p = ap (λ (qs : List Place). as_place q ∷ qs) (seen_set ps i p)

-- a place that is taken afresh
pub taken_there : (x : Piece) (p : Holding) → p ≡ from_place (taken_for x) → (as_place p ≡ taken_for x) × (top_clear p ≡ true)
unfolding taken_for number_of marks_from
taken_there x p e = (ap as_place e, ap top_clear e)

-- the record that holds nothing
pub empty_seen : (as_collector no_holdings ≡ nothing) × (tops_clear no_holdings ≡ true)
unfolding marks_from number_of
empty_seen = (refl, refl)

-- ---- the calls, by what the code found
module _ (h : Holdings) where
  module _ (t : tops_clear h ≡ false) where
    pub offer_top : (f : List ℕ) → bad_record h ≡ offer_gives h f
    unfolding offer_gives
    offer_top f = sym (if_no _ _ t)

    pub release_top : (l v : ℕ) → bad_record h ≡ release_gives h l v
    unfolding release_gives
    release_top l v = sym (if_no _ _ t)

    pub copy_top : (l v : ℕ) (out : List ℕ) → (record { answer = 28; length = 0 } ≡ copy_gives h l v (length out)) × (out ≡ copy_leaves h l v out)
    unfolding copy_gives copy_leaves
    copy_top l v out = (sym (if_no _ _ t), sym (if_no _ _ t))

  module _ (t : tops_clear h ≡ true) where
    pub offer_seen : (f : List ℕ) (r : Outcome) → tops_clear r.collector ≡ true → as_offered r ≡ offered (as_collector h) f → r ≡ offer_gives h f
    unfolding offer_gives
    offer_seen f r k e = sym (outcome_back r k) ∙ ap from_offered e ∙ sym (if_yes _ _ t)

    pub release_seen : (l v : ℕ) (r : Outcome) → tops_clear r.collector ≡ true → as_offered r ≡ released (as_collector h) l v → r ≡ release_gives h l v
    unfolding release_gives
    release_seen l v r k e = sym (outcome_back r k) ∙ ap from_offered e ∙ sym (if_yes _ _ t)

    pub copy_seen : (l v : ℕ) (out : List ℕ) (r : Copied) (now : List ℕ)
        → (r ≡ answered (as_collector h) l v (length out)) × (now ≡ copied (as_collector h) l v out) → (r ≡ copy_gives h l v (length out)) × (now ≡ copy_leaves h l v out)
    unfolding copy_gives copy_leaves
    copy_seen l v out r now e = (e.0 ∙ sym (if_yes _ _ t), e.1 ∙ sym (if_yes _ _ t))

  -- a record that is not good
  module _ (b : (tops_clear h && good (as_collector h).places) ≡ false) where
    not_good : tops_clear h ≡ true → good (as_collector h).places ≡ false
    not_good t = sym (and_yes _ t) ∙ b

    pub offer_bad : (f : List ℕ) → bad_record h ≡ offer_gives h f
    offer_bad f =
        by_test (tops_clear h)
        (λ t. offer_seen t f (bad_record h) t (offer_28 (as_collector h) f (not_good t)))
        (λ t. offer_top t f)

    pub release_bad : (l v : ℕ) → bad_record h ≡ release_gives h l v
    release_bad l v =
        by_test (tops_clear h)
        (λ t. release_seen t l v (bad_record h) t (release_28 (as_collector h) l v (not_good t)))
        (λ t. release_top t l v)

    pub copy_bad : (l v : ℕ) (out : List ℕ) → (record { answer = 28; length = 0 } ≡ copy_gives h l v (length out)) × (out ≡ copy_leaves h l v out)
    copy_bad l v out =
        by_test (tops_clear h)
        (λ t. copy_seen t l v out _ out (copy_28 (as_collector h) l v out (not_good t)))
        (λ t. copy_top t l v out)

-- ---- what the definitions leave has 63 marks in each place
stored_63 : (p : Place) (x : Piece) → sixty_three p ≡ true → sixty_three (stored p x) ≡ true
unfolding stored
stored_63 p x e = ap (λ (n : ℕ). eqb n 63) (length-set p.marks x.heading.number.0 true) ∙ e

held_63 : (ps : List Place) (l v : ℕ) → all sixty_three ps ≡ true → (place_of l v ps).held ≡ true → sixty_three (place_of l v ps) ≡ true
held_63 ps l v e h =
    by_test (ltb (index_of_pair l v ps) (length ps))
    (λ k. all_at sixty_three ps (index_of_pair l v ps) blank e (ltb-true _ _ k))
    (λ k. absurd (true≢false (sym h ∙ is_not_held ps l v (ltb-false _ _ k))))

module _ (c : Collector) (e : all sixty_three c.places ≡ true) where
  put_63 : (i : ℕ) (p : Place) → sixty_three p ≡ true → all sixty_three (put c i p).places ≡ true
  put_63 i p s = all_set sixty_three c.places i p e s

  after_63 : (x : Piece) → sixty_three (after c x) ≡ true
  unfolding after taken_for
  after_63 x =
      by_test ((its_place c x).held && not (contradicts (its_place c x) x))
      (λ t. stored_63 _ x (ap sixty_three (if_yes (its_place c x) (taken_for x) t) ∙ held_63 c.places x.heading.level x.heading.version e (and_both (its_place c x).held _ t).0))
      (λ t. stored_63 _ x (ap sixty_three (if_no (its_place c x) (taken_for x) t)))

  offered_63 : (f : List ℕ) → all sixty_three (offered c f).collector.places ≡ true
  unfolding offered
  offered_63 f =
      by_test (keeps (first (offer_cases c f)))
      (λ t. ap (λ (d : Collector). all sixty_three d.places) (if_yes (put c (spot c (piece_of f)) (after c (piece_of f))) c t) ∙ put_63 _ _ (after_63 (piece_of f)))
      (λ t. ap (λ (d : Collector). all sixty_three d.places) (if_no (put c (spot c (piece_of f)) (after c (piece_of f))) c t) ∙ e)

  released_63 : (l v : ℕ) → all sixty_three (released c l v).collector.places ≡ true
  unfolding released release_cases freed
  released_63 l v =
      let q = freed (place_of l v c.places) in
      by_test (eqb (first (release_cases c l v)) 0)
      (λ t. ap (λ (d : Collector). all sixty_three d.places) (if_yes (put c (index_of_pair l v c.places) q) c t) ∙ put_63 _ q (freed_63 t))
      (λ t. ap (λ (d : Collector). all sixty_three d.places) (if_no (put c (index_of_pair l v c.places) q) c t) ∙ e)
    where
      freed_63 : eqb (first (release_cases c l v)) 0 ≡ true → sixty_three (freed (place_of l v c.places)) ≡ true
      freed_63 t = held_63 c.places l v e (not-false _ (not_due _ 18 [] (λ (z : 18 ≡ 0). omega arith) (not_due _ 28 _ (λ (z : 28 ≡ 0). omega arith) (eqb-true _ 0 t)).1).0)

-- ---- the theorem: every call on a record with clear top bits gives what the definitions say of the record seen, and leaves such a record
module _ (h : Holdings) (t : tops_clear h ≡ true) where
  left_there : (o : Offered) (r : Outcome) → r ≡ from_offered o → all sixty_three o.collector.places ≡ true → (as_offered r ≡ o) × (tops_clear r.collector ≡ true)
  left_there o r e s = (
    ap as_offered e ∙ ap (λ (c : Collector). record { answer = o.answer; collector = c }) (collector_there o.collector s),
    ap (λ (q : Outcome). tops_clear q.collector) e ∙ from_clear o.collector.places s,
  )

  pub offer_same : (f : List ℕ) → (as_offered (offer_gives h f) ≡ offered (as_collector h) f) × (tops_clear (offer_gives h f).collector ≡ true)
  unfolding offer_gives
  offer_same f = left_there (offered (as_collector h) f) _ (if_yes _ _ t) (offered_63 (as_collector h) (seen_63 h.places) f)

  pub release_same : (l v : ℕ) → (as_offered (release_gives h l v) ≡ released (as_collector h) l v) × (tops_clear (release_gives h l v).collector ≡ true)
  unfolding release_gives
  release_same l v = left_there (released (as_collector h) l v) _ (if_yes _ _ t) (released_63 (as_collector h) (seen_63 h.places) l v)

  pub copy_same : (l v : ℕ) (out : List ℕ) → (copy_gives h l v (length out) ≡ answered (as_collector h) l v (length out)) × (copy_leaves h l v out ≡ copied (as_collector h) l v out)
  unfolding copy_gives copy_leaves
  copy_same l v out = (if_yes _ _ t, if_yes _ _ t)

-- ---- each answer is the first case that is due, and no number stands for two
module _ (h : Holdings) where
  pub offer_answer : (f : List ℕ) → (offer_gives h f).answer ≡ first (offer_due h f)
  unfolding offer_gives offer_due offered offer_cases
  offer_answer f =
      by_test (tops_clear h)
      (λ t. ap (λ (o : Outcome). o.answer) (if_yes _ _ t) ∙ ap (λ (b : Bool). first ((not b, 28) ∷ (refusals f ++ take_cases (as_collector h) (piece_of f)))) (sym (and_yes _ t)))
      (λ t. ap (λ (o : Outcome). o.answer) (if_no (from_offered (offered (as_collector h) f)) (bad_record h) t) ∙ sym (stop 28 _ (ap not (and_no _ t))))

  pub release_answer : (l v : ℕ) → (release_gives h l v).answer ≡ first (release_due h l v)
  unfolding release_gives release_due released release_cases
  release_answer l v =
      by_test (tops_clear h)
      (λ t. ap (λ (o : Outcome). o.answer) (if_yes _ _ t) ∙ ap (λ (b : Bool). first ((not b, 28) ∷ (not (place_of l v (as_collector h).places).held, 18) ∷ [])) (sym (and_yes _ t)))
      (λ t. ap (λ (o : Outcome). o.answer) (if_no (from_offered (released (as_collector h) l v)) (bad_record h) t) ∙ sym (stop 28 _ (ap not (and_no _ t))))

  pub copy_answer_lem : (l v n : ℕ) → (copy_gives h l v n).answer ≡ first (copy_due h l v n)
  unfolding copy_gives copy_due answered copied_cases copy_answer
  copy_answer_lem l v n =
      by_test (tops_clear h)
      (λ t. ap (λ (o : Copied). o.answer) (if_yes _ _ t) ∙ ap (λ (b : Bool). first ((not b, 28) ∷ copy_cases (place_of l v (as_collector h).places) n)) (sym (and_yes _ t)))
      (λ t. ap (λ (o : Copied). o.answer) (if_no (answered (as_collector h) l v n) (record { answer = 28; length = 0 }) t) ∙ sym (stop 28 _ (ap not (and_no _ t))))

  pub offer_apart : (f : List ℕ) → apart (offer_due h f) ≡ true
  unfolding offer_due refusals take_cases apart among
  offer_apart f = refl

  pub release_apart : (l v : ℕ) → apart (release_due h l v) ≡ true
  unfolding release_due apart among
  release_apart l v = refl

  pub copy_apart : (l v n : ℕ) → apart (copy_due h l v n) ≡ true
  unfolding copy_due copy_cases apart among
  copy_apart l v n = refl

  -- 28 comes exactly of a record that is not sound
  pub offer_28_exactly : (f : List ℕ) → ((offer_gives h f).answer ≡ 28) ↔ (sound h ≡ false)
  unfolding offer_due
  offer_28_exactly f =
      let w = bad_first (sound h) _ (offer_apart f) in
      (λ e. w.0 (sym (offer_answer f) ∙ e), λ e. offer_answer f ∙ w.1 e)
