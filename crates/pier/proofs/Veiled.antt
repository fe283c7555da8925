-- What a free place still holds makes no difference to a collector: with every free place as if never taken it answers the same. Assumes nothing.
use mathlib.Core.Path.{◌≡◌, refl, sym, ap, ap₂, ◌∙◌}
use mathlib.Core.List.{List, [], ◌∷◌, ◌++◌, map}
use mathlib.Core.Bool.{Bool, true, false, cond, not, ◌&&◌}
use mathlib.Core.Option.{some}
use Prim.Native.Nat.{ℕ, zero, suc, ◌+◌}
use lib.ListN.{length, get_or, set, replicate}
use borrow.Author.Tests.{not-true}
use Rattle.laws.specs.Scan.{all, index_of}
use Rattle.laws.specs.Refusals.{Case, first}
use Rattle.laws.proofs.Cases.{if_yes, if_no, and_no, and_both, or_yes}
use Rattle.laws.proofs.Elements.{by_test, index_yes, index_no, all_head, all_tail}
use Rattle.frame.specs.Heading.{refusals}
use Rattle.collector.specs.declared.Place.{Place}
use Rattle.collector.specs.declared.Collector.{Collector}
use Rattle.collector.specs.declared.Piece.{Piece}
use Rattle.collector.specs.Places.{free, blank, is_pair, pairs_apart, fair, contradicts, again, taken_for, stored, whole, spoiled, copy_cases, copy_answer, copy_bytes}
use Rattle.collector.specs.Collector.{nothing, good, index_of_pair, place_of, is_held, is_free, index_of_free, put, piece_of, its_place, spot, after, take_cases, keeps, offer_cases, offered, copied_cases, answered, copied}
use Rattle.order.specs.Held.{offer_all, held_place}
use Rattle.promises.specs.Run.{answers_to}

-- a place as it is where it is held, else as if never taken
pub veil : Place → Place
veil p = cond p.held p free

veil_held : (p : Place) → p.held ≡ true → veil p ≡ p
unfolding veil
veil_held p h = if_yes p free h

veil_free : (p : Place) → p.held ≡ false → veil p ≡ free
unfolding veil
veil_free p h = if_no p free h

-- what asks first whether a place is held is told the same
module _ {A : Type 0} (f : Place → A) (z : A) (none_held : (p : Place) → p.held ≡ false → f p ≡ z) where
  veil_same : (p : Place) → f (veil p) ≡ f p
  veil_same p =
      by_test p.held
      (λ h. ap f (veil_held p h))
      (λ h. ap f (veil_free p h) ∙ none_held free refl ∙ sym (none_held p h))

held_same : (p : Place) → (veil p).held ≡ p.held
held_same p = veil_same (λ (q : Place). q.held) false (λ q h. h) p

pair_same : (l v : ℕ) (p : Place) → is_pair l v (veil p) ≡ is_pair l v p
pair_same l v p = veil_same (is_pair l v) false (λ q h. and_no _ h) p

fair_same : (p : Place) → fair (veil p) ≡ fair p
unfolding fair
fair_same p = veil_same fair true (λ q h. or_yes _ (ap not h)) p

apart_same : (p q : Place) → pairs_apart (veil p) (veil q) ≡ pairs_apart p q
apart_same p q =
    veil_same (λ (r : Place). pairs_apart r (veil q)) true (λ r h. ap not (and_no _ h)) p
    ∙ ap (λ (t : Bool). not (p.held && t)) (pair_same p.level p.version q)

-- ---- all places
module _ (f g : Place → Bool) (e : (p : Place) → f (veil p) ≡ g p) where
  all_same : (ps : List Place) → all f (map veil ps) ≡ all g ps
  all_same [] = refl
  all_same (p ∷ ps) = ap₂ ◌&&◌ (e p) (all_same ps)

  index_same : (ps : List Place) → index_of f (map veil ps) ≡ index_of g ps
  unfolding index_of
  index_same [] = refl
  index_same (p ∷ ps) = ap₂ (λ (t : Bool) (n : ℕ). cond t 0 (n + 1)) (e p) (index_same ps)

good_same : (ps : List Place) → good (map veil ps) ≡ good ps
unfolding good
good_same [] = refl
good_same (p ∷ ps) = ap₂ ◌&&◌ (fair_same p) (ap₂ ◌&&◌ (all_same (pairs_apart (veil p)) (pairs_apart p) (apart_same p) ps) (good_same ps))

place_same : (l v : ℕ) (ps : List Place) → place_of l v (map veil ps) ≡ place_of l v ps
unfolding index_of_pair
place_same l v ps = ap (λ (i : ℕ). get_or (map veil ps) i blank) (index_same (is_pair l v) (is_pair l v) (pair_same l v) ps) ∙ at_own ps
  where
    at_own : (qs : List Place) → get_or (map veil qs) (index_of (is_pair l v) qs) blank ≡ get_or qs (index_of (is_pair l v) qs) blank
    at_own [] = refl
    at_own (q ∷ qs) =
        by_test (is_pair l v q)
        (λ t.
        let e = index_yes (is_pair l v) q qs t in
        ap (λ (i : ℕ). get_or (veil q ∷ map veil qs) i blank) e ∙ veil_held q (and_both q.held _ t).0 ∙ sym (ap (λ (i : ℕ). get_or (q ∷ qs) i blank) e))
        (λ t.
        let e = index_no (is_pair l v) q qs t in
        ap (λ (i : ℕ). get_or (veil q ∷ map veil qs) i blank) e ∙ at_own qs ∙ sym (ap (λ (i : ℕ). get_or (q ∷ qs) i blank) e))

pub held_place_same : (l v : ℕ) (ps : List Place) → held_place l v (map veil ps) ≡ held_place l v ps
unfolding held_place
held_place_same l v [] = refl
held_place_same l v (p ∷ ps) =
    by_test (is_pair l v p)
    (λ t. if_yes _ _ (pair_same l v p ∙ t) ∙ ap some (veil_held p (and_both p.held _ t).0) ∙ sym (if_yes _ _ t))
    (λ t. if_no _ _ (pair_same l v p ∙ t) ∙ held_place_same l v ps ∙ sym (if_no _ _ t))

set_same : (ps : List Place) (i : ℕ) (q : Place) → q.held ≡ true → map veil (set ps i q) ≡ set (map veil ps) i q
set_same [] i q h = refl
set_same (p ∷ ps) zero q h = ap (λ (r : Place). r ∷ map veil ps) (veil_held q h)
set_same (p ∷ ps) (suc i) q h = ap (λ (rs : List Place). veil p ∷ rs) (set_same ps i q h)

-- ---- the collector
abbrev pub veiled : Collector → Collector
veiled c = record { places = map veil c.places }

module _ (c : Collector) where
  its_same : (x : Piece) → its_place (veiled c) x ≡ its_place c x
  its_same x = place_same x.heading.level x.heading.version c.places

  spot_same : (x : Piece) → spot (veiled c) x ≡ spot c x
  unfolding spot index_of_pair index_of_free
  spot_same x =
      ap (λ (p : Place). cond p.held (index_of (is_pair x.heading.level x.heading.version) (map veil c.places)) (index_of is_free (map veil c.places))) (its_same x)
      ∙ ap₂ (λ (i j : ℕ). cond (its_place c x).held i j)
      (index_same (is_pair x.heading.level x.heading.version) (is_pair x.heading.level x.heading.version) (pair_same x.heading.level x.heading.version) c.places)
      (index_same is_free is_free (λ p. ap not (held_same p)) c.places)

  after_same : (x : Piece) → after (veiled c) x ≡ after c x
  unfolding after
  after_same x = ap (λ (p : Place). stored (cond (p.held && not (contradicts p x)) p (taken_for x)) x) (its_same x)

  after_held : (x : Piece) → (after c x).held ≡ true
  unfolding after stored taken_for
  after_held x =
      by_test ((its_place c x).held && not (contradicts (its_place c x) x))
      (λ t. ap (λ (p : Place). p.held) (if_yes (its_place c x) (taken_for x) t) ∙ (and_both (its_place c x).held _ t).0)
      (λ t. ap (λ (p : Place). p.held) (if_no (its_place c x) (taken_for x) t))

  cases_same : (x : Piece) → take_cases (veiled c) x ≡ take_cases c x
  unfolding take_cases after
  cases_same x =
      ap₂ (λ (p : Place) (t : Bool).
      let q = stored (cond (p.held && not (contradicts p x)) p (taken_for x)) x in
      ((p.held && contradicts p x) && whole p, 15)
      ∷ (p.held && again p x, 2)
      ∷ (not p.held && t, 16)
      ∷ (spoiled q, 17)
      ∷ (whole q, 1)
      ∷ (p.held && contradicts p x, 3)
      ∷ [])
      (its_same x)
      (all_same is_held is_held held_same c.places)

  pub answer_same : (f : List ℕ) → (offered (veiled c) f).answer ≡ (offered c f).answer
  unfolding offered offer_cases
  answer_same f = ap₂ (λ (t : Bool) (cs : List Case). first ((not t, 28) ∷ (refusals f ++ cs))) (good_same c.places) (cases_same (piece_of f))

  pub collector_same : (f : List ℕ) → (offered (veiled c) f).collector ≡ veiled (offered c f).collector
  unfolding offered
  collector_same f =
      let x = piece_of f in
      ap (λ (n : ℕ). cond (keeps n) (put (veiled c) (spot (veiled c) x) (after (veiled c) x)) (veiled c)) (answer_same f)
      ∙ ap₂ (λ (i : ℕ) (p : Place). cond (keeps (offered c f).answer) (put (veiled c) i p) (veiled c)) (spot_same x) (after_same x)
      ∙ both (keeps (offered c f).answer)
    where
      both : (t : Bool)
          → cond t (put (veiled c) (spot c (piece_of f)) (after c (piece_of f))) (veiled c) ≡ veiled (cond t (put c (spot c (piece_of f)) (after c (piece_of f))) c)
      both true = ap (λ (ps : List Place). record { places = ps }) (sym (set_same c.places (spot c (piece_of f)) (after c (piece_of f)) (after_held (piece_of f))))
      both false = refl

  pub copy_same : (l v : ℕ) (out : List ℕ) → (answered (veiled c) l v (length out) ≡ answered c l v (length out)) × (copied (veiled c) l v out ≡ copied c l v out)
  unfolding answered copied copied_cases
  copy_same l v out = (
    ap₂ (λ (t : Bool) (p : Place). copy_answer (first ((not t, 28) ∷ copy_cases p (length out))) p) (good_same c.places) (place_same l v c.places),
    ap₂ (λ (t : Bool) (p : Place). copy_bytes (first ((not t, 28) ∷ copy_cases p (length out))) p out) (good_same c.places) (place_same l v c.places),
  )

-- ---- frames one after the other
pub all_offered_same : (c : Collector) (fs : List (List ℕ)) → offer_all (veiled c) fs ≡ veiled (offer_all c fs)
unfolding offer_all
all_offered_same c [] = refl
all_offered_same c (f ∷ fs) = ap (λ (d : Collector). offer_all d fs) (collector_same c f) ∙ all_offered_same (offered c f).collector fs

pub answers_same : (c : Collector) (fs : List (List ℕ)) → answers_to (veiled c) fs ≡ answers_to c fs
unfolding answers_to
answers_same c [] = refl
answers_same c (f ∷ fs) =
    ap₂ (λ (n : ℕ) (l : List ℕ). n ∷ l) (answer_same c f) (ap (λ (d : Collector). answers_to d fs) (collector_same c f) ∙ answers_same (offered c f).collector fs)

-- a collector of four places that holds nothing is the empty one, veiled
pub idle_veiled : (c : Collector) → length c.places ≡ 4 → all is_free c.places ≡ true → veiled c ≡ nothing
idle_veiled c n h = ap (λ (ps : List Place). record { places = ps }) (all_free c.places h ∙ ap (λ (k : ℕ). replicate k free) n)
  where
    all_free : (ps : List Place) → all is_free ps ≡ true → map veil ps ≡ replicate (length ps) free
    all_free [] e = refl
    all_free (p ∷ ps) e = ap₂ (λ (q : Place) (qs : List Place). q ∷ qs) (veil_free p (not-true p.held (all_head is_free p ps e))) (all_free ps (all_tail is_free p ps e))
