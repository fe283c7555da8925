-- The four places: whether the record is good, which place a frame goes to, and what the collector then is. Assumes nothing.
use mathlib.Core.Path.{◌≡◌, refl, sym, ap, ap₂, ◌∙◌}
use mathlib.Core.List.{List, [], ◌∷◌, map}
use mathlib.Core.Bool.{Bool, true, false, cond, not, ◌&&◌}
use Prim.Native.Nat.{ℕ, zero, suc, ◌+◌, ◌<◌, ◌≤◌}
use native.Mathlib.Nat.{not-suc-le-zero, le_of_suc-le-suc}
use native.Mathlib.Numerals.{add-one}
use native.Mathlib.Omega.{arith}
use lib.ListN.{length, get_or, drop, get_or-eq_default}
use lib.Seq.{drop-cons}
use lib.Dec.{leb, eqb}
use borrow.Author.Tests.{not-true, not-false, leb-true, eq-eqb, ne_eqb}
use Rattle.laws.specs.Scan.{all, index_of}
use Rattle.laws.specs.Refusals.{first}
use Rattle.laws.proofs.Cases.{if_yes, if_no, and_yes, and_no, or_no, and_left, and_right}
use Rattle.laws.proofs.Elements.{by_test, index_yes, index_no, index_holds}
use Rattle.laws.proofs.Refusals.{stop, pass, none_left, not_due}
use Rattle.collector.specs.declared.Place.{Place}
use Rattle.collector.specs.declared.Holding.{Holding}
use Rattle.collector.specs.declared.Collector.{Collector}
use Rattle.collector.specs.declared.Piece.{Piece}
use Rattle.collector.specs.Whole.{passes}
use Rattle.collector.specs.Places.{blank, is_pair, pairs_apart, taken_for, stored, marks_below, complete, fair, contradicts, again, against, joined, whole, spoiled, state}
use Rattle.collector.specs.Collector.{good, index_of_pair, place_of, is_held, is_free, index_of_free, put, its_place, spot, after, take_cases, keeps, taken_in, kept, begun, Offered}
use Rattle.collector.specs.Layout.{as_place}
use Rattle.std.proofs.lemmas.List.Folds.{list_all-map}
use Rattle.collector.proofs.OnePlace.{is_missing, is_whole_lem, is_spoiled}

-- ---- a turn of the loop over the places
pub good_turn : (ps : List Holding) (i : ℕ) (d : Holding) → i < length ps → good (map as_place (drop i ps)) ≡ fair (as_place (get_or ps i d)) && (all (λ q. pairs_apart (as_place (get_or ps i d)) (as_place q)) (drop (i + 1) ps) && good (map as_place (drop (i + 1) ps)))
unfolding good
good_turn ps i d h =
    let x = as_place (get_or ps i d) in
    let after = drop (suc i) ps in
    rw (add-one i, drop-cons ps i d) (ap (λ b. fair x && (b && good (map as_place after))) (list_all-map (pairs_apart x) as_place after))

-- each place of a good record is fair
pub good_at : (xs : List Place) (i : ℕ) (d : Place) → i < length xs → good xs ≡ true → fair (get_or xs i d) ≡ true
unfolding good
good_at [] i d h e = absurd (not-suc-le-zero h)
good_at (x ∷ xs) zero d h e = and_left (fair x) (all (pairs_apart x) xs && good xs) e
good_at (x ∷ xs) (suc i) d h e =
    good_at xs i d (le_of_suc-le-suc h) (and_right (all (pairs_apart x) xs) (good xs) (and_right (fair x) (all (pairs_apart x) xs && good xs) e))

pub total_small : (p : Place) → fair p ≡ true → p.held ≡ true → p.total.0 ≤ 63
unfolding fair
total_small p e h =
    let a = sym (or_no _ (ap not h)) ∙ e in
    let b =
    and_right (leb 1 p.total.0) _
    (and_right (leb p.version 31) _ (and_right (leb p.level 6) _ (and_right (leb 1 p.level) _ a)))
    in
    leb-true _ _ (and_left (leb p.total.0 63) (marks_below p) b)

-- ---- which place, by the index that the code found
pub all_held : (xs : List Place) → length xs ≤ index_of is_free xs → all is_held xs ≡ true
all_held [] h = refl
all_held (x ∷ xs) h =
    by_test (is_free x)
    (λ t. let w = index_yes is_free x xs t in absurd (omega arith))
    (λ t. let w = index_no is_free x xs t in and_yes _ (not-false x.held t) ∙ all_held xs (omega arith))

pub some_free : (xs : List Place) → index_of is_free xs < length xs → all is_held xs ≡ false
some_free [] h = absurd (not-suc-le-zero h)
some_free (x ∷ xs) h =
    by_test (is_free x)
    (λ t. and_no _ (not-true x.held t))
    (λ t. let w = index_no is_free x xs t in and_yes _ (not-false x.held t) ∙ some_free xs (omega arith))

module _ (xs : List Place) (l v : ℕ) where
  pub is_held_lem : index_of_pair l v xs < length xs → (place_of l v xs).held ≡ true
  unfolding index_of_pair
  is_held_lem h = and_left (place_of l v xs).held _ (index_holds (is_pair l v) xs blank (index_of (is_pair l v) xs) refl h)

  pub is_not_held : length xs ≤ index_of_pair l v xs → (place_of l v xs).held ≡ false
  is_not_held h = ap (λ (p : Place). p.held) (get_or-eq_default xs blank {n = index_of_pair l v xs} h)

pub keeps_state : (q : Place) → keeps (state q) ≡ true
unfolding keeps
keeps_state q =
    by_test (complete q)
    (λ t.
    by_test (passes (joined q))
    (λ u. let e = is_whole_lem q t u in rw e)
    (λ u. let e = is_spoiled q t u in rw e))
    (λ t. let e = is_missing q t in rw e)

keeps_begun : (q : Place) → keeps (cond (eqb (state q) 0) 3 (state q)) ≡ true
unfolding keeps
keeps_begun q =
    by_test (eqb (state q) 0)
    (λ t. ap keeps (if_yes 3 (state q) t))
    (λ t. ap keeps (if_no 3 (state q) t) ∙ keeps_state q)

-- a frame kept in a place taken afresh, by what the code changed of it
module _ (c : Collector) (i : ℕ) (x : Piece) (r : Offered) (e : r ≡ kept c i (taken_for x) x) where
  pub begun_3 : r.answer ≡ 0 → record { answer = 3; collector = r.collector } ≡ begun c i x
  unfolding kept begun
  begun_3 z =
      ap₂ (λ (a : ℕ) (d : Collector). record { answer = a; collector = d })
      (sym (if_yes 3 _ (eq-eqb _ _ (sym (ap (λ (o : Offered). o.answer) e) ∙ z))))
      (ap (λ (o : Offered). o.collector) e)

  pub begun_else : (r.answer ≡ 0 → ⊥) → r ≡ begun c i x
  unfolding kept begun
  begun_else n =
      let q = stored (taken_for x) x in
      e ∙ ap (λ (a : ℕ). record { answer = a; collector = put c i q }) (sym (if_no 3 _ (ne_eqb _ _ (λ (k : state q ≡ 0). n (ap (λ (o : Offered). o.answer) e ∙ k)))))

-- the last three cases, where the pair was not begun again and where it was
state_kept : (q : Place) (b : Bool) → b ≡ false → first ((spoiled q, 17) ∷ (whole q, 1) ∷ (b, 3) ∷ []) ≡ state q
unfolding state
state_kept q b e =
    by_test (spoiled q)
    (λ s. stop 17 _ s ∙ sym (stop 17 _ s))
    (λ s.
    by_test (whole q)
    (λ w. pass 17 _ s ∙ stop 1 _ w ∙ sym (pass 17 _ s ∙ stop 1 [] w))
    (λ w. pass 17 _ s ∙ pass 1 _ w ∙ pass 3 [] e ∙ sym (pass 17 _ s ∙ pass 1 [] w)))

state_begun : (q : Place) (b : Bool) → b ≡ true → first ((spoiled q, 17) ∷ (whole q, 1) ∷ (b, 3) ∷ []) ≡ cond (eqb (state q) 0) 3 (state q)
unfolding state
state_begun q b e =
    by_test (spoiled q)
    (λ s. stop 17 _ s ∙ sym (ap from (stop 17 _ s)))
    (λ s.
    by_test (whole q)
    (λ w. pass 17 _ s ∙ stop 1 _ w ∙ sym (ap from (pass 17 _ s ∙ stop 1 [] w)))
    (λ w. pass 17 _ s ∙ pass 1 _ w ∙ stop 3 [] e ∙ sym (ap from (pass 17 _ s ∙ pass 1 [] w ∙ none_left))))
  where
    from : ℕ → ℕ
    from n = cond (eqb n 0) 3 n

-- what nothing is against is not contradicted and not held already
against_zero : (p : Place) (x : Piece) → against p x ≡ 0 → (contradicts p x ≡ false) × (again p x ≡ false)
unfolding against
against_zero p x e =
    let a = not_due _ 15 _ (λ (z : 15 ≡ 0). omega arith) e in
    let b = not_due _ 2 _ (λ (z : 2 ≡ 0). omega arith) a.1 in
    ((not_due _ 3 _ (λ (z : 3 ≡ 0). omega arith) b.1).0, b.0)

-- 3 comes where a place is contradicted that is not whole
pub against_three : (p : Place) (x : Piece) → against p x ≡ 3 → (contradicts p x ≡ true) × (again p x ≡ false) × (whole p ≡ false)
unfolding against
against_three p x e =
    by_test (contradicts p x && whole p)
    (λ t. let z : 15 ≡ 3 = sym (stop 15 _ t) ∙ e in absurd (omega arith))
    (λ t.
    by_test (again p x)
    (λ u. let z : 2 ≡ 3 = sym (pass 15 _ t ∙ stop 2 _ u) ∙ e in absurd (omega arith))
    (λ u.
    by_test (contradicts p x)
    (λ k. (k, u, sym (and_yes _ k) ∙ t))
    (λ k. let z : 0 ≡ 3 = sym (pass 15 _ t ∙ pass 2 _ u ∙ pass 3 [] k ∙ none_left) ∙ e in absurd (omega arith))))

module _ (c : Collector) (x : Piece) where
  -- a frame that is kept, in place i, which was p
  kept_as : (i : ℕ) (p : Place) → spot c x ≡ i → after c x ≡ stored p x → first (take_cases c x) ≡ state (after c x) → kept c i p x ≡ taken_in c x
  unfolding kept taken_in
  kept_as i p ei ep ef =
      ap₂ (λ (a : ℕ) (d : Collector). record { answer = a; collector = d })
      (sym (ef ∙ ap state ep))
      (ap₂ (put c) (sym ei) (sym ep) ∙ sym (if_yes _ _ (ap keeps ef ∙ keeps_state (after c x))))

  refused_as : (a : ℕ) → first (take_cases c x) ≡ a → keeps a ≡ false → record { answer = a; collector = c } ≡ taken_in c x
  unfolding taken_in
  refused_as a e k =
      ap₂ (λ (n : ℕ) (d : Collector). record { answer = n; collector = d }) (sym e) (sym (if_no _ _ (ap keeps e ∙ k)))

  begun_as : (i : ℕ) → spot c x ≡ i → after c x ≡ stored (taken_for x) x → first (take_cases c x) ≡ cond (eqb (state (after c x)) 0) 3 (state (after c x)) → begun c i x ≡ taken_in c x
  unfolding begun taken_in
  begun_as i ei ep ef =
      ap₂ (λ (a : ℕ) (d : Collector). record { answer = a; collector = d })
      (sym (ef ∙ ap (λ (q : Place). cond (eqb (state q) 0) 3 (state q)) ep))
      (ap₂ (put c) (sym ei) (sym ep) ∙ sym (if_yes _ _ (ap keeps ef ∙ keeps_begun (after c x))))

  module _ (held : (its_place c x).held ≡ true) where
    pub take_held : against (its_place c x) x ≡ 0 → kept c (index_of_pair x.heading.level x.heading.version c.places) (its_place c x) x ≡ taken_in c x
    unfolding spot after take_cases
    take_held e =
        let z = against_zero (its_place c x) x e in
        let n : ((its_place c x).held && contradicts (its_place c x) x) ≡ false = and_yes _ held ∙ z.0 in
        kept_as (index_of_pair x.heading.level x.heading.version c.places) (its_place c x)
        (if_yes _ _ held)
        (ap (λ (p : Place). stored p x) (if_yes (its_place c x) (taken_for x) (and_yes _ held ∙ ap not z.0)))
        (pass 15 _ (and_no _ n) ∙ pass 2 _ (and_yes _ held ∙ z.1) ∙ pass 16 _ (and_no _ (ap not held)) ∙ state_kept (after c x) _ n)

    pub take_begun : against (its_place c x) x ≡ 3 → begun c (index_of_pair x.heading.level x.heading.version c.places) x ≡ taken_in c x
    unfolding spot after take_cases
    take_begun e =
        let z = against_three (its_place c x) x e in
        let k : ((its_place c x).held && contradicts (its_place c x) x) ≡ true = and_yes _ held ∙ z.0 in
        begun_as (index_of_pair x.heading.level x.heading.version c.places)
        (if_yes _ _ held)
        (ap (λ (p : Place). stored p x) (if_no (its_place c x) (taken_for x) (and_yes _ held ∙ ap not z.0)))
        (pass 15 _ (and_yes _ k ∙ z.2) ∙ pass 2 _ (and_yes _ held ∙ z.1) ∙ pass 16 _ (and_no _ (ap not held)) ∙ state_begun (after c x) _ k)

    pub take_against : (a : ℕ) → a ≡ against (its_place c x) x → (a ≡ 0 → ⊥) → (a ≡ 3 → ⊥) → record { answer = a; collector = c } ≡ taken_in c x
    unfolding against take_cases keeps
    take_against a e n m =
        let p = its_place c x in
        by_test (contradicts p x && whole p)
        (λ t.
        let w : a ≡ 15 = e ∙ stop 15 _ t in
        let both : ((p.held && contradicts p x) && whole p) ≡ true = ap (λ (b : Bool). b && whole p) (and_yes (contradicts p x) held) ∙ t in
        rw w (refused_as 15 (stop 15 _ both) refl))
        (λ t.
        let both : ((p.held && contradicts p x) && whole p) ≡ false = ap (λ (b : Bool). b && whole p) (and_yes (contradicts p x) held) ∙ t in
        by_test (again p x)
        (λ u.
        let w : a ≡ 2 = e ∙ pass 15 _ t ∙ stop 2 _ u in
        rw w (refused_as 2 (pass 15 _ both ∙ stop 2 _ (and_yes _ held ∙ u)) refl))
        (λ u.
        by_test (contradicts p x)
        (λ k. absurd (m (e ∙ pass 15 _ t ∙ pass 2 _ u ∙ stop 3 [] k)))
        (λ k. absurd (n (e ∙ pass 15 _ t ∙ pass 2 _ u ∙ pass 3 [] k ∙ none_left)))))

  module _ (none : (its_place c x).held ≡ false) where
    pub take_free : all is_held c.places ≡ false → kept c (index_of_free c.places) (taken_for x) x ≡ taken_in c x
    unfolding spot after take_cases
    take_free e =
        kept_as (index_of_free c.places) (taken_for x)
        (if_no _ _ none)
        (ap (λ (p : Place). stored p x) (if_no (its_place c x) (taken_for x) (and_no _ none)))
        (pass 15 _ (and_no _ (and_no _ none)) ∙ pass 2 _ (and_no _ none) ∙ pass 16 _ (and_yes _ (ap not none) ∙ e) ∙ state_kept (after c x) _ (and_no _ none))

    pub take_full : all is_held c.places ≡ true → record { answer = 16; collector = c } ≡ taken_in c x
    unfolding take_cases keeps
    take_full e =
        refused_as 16 (pass 15 _ (and_no _ (and_no _ none)) ∙ pass 2 _ (and_no _ none) ∙ stop 16 _ (and_yes _ (ap not none) ∙ e)) refl
