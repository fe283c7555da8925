-- Room: held places have pairs of their own, so a list of pairs that has them all, and one more, is longer. Assumes nothing.
use mathlib.Core.Path.{◌≡◌, refl, sym, ap, ap₂, ◌∙◌}
use mathlib.Core.List.{List, [], ◌∷◌}
use mathlib.Core.Bool.{Bool, true, false, cond, not, ◌&&◌, ◌||◌, false≢true}
use Prim.Native.Nat.{ℕ, suc, ◌≤◌, ◌<◌}
use native.Mathlib.Omega.{arith}
use lib.ListN.{length}
use lib.Dec.{eqb}
use borrow.Author.Tests.{not-true, not-false, eqb-true}
use Rattle.laws.specs.Scan.{all, index_of}
use Rattle.laws.proofs.Cases.{if_yes, if_no, and_yes, and_left, and_right, or_yes, or_no}
use Rattle.laws.proofs.Elements.{by_test, index_yes, index_no, all_cons, all_head, all_tail, all_both}
use Rattle.collector.specs.declared.Place.{Place}
use Rattle.collector.specs.declared.Collector.{Collector}
use Rattle.collector.specs.Places.{is_pair, same_pair, pairs_apart}
use Rattle.collector.specs.Collector.{is_free, good}
use Rattle.order.proofs.Keeping.{eqb_sym, good_apart, good_tail}
use Rattle.order.specs.Given.{Pair, pair_is, pair_among}

-- the list without the first of that pair
without : ℕ → ℕ → List Pair → List Pair
without l v [] = []
without l v (a ∷ qs) = cond (pair_is l v a) qs (a ∷ without l v qs)

module _ (l v : ℕ) where
  without_length : (qs : List Pair) → pair_among l v qs ≡ true → length qs ≡ suc (length (without l v qs))
  unfolding pair_among without
  without_length [] e = absurd (false≢true e)
  without_length (a ∷ qs) e =
      by_test (pair_is l v a)
      (λ t. sym (ap (λ (w : List Pair). suc (length w)) (if_yes qs (a ∷ without l v qs) t)))
      (λ t.
      ap suc (without_length qs (sym (or_no (pair_among l v qs) t) ∙ e))
      ∙ sym (ap (λ (w : List Pair). suc (length w)) (if_no qs (a ∷ without l v qs) t)))

  among_yes : (a : Pair) (qs : List Pair) → pair_is l v a ≡ true → pair_among l v (a ∷ qs) ≡ true
  unfolding pair_among
  among_yes a qs t = or_yes (pair_among l v qs) t

  among_no : (a : Pair) (qs : List Pair) → pair_is l v a ≡ false → pair_among l v (a ∷ qs) ≡ pair_among l v qs
  unfolding pair_among
  among_no a qs t = or_no (pair_among l v qs) t

  -- another pair stays
  without_other : (k w : ℕ) (qs : List Pair) → (eqb l k && eqb v w) ≡ false → pair_among l v qs ≡ true → pair_among l v (without k w qs) ≡ true
  unfolding without
  without_other k w [] ne e = e
  without_other k w (a ∷ qs) ne e =
      by_test (pair_is k w a)
      (λ t.
      let ek = eqb-true _ _ (and_left (eqb a.0 k) (eqb a.1 w) t) in
      let ew = eqb-true _ _ (and_right (eqb a.0 k) (eqb a.1 w) t) in
      let differs : pair_is l v a ≡ false =
      ap₂ (λ (i j : ℕ). eqb i l && eqb j v) ek ew ∙ ap₂ ◌&&◌ (eqb_sym k l) (eqb_sym w v) ∙ ne
      in
      rw (if_yes qs (a ∷ without k w qs) t) (sym (among_no a qs differs) ∙ e))
      (λ t.
      rw (if_no qs (a ∷ without k w qs) t)
      (by_test (pair_is l v a)
      (λ u. among_yes a (without k w qs) u)
      (λ u. among_no a (without k w qs) u ∙ without_other k w qs ne (sym (among_no a qs u) ∙ e))))

-- each place is held, for a pair of the list
abbrev held_among : List Pair → Place → Bool
held_among qs p = p.held && pair_among p.level p.version qs

-- where all places are held, for pairs of the list, and one more pair of the list is held by none, the list is longer
pub crowded : (xs : List Place) (qs : List Pair) (l v : ℕ) → good xs ≡ true → all (held_among qs) xs ≡ true → length xs ≤ index_of (is_pair l v) xs → pair_among l v qs ≡ true
    → length xs < length qs
unfolding pair_among
crowded [] [] l v o e n m = absurd (false≢true m)
crowded [] (q ∷ qs) l v o e n m = omega arith
crowded (r ∷ rs) qs l v o e n m =
    let e₀ = all_head (held_among qs) r rs e in
    let held : r.held ≡ true = and_left r.held (pair_among r.level r.version qs) e₀ in
    let in_List = and_right r.held (pair_among r.level r.version qs) e₀ in
    let shorter = without_length r.level r.version qs in_List in
    by_test (is_pair l v r)
    (λ t. let w = index_yes (is_pair l v) r rs t in absurd (omega arith))
    (λ t.
    let w = index_no (is_pair l v) r rs t in
    let other : (eqb l r.level && eqb v r.version) ≡ false =
    ap₂ ◌&&◌ (eqb_sym l r.level) (eqb_sym v r.version) ∙ sym (and_yes (eqb r.level l && eqb r.version v) held) ∙ t
    in
    let rest : all (held_among (without r.level r.version qs)) rs ≡ true =
    all_both (pairs_apart r) (held_among qs) (held_among (without r.level r.version qs)) rs
    (λ p ap₀ hp. stays_among p ap₀ hp held)
    (good_apart r rs o) (all_tail (held_among qs) r rs e)
    in
    let ih = crowded rs (without r.level r.version qs) l v (good_tail r rs o) rest (omega arith) (without_other l v r.level r.version qs other m) in
    omega arith)
  where
    stays_among : (p : Place) → pairs_apart r p ≡ true → held_among qs p ≡ true → r.held ≡ true → held_among (without r.level r.version qs) p ≡ true
    stays_among p a hp held =
        let ph : p.held ≡ true = and_left p.held (pair_among p.level p.version qs) hp in
        let pm = and_right p.held (pair_among p.level p.version qs) hp in
        let other : (eqb p.level r.level && eqb p.version r.version) ≡ false =
        sym (and_yes _ ph) ∙ sym (and_yes _ held) ∙ not-true (same_pair r p) a
        in
        and_yes _ ph ∙ without_other p.level p.version r.level r.version qs other pm

-- ---- a held place is of a pair of the list
abbrev pub ok_among : List Pair → Place → Bool
ok_among qs p = not p.held || pair_among p.level p.version qs

unfoldable pub Within : List Pair → Collector → Type 0
Within qs c = all (ok_among qs) c.places ≡ true

pub all_held_among : (qs : List Pair) (xs : List Place) → length xs ≤ index_of is_free xs → all (ok_among qs) xs ≡ true → all (held_among qs) xs ≡ true
all_held_among qs [] n e = refl
all_held_among qs (r ∷ rs) n e =
    by_test (is_free r)
    (λ t. let w = index_yes is_free r rs t in absurd (omega arith))
    (λ t.
    let w = index_no is_free r rs t in
    all_cons (held_among qs) r rs
    (and_yes _ (not-false r.held t) ∙ sym (or_no _ t) ∙ all_head (ok_among qs) r rs e)
    (all_held_among qs rs (omega arith) (all_tail (ok_among qs) r rs e)))
