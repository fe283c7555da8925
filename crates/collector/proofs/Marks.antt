-- What is known of a place's marks and bytes: a number marked, one more, none, and all those below the total. Assumes nothing.
use mathlib.Core.Path.{◌≡◌, refl, sym, ap, ap₂, ◌∙◌}
use mathlib.Core.Bool.{Bool, true, false, not, ◌&&◌}
use Prim.Native.Nat.{ℕ, zero, suc, ◌+◌, ◌*◌, ◌<◌, ◌≤◌}
use native.Mathlib.Omega.{arith}
use lib.ListN.{length, set, length-set, get_or-replicate, get_or-eq_default}
use lib.Seq.{get_or-set_same, get_or-set_other}
use lib.Dec.{ltb, eqb}
use borrow.Author.Tests.{lt-ltb, eqb-true, eqb-false, ltb-true, ltb-false}
use Rattle.laws.specs.Below.{below}
use Rattle.laws.proofs.Below.{below_yes, below_no}
use Rattle.laws.proofs.Cases.{and_no, and_left, and_right}
use Rattle.laws.proofs.Elements.{by_test}
use Rattle.frame.specs.declared.Number.{Number}
use Rattle.collector.specs.declared.Place.{Place}
use Rattle.collector.specs.declared.Piece.{Piece}
use Rattle.collector.specs.Places.{no_marks, marked, astray, marks_below, complete, shaped, stored, taken_for, freed}

-- ---- tests below a number
-- two tests that are the same at each number below
below_same : (n : ℕ) (f g : ℕ → Bool) → ((k : ℕ) → k < n → f k ≡ g k) → below n f ≡ below n g
unfolding below
below_same zero f g e = refl
below_same (suc n) f g e = ap₂ ◌&&◌ (e n (omega arith)) (below_same n f g (λ k h. e k (omega arith)))

-- ---- what the types give
module _ (p : Place) (s : shaped p ≡ true) where
  marks_long : length p.marks ≡ 63
  marks_long = eqb-true _ _ (and_left (eqb (length p.marks) 63) (eqb (length p.bytes) 252) s)

  pub bytes_long : length p.bytes ≡ 252
  bytes_long = eqb-true _ _ (and_right (eqb (length p.marks) 63) (eqb (length p.bytes) 252) s)

pub stored_shaped : (p : Place) (x : Piece) → shaped (stored p x) ≡ shaped p
unfolding stored
stored_shaped p x =
    let n = x.heading.number.0 in
    ap₂ (λ (a b : ℕ). eqb a 63 && eqb b 252)
    (length-set p.marks n true)
    (length-set (set (set (set p.bytes (n * 4) x.a) (n * 4 + 1) x.b) (n * 4 + 2) x.c) (n * 4 + 3) x.d
    ∙ length-set (set (set p.bytes (n * 4) x.a) (n * 4 + 1) x.b) (n * 4 + 2) x.c
    ∙ length-set (set p.bytes (n * 4) x.a) (n * 4 + 1) x.b
    ∙ length-set p.bytes (n * 4) x.a)

pub taken_shaped : (x : Piece) → shaped (taken_for x) ≡ true
unfolding taken_for
taken_shaped x = refl

pub freed_shaped : (p : Place) → shaped (freed p) ≡ shaped p
unfolding freed
freed_shaped p = refl

-- ---- marks
-- a frame that is kept marks its number
pub mark_own : (p : Place) (x : Piece) → shaped p ≡ true → x.heading.number.0 < 63 → marked (stored p x) x.heading.number ≡ true
unfolding stored
mark_own p x s h = get_or-set_same p.marks x.heading.number.0 true false (omega (arith, marks_long p s))

-- and no other
pub mark_other : (p : Place) (x : Piece) (m : Number) → (m.0 ≡ x.heading.number.0 → ⊥) → marked (stored p x) m ≡ marked p m
unfolding stored
mark_other p x m ne = get_or-set_other p.marks x.heading.number.0 m.0 true false ne

-- a place that is taken has no mark
pub mark_none : (x : Piece) (m : Number) → marked (taken_for x) m ≡ false
unfolding taken_for
mark_none x m =
    by_test (ltb m.0 63)
    (λ e. get_or-replicate 63 m.0 false false (ltb-true m.0 63 e))
    (λ e. get_or-eq_default no_marks false {n = m.0} (omega (arith, ltb-false m.0 63 e)))

-- a number that no place has room for is not marked
mark_past : (p : Place) (m : Number) → length p.marks ≡ 63 → 63 ≤ m.0 → marked p m ≡ false
mark_past p m l h = get_or-eq_default p.marks false {n = m.0} (omega arith)

-- ---- all below the total
stored_astray : (p : Place) (x : Piece) → x.heading.number.0 < p.total.0 → (n : Number) → astray (stored p x) n ≡ astray p n
unfolding astray stored
stored_astray p x h n =
    by_test (eqb n.0 x.heading.number.0)
    (λ e.
    let q : n.0 ≡ x.heading.number.0 = eqb-true _ _ e in
    let k : n.0 < p.total.0 = omega arith in
    and_no _ (ap not (lt-ltb _ _ k)) ∙ sym (and_no _ (ap not (lt-ltb _ _ k))))
    (λ e. ap (λ (b : Bool). not (ltb n.0 p.total.0) && b) (mark_other p x n (eqb-false _ _ e)))

-- a frame whose number is below the total puts no mark elsewhere
pub stored_below : (p : Place) (x : Piece) → x.heading.number.0 < p.total.0 → marks_below (stored p x) ≡ marks_below p
unfolding marks_below
stored_below p x h = below_same 63 _ _ (λ k _. ap not (stored_astray p x h (record { 0 = k })))

pub taken_below : (x : Piece) → marks_below (taken_for x) ≡ true
unfolding marks_below astray
taken_below x = below_yes 63 _ (λ k _. ap not (ap (λ (b : Bool). not (ltb k (taken_for x).total.0) && b) (mark_none x (record { 0 = k })) ∙ and_off (not (ltb k (taken_for x).total.0))))
  where
    and_off : (b : Bool) → (b && false) ≡ false
    and_off true = refl
    and_off false = refl

-- ---- as the code finds them
pub total_over : (p : Place) → length p.marks ≡ 63 → 63 < p.total.0 → complete p ≡ false
unfolding complete
total_over p l h = below_no p.total.0 _ 63 h (mark_past p (record { 0 = 63 }) l (omega arith))

pub one_missing : (p : Place) (n : Number) → n.0 < p.total.0 → marked p n ≡ false → complete p ≡ false
unfolding complete
one_missing p n h e = below_no p.total.0 _ n.0 h e
