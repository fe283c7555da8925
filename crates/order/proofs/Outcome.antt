-- The five things that can become of a frame whose heading is accepted. Assumes nothing.
use mathlib.Core.Path.{◌≡◌, refl, sym, ◌∙◌}
use mathlib.Core.Bool.{false, cond}
use Prim.Native.Nat.{ℕ, ◌≤◌, ◌<◌}
use native.Mathlib.Omega.{arith}
use lib.ListN.{length}
use lib.Dec.{ltb, eqb}
use borrow.Author.Tests.{ltb-true, ltb-false, eqb-true, eqb-false}
use Rattle.laws.specs.Scan.{index_of}
use Rattle.laws.proofs.Cases.{if_yes, if_no}
use Rattle.laws.proofs.Elements.{by_test}
use Rattle.collector.specs.declared.Place.{Place}
use Rattle.collector.specs.declared.Collector.{Collector}
use Rattle.collector.specs.declared.Piece.{Piece}
use Rattle.collector.specs.Places.{is_pair, marked, same_four, against, whole, taken_for}
use Rattle.collector.specs.Collector.{is_free, index_of_pair, index_of_free, its_place, taken_in, kept, begun}
use Rattle.collector.proofs.AllPlaces.{all_held, some_free, is_held_lem, is_not_held, take_held, take_begun, take_against, take_free, take_full}
use Rattle.collector.proofs.OnePlace.{other_total, same_frame, other_bytes}

-- where the frame's pair is held, and the first free place
abbrev pub at_pair : Collector → Piece → ℕ
at_pair c x = index_of (is_pair x.heading.level x.heading.version) c.places

abbrev pub at_free : Collector → ℕ
at_free c = index_of is_free c.places

pub data Outcome (c : Collector) (x : Piece) : Type 0 where
  turned : (a : ℕ) → at_pair c x < length c.places → a ≡ against (its_place c x) x → (a ≡ 0 → ⊥) → (a ≡ 3 → ⊥) → record { answer = a; collector = c } ≡ taken_in c x → Outcome c x
  joins : at_pair c x < length c.places → against (its_place c x) x ≡ 0 → kept c (at_pair c x) (its_place c x) x ≡ taken_in c x → Outcome c x
  begins : at_pair c x < length c.places → against (its_place c x) x ≡ 3 → begun c (at_pair c x) x ≡ taken_in c x → Outcome c x
  starts : length c.places ≤ at_pair c x → at_free c < length c.places → kept c (at_free c) (taken_for x) x ≡ taken_in c x → Outcome c x
  finds_none : length c.places ≤ at_pair c x → length c.places ≤ at_free c → record { answer = 16; collector = c } ≡ taken_in c x → Outcome c x

pub outcome : (c : Collector) (x : Piece) → Outcome c x
unfolding index_of_pair index_of_free
outcome c x =
    by_test (ltb (at_pair c x) (length c.places))
    (λ t.
    let h = ltb-true _ _ t in
    let held = is_held_lem c.places x.heading.level x.heading.version h in
    by_test (eqb (against (its_place c x) x) 0)
    (λ u. let z = eqb-true _ _ u in joins h z (take_held c x held z))
    (λ u.
    let z = eqb-false _ _ u in
    by_test (eqb (against (its_place c x) x) 3)
    (λ w. let y = eqb-true _ _ w in begins h y (take_begun c x held y))
    (λ w. let y = eqb-false _ _ w in turned (against (its_place c x) x) h refl z y (take_against c x held (against (its_place c x) x) refl z y))))
    (λ t.
    let h = ltb-false _ _ t in
    let none = is_not_held c.places x.heading.level x.heading.version h in
    by_test (ltb (at_free c) (length c.places))
    (λ u. let f = ltb-true _ _ u in starts h f (take_free c x none (some_free c.places f)))
    (λ u. let f = ltb-false _ _ u in finds_none h f (take_full c x none (all_held c.places f))))

-- what is against no frame has its total, and has not its number
module _ (p : Place) (x : Piece) (e : against p x ≡ 0) where
  opposes_not : against p x ≡ cond (whole p) 15 3 → ⊥
  opposes_not o =
      by_test (whole p)
      (λ w. let z : ◌≡◌ {A = ℕ} 15 0 = sym (o ∙ if_yes 15 3 w) ∙ e in omega arith)
      (λ w. let z : ◌≡◌ {A = ℕ} 3 0 = sym (o ∙ if_no 15 3 w) ∙ e in omega arith)

  pub zero_total : p.total.0 ≡ x.heading.total.0
  zero_total =
      by_test (eqb p.total.0 x.heading.total.0)
      (λ t. eqb-true _ _ t)
      (λ t. absurd (opposes_not (other_total p x (eqb-false _ _ t))))

  pub zero_missing : marked p x.heading.number ≡ false
  zero_missing =
      by_test (marked p x.heading.number)
      (λ m.
      by_test (same_four p x)
      (λ f. let z : ◌≡◌ {A = ℕ} 2 0 = sym (same_frame p x zero_total m f) ∙ e in absurd (omega arith))
      (λ f. absurd (opposes_not (other_bytes p x zero_total m f))))
      (λ m. m)
