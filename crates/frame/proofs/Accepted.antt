-- What is known of a frame whose heading is accepted, and which numbers refuse one. Assumes nothing.
use mathlib.Core.Path.{◌≡◌, refl, sym, ap, ◌∙◌}
use mathlib.Core.Logic.{⊎_elim}
use mathlib.Core.Bool.{Bool, true, false, not, ◌||◌, false≢true}
use mathlib.Core.List.{List}
use Prim.Native.Nat.{ℕ, ◌<◌, ◌≤◌}
use native.Mathlib.Omega.{arith}
use borrow.Author.Tests.{eqb-true, eqb-false, leb-false, not-true, eq-eqb}
use lib.ListN.{length}
use lib.Dec.{eqb, leb}
use Rattle.laws.specs.Refusals.{first, none, among, apart}
use Rattle.laws.proofs.Bits.{at_small}
use Rattle.laws.proofs.Cases.{if_yes, and_left, and_right, or_no, or_both}
use Rattle.laws.proofs.Elements.{by_test}
use Rattle.laws.proofs.Refusals.{done, listed}
use Rattle.frame.specs.declared.Total.{Total}
use Rattle.frame.specs.declared.Number.{Number}
use Rattle.std.specs.Prelude.{Result}
use Rattle.refusal.specs.declared.Refusal.{Refusal}
use Rattle.refusal.proofs.Numbers.{told_once}
use Rattle.frame.specs.declared.Heading.{Heading}
use Rattle.frame.specs.Heading.{level_of, version_of, total_of, number_of, fixed, reserved, outside, refusals, heading_fields, no_heading, Headed, told, heading_of}

-- the fields of an accepted heading: level 1 to 6, version to 31, number below total, total to 63
pub record Bounds (h : Heading) : Type 0 where
  pub level_low : 1 ≤ h.level
  pub level_high : h.level ≤ 6
  pub version_high : h.version ≤ 31
  pub number_below : h.number.0 < h.total.0
  pub total_high : h.total.0 ≤ 63

pub level_bounds : (l : ℕ) → reserved l ≡ false → (1 ≤ l) × (l ≤ 6)
unfolding reserved
level_bounds l e =
    let p = or_both (eqb l 0) (leb 7 l) e in
    let n = eqb-false _ _ p.0 in
    let h : l < 7 = leb-false _ _ p.1 in
    (above l n, omega arith)
  where
    above : (k : ℕ) → (k ≡ 0 → ⊥) → 1 ≤ k
    above k n = omega arith

pub number_below_total : (t : Total) (n : Number) → outside t n ≡ false → n.0 < t.0
unfolding outside
number_below_total t n e = leb-false _ _ (or_both (eqb t.0 0) (leb t.0 n.0) e).1

module _ (f : List ℕ) where
  pub refusals_apart : apart (refusals f) ≡ true
  unfolding refusals apart among
  refusals_apart = refl

  pub none_refused : first (refusals f) ≡ 0 → none (refusals f) ≡ true
  none_refused = (done (refusals f) refusals_apart).0

  pub some_refused : (first (refusals f) ≡ 0 → ⊥) → none (refusals f) ≡ false
  some_refused n = by_test (none (refusals f)) (λ t. absurd (n ((done (refusals f) refusals_apart).1 t))) (λ t. t)

  -- what was refused was refused with one of four numbers
  pub refused_with : (first (refusals f) ≡ 0 → ⊥) → (P : ℕ → Type 0) → P 26 → P 12 → P 13 → P 14 → P (first (refusals f))
  unfolding among refusals
  refused_with n P p₂₆ p₁₂ p₁₃ p₁₄ = ⊎_elim (λ z. absurd (n z)) (one (first (refusals f))) (listed (refusals f))
    where
      one : (k : ℕ) → (eqb k 26 || (eqb k 12 || (eqb k 13 || (eqb k 14 || false)))) ≡ true → P k
      one k e =
          by_test (eqb k 26) (λ t. let q : k ≡ 26 = eqb-true _ _ t in rw q p₂₆)
          (λ a.
          by_test (eqb k 12) (λ t. let q : k ≡ 12 = eqb-true _ _ t in rw q p₁₂)
          (λ b.
          by_test (eqb k 13) (λ t. let q : k ≡ 13 = eqb-true _ _ t in rw q p₁₃)
          (λ c.
          by_test (eqb k 14) (λ t. let q : k ≡ 14 = eqb-true _ _ t in rw q p₁₄)
          (λ d. absurd (false≢true (sym (or_no _ a ∙ or_no _ b ∙ or_no _ c ∙ or_no _ d) ∙ e))))))

  pub answer_is : (heading_of f).answer ≡ first (refusals f)
  unfolding heading_of
  answer_is = refl

  module _ (e : first (refusals f) ≡ 0) where
    pub fields_are : (heading_of f).heading ≡ heading_fields f
    unfolding heading_of
    fields_are = if_yes (heading_fields f) no_heading (eq-eqb _ _ e)

    -- every case of the list is passed
    passed : (eqb (length f) 8 ≡ true) × (fixed f ≡ true) × (reserved (level_of f) ≡ false) × (outside (total_of f) (number_of f) ≡ false)
    unfolding refusals none
    passed =
        let n = none_refused e in
        let a = and_left (not (not (eqb (length f) 8))) _ n in
        let n₁ = and_right (not (not (eqb (length f) 8))) _ n in
        let b = and_left (not (not (fixed f))) _ n₁ in
        let n₂ = and_right (not (not (fixed f))) _ n₁ in
        let c = and_left (not (reserved (level_of f))) _ n₂ in
        let n₃ = and_right (not (reserved (level_of f))) _ n₂ in
        let d = and_left (not (outside (total_of f) (number_of f))) _ n₃ in
        (twice (eqb (length f) 8) a, twice (fixed f) b, not-true _ c, not-true _ d)
      where
        twice : (b : Bool) → not (not b) ≡ true → b ≡ true
        twice true q = refl
        twice false q = q

    pub eight_bytes : length f ≡ 8
    eight_bytes = eqb-true _ _ passed.0

    pub is_fixed : fixed f ≡ true
    is_fixed = passed.1

    pub bounds : Bounds (heading_fields f)
    unfolding heading_fields
    bounds =
        let l = level_bounds (level_of f) passed.2 in
        let n = number_below_total (total_of f) (number_of f) passed.3 in
        let v : version_of f < 32 = at_small f 3 5 5 (omega arith) in
        let t : (total_of f).0 < 64 = at_small f 8 6 6 (omega arith) in
        record {
          level_low = l.0;
          level_high = l.1;
          version_high = omega arith;
          number_below = n;
          total_high = omega arith;
        }

-- what is told of a result tells the result
pub told_apart : (r s : Result Heading Refusal) → told r ≡ told s → r ≡ s
told_apart r s e = told_once no_heading r s (ap (λ (t : Headed). t.answer) e) (ap (λ (t : Headed). t.heading) e)
