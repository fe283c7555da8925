-- The fields of a heading by its bytes, as the code works them out. Assumes nothing.
use mathlib.Core.Path.{◌≡◌, sym, ap, ap₂, ◌∙◌}
use mathlib.Core.Bool.{true, false, not, ◌&&◌}
use mathlib.Core.List.{List}
use Prim.Native.Nat.{ℕ, ◌+◌, ◌*◌, ◌/◌, ◌%◌, ◌<◌, ◌≤◌}
use native.Mathlib.Omega.{arith}
use lib.ListN.{length, get_or}
use lib.Dec.{eqb}
use borrow.Author.Tests.{eqb-true, eq-eqb, ne_eqb, le-leb, lt-leb}
use Rattle.laws.specs.Bits.{at, bits}
use Rattle.laws.specs.Refusals.{first}
use Rattle.laws.proofs.ByteFields.{at_byte, at_parts}
use Rattle.laws.proofs.Cases.{and_yes, and_both, or_yes, or_no, if_yes, if_no}
use Rattle.laws.proofs.Elements.{by_test}
use Rattle.laws.proofs.Refusals.{stop, pass, none_left}
use Rattle.frame.specs.declared.Total.{Total}
use Rattle.frame.specs.declared.Number.{Number}
use Rattle.frame.specs.declared.Heading.{Heading}
use Rattle.frame.specs.Heading.{level_of, version_of, total_of, number_of, fixed, reserved, outside, refusals, heading_fields, no_heading, heading_of}

module _ (f : List ℕ) where
  pub level_byte : get_or f 0 0 < 256 → level_of f ≡ get_or f 0 0 / 32
  level_byte h = at_byte f 0 0 3 (omega arith) ∙ omega arith

  pub version_byte : version_of f ≡ get_or f 0 0 % 32
  version_byte = at_byte f 0 3 5 (omega arith) ∙ omega arith

  pub total_byte : get_or f 1 0 < 256 → (total_of f).0 ≡ get_or f 1 0 / 4
  total_byte h = at_byte f 1 0 6 (omega arith) ∙ omega arith

  pub number_bytes : (number_of f).0 ≡ get_or f 1 0 % 4 * 16 + get_or f 3 0 % 16
  number_bytes = omega (arith, at_byte f 1 6 2 (omega arith), at_byte f 3 4 4 (omega arith))

  first_part : get_or f 2 0 < 256 → at (bits f) 16 5 ≡ get_or f 2 0 / 8
  first_part h = at_byte f 2 0 5 (omega arith) ∙ omega arith

  second_part : get_or f 3 0 < 256 → at (bits f) 21 6 ≡ get_or f 2 0 % 8 * 8 + get_or f 3 0 / 32
  second_part h = at_parts (bits f) 21 3 3 ∙ omega (arith, at_byte f 2 5 3 (omega arith), at_byte f 3 0 3 (omega arith))

  third_part : at (bits f) 27 1 ≡ get_or f 3 0 / 16 % 2
  third_part = at_byte f 3 3 1 (omega arith)

  module _ (h₂ : get_or f 2 0 < 256) (h₃ : get_or f 3 0 < 256) where
    pub fixed_yes : get_or f 2 0 ≡ 0xB0 → get_or f 3 0 / 16 ≡ 0 → fixed f ≡ true
    unfolding fixed
    fixed_yes e₂ e₃ =
        let a = first_part h₂ in
        let b = second_part h₃ in
        let c = third_part in
        and_yes _ (eq-eqb (at (bits f) 16 5) 0b10110 (omega arith))
        ∙ and_yes _ (eq-eqb (at (bits f) 21 6) 0 (omega arith))
        ∙ eq-eqb (at (bits f) 27 1) 0 (omega arith)

    -- block 2's first byte and the high half of its second are all that is fixed
    pub fixed_bytes : fixed f ≡ true → (get_or f 2 0 ≡ 0xB0) × (get_or f 3 0 / 16 ≡ 0)
    unfolding fixed
    fixed_bytes e =
        let a = first_part h₂ in
        let b = second_part h₃ in
        let c = third_part in
        let p = and_both (eqb (at (bits f) 16 5) 0b10110) (eqb (at (bits f) 21 6) 0 && eqb (at (bits f) 27 1) 0) e in
        let q = and_both (eqb (at (bits f) 21 6) 0) (eqb (at (bits f) 27 1) 0) p.1 in
        let x : at (bits f) 16 5 ≡ 0b10110 = eqb-true _ _ p.0 in
        let y : at (bits f) 21 6 ≡ 0 = eqb-true _ _ q.0 in
        let z : at (bits f) 27 1 ≡ 0 = eqb-true _ _ q.1 in
        (omega arith, omega arith)

    pub fixed_no : ((get_or f 2 0 ≡ 0xB0) × (get_or f 3 0 / 16 ≡ 0) → ⊥) → fixed f ≡ false
    fixed_no n = by_test (fixed f) (λ e. absurd (n (fixed_bytes e))) (λ e. e)

-- ---- levels, and totals against numbers
pub reserved_low : (l : ℕ) → l ≡ 0 → reserved l ≡ true
unfolding reserved
reserved_low l e = or_yes _ (eq-eqb _ _ e)

pub reserved_high : (l : ℕ) → 7 ≤ l → reserved l ≡ true
unfolding reserved
reserved_high l h = or_no _ (ne_eqb _ _ (λ (e : l ≡ 0). omega arith)) ∙ le-leb _ _ h

pub reserved_no : (l : ℕ) → (l ≡ 0 → ⊥) → l < 7 → reserved l ≡ false
unfolding reserved
reserved_no l n h = or_no _ (ne_eqb _ _ n) ∙ lt-leb _ _ h

pub outside_yes : (t : Total) (n : Number) → t.0 ≤ n.0 → outside t n ≡ true
unfolding outside
outside_yes t n h = by_test (eqb t.0 0) (λ e. or_yes _ e) (λ e. or_no _ e ∙ le-leb _ _ h)

pub outside_no : (t : Total) (n : Number) → n.0 < t.0 → outside t n ≡ false
unfolding outside
outside_no t n h = or_no _ (ne_eqb _ _ (λ (e : t.0 ≡ 0). omega arith)) ∙ lt-leb _ _ h

-- ---- the answer, by the first case that holds
module _ (f : List ℕ) where
  pub due_26 : (length f ≡ 8 → ⊥) → first (refusals f) ≡ 26
  unfolding refusals
  due_26 n = stop _ _ (ap not (ne_eqb _ _ n))

  module _ (e₈ : length f ≡ 8) where
    pub due_12 : fixed f ≡ false → first (refusals f) ≡ 12
    unfolding refusals
    due_12 e = pass _ _ (ap not (eq-eqb _ _ e₈)) ∙ stop _ _ (ap not e)

    module _ (ef : fixed f ≡ true) where
      pub due_13 : reserved (level_of f) ≡ true → first (refusals f) ≡ 13
      unfolding refusals
      due_13 e = pass _ _ (ap not (eq-eqb _ _ e₈)) ∙ pass _ _ (ap not ef) ∙ stop _ _ e

      module _ (er : reserved (level_of f) ≡ false) where
        pub due_14 : outside (total_of f) (number_of f) ≡ true → first (refusals f) ≡ 14
        unfolding refusals
        due_14 e = pass _ _ (ap not (eq-eqb _ _ e₈)) ∙ pass _ _ (ap not ef) ∙ pass _ _ er ∙ stop _ _ e

        pub due_none : outside (total_of f) (number_of f) ≡ false → first (refusals f) ≡ 0
        unfolding refusals
        due_none e = pass _ _ (ap not (eq-eqb _ _ e₈)) ∙ pass _ _ (ap not ef) ∙ pass _ _ er ∙ pass _ _ e ∙ none_left

  -- a refusal has no fields, and what is accepted has its own
  pub is_refused : (n : ℕ) → (n ≡ 0 → ⊥) → first (refusals f) ≡ n → record { answer = n; heading = no_heading } ≡ heading_of f
  unfolding heading_of
  is_refused n z e =
      ap₂ (λ (a : ℕ) (h : Heading). record { answer = a; heading = h }) (sym e)
      (sym (if_no (heading_fields f) no_heading (ne_eqb _ _ (λ (q : first (refusals f) ≡ 0). z (sym e ∙ q)))))

  pub is_accepted : first (refusals f) ≡ 0 → record { answer = 0; heading = heading_fields f } ≡ heading_of f
  unfolding heading_of
  is_accepted e =
      ap₂ (λ (a : ℕ) (h : Heading). record { answer = a; heading = h }) (sym e)
      (sym (if_yes (heading_fields f) no_heading (eq-eqb _ _ e)))

-- ---- the answer by the bytes, one law for each way out of the code
module _ (f : List ℕ) (byte : (i : ℕ) → get_or f i 0 < 256) where
  pub says_26 : (length f ≡ 8 → ⊥) → record { answer = 26; heading = no_heading } ≡ heading_of f
  says_26 n = is_refused f 26 (λ (z : 26 ≡ 0). omega arith) (due_26 f n)

  module _ (e₈ : length f ≡ 8) where
    pub says_12 : ((get_or f 2 0 ≡ 0xB0) × (get_or f 3 0 / 16 ≡ 0) → ⊥) → record { answer = 12; heading = no_heading } ≡ heading_of f
    says_12 n = is_refused f 12 (λ (z : 12 ≡ 0). omega arith) (due_12 f e₈ (fixed_no f (byte 2) (byte 3) n))

    module _ (e₂ : get_or f 2 0 ≡ 0xB0) (e₃ : get_or f 3 0 / 16 ≡ 0) where
      is_fixed : fixed f ≡ true
      is_fixed = fixed_yes f (byte 2) (byte 3) e₂ e₃

      pub says_13 : reserved (get_or f 0 0 / 32) ≡ true → record { answer = 13; heading = no_heading } ≡ heading_of f
      says_13 r =
          is_refused f 13 (λ (z : 13 ≡ 0). omega arith) (due_13 f e₈ is_fixed (ap reserved (level_byte f (byte 0)) ∙ r))

      module _ (n₀ : get_or f 0 0 / 32 ≡ 0 → ⊥) (n₇ : get_or f 0 0 / 32 ≡ 7 → ⊥) where
        not_reserved : reserved (level_of f) ≡ false
        not_reserved = let b = byte 0 in ap reserved (level_byte f b) ∙ reserved_no _ n₀ (under (get_or f 0 0 / 32) (omega arith) n₇)
          where
            under : (l : ℕ) → l ≤ 7 → (l ≡ 7 → ⊥) → l < 7
            under l h n = omega arith

        pub says_14 : get_or f 1 0 / 4 ≤ get_or f 1 0 % 4 * 16 + get_or f 3 0 % 16 → record { answer = 14; heading = no_heading } ≡ heading_of f
        says_14 h =
            is_refused f 14 (λ (z : 14 ≡ 0). omega arith)
            (due_14 f e₈ is_fixed not_reserved
            (outside_yes (total_of f) (number_of f) (omega (arith, total_byte f (byte 1), number_bytes f))))

        pub says_0 : get_or f 1 0 % 4 * 16 + get_or f 3 0 % 16 < get_or f 1 0 / 4
            → record {
              answer = 0;
              heading = record {
                level = get_or f 0 0 / 32;
                version = get_or f 0 0 % 32;
                total = record { 0 = get_or f 1 0 / 4 };
                number = record { 0 = get_or f 1 0 % 4 * 16 + get_or f 3 0 % 16 };
              };
            } ≡ heading_of f
        unfolding heading_fields
        says_0 h =
            let el = level_byte f (byte 0) in
            let ev = version_byte f in
            let et = total_byte f (byte 1) in
            let en = number_bytes f in
            rw (← el, ← ev, ← et, ← en)
            (is_accepted f (due_none f e₈ is_fixed not_reserved (outside_no (total_of f) (number_of f) (omega (arith, et, en)))))
