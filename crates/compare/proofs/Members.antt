-- What stands in a list of differences, and where the search for a byte stops. Assumes nothing.
use mathlib.Core.Path.{◌≡◌, refl, sym, ap, ◌∙◌, subst}
use mathlib.Core.Logic.{◌⊎◌, inl, inr, ⊎_elim}
use mathlib.Core.Bool.{Bool, true, false}
use mathlib.Core.List.Memᴰ
use mathlib.Core.List.{List, [], ◌∷◌, ◌++◌, Memᴰ}
use Prim.Native.Nat.{ℕ, zero, suc, ◌+◌, ◌≤◌, ◌<◌}
use native.Mathlib.Nat.{not-suc-le-zero}
use native.Mathlib.Decide.{dec_lt}
use native.Mathlib.Omega.{arith}
use lib.ListN.{length, get_or}
use lib.Dec.{eqb}
use borrow.Author.Tests.{eqb-true, eqb-false}
use Rattle.laws.proofs.Cases.{if_yes, if_no}
use Rattle.laws.proofs.Elements.{by_test}
use Rattle.shelf.specs.Summary.{record_at, records_in}
use Rattle.compare.specs.Differences.{Difference, differs, only, first_from, first_byte, of_both, of_record, below}
use Rattle.compare.specs.Complete.{number_of, Rising, no_line, a_line}
use Rattle.compare.proofs.Going.{both_none, both_some, record_right, record_left, record_both}

-- ---- members of joined lists
module _ {A : Type 0} {x : A} where
  in_left : {xs : List A} (ys : List A) → Memᴰ x xs → Memᴰ x (xs ++ ys)
  in_left ys (Memᴰ.head e) = Memᴰ.head e
  in_left ys (Memᴰ.tail m) = Memᴰ.tail (in_left ys m)

  in_right : (xs : List A) {ys : List A} → Memᴰ x ys → Memᴰ x (xs ++ ys)
  in_right [] m = m
  in_right (y ∷ xs) m = Memᴰ.tail (in_right xs m)

  in_either : (xs : List A) {ys : List A} → Memᴰ x (xs ++ ys) → Memᴰ x xs ⊎ Memᴰ x ys
  in_either [] m = inr m
  in_either (y ∷ xs) m =
      ⊎_elim (λ e. inl (Memᴰ.head e)) (λ t. ⊎_elim (λ u. inl (Memᴰ.tail u)) (λ v. inr v) (in_either xs t))
      (Memᴰ.cases_cons m)

  pub only_one : {y : A} → Memᴰ x (y ∷ []) → x ≡ y
  only_one m = ⊎_elim (λ e. e) (λ t. absurd (Memᴰ.not-nil t)) (Memᴰ.cases_cons m)

-- ---- what a record adds, by which shelves have it
pub record_by : (l r : List ℕ) (n : ℕ) (P : List Difference → Type 0) → (n < records_in l → n < records_in r → P (of_both n (record_at l n) (record_at r n)))
    → (n < records_in l → records_in r ≤ n → P (only false n ∷ [])) → (records_in l ≤ n → P (only true n ∷ [])) → P (of_record l r n)
record_by l r n P both left right =
    elim (dec_lt n (records_in l)) [
      | yes g ↦ elim (dec_lt n (records_in r)) [
        | yes h ↦ subst P (sym (record_both l r n g h)) (both g h)
        | no h ↦ let k : records_in r ≤ n = omega arith in subst P (sym (record_left l r n g k)) (left g k)
      ]
      | no g ↦ let k : records_in l ≤ n = omega arith in subst P (sym (record_right l r n k)) (right k)
    ]

pub both_by : (n : ℕ) (a b : List ℕ) (P : List Difference → Type 0) → (first_byte a b ≡ 256 → P [])
    → ((first_byte a b ≡ 256 → ⊥) → P (differs n (first_byte a b) (get_or a (first_byte a b) 0) (get_or b (first_byte a b) 0) ∷ [])) → P (of_both n a b)
both_by n a b P same apart =
    by_test (eqb (first_byte a b) 256)
    (λ t. let e = eqb-true (first_byte a b) 256 t in subst P (sym (both_none n a b (first_byte a b) refl e)) (same e))
    (λ t. let h = eqb-false (first_byte a b) 256 t in subst P (sym (both_some n a b (first_byte a b) refl h)) (apart h))

pub number_is : (l r : List ℕ) (n : ℕ) (d : Difference) → Memᴰ d (of_record l r n) → number_of d ≡ n
number_is l r n d =
    record_by l r n (λ (ds : List Difference). Memᴰ d ds → number_of d ≡ n)
    (λ g h. both_by n (record_at l n) (record_at r n) (λ (ds : List Difference). Memᴰ d ds → number_of d ≡ n) (λ e m. absurd (Memᴰ.not-nil m)) (λ e m. ap number_of (only_one m)))
    (λ g h m. ap number_of (only_one m)) (λ h m. ap number_of (only_one m))

-- ---- the list below n
module _ (l r : List ℕ) where
  pub below_has : (n : ℕ) (d : Difference) → Memᴰ d (below l r n) → (number_of d < n) × Memᴰ d (of_record l r (number_of d))
  unfolding below
  below_has zero d m = absurd (Memᴰ.not-nil m)
  below_has (suc n) d m =
      ⊎_elim (λ u. let k = below_has n d u in (omega (arith, k.0), k.1))
      (λ v. let e = number_is l r n d v in (omega (arith, e), subst (λ (j : ℕ). Memᴰ d (of_record l r j)) (sym e) v))
      (in_either (below l r n) m)

  pub below_holds : (n : ℕ) (d : Difference) → number_of d < n → Memᴰ d (of_record l r (number_of d)) → Memᴰ d (below l r n)
  unfolding below
  below_holds zero d h m = absurd (not-suc-le-zero h)
  below_holds (suc n) d h m =
      elim (dec_lt (number_of d) n) [
        | yes k ↦ in_left (of_record l r n) (below_holds n d k m)
        | no k ↦ let e : number_of d ≡ n = omega arith in in_right (below l r n) (subst (λ (j : ℕ). Memᴰ d (of_record l r j)) e m)
      ]

  -- ---- rising
  rising_one : (d : Difference) → Rising (d ∷ [])
  rising_one d = a_line (λ e m. absurd (Memᴰ.not-nil m)) no_line

  rising_append : (ds es : List Difference) → Rising ds → Rising es → ((d e : Difference) → Memᴰ d ds → Memᴰ e es → number_of d < number_of e) → Rising (ds ++ es)
  rising_append [] es p q h = q
  rising_append (d ∷ ds) es (a_line b p) q h =
      a_line (λ e m. ⊎_elim (λ u. b e u) (λ v. h d e (Memᴰ.head refl) v) (in_either ds m))
      (rising_append ds es p q (λ x e m. h x e (Memᴰ.tail m)))

  pub below_rising : (n : ℕ) → Rising (below l r n)
  unfolding below
  below_rising zero = no_line
  below_rising (suc n) =
      rising_append (below l r n) (of_record l r n) (below_rising n)
      (record_by l r n Rising (λ g h. both_by n (record_at l n) (record_at r n) Rising (λ e. no_line) (λ e. rising_one _)) (λ g h. rising_one _) (λ h. rising_one _))
      (λ d e m v. let k = below_has n d m in omega (arith, k.0, number_is l r n e v))

-- ---- where the search stops
module _ (f : ℕ → Bool) where
  pub found_passes : (i k : ℕ) → first_from f i k < i + k → f (first_from f i k) ≡ true
  unfolding first_from
  found_passes i zero h = absurd (omega arith)
  found_passes i (suc k) h =
      by_test (f i) (λ t. ap f (if_yes _ _ t) ∙ t)
      (λ t. ap f (if_no i (first_from f (suc i) k) t) ∙ found_passes (suc i) k (omega (arith, if_no i (first_from f (suc i) k) t)))

  pub none_before : (i k j : ℕ) → i ≤ j → j < first_from f i k → f j ≡ false
  unfolding first_from
  none_before i zero j g h = absurd (omega arith)
  none_before i (suc k) j g h =
      by_test (f i) (λ t. absurd (omega (arith, if_yes i (first_from f (suc i) k) t)))
      (λ t. elim (dec_lt i j) [
        | yes u ↦ none_before (suc i) k j (omega arith) (omega (arith, if_no i (first_from f (suc i) k) t))
        | no u ↦ let e : i ≡ j = omega arith in subst (λ (m : ℕ). f m ≡ false) e t
      ])

  pub found_is : (i k b : ℕ) → i ≤ b → b < i + k → f b ≡ true → ((j : ℕ) → i ≤ j → j < b → f j ≡ false) → first_from f i k ≡ b
  unfolding first_from
  found_is i zero b g h t s = absurd (omega arith)
  found_is i (suc k) b g h t s =
      elim (dec_lt i b) [
        | yes u ↦ if_no _ _ (s i (omega arith) u) ∙ found_is (suc i) k b (omega arith) (omega arith) t (λ j p q. s j (omega arith) q)
        | no u ↦ let e : b ≡ i = omega arith in if_yes _ _ (subst (λ (m : ℕ). f m ≡ true) e t) ∙ sym e
      ]

-- lists of one length with the same elements are the same
pub same_all : (a b : List ℕ) → length a ≡ length b → ((k : ℕ) → k < length a → get_or a k 0 ≡ get_or b k 0) → a ≡ b
same_all [] [] e h = refl
same_all [] (y ∷ b) e h = absurd (omega arith)
same_all (x ∷ a) [] e h = absurd (omega arith)
same_all (x ∷ a) (y ∷ b) e h =
    let t : a ≡ b = same_all a b (omega arith) (λ k p. h (suc k) (omega arith)) in
    ap (λ (z : ℕ). z ∷ a) (h 0 (omega arith)) ∙ ap (λ (m : List ℕ). y ∷ m) t
