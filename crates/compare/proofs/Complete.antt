-- The list of differences is complete and rising. Assumes nothing.
use mathlib.Core.Path.{◌≡◌, refl, sym, ap, ap₂, ◌∙◌, subst}
use mathlib.Core.Logic.{◌↔◌}
use mathlib.Core.Bool.{Bool, true, false, not, false≢true}
use mathlib.Core.List.Memᴰ
use mathlib.Core.List.{List, Memᴰ}
use Prim.Native.Nat.{ℕ, ◌≤◌, ◌<◌}
use native.Mathlib.Omega.{arith}
use lib.ListN.{length, get_or}
use lib.Dec.{eqb, ltb}
use borrow.Author.Tests.{ne_eqb, eqb-true, eqb-false, eq-eqb, not-true, not-false, ltb-true, ltb-false}
use Rattle.laws.proofs.Cases.{if_yes, if_no}
use Rattle.laws.proofs.Elements.{by_test}
use Rattle.shelf.specs.Summary.{record_at, records_in}
use Rattle.compare.specs.Differences.{Difference, differs, only, unlike, first_byte, of_both, of_record, longer, differences}
use Rattle.compare.specs.Complete.{number_of, FirstAt, Complete}
use Rattle.compare.proofs.Going.{byte_within, both_some, record_right, record_left, record_both, record_whole}
use Rattle.compare.proofs.Members.{only_one, record_by, both_by, below_has, below_holds, below_rising, found_passes, none_before, found_is, same_all}

-- ---- a line's parts
abbrev byte_of : Difference → ℕ
byte_of (differs n k x y) = k
byte_of (only q n) = 0

abbrev left_of : Difference → ℕ
left_of (differs n k x y) = x
left_of (only q n) = 0

abbrev right_of : Difference → ℕ
right_of (differs n k x y) = y
right_of (only q n) = 0

abbrev is_only : Difference → Bool
is_only (differs n k x y) = false
is_only (only q n) = true

abbrev side_of : Difference → Bool
side_of (differs n k x y) = false
side_of (only q n) = q

-- ---- the first byte
module _ (a b : List ℕ) where
  like : (j : ℕ) → unlike a b j ≡ false → get_or a j 0 ≡ get_or b j 0
  unfolding unlike
  like j e = eqb-true _ _ (not-false _ e)

  unlike_is : (j : ℕ) → unlike a b j ≡ true → get_or a j 0 ≡ get_or b j 0 → ⊥
  unfolding unlike
  unlike_is j e = eqb-false _ _ (not-true _ e)

  first_at : (first_byte a b ≡ 256 → ⊥) → FirstAt a b (first_byte a b) (get_or a (first_byte a b) 0) (get_or b (first_byte a b) 0)
  unfolding first_byte
  first_at h =
      let w : first_byte a b < 256 = byte_within a b (first_byte a b) refl h in
      record {
        within = w;
        on_left = refl;
        on_right = refl;
        apart = unlike_is (first_byte a b) (found_passes (unlike a b) 0 256 w);
        alike = λ j k. like j (none_before (unlike a b) 0 256 j (omega arith) k);
      }

  is_first : (k x y : ℕ) → FirstAt a b k x y → k ≡ first_byte a b
  unfolding first_byte unlike
  is_first k x y f =
      sym
      (found_is (unlike a b) 0 256 k (omega arith) f.within (ap not (ne_eqb _ _ (λ e. f.apart (f.on_left ∙ e ∙ sym f.on_right)))) (λ j p q. ap not (eq-eqb _ _ (f.alike j q))))

  all_same : length a ≡ 256 → length b ≡ 256 → first_byte a b ≡ 256 → a ≡ b
  unfolding first_byte
  all_same p q e = same_all a b (p ∙ sym q) (λ k h. like k (none_before (unlike a b) 0 256 k (omega arith) (omega (arith, e))))

-- ---- records of both
module _ (n k x y : ℕ) (a b : List ℕ) where
  both_has : Memᴰ (differs n k x y) (of_both n a b) → FirstAt a b k x y
  both_has =
      both_by n a b (λ (ds : List Difference). Memᴰ (differs n k x y) ds → FirstAt a b k x y) (λ e m. absurd (Memᴰ.not-nil m))
      (λ h m. let e = only_one m in
      let ek : k ≡ first_byte a b = ap byte_of e in
      let ex : x ≡ get_or a (first_byte a b) 0 = ap left_of e in
      let ey : y ≡ get_or b (first_byte a b) 0 = ap right_of e in
      rw (ek, ex, ey) (first_at a b h))

  both_holds : FirstAt a b k x y → Memᴰ (differs n k x y) (of_both n a b)
  both_holds f =
      let w = f.within in
      subst (λ (ds : List Difference). Memᴰ (differs n k x y) ds)
      (sym (both_some n a b k (is_first a b k x y f) (λ (e : k ≡ 256). omega arith)))
      (Memᴰ.head (ap₂ (differs n k) f.on_left f.on_right))

module _ (l r : List ℕ) where
  left_within : records_in l ≤ longer l r
  unfolding longer
  left_within =
      by_test (ltb (records_in l) (records_in r)) (λ t. omega (arith, if_yes (records_in r) (records_in l) t, ltb-true (records_in l) (records_in r) t))
      (λ t. omega (arith, if_no (records_in r) (records_in l) t))

  right_within : records_in r ≤ longer l r
  unfolding longer
  right_within =
      by_test (ltb (records_in l) (records_in r)) (λ t. omega (arith, if_yes (records_in r) (records_in l) t))
      (λ t. omega (arith, if_no (records_in r) (records_in l) t, ltb-false (records_in l) (records_in r) t))

  in_longer : (n : ℕ) → records_in l ≤ n → n < longer l r → n < records_in r
  unfolding longer
  in_longer n h w =
      by_test (ltb (records_in l) (records_in r)) (λ t. omega (arith, w, if_yes (records_in r) (records_in l) t))
      (λ t. absurd (omega (arith, w, h, if_no (records_in r) (records_in l) t)))

  has : (d : Difference) → Memᴰ d (differences l r) → (number_of d < longer l r) × Memᴰ d (of_record l r (number_of d))
  unfolding differences
  has d m = below_has l r (longer l r) d m

  holds : (d : Difference) → number_of d < longer l r → Memᴰ d (of_record l r (number_of d)) → Memᴰ d (differences l r)
  unfolding differences
  holds d h m = below_holds l r (longer l r) d h m

  both_listed : (n k x y : ℕ) → Memᴰ (differs n k x y) (differences l r) ↔ ((n < records_in l) × (n < records_in r) × FirstAt (record_at l n) (record_at r n) k x y)
  both_listed n k x y =
      let Is : Type 0 = (n < records_in l) × (n < records_in r) × FirstAt (record_at l n) (record_at r n) k x y in (
        λ m. record_by l r n (λ (ds : List Difference). Memᴰ (differs n k x y) ds → Is)
            (λ g h v. (g, h, both_has n k x y (record_at l n) (record_at r n) v))
            (λ g h v. absurd (false≢true (ap is_only (only_one v))))
            (λ h v. absurd (false≢true (ap is_only (only_one v))))
            (has (differs n k x y) m).1,
        λ f. let g = f.0 in
            holds (differs n k x y) (omega (arith, left_within))
            (subst (λ (ds : List Difference). Memᴰ (differs n k x y) ds) (sym (record_both l r n f.0 f.1)) (both_holds n k x y (record_at l n) (record_at r n) f.2)),
      )

  left_listed : (n : ℕ) → Memᴰ (only false n) (differences l r) ↔ ((records_in r ≤ n) × (n < records_in l))
  left_listed n =
      let Is : Type 0 = (records_in r ≤ n) × (n < records_in l) in (
        λ m. record_by l r n (λ (ds : List Difference). Memᴰ (only false n) ds → Is)
            (λ g h. both_by n (record_at l n) (record_at r n) (λ (ds : List Difference). Memᴰ (only false n) ds → Is) (λ e v. absurd (Memᴰ.not-nil v)) (λ e v. absurd (false≢true (sym (ap is_only (only_one v))))))
            (λ g h v. (h, g))
            (λ h v. absurd (false≢true (ap side_of (only_one v))))
            (has (only false n) m).1,
        λ f. let g = f.1 in
            holds (only false n) (omega (arith, left_within))
            (subst (λ (ds : List Difference). Memᴰ (only false n) ds) (sym (record_left l r n f.1 f.0)) (Memᴰ.head refl)),
      )

  right_listed : (n : ℕ) → Memᴰ (only true n) (differences l r) ↔ ((records_in l ≤ n) × (n < records_in r))
  right_listed n =
      let Is : Type 0 = (records_in l ≤ n) × (n < records_in r) in (
        λ m. let w = (has (only true n) m).0 in
            record_by l r n (λ (ds : List Difference). Memᴰ (only true n) ds → Is)
            (λ g h. both_by n (record_at l n) (record_at r n) (λ (ds : List Difference). Memᴰ (only true n) ds → Is) (λ e v. absurd (Memᴰ.not-nil v)) (λ e v. absurd (false≢true (sym (ap is_only (only_one v))))))
            (λ g h v. absurd (false≢true (sym (ap side_of (only_one v)))))
            (λ h v. (h, in_longer n h w))
            (has (only true n) m).1,
        λ f. let g = f.1 in
            holds (only true n) (omega (arith, right_within))
            (subst (λ (ds : List Difference). Memᴰ (only true n) ds) (sym (record_right l r n f.0)) (Memᴰ.head refl)),
      )

-- what the comparison lists, of any two lists of bytes
pub complete_and_rising : (left right : List ℕ) → Complete left right
unfolding differences
complete_and_rising left right = record {
  of_both_lem = both_listed left right;
  some_byte = λ n g h apart. by_test (eqb (first_byte (record_at left n) (record_at right n)) 256)
      (λ t. absurd (apart (all_same (record_at left n) (record_at right n) (record_whole left n g) (record_whole right n h) (eqb-true _ _ t))))
      (λ t. (first_byte (record_at left n) (record_at right n), first_at (record_at left n) (record_at right n) (eqb-false _ _ t)));
  of_left = left_listed left right;
  of_right = right_listed left right;
  rising = below_rising left right (longer left right);
  both_first = first;
}
  where
    first : (n k x y : ℕ) (q : Bool) (m : ℕ) → Memᴰ (differs n k x y) (differences left right) → Memᴰ (only q m) (differences left right) → n < m
    first n k x y false m u v = let f = (both_listed left right n k x y).0 u in let g = (left_listed left right m).0 v in omega (arith, f.1, g.0)
    first n k x y true m u v = let f = (both_listed left right n k x y).0 u in let g = (right_listed left right m).0 v in omega (arith, f.0, g.0)
