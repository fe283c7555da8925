-- The first element that passes, as code finds it: its index, or none where `index_of` is the length. Assumes nothing.
use Rattle.std.proofs.Common.{◌≡◌, ℕ, ◌+◌, ◌<◌, ◌≤◌, Bool, not, cond, ltb, List, map, length, refl, sym, ap, ◌∙◌, arith, ltb-true, ltb-false}
use Rattle.std.specs.Prelude.{Option, Some, None, MatchOption}
use Rattle.std.specs.List.{position_or_len}
use Rattle.std.proofs.lemmas.List.Recursion.{is_position_or_len}
use Rattle.std.proofs.lemmas.List.Sums.{prefix_len-le-length}
use Rattle.laws.specs.Scan.{index_of}
use Rattle.laws.proofs.Cases.{if_yes, if_no}
use Rattle.laws.proofs.Elements.{by_test}

-- k of n, where the code has it below n alone
found_at : (k p n : ℕ) (r : Option ℕ) → k ≡ p → p ≤ n → r ≡ cond (ltb p n) (Some p) None → MatchOption r (k ≡ n) (λ i. (i ≡ k) × (i < n))
found_at k p n r same most e =
    by_test (ltb p n)
    (λ t. rw (e ∙ if_yes (Some p) None t) (sym same, ltb-true _ _ t))
    (λ t. let over = ltb-false p n t in rw (e ∙ if_no (Some p) None t) (omega (arith, over, most, same)))

module _ {A : Type 0} where
  -- an element is tested as it is
  pub found_first : (f : A → Bool) (xs : List A) (n : ℕ) (r : Option ℕ) → length xs ≡ n → r ≡ cond (ltb (position_or_len f xs) (length xs)) (Some (position_or_len f xs)) None
      → MatchOption r (index_of f xs ≡ n) (λ i. (i ≡ index_of f xs) × (i < n))
  unfolding index_of
  found_first f xs n r l e =
      found_at _ _ n r
      (is_position_or_len (index_of f) f refl
      (λ x xs. let e : index_of f xs + 1 ≡ 1 + index_of f xs = omega arith in ap (λ n. cond (f x) 0 n) e) xs)
      (omega (arith, l, prefix_len-le-length (λ x. not (f x)) xs))
      (e ∙ ap (λ k. cond (ltb (position_or_len f xs) k) (Some (position_or_len f xs)) None) l)

  -- or as it is seen
  pub found_seen : {B : Type 0} (f : B → Bool) (g : A → B) (xs : List A) (n : ℕ) (r : Option ℕ) → length xs ≡ n → r ≡ cond (ltb (position_or_len (λ x. f (g x)) xs) (length xs)) (Some (position_or_len (λ x. f (g x)) xs)) None
      → MatchOption r (index_of f (map g xs) ≡ n) (λ i. (i ≡ index_of f (map g xs)) × (i < n))
  unfolding index_of
  found_seen f g xs n r l e =
      found_at _ _ n r
      (is_position_or_len (λ ys. index_of f (map g ys)) (λ x. f (g x)) refl
      (λ x ys. let e : index_of f (map g ys) + 1 ≡ 1 + index_of f (map g ys) = omega arith in ap (λ n. cond (f (g x)) 0 n) e) xs)
      (omega (arith, l, prefix_len-le-length (λ x. not (f (g x))) xs))
      (e ∙ ap (λ k. cond (ltb (position_or_len (λ x. f (g x)) xs) k) (Some (position_or_len (λ x. f (g x)) xs)) None) l)
