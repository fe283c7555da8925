-- What is known of a list from a test of its elements, and what a store keeps of it. Assumes nothing.
use mathlib.Core.Path.{◌≡◌, refl, sym, ap, ap₂, ◌∙◌}
use mathlib.Core.List.{List, [], ◌∷◌, ◌++◌, map}
use mathlib.Core.Bool.{Bool, true, false, cond, not}
use Prim.Native.Nat.{ℕ, zero, suc, ◌+◌, ◌<◌}
use native.Mathlib.Nat.{le_of_lt, not-suc-le-zero, le_of_suc-le-suc}
use native.Mathlib.Numerals.{add-one}
use native.Mathlib.Omega.{arith}
use lib.ListN.{length, length-map, get_or, set, take, drop}
use lib.Seq.{drop-cons, set_at, length-take-le, append_snoc, take-suc}
use Rattle.laws.specs.Scan.{all, index_of}
use Rattle.laws.specs.Refusals.{Case, first, none}
use Rattle.laws.proofs.Cases.{if_yes, if_no, and_yes, and_no, and_left, and_right}

-- a test is true or false
pub by_test : {P : Type 0} (b : Bool) → (b ≡ true → P) → (b ≡ false → P) → P
by_test true f g = f refl
by_test false f g = g refl

-- the length of an array of structs is that of any list made of it element by element
pub length_mapped : {X Y : Type 0} (f : X → Y) (l : List X) (n : ℕ) → length (map f l) ≡ n → length l ≡ n
length_mapped f l n p = sym (length-map l f) ∙ p

-- what stands within a list, whatever is taken past its end
pub get_d_any : {A : Type 0} (l : List A) (i : ℕ) (d e : A) → i < length l → get_or l i d ≡ get_or l i e
get_d_any [] i d e h = absurd (not-suc-le-zero h)
get_d_any (x ∷ l) zero d e h = refl
get_d_any (x ∷ l) (suc i) d e h = get_d_any l i d e (le_of_suc-le-suc h)

-- ---- a copy, one byte at a time
pub copy_next : (b o : List ℕ) (i : ℕ) → i < length b → i < length o → set (take i b ++ drop i o) i (get_or b i 0) ≡ take (i + 1) b ++ drop (i + 1) o
copy_next b o i hb ho =
    rw (add-one i)
    (ap (λ (r : List ℕ). set (take i b ++ r) i (get_or b i 0)) (drop-cons o i 0 ho)
    ∙ set_at (take i b) (get_or o i 0) (drop (suc i) o) (get_or b i 0) i (length-take-le i b (le_of_lt hb))
    ∙ sym (append_snoc (take i b) (get_or b i 0) (drop (suc i) o))
    ∙ ap (λ (r : List ℕ). r ++ drop (suc i) o) (sym (take-suc b i 0 hb)))

-- ---- every element
module _ {A : Type 0} (f : A → Bool) where
  pub all_cons : (x : A) (xs : List A) → f x ≡ true → all f xs ≡ true → all f (x ∷ xs) ≡ true
  all_cons x xs e h = and_yes (all f xs) e ∙ h

  pub all_head : (x : A) (xs : List A) → all f (x ∷ xs) ≡ true → f x ≡ true
  all_head x xs h = and_left (f x) (all f xs) h

  pub all_tail : (x : A) (xs : List A) → all f (x ∷ xs) ≡ true → all f xs ≡ true
  all_tail x xs h = and_right (f x) (all f xs) h

  pub all_at : (xs : List A) (i : ℕ) (d : A) → all f xs ≡ true → i < length xs → f (get_or xs i d) ≡ true
  all_at [] i d e h = absurd (not-suc-le-zero h)
  all_at (x ∷ xs) zero d e h = all_head x xs e
  all_at (x ∷ xs) (suc i) d e h = all_at xs i d (all_tail x xs e) (le_of_suc-le-suc h)

  -- a store of an element that passes
  pub all_set : (xs : List A) (i : ℕ) (q : A) → all f xs ≡ true → f q ≡ true → all f (set xs i q) ≡ true
  all_set [] i q e t = e
  all_set (x ∷ xs) zero q e t = all_cons q xs t (all_tail x xs e)
  all_set (x ∷ xs) (suc i) q e t = all_cons x (set xs i q) (all_head x xs e) (all_set xs i q (all_tail x xs e) t)

module _ {A : Type 0} (f g : A → Bool) where
  -- what follows at each element
  pub all_map : (xs : List A) → ((a : A) → f a ≡ true → g a ≡ true) → all f xs ≡ true → all g xs ≡ true
  all_map [] w e = refl
  all_map (x ∷ xs) w e = all_cons g x xs (w x (all_head f x xs e)) (all_map xs w (all_tail f x xs e))

module _ {A : Type 0} (f g h : A → Bool) where
  pub all_both : (xs : List A) → ((a : A) → f a ≡ true → g a ≡ true → h a ≡ true) → all f xs ≡ true → all g xs ≡ true → all h xs ≡ true
  all_both [] w e k = refl
  all_both (x ∷ xs) w e k =
      all_cons h x xs (w x (all_head f x xs e) (all_head g x xs k)) (all_both xs w (all_tail f x xs e) (all_tail g x xs k))

-- ---- the first element that passes
module _ {A : Type 0} (f : A → Bool) where
  pub index_yes : (x : A) (xs : List A) → f x ≡ true → index_of f (x ∷ xs) ≡ 0
  unfolding index_of
  index_yes x xs e = if_yes 0 (index_of f xs + 1) e

  pub index_no : (x : A) (xs : List A) → f x ≡ false → index_of f (x ∷ xs) ≡ suc (index_of f xs)
  unfolding index_of
  index_no x xs e = if_no 0 (index_of f xs + 1) e ∙ add-one (index_of f xs)

  -- what stands at the first index that passes does pass
  pub index_holds : (xs : List A) (d : A) (i : ℕ) → i ≡ index_of f xs → i < length xs → f (get_or xs i d) ≡ true
  index_holds [] d i e h = absurd (not-suc-le-zero h)
  index_holds (x ∷ xs) d i e h =
      by_test (f x)
      (λ t. let w : i ≡ 0 = e ∙ index_yes x xs t in rw w t)
      (λ t.
      let w : i ≡ suc (index_of f xs) = e ∙ index_no x xs t in
      rw w (index_holds xs d (index_of f xs) refl (omega arith)))

-- ---- refusals in two parts: those of the first, else those of the second
pub first_append : (as₁ as₂ : List Case) → first (as₁ ++ as₂) ≡ cond (none as₁) (first as₂) (first as₁)
unfolding first none
first_append [] bs = refl
first_append (a ∷ as₁) bs =
    by_test a.0
    (λ t. if_yes _ _ t ∙ sym (if_no _ _ (and_no _ (ap not t)) ∙ if_yes _ _ t))
    (λ t.
    if_no _ _ t ∙ first_append as₁ bs
    ∙ sym (ap₂ (λ (b : Bool) (n : ℕ). cond b (first bs) n) (and_yes (none as₁) (ap not t)) (if_no _ _ t)))
