-- Whether two lists are the same. Assumes nothing.
use mathlib.Core.Path.{◌≡◌, refl, ap, ap₂, ◌∙◌}
use mathlib.Core.List.{List, [], ◌∷◌}
use mathlib.Core.Bool.{Bool, true, false, ◌&&◌, false≢true}
use Prim.Native.Nat.{ℕ, suc, ◌+◌, ◌≤◌, ◌<◌}
use native.Mathlib.Numerals.{add-one}
use native.Mathlib.Omega.{arith}
use lib.ListN.{length, drop, get_or, drop_of_length-le}
use lib.Seq.{drop-cons}
use lib.Dec.{eqb}
use borrow.Author.Tests.{eqb-true, eq-eqb, ne_eqb}
use Rattle.laws.specs.Lists.{same}
use Rattle.laws.proofs.Cases.{and_yes, and_both}

pub same_self : (l : List ℕ) → same l l ≡ true
same_self [] = refl
same_self (x ∷ l) = and_yes (same l l) (eq-eqb x x refl) ∙ same_self l

pub same_eq : (a b : List ℕ) → same a b ≡ true → a ≡ b
same_eq [] [] e = refl
same_eq [] (y ∷ ys) e = absurd (false≢true e)
same_eq (x ∷ xs) [] e = absurd (false≢true e)
same_eq (x ∷ xs) (y ∷ ys) e =
    let q = and_both (eqb x y) (same xs ys) e in
    ap₂ (λ (n : ℕ) (l : List ℕ). n ∷ l) (eqb-true x y q.0) (same_eq xs ys q.1)

pub same_next : (a b : List ℕ) (i : ℕ) → i < length a → i < length b → get_or a i 0 ≡ get_or b i 0 → same (drop i a) (drop i b) ≡ same (drop (i + 1) a) (drop (i + 1) b)
same_next a b i h g e = rw (add-one i, drop-cons a i 0 h, drop-cons b i 0 g, eq-eqb (get_or a i 0) (get_or b i 0) e)

pub same_stop : (a b : List ℕ) (i : ℕ) → i < length a → i < length b → (get_or a i 0 ≡ get_or b i 0 → ⊥) → same (drop i a) (drop i b) ≡ false
same_stop a b i h g e = rw (drop-cons a i 0 h, drop-cons b i 0 g, ne_eqb (get_or a i 0) (get_or b i 0) e)

pub same_end : (a b : List ℕ) (i : ℕ) → length a ≡ length b → length a ≤ i → same (drop i a) (drop i b) ≡ true
same_end a b i e h = rw (drop_of_length-le a {i = i} h, drop_of_length-le b {i = i} (omega arith))

pub same_long : (a b : List ℕ) → (length a ≡ length b → ⊥) → same a b ≡ false
same_long [] [] h = absurd (h refl)
same_long [] (y ∷ b) h = refl
same_long (x ∷ a) [] h = refl
same_long (x ∷ a) (y ∷ b) h = last (eqb x y) (same_long a b (λ e. h (ap suc e)))
  where
    last : (t : Bool) → same a b ≡ false → (t && same a b) ≡ false
    last true e = e
    last false e = refl
