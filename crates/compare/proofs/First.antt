-- The first byte that two records differ in: a turn of the search, its stop, its end. Assumes nothing.
use mathlib.Core.Path.{◌≡◌, refl, sym, ap, ◌∙◌}
use mathlib.Core.Bool.{Bool, true, false, not}
use mathlib.Core.List.{List}
use Prim.Native.Nat.{ℕ, suc, ◌+◌, ◌-◌, ◌<◌}
use native.Mathlib.Numerals.{add-one}
use native.Mathlib.Omega.{arith}
use lib.ListN.{get_or}
use borrow.Author.Tests.{eq-eqb, ne_eqb}
use Rattle.laws.proofs.Cases.{if_yes, if_no}
use Rattle.compare.specs.Differences.{unlike, first_from, first_byte}

module _ (f : ℕ → Bool) (i n : ℕ) (h : i < n) where
  one_more : n - i ≡ suc (n - (i + 1))
  one_more = omega arith

  pub from_next : f i ≡ false → first_from f i (n - i) ≡ first_from f (i + 1) (n - (i + 1))
  unfolding first_from
  from_next e = ap (first_from f i) one_more ∙ if_no _ _ e ∙ ap (λ (k : ℕ). first_from f k (n - (i + 1))) (sym (add-one i))

  pub from_stop : f i ≡ true → first_from f i (n - i) ≡ i
  unfolding first_from
  from_stop e = ap (first_from f i) one_more ∙ if_yes _ _ e

-- where the search stands at i, the answer is what it finds from there on
abbrev pub Stands : List ℕ → List ℕ → ℕ → Type 0
Stands a b i = first_byte a b ≡ first_from (unlike a b) i (256 - i)

module _ (a b : List ℕ) where
  pub begun : Stands a b 0
  unfolding first_byte
  begun = refl

  pub next_byte : (i : ℕ) → i < 256 → get_or a i 0 ≡ get_or b i 0 → Stands a b i → Stands a b (i + 1)
  unfolding unlike
  next_byte i h e s = s ∙ from_next (unlike a b) i 256 h (ap not (eq-eqb _ _ e))

  pub found_byte : (i : ℕ) → i < 256 → (get_or a i 0 ≡ get_or b i 0 → ⊥) → Stands a b i → i ≡ first_byte a b
  unfolding unlike
  found_byte i h e s = sym (s ∙ from_stop (unlike a b) i 256 h (ap not (ne_eqb _ _ e)))

  pub no_byte : (i : ℕ) → i ≡ 256 → Stands a b i → 256 ≡ first_byte a b
  unfolding first_from
  no_byte i e s = sym (s ∙ ap (λ (k : ℕ). first_from (unlike a b) k (256 - k)) e)
