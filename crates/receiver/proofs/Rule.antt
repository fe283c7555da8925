-- The receiving rule as laws: what it does with too few bits, at a start that is handed out and at one that is not, and how to reason over all of its run.
-- Assumes nothing.
use mathlib.Core.Path.{◌≡◌, refl, sym, ap, ◌∙◌}
use mathlib.Core.Bool.{Bool, true, false, cond}
use mathlib.Core.List.{List, [], ◌∷◌}
use Prim.Native.Nat.{ℕ, zero, suc, ◌≤◌, ◌<◌}
use native.Mathlib.Omega.{arith}
use borrow.Author.Tests.{lt-ltb, le-ltb, ltb-true, ltb-false}
use lib.ListN.{length, drop, length-drop}
use lib.Dec.{ltb}
use Rattle.laws.proofs.Cases.{if_yes, if_no}
use Rattle.receiver.specs.Rule.{Heard, is_taken, taken_bytes, taken_count, ended, onto, rule, heard}

receive_cases : {X : Type 0} (P : X → Type 0) (t : Bool) (x y : X) → (t ≡ true → P x) → (t ≡ false → P y) → P (cond t x y)
receive_cases P true x y f g = f refl
receive_cases P false x y f g = g refl

-- the frame handed out from a start, before all that comes behind it
abbrev pub first : Bool → List ℕ → Heard → Heard
first t l h = onto (taken_bytes t l ∷ []) (taken_count t l ∷ []) h

-- ---- over a whole run
module _ (P : Bool → List ℕ → Heard → Type 0)
    (short : (t : Bool) (l : List ℕ) → length l < 104 → P t l (ended t l))
    (frame : (t : Bool) (l : List ℕ) (h : Heard) → 104 ≤ length l → is_taken t l ≡ true → P true (drop 104 l) h → P t l (first t l h))
    (on : (t : Bool) (l : List ℕ) (h : Heard) → 104 ≤ length l → is_taken t l ≡ false → P false (drop 1 l) h → P t l h) where
  run : (n : ℕ) (t : Bool) (l : List ℕ) → length l ≤ n → P t l (rule n t l)
  unfolding rule
  run zero t l k = short t l (omega arith)
  run (suc n) t l k =
      receive_cases (P t l) (ltb (length l) 104) (ended t l)
      (cond (is_taken t l) (first t l (rule n true (drop 104 l))) (rule n false (drop 1 l)))
      (λ e. short t l (ltb-true (length l) 104 e))
      (λ e. let m = ltb-false (length l) 104 e in
      receive_cases (P t l) (is_taken t l) (first t l (rule n true (drop 104 l))) (rule n false (drop 1 l))
      (λ v. frame t l _ m v (run n true (drop 104 l) (omega (arith, length-drop 104 l))))
      (λ v. on t l _ m v (run n false (drop 1 l) (omega (arith, length-drop 1 l)))))

  pub over : (t : Bool) (l : List ℕ) → P t l (heard t l)
  unfolding heard
  over t l = run (length l) t l (omega arith)

-- ---- one turn, for any n that is large enough
short' : (n : ℕ) (t : Bool) (l : List ℕ) → length l < 104 → rule n t l ≡ ended t l
unfolding rule
short' zero t l h = refl
short' (suc n) t l h = if_yes _ _ (lt-ltb (length l) 104 h)

module _ (n : ℕ) (t : Bool) (l : List ℕ) (h : 104 ≤ length l) where
  frame' : is_taken t l ≡ true → rule (suc n) t l ≡ first t l (rule n true (drop 104 l))
  unfolding rule
  frame' v = if_no _ _ (le-ltb (length l) 104 h) ∙ if_yes _ _ v

  on' : is_taken t l ≡ false → rule (suc n) t l ≡ rule n false (drop 1 l)
  unfolding rule
  on' v = if_no _ _ (le-ltb (length l) 104 h) ∙ if_no _ _ v

-- how large n is doesn't matter, once it is no less than the count of bits
abbrev Same : Bool → List ℕ → Heard → Type 0
Same t l h = (m : ℕ) → length l ≤ m → rule m t l ≡ h

same : (n : ℕ) (t : Bool) (l : List ℕ) → length l ≤ n → Same t l (rule n t l)
same =
    run Same
    (λ t l h m k. short' m t l h)
    (λ t l h k v ih m j. from m j (λ m. rule m t l ≡ first t l h) k (λ m j. frame' m t l k v ∙ ap (first t l) (ih m (omega (arith, length-drop 104 l)))))
    (λ t l h k v ih m j. from m j (λ m. rule m t l ≡ h) k (λ m j. on' m t l k v ∙ ih m (omega (arith, length-drop 1 l))))
  where
    from : {a : ℕ} (m : ℕ) → a ≤ m → (P : ℕ → Type 0) → 104 ≤ a → ((m : ℕ) → a ≤ suc m → P (suc m)) → P m
    from zero j P k f = absurd (omega arith)
    from (suc m) j P k f = f m j

enough : (n : ℕ) (t : Bool) (l : List ℕ) → length l ≤ n → rule n t l ≡ heard t l
unfolding heard
enough n t l h = sym (same n t l h (length l) (omega arith))

-- ---- the laws
pub heard_short : (t : Bool) (l : List ℕ) → length l < 104 → heard t l ≡ ended t l
unfolding heard
heard_short t l h = short' (length l) t l h

module _ (t : Bool) (l : List ℕ) (h : 104 ≤ length l) where
  more : heard t l ≡ rule (suc (length l)) t l
  more = sym (enough (suc (length l)) t l (omega arith))

  -- a frame is handed out, and what is behind it follows
  pub heard_frame : is_taken t l ≡ true → heard t l ≡ first t l (heard true (drop 104 l))
  heard_frame v = more ∙ frame' (length l) t l h v ∙ ap (first t l) (enough (length l) true (drop 104 l) (omega (arith, length-drop 104 l)))

  -- else the first bit is given up, and what is behind it does not
  pub heard_on : is_taken t l ≡ false → heard t l ≡ heard false (drop 1 l)
  heard_on v = more ∙ on' (length l) t l h v ∙ enough (length l) false (drop 1 l) (omega (arith, length-drop 1 l))
