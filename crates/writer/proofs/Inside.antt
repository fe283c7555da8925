-- Loops that test numbers against ranges: of a list, of a line, of lines. Assumes nothing.
use mathlib.Core.Path.{◌≡◌, refl, sym, ◌∙◌, ap}
use mathlib.Core.Bool.{and-true, and_assoc, Bool, true, false, ◌&&◌, cond}
use mathlib.Core.List.{List, [], ◌∷◌}
use Prim.Native.Nat.{ℕ, max, zero, suc, ◌+◌, ◌<◌, ◌≤◌}
use native.Mathlib.Decide.{dec_lt}
use native.Mathlib.Omega.{arith}
use Rattle.laws.proofs.Cases.{and_yes, and_no}
use lib.ListN.{length, get_or, drop, replicate, drop_of_length-le}
use lib.Dec.{leb}
use lib.Seq.{drop-drop}
use Rattle.laws.proofs.Elements.{by_test, all_at}
use borrow.Author.Tests.{le-leb, lt-leb}
use Rattle.std.specs.List.{fold}
use Rattle.format.specs.declared.Line.{Line}
use Rattle.format.specs.Format.{own, inside, line_ok, fine, fill, octets}
use Rattle.laws.specs.Scan.{all}
use Rattle.packet.specs.Columns.{single}
use Rattle.writer.proofs.Line.{value_one}
use Rattle.packet.proofs.Loops.{lines_cons}
use Rattle.writer.specs.Puts.{value_of}

-- ---- numbers
-- each is at most hi where the greatest is
leb_max : (a b k : ℕ) → leb (max a b) k ≡ (leb a k && leb b k)
leb_max a b k =
    elim (dec_lt k a) [
      | yes h ↦ lt-leb (max a b) k (omega arith) ∙ sym (and_no _ (lt-leb a k h))
      | no h ↦
          elim (dec_lt k b) [
            | yes g ↦ lt-leb (max a b) k (omega arith) ∙ sym (and_yes _ (le-leb a k (omega arith)) ∙ lt-leb b k g)
            | no g ↦ le-leb (max a b) k (omega arith) ∙ sym (and_yes _ (le-leb a k (omega arith)) ∙ le-leb b k (omega arith))
          ]
    ]

most_from : (xs : List ℕ) (m hi : ℕ) → leb (fold max m xs) hi ≡ (leb m hi && inside 0 hi xs)
unfolding inside
most_from [] m hi = sym (and-true (leb m hi))
most_from (x ∷ xs) m hi =
    most_from xs (max m x) hi
    ∙ ap (λ (b : Bool). b && inside 0 hi xs) (leb_max m x hi)
    ∙ and_assoc (leb m hi) (leb x hi) (inside 0 hi xs)
    ∙ ap (λ (b : Bool). leb m hi && (b && inside 0 hi xs)) (sym (and_yes (leb x hi) (le-leb 0 x (omega arith))))

pub most : (xs : List ℕ) (hi : ℕ) → leb (fold max 0 xs) hi ≡ inside 0 hi xs
most xs hi = most_from xs 0 hi ∙ and_yes _ (le-leb 0 hi (omega arith))

-- the lowest number, again and again
lowest_fine : (lo hi n : ℕ) → leb lo hi ≡ true → inside lo hi (replicate n lo) ≡ true
unfolding inside
lowest_fine lo hi zero e = refl
lowest_fine lo hi (suc n) e = rw (le-leb lo lo (omega arith), e, lowest_fine lo hi n e)

pub lowest : (lo hi n : ℕ) → (n ≡ 0 → ⊥) → leb lo hi ≡ inside lo hi (replicate n lo)
unfolding inside
lowest lo hi zero h = absurd (h refl)
lowest lo hi (suc n) h =
    by_test (leb lo hi)
    (λ t. t ∙ sym (lowest_fine lo hi (suc n) t))
    (λ t. t ∙ sym (rw (le-leb lo lo (omega arith), t)))

-- ---- lines, t being the j-th
pub lines_turn : (a : ℕ) (T : List Line) (j : ℕ) (d t : Line) → j < length T → t ≡ get_or T j d → (xs : List ℕ) (i : ℕ) → fine a (drop j T) (fill (drop j T) (drop i xs))
    ≡ (line_ok a t (value_of t (drop i xs)) && fine a (drop (j + 1) T) (fill (drop (j + 1) T) (drop (i + own t) xs)))
unfolding fine fill
lines_turn a T j d t h e xs i = rw (lines_cons T j d t h e, drop-drop (own t) i xs)

pub lines_done : (a : ℕ) (T : List Line) (j : ℕ) → length T ≤ j → (xs : List ℕ) → fine a (drop j T) (fill (drop j T) xs) ≡ true
unfolding fine
lines_done a T j k xs = rw (drop_of_length-le T {i = j} k)

-- a line of one number, by that number
pub one_fits : (a : ℕ) (T : List Line) → all single T ≡ true → (j : ℕ) (t : Line) → j < length T → t ≡ get_or T j (octets 0) → (xs : List ℕ) (i x : ℕ) → i + own t ≤ length xs → x ≡ cond t.given (get_or xs i 0) t.lo → line_ok a t (value_of t (drop i xs)) ≡ line_ok a t (x ∷ [])
one_fits a T s j t h e xs i x k f = ap (line_ok a t) (value_one t xs i (ap single e ∙ all_at single T j (octets 0) s h) k ∙ ap (λ (y : ℕ). y ∷ []) (sym f))

pub one_low : (lo hi x : ℕ) → x < lo → inside lo hi (x ∷ []) ≡ false
unfolding inside
one_low lo hi x h = rw (lt-leb lo x h)

pub one_high : (lo hi x : ℕ) → lo ≤ x → inside lo hi (x ∷ []) ≡ leb x hi
unfolding inside
one_high lo hi x h = rw (le-leb lo x h) (and-true (leb x hi))
