-- Contents made of what was read: their count and digits, by the row. Assumes nothing.
use mathlib.Core.Path.{◌≡◌, refl, sym, ap, ap₂, ◌∙◌}
use mathlib.Core.Logic.{◌⊎◌, inl, inr}
use mathlib.Core.List.{List, [], ◌∷◌, ◌++◌}
use mathlib.Core.Bool.{Bool, true, false, cond, ◌&&◌}
use Prim.Native.Nat.{ℕ, zero, suc, ◌+◌, ◌*◌, ◌-◌, ◌≤◌}
use native.Mathlib.Nat.{mul-one}
use native.Mathlib.Omega.{arith}
use lib.ListN.{length, drop}
use lib.Seq.{drop-append-add}
use Rattle.laws.specs.Bits.{at, run}
use Rattle.laws.proofs.Cases.{and_right, and_both, or_no, if_yes, if_no}
use Rattle.laws.specs.Scan.{all}
use Rattle.laws.proofs.Bits.{length_run}
use lib.Dec.{leb, eqb}
use borrow.Author.Tests.{eqb-true, leb-true}
use Rattle.packet.specs.declared.Content.{Content}
use Rattle.packet.specs.Writing.{digits_before, digits_after}
use Rattle.packet.proofs.Good.{good}
use Rattle.packet.proofs.Contents.{parts_back, numbers_long}
use Rattle.packet.proofs.Lent.{one_each}
use Rattle.format.specs.Format.{own, size, decode, need, flat, inside, line_ok, fine}
use Rattle.format.specs.declared.Line.{Line}
use Rattle.packet.specs.declared.Kind.{Kind}
use Rattle.packet.specs.declared.Counting.{Counting}
use Rattle.packet.specs.declared.Counting.TheVariants as counting
use Rattle.packet.specs.Table.{row_of, count_by, count_in}
use Rattle.packet.specs.Content.{Parts, content_of, kind_for, numbers_in, count_for}
use Rattle.packet.specs.Reading.{is_unknown}
use Rattle.trips.proofs.Padded.{inside_append}
use Rattle.trips.proofs.Contents.{digit_line, behind, fair}

-- a content's count is the one that was read, and that of what is lent
pub count_for_lem : (f : Kind) (xs body l : List ℕ) (q m k : ℕ) → is_unknown f ≡ false → k ≡ count_in (row_of f) l q m → length body ≡ k * need (row_of f).each → count_for (content_of f xs k) body ≡ k
count_for_lem f xs body l q m k h e n = ap (λ (p : Parts). count_by (row_of p.kind).counting p.count (length body)) (parts_back f xs k h) ∙ by (row_of f).counting refl e
  where
    by : (s : Counting) → (row_of f).counting ≡ s → k ≡ count_by s (at l (q + size (row_of f).before) 8) m → count_by s (count_by s k 0) (length body) ≡ k
    by counting.Fixed c g = sym g
    by counting.Counted c g = refl
    by counting.Raw c g = n ∙ ap (λ (w : ℕ). k * w) (one_each f c) ∙ mul-one k
    by counting.Unknown c g = sym g

-- ---- digits without a fault of 25 are at most 9
inside_drop : (n : ℕ) (xs : List ℕ) → inside 0 9 xs ≡ true → inside 0 9 (drop n xs) ≡ true
unfolding inside
inside_drop zero xs h = h
inside_drop (suc n) [] h = refl
inside_drop (suc n) (x ∷ xs) h = inside_drop n xs (and_right (leb 0 x && leb x 9) (inside 0 9 xs) h)

inside_none : inside 0 9 [] ≡ true
unfolding inside
inside_none = refl

line_digits : (t : Line) (v : List ℕ) → digit_line t ≡ true → line_ok 25 t v ≡ true → inside 0 9 (cond t.given v []) ≡ true
line_digits t v g h = part t.given refl
  where
    part : (b : Bool) → t.given ≡ b → inside 0 9 (cond t.given v []) ≡ true
    part false e = ap (λ (b : Bool). inside 0 9 (cond b v [])) e ∙ inside_none
    part true e =
        let k : (eqb t.answer 25 && (eqb t.lo 0 && eqb t.hi 9)) ≡ true = rw e at g in
        let a = and_both (eqb t.answer 25) (eqb t.lo 0 && eqb t.hi 9) k in
        let b = and_both (eqb t.lo 0) (eqb t.hi 9) a.1 in
        ap (λ (b : Bool). inside 0 9 (cond b v [])) e
        ∙ sym (ap₂ (λ (x y : ℕ). inside x y v) (eqb-true t.lo 0 b.0) (eqb-true t.hi 9 b.1))
        ∙ sym (if_yes (inside t.lo t.hi v) true a.0)
        ∙ h

all_digits : (ts : List Line) (l : List ℕ) (q : ℕ) → all digit_line ts ≡ true → fine 25 ts (decode ts l q) ≡ true → inside 0 9 (flat ts (decode ts l q)) ≡ true
unfolding fine decode flat
all_digits [] l q g h = inside_none
all_digits (t ∷ ts) l q g h =
    let v = run l q t.count t.width in
    let p = q + t.count * t.width in
    let a = and_both (digit_line t) (all digit_line ts) g in
    let b = and_both (line_ok 25 t v) (fine 25 ts (decode ts l p)) h in
    inside_append 0 9 (cond t.given v []) (flat ts (decode ts l p)) (line_digits t v a.0 b.0) (all_digits ts l p a.1 b.1)

module _ (t : Line) (ts : List Line) (n : ℕ) (l : List ℕ) (q : ℕ) where
  abbrev v : List ℕ
  v = run l q t.count t.width

  abbrev mine : List ℕ
  mine = cond t.given v []

  abbrev rest : List ℕ
  rest = flat ts (decode ts l (q + t.count * t.width))

  mine_long : (b : Bool) → t.given ≡ b → length mine ≡ own t
  mine_long true e = rw e (length_run l q t.count t.width)
  mine_long false e = rw e

  past : own t ≤ n → drop n (mine ++ rest) ≡ drop (n - own t) rest
  past h =
      let m : n ≡ length mine + (n - own t) = omega (arith, mine_long t.given refl) in
      ap (λ (k : ℕ). drop k (mine ++ rest)) m ∙ drop-append-add mine rest (n - own t)

digits_behind : (n : ℕ) (ts : List Line) (l : List ℕ) (q : ℕ) → behind digit_line n ts ≡ true → fine 25 ts (decode ts l q) ≡ true → inside 0 9 (drop n (flat ts (decode ts l q))) ≡ true
unfolding fine decode flat behind
digits_behind n [] l q g h = inside_drop n [] inside_none
digits_behind n (t ∷ ts) l q g h =
    part (leb (own t) n) refl (and_both (line_ok 25 t (v t ts n l q)) (fine 25 ts (decode ts l (q + t.count * t.width))) h) (digits_behind (n - own t) ts l (q + t.count * t.width))
  where
    part : (b : Bool) → leb (own t) n ≡ b → (line_ok 25 t (v t ts n l q) ≡ true) × (fine 25 ts (decode ts l (q + t.count * t.width)) ≡ true)
        → (behind digit_line (n - own t) ts ≡ true → fine 25 ts (decode ts l (q + t.count * t.width)) ≡ true → inside 0 9 (drop (n - own t) (rest t ts n l q)) ≡ true)
        → inside 0 9 (drop n (mine t ts n l q ++ rest t ts n l q)) ≡ true
    part true e b ih = ap (inside 0 9) (past t ts n l q (leb-true (own t) n e)) ∙ ih (sym (if_yes _ _ e) ∙ g) b.1
    part false e b ih =
        let u = and_both (digit_line t) (all digit_line ts) (sym (if_no _ _ e) ∙ g) in
        inside_drop n (mine t ts n l q ++ rest t ts n l q) (inside_append 0 9 (mine t ts n l q) (rest t ts n l q) (line_digits t (v t ts n l q) u.0 b.0) (all_digits ts l _ u.1 b.1))

pub front_digits : (f : Kind) (l : List ℕ) (q : ℕ) → fine 25 (row_of f).before (decode (row_of f).before l q) ≡ true → inside 0 9 (drop (numbers_in f) (flat (row_of f).before (decode (row_of f).before l q))) ≡ true
front_digits f l q h = digits_behind (numbers_in f) (row_of f).before l q (fair f).front h

pub back_digits : (f : Kind) (l : List ℕ) (q : ℕ) → fine 25 (row_of f).after (decode (row_of f).after l q) ≡ true → inside 0 9 (flat (row_of f).after (decode (row_of f).after l q)) ≡ true
back_digits f l q h = all_digits (row_of f).after l q (fair f).back h

-- no kind has digits both before its bytes and after them, and none more than 35
pub places : (f : Kind) → ((need (row_of f).before ≡ numbers_in f) ⊎ (need (row_of f).after ≡ 0)) × (need (row_of f).before - numbers_in f + need (row_of f).after ≤ 35)
places f = (by (eqb (need (row_of f).before) (numbers_in f)) refl, (good f).last)
  where
    by : (b : Bool) → eqb (need (row_of f).before) (numbers_in f) ≡ b → (need (row_of f).before ≡ numbers_in f) ⊎ (need (row_of f).after ≡ 0)
    by true e = inl (eqb-true _ _ e)
    by false e = inr (eqb-true _ _ (sym (or_no _ e) ∙ (good f).one_place))

pub one_place : (c : Content) → (digits_before c ≡ 0) ⊎ (digits_after c ≡ 0)
one_place c = by (places (kind_for c)).0
  where
    by : (need (row_of (kind_for c)).before ≡ numbers_in (kind_for c)) ⊎ (need (row_of (kind_for c)).after ≡ 0) → (digits_before c ≡ 0) ⊎ (digits_after c ≡ 0)
    by (inl e) = inl (omega (arith, e, numbers_long c))
    by (inr e) = inr e
