-- Lines taken by columns, a line in all of its rows and then the next: what a turn adds, and where the line stands. Assumes nothing.
use mathlib.Core.Path.{◌≡◌, refl, sym, ap, ap₂, ◌∙◌}
use mathlib.Core.Bool.{Bool, true, cond, ◌&&◌, and-true}
use mathlib.Core.List.{List, [], ◌∷◌, ◌++◌, append-nil}
use Prim.Native.Nat.{min, ℕ, zero, suc, ◌+◌, ◌*◌, ◌%◌, ◌<◌, ◌≤◌}
use native.Mathlib.Nat.{add-zero, zero-mul}
use native.Mathlib.Numerals.{add-one}
use native.Mathlib.Omega.{arith}
use lib.ListN.{length, get_or, take, drop, drop_of_length-le, take-append-drop}
use lib.Seq.{take-suc, sets}
use lib.Dec.{eqb}
use borrow.Author.Tests.{eqb-true}
use Rattle.laws.specs.Bits.{run, bits}
use Rattle.laws.specs.Strips.{strips, every}
use Rattle.laws.proofs.Cases.{if_yes, if_no, and_both}
use Rattle.laws.proofs.Elements.{by_test}
use Rattle.laws.proofs.Strips.{strips_beside, strips_same, strips_whole, joined_same, every_and, every_same, every_true}
use Rattle.format.specs.declared.Line.{Line}
use Rattle.format.specs.Format.{ones, digits, times, own, size, need, inside, decode, flat, fine, line_ok}
use Rattle.format.proofs.Tables.{size_append, need_append, flat_append, length_flat}
use Rattle.packet.specs.Table.{code}
use Rattle.packet.specs.Reading.{numbers_at}
use Rattle.packet.specs.Columns.{column, columns}
use Rattle.packet.proofs.Columns.{numbers_rows, fine_rows}
use Rattle.packet.proofs.Loops.{lines_cons}
use Rattle.reader.specs.Due.{passing, Judged}
use Rattle.reader.specs.Taking.{own_at}
use Rattle.reader.proofs.Due.{Going, going_turn, going_last, judged_same, both}
use Rattle.reader.proofs.Leaves.{strips_none}
use Rattle.reader.proofs.Taking.{length_own}

-- ---- the first j lines, and one more
module _ (T : List Line) (j : ℕ) (d t : Line) (h : j < length T) (e : t ≡ get_or T j d) where
  more : take (j + 1) T ≡ take j T ++ (t ∷ [])
  more = ap (λ (n : ℕ). take n T) (add-one j) ∙ take-suc T j d h ∙ ap (λ (x : Line). take j T ++ (x ∷ [])) (sym e)

  pub size_more : size (take (j + 1) T) ≡ size (take j T) + t.count * t.width
  unfolding size
  size_more = ap size more ∙ size_append (take j T) (t ∷ []) ∙ omega arith

  pub need_more : need (take (j + 1) T) ≡ need (take j T) + own t
  unfolding need
  need_more = ap need more ∙ need_append (take j T) (t ∷ []) ∙ omega arith

  numbers_more : (b : List ℕ) (p : ℕ) → numbers_at (take (j + 1) T) b p ≡ numbers_at (take j T) b p ++ own_at t b (p + size (take j T))
  unfolding flat decode
  numbers_more b p = ap (λ (ts : List Line). numbers_at ts b p) more ∙ flat_append (take j T) (t ∷ []) (bits b) p ∙ ap (λ (l : List ℕ). numbers_at (take j T) b p ++ l) (append-nil (own_at t b (p + size (take j T))))

  -- the numbers of a column beside those of the columns before
  pub column_turn : (b o o' o'' : List ℕ) (p q i to w n s : ℕ) → q ≡ p + size (take j T) → to ≡ i + need (take j T) → need (take (j + 1) T) ≤ w
      → o' ≡ strips o i w n (λ (k : ℕ). numbers_at (take j T) b (p + k * s)) → o'' ≡ strips o' to w n (λ (k : ℕ). own_at t b (q + k * s))
      → o'' ≡ strips o i w n (λ (k : ℕ). numbers_at (take (j + 1) T) b (p + k * s))
  column_turn b o o' o'' p q i to w n s eq et l f g =
      let a = need (take j T) in
      let F : ℕ → List ℕ = λ k. numbers_at (take j T) b (p + k * s) in
      let G : ℕ → List ℕ = λ k. own_at t b (q + k * s) in
      g
      ∙ ap₂ (λ (m : List ℕ) (x : ℕ). strips m x w n G) f et
      ∙ strips_beside n F G o i a w (λ k m. length_flat (take j T) (bits b) (p + k * s)) (λ k m. omega (arith, length_own t b (q + k * s), need_more, l))
      ∙ strips_same n (λ (k : ℕ). F k ++ G k) (λ (k : ℕ). numbers_at (take (j + 1) T) b (p + k * s)) o i w (λ k m. sym (numbers_more b (p + k * s) ∙ ap (λ (x : ℕ). F k ++ own_at t b x) (omega arith)))

  -- and what they are due
  passes : (l : List ℕ) (q n s a : ℕ) → every n (λ (k : ℕ). line_ok a t (run l (q + k * s) t.count t.width)) ≡ passing t (every n (λ (k : ℕ). inside t.lo t.hi (run l (q + k * s) t.count t.width))) a
  passes l q n s a =
      by_test (eqb t.answer a)
      (λ x. every_same n _ _ (λ k m. if_yes _ true x) ∙ sym (if_yes _ true x))
      (λ x. every_true n _ (λ k m. if_no _ true x) ∙ sym (if_no _ true x))

  pub due_turn : (l : List ℕ) (p q w n s : ℕ) (good : Bool) (x r y : ℕ) → w ≡ t.count * t.width → good ≡ every n (λ (k : ℕ). inside t.lo t.hi (run l (q + k * s) t.count t.width))
      → Going (λ (a : ℕ). every n (λ (k : ℕ). fine a T (decode T l (p + k * s)))) (λ (a : ℕ). every n (λ (k : ℕ). fine a (drop j T) (decode (drop j T) l (q + k * s)))) x
      → Judged (passing t good) r → y ≡ min x r
      → Going (λ (a : ℕ). every n (λ (k : ℕ). fine a T (decode T l (p + k * s)))) (λ (a : ℕ). every n (λ (k : ℕ). fine a (drop (j + 1) T) (decode (drop (j + 1) T) l (q + w + k * s)))) y
  unfolding fine decode
  due_turn l p q w n s good x r y ew eg g i ey =
      going_turn _ _ (passing t good) _ x r y g i
      (λ a.
      every_same n _ _ (λ k m. rw (lines_cons T j d t h e))
      ∙ every_and n (λ (k : ℕ). line_ok a t (run l (q + k * s) t.count t.width)) (λ (k : ℕ). fine a (drop (j + 1) T) (decode (drop (j + 1) T) l (q + k * s + t.count * t.width)))
      ∙ ap₂ (λ (u v : Bool). u && v) (passes l q n s a ∙ ap (λ (z : Bool). passing t z a) (sym eg)) (every_same n _ _ (λ k m. ap (λ (z : ℕ). fine a (drop (j + 1) T) (decode (drop (j + 1) T) l z)) (omega (arith, ew)))))
      ey

-- the first lines have no more than all
pub size_within : (T : List Line) (j : ℕ) → size (take j T) ≤ size T
size_within T j = omega (arith, sym (ap size (take-append-drop j T)) ∙ size_append (take j T) (drop j T))

pub need_within : (T : List Line) (j : ℕ) → need (take j T) ≤ need T
need_within T j = omega (arith, sym (ap need (take-append-drop j T)) ∙ need_append (take j T) (drop j T))

-- ---- where a line stands
pub stands_at : (T : List Line) (j q : ℕ) (d t : Line) → j < length T → t ≡ get_or T j d → columns q T ≡ true → column t ≡ true
unfolding columns
stands_at [] j q d t h e c = absurd (omega arith)
stands_at (u ∷ us) zero q d t h e c = ap column e ∙ (and_both (column u) (columns (q + u.count * u.width) us) c).0
stands_at (u ∷ us) (suc j) q d t h e c = stands_at us j (q + u.count * u.width) d t (omega arith) e (and_both (column u) (columns (q + u.count * u.width) us) c).1

-- ---- the beginning, the end, and one row
pub column_first : (T : List Line) (b o : List ℕ) (p i w n s : ℕ) → o ≡ strips o i w n (λ (k : ℕ). numbers_at (take 0 T) b (p + k * s))
unfolding flat decode
column_first T b o p i w n s = sym (strips_none n _ o i w (λ r. refl))

pub due_last : (T : List Line) (j : ℕ) → length T ≤ j → (l : List ℕ) (p q n s x : ℕ)
    → Going (λ (a : ℕ). every n (λ (k : ℕ). fine a T (decode T l (p + k * s)))) (λ (a : ℕ). every n (λ (k : ℕ). fine a (drop j T) (decode (drop j T) l (q + k * s)))) x
    → Judged (λ (a : ℕ). every n (λ (k : ℕ). fine a T (decode T l (p + k * s)))) x
unfolding fine decode
due_last T j h l p q n s x g = going_last _ _ x g (λ a. every_true n _ (λ k m. rw (drop_of_length-le T h)))

-- ---- rows that fill their distance
pub ends : (T : List Line) (q : ℕ) → columns q T ≡ true → (q + size T) % 8 ≡ 0
unfolding columns size
ends [] q c = ap (λ (x : ℕ). x % 8) (add-zero q) ∙ eqb-true (q % 8) 0 c
ends (t ∷ ts) q c =
    let x : q + (t.count * t.width + size ts) ≡ q + t.count * t.width + size ts = omega arith in
    ap (λ (y : ℕ). y % 8) x ∙ ends ts (q + t.count * t.width) (and_both (column t) (columns (q + t.count * t.width) ts) c).1

pub rows_taken : (T : List Line) (b o o'' : List ℕ) (p w n s : ℕ) → s ≡ size T → w ≡ need T → o'' ≡ strips o 0 w n (λ (k : ℕ). numbers_at T b (p + k * s)) → o'' ≡ sets o 0 (numbers_at (times n T) b p)
rows_taken T b o o'' p w n s es ew e =
    e
    ∙ strips_whole n (λ (k : ℕ). numbers_at T b (p + k * s)) o 0 w (λ k h. length_flat T (bits b) (p + k * s) ∙ sym ew)
    ∙ ap (sets o 0) (joined_same n _ _ (λ k h. ap (λ (x : ℕ). numbers_at T b (p + k * x)) es) ∙ sym (numbers_rows n T b p))

pub rows_due : (T : List Line) (l : List ℕ) (p n s r : ℕ) → s ≡ size T → Judged (λ (a : ℕ). every n (λ (k : ℕ). fine a T (decode T l (p + k * s)))) r → Judged (λ (a : ℕ). fine a (times n T) (decode (times n T) l p)) r
rows_due T l p n s r es = judged_same _ _ r (λ a m. every_same n _ _ (λ k h. ap (λ (x : ℕ). fine a T (decode T l (p + k * x))) es) ∙ sym (fine_rows a n T l p))

-- and one row, whatever the distance
pub one_due : (T : List Line) (l : List ℕ) (p s r : ℕ) → Judged (λ (a : ℕ). every 1 (λ (k : ℕ). fine a T (decode T l (p + k * s)))) r → Judged (λ (a : ℕ). fine a T (decode T l p)) r
unfolding every
one_due T l p s r = judged_same _ _ r (λ a m. ap (λ (x : ℕ). fine a T (decode T l x)) (omega (arith, zero-mul s)))

-- ---- the codes: two columns
pub codes_taken : (b o o'' : List ℕ) (n : ℕ) → o'' ≡ strips o 0 23 n (λ (x : ℕ). run (bits b) (28 + x * 96) 23 4) → o'' ≡ sets o 0 (numbers_at (times n code) b 24)
unfolding size need flat decode
codes_taken b o o'' n e =
    rows_taken code b o o'' 24 23 n 96 refl refl
    (e ∙ strips_same n _ (λ (k : ℕ). numbers_at code b (24 + k * 96)) o 0 23 (λ k h. ap (λ (x : ℕ). run (bits b) x 23 4) (omega arith) ∙ sym (append-nil (run (bits b) (24 + k * 96 + 4) 23 4))))

pub codes_due : (l : List ℕ) (n : ℕ) (x y : Bool) (u v r : ℕ) → x ≡ every n (λ (k : ℕ). inside 15 15 (run l (24 + k * 96) 1 4)) → y ≡ every n (λ (k : ℕ). inside 0 9 (run l (28 + k * 96) 23 4))
    → Judged (passing (ones 4) x) u → Judged (passing (digits 23) y) v → r ≡ min u v → Judged (λ (a : ℕ). fine a (times n code) (decode (times n code) l 24)) r
unfolding size fine decode
codes_due l n x y u v r ex ey ju jv er =
    both (passing (ones 4) x) (passing (digits 23) y) _ u v r ju jv
    (λ a h.
    fine_rows a n code l 24
    ∙ every_and n (λ (k : ℕ). line_ok a (ones 4) (run l (24 + k * 96) 1 4)) (λ (k : ℕ). line_ok a (digits 23) (run l (24 + k * 96 + 4) 23 4) && true)
    ∙ ap₂ (λ (s t : Bool). s && t) (conds a 24 n (λ (k : ℕ). inside 15 15 (run l (24 + k * 96) 1 4)) ∙ ap (λ (z : Bool). cond (eqb 24 a) z true) (sym ex))
    (every_same n _ (λ (k : ℕ). cond (eqb 25 a) (inside 0 9 (run l (28 + k * 96) 23 4)) true) (λ k m. and-true _ ∙ ap (λ (z : ℕ). cond (eqb 25 a) (inside 0 9 (run l z 23 4)) true) (omega arith))
    ∙ conds a 25 n (λ (k : ℕ). inside 0 9 (run l (28 + k * 96) 23 4)) ∙ ap (λ (z : Bool). cond (eqb 25 a) z true) (sym ey)))
    er
  where
    conds : (a m n : ℕ) (f : ℕ → Bool) → every n (λ (k : ℕ). cond (eqb m a) (f k) true) ≡ cond (eqb m a) (every n f) true
    conds a m n f = by_test (eqb m a) (λ z. every_same n _ _ (λ k h. if_yes (f k) true z) ∙ sym (if_yes (every n f) true z)) (λ z. every_true n _ (λ k h. if_no (f k) true z) ∙ sym (if_no (every n f) true z))
