-- Numbers taken by lines: how the loop over lines of one number goes on, how wide numbers are, and what a content has of them. Assumes nothing.
use mathlib.Core.Path.{◌≡◌, refl, sym, ap, ap₂, ◌∙◌}
use mathlib.Core.List.{List, [], ◌∷◌, ◌++◌}
use mathlib.Core.Bool.{Bool, true, false, cond}
use Prim.Native.Nat.{ℕ, zero, suc, ◌+◌, ◌*◌, ◌-◌, ◌%◌, ◌^◌, ◌<◌, ◌≤◌}
use native.Mathlib.Nat.{pow-le-pow_right, lt_of_lt_of_le, mod-eq_of_lt, zero-mul}
use native.Mathlib.Numerals.{add-one}
use native.Mathlib.Omega.{arith}
use lib.Dec.{leb}
use lib.ListN.{length, get_or, drop, replicate, length-append, length-replicate, drop_of_length-le, take-append-drop, get_or-append}
use lib.Seq.{sets, drop-cons, drop_at}
use borrow.Author.Tests.{leb-true, lt-ltb}
use Rattle.laws.specs.Bits.{run, bits, Under}
use Rattle.laws.specs.Scan.{all}
use Rattle.laws.specs.Strips.{strips}
use Rattle.laws.proofs.Bits.{at_below, length_run, under_spread}
use Rattle.laws.proofs.Cases.{and_both}
use Rattle.laws.proofs.Elements.{by_test}
use Rattle.laws.proofs.Writes.{sets_append, from_front, join}
use Rattle.format.specs.declared.Line.{Line}
use Rattle.format.specs.Format.{own, size, need, decode, flat, sound}
use Rattle.format.proofs.Sound.{sound_is}
use Rattle.format.proofs.Tables.{flat_append, length_flat}
use Rattle.packet.specs.declared.Kind.{Kind}
use Rattle.packet.specs.declared.Content.{Content}
use Rattle.packet.specs.Table.{kinds, row_of, count_by}
use Rattle.packet.specs.Content.{Parts, content_of, numbers_in}
use Rattle.packet.specs.Reading.{is_unknown, numbers_at, zeros, padded}
use Rattle.packet.specs.InCode.{own_lines, own_of, beside_of, widths, room, cut, named_by}
use Rattle.packet.proofs.Each.{each_kind}
use Rattle.packet.proofs.Good.{good}
use Rattle.packet.proofs.Columns.{columned}
use Rattle.packet.proofs.Contents.{content_back, parts_back, listed, cut_at}
use Rattle.reader.specs.Taking.{own_at}

-- one row of pieces
pub once : (o : List ℕ) (i w : ℕ) (f : ℕ → List ℕ) → strips o i w 1 f ≡ sets o i (f 0)
unfolding strips
once o i w f = ap (λ (x : ℕ). sets o x (f 0)) (omega (arith, zero-mul w))

-- ---- lines taken one after the other
pub length_own : (t : Line) (b : List ℕ) (p : ℕ) → length (own_at t b p) ≡ own t
length_own t b p = part t.given refl
  where
    part : (x : Bool) → t.given ≡ x → length (own_at t b p) ≡ own t
    part true e = rw e (length_run (bits b) p t.count t.width)
    part false e = rw e

pub own_few : (t : Line) → sound t ≡ true → own t ≤ 64
own_few t s = part t.given refl
  where
    part : (x : Bool) → t.given ≡ x → own t ≤ 64
    part true e = rw e (sound_is t s).few
    part false e = rw e (omega arith)

module _ (T : List Line) (j : ℕ) (d t : Line) (h : j < length T) (e : t ≡ get_or T j d) where
  pub taken_turn : (b o o'' whole : List ℕ) (q i r : ℕ) → whole ≡ sets o i (numbers_at (drop j T) b q) → o'' ≡ sets o i (own_at t b q) → r ≡ i + own t
      → whole ≡ sets o'' r (numbers_at (drop (j + 1) T) b (q + t.count * t.width))
  unfolding flat decode
  taken_turn b o o'' whole q i r f g k =
      let rest = numbers_at (drop (j + 1) T) b (q + t.count * t.width) in
      let c : drop j T ≡ t ∷ drop (j + 1) T = rw (drop-cons T j d h, add-one, e) in
      let s : numbers_at (drop j T) b q ≡ own_at t b q ++ rest = ap (λ (ts : List Line). numbers_at ts b q) c in
      let m : i + length (own_at t b q) ≡ r = omega (arith, length_own t b q) in
      f ∙ ap (sets o i) s ∙ sets_append (own_at t b q) rest o i ∙ ap₂ (λ (l : List ℕ) (x : ℕ). sets l x rest) (sym g) m

pub taken_end : (T : List Line) (j : ℕ) (b o whole : List ℕ) (q i : ℕ) → length T ≤ j → whole ≡ sets o i (numbers_at (drop j T) b q) → o ≡ whole
unfolding flat decode
taken_end T j b o whole q i h f = sym (f ∙ rw (drop_of_length-le T h))

-- ---- how wide
run_held : (l : List ℕ) (p n w : ℕ) → Under 2 l → (i : ℕ) → get_or (run l p n w) i 0 < 2 ^ get_or (replicate n w) i 0
unfolding run
run_held l p zero w u i = omega arith
run_held l p (suc n) w u zero = at_below l p w u
run_held l p (suc n) w u (suc i) = run_held l (p + w) n w u i

held_append : (xs ys vs ws : List ℕ) → length xs ≡ length vs → ((i : ℕ) → get_or xs i 0 < 2 ^ get_or vs i 0) → ((i : ℕ) → get_or ys i 0 < 2 ^ get_or ws i 0)
    → (i : ℕ) → get_or (xs ++ ys) i 0 < 2 ^ get_or (vs ++ ws) i 0
held_append [] ys [] ws n h k i = k i
held_append [] ys (v ∷ vs) ws n h k i = absurd (omega arith)
held_append (x ∷ xs) ys [] ws n h k i = absurd (omega arith)
held_append (x ∷ xs) ys (v ∷ vs) ws n h k zero = h 0
held_append (x ∷ xs) ys (v ∷ vs) ws n h k (suc i) = held_append xs ys vs ws (omega arith) (λ j. h (suc j)) k i

-- numbers of which none has more bits than its line says
abbrev Held : List Line → List ℕ → Type 0
Held ts xs = (i : ℕ) → get_or xs i 0 < 2 ^ get_or (widths ts) i 0

abbrev widths_of : Line → List ℕ
widths_of t = cond t.given (replicate t.count t.width) []

-- the numbers of lines have no more bits than the lines say
pub held_at : (ts : List Line) (b : List ℕ) (p : ℕ) → Held ts (numbers_at ts b p)
unfolding flat decode widths
held_at [] b p i = omega arith
held_at (t ∷ ts) b p i =
    held_append (own_at t b p) (numbers_at ts b (p + t.count * t.width)) (widths_of t) (widths ts) (long t.given refl) (line t.given refl) (held_at ts b (p + t.count * t.width)) i
  where
    long : (x : Bool) → t.given ≡ x → length (own_at t b p) ≡ length (widths_of t)
    long true e = rw e (length_run (bits b) p t.count t.width ∙ sym (length-replicate t.count t.width))
    long false e = rw e

    line : (x : Bool) → t.given ≡ x → (j : ℕ) → get_or (own_at t b p) j 0 < 2 ^ get_or (widths_of t) j 0
    line true e j = rw e (run_held (bits b) p t.count t.width (under_spread 8 b) j)
    line false e j = rw e (omega arith)

length_widths : (ts : List Line) → length (widths ts) ≡ need ts
unfolding widths need
length_widths [] = refl
length_widths (t ∷ ts) = length-append (widths_of t) (widths ts) ∙ ap₂ ◌+◌ (line t.given refl) (length_widths ts)
  where
    line : (x : Bool) → t.given ≡ x → length (widths_of t) ≡ own t
    line true e = rw e (length-replicate t.count t.width)
    line false e = rw e

-- ---- what a computed test finds of every kind: its numbers have two bytes at most
abbrev of_word : ℕ → Bool
of_word w = leb w 16

all_fit : all (λ (f : Kind). all of_word (widths (row_of f).before)) kinds ≡ true
unfolding widths
all_fit = refl

roomy : (w x : ℕ) → w ≤ 16 → x < 2 ^ w → x < room w
roomy w x l h = by_test (leb w 8) (λ e. rw e (lt_of_lt_of_le h (pow-le-pow_right (omega arith) (leb-true w 8 e)))) (λ e. rw e (lt_of_lt_of_le h (pow-le-pow_right (omega arith) l)))

word_at : (ws : List ℕ) (i : ℕ) → all of_word ws ≡ true → get_or ws i 0 ≤ 16
word_at [] i h = omega arith
word_at (w ∷ ws) zero h = leb-true w 16 (and_both (of_word w) (all of_word ws) h).0
word_at (w ∷ ws) (suc i) h = word_at ws i (and_both (of_word w) (all of_word ws) h).1

-- ---- numbers, then zeros
padded_is : (m : ℕ) (xs : List ℕ) → length xs ≤ m → padded m xs ≡ xs ++ drop (length xs) (replicate m 0)
unfolding zeros
padded_is m xs h =
    let z : List ℕ = replicate m 0 in
    let k : length z ≡ m = length-replicate m 0 in
    from_front xs z (omega arith)

-- ---- a content by its numbers: those that its own lines have, then zeros
listed_same : (n i : ℕ) (xs ys : List ℕ) → ((j : ℕ) → j < i + n → get_or xs j 0 ≡ get_or ys j 0) → listed n i xs ≡ listed n i ys
listed_same zero i xs ys e = refl
listed_same (suc n) i xs ys e = ap₂ (λ (x : ℕ) (l : List ℕ). x ∷ l) (e i (omega arith)) (listed_same n (suc i) xs ys (λ j h. e j (omega arith)))

-- a content is of the numbers that its kind has
content_same : (f : Kind) (xs ys : List ℕ) (k : ℕ) → is_unknown f ≡ false → listed (numbers_in f) 0 xs ≡ listed (numbers_in f) 0 ys → content_of f xs k ≡ content_of f ys k
content_same f xs ys k u e =
    sym (content_back (content_of f xs k) [] [])
    ∙ ap made (parts_back f xs k u ∙ ap (λ (l : List ℕ). record { kind = f; numbers = l; count = count_by (row_of f).counting k 0 }) e ∙ sym (parts_back f ys k u))
    ∙ content_back (content_of f ys k) [] []
  where
    made : Parts → Content
    made p = content_of p.kind (p.numbers ++ []) (count_by (row_of p.kind).counting p.count 0)

module _ (f : Kind) (b : List ℕ) (q : ℕ) where
  abbrev first : List ℕ
  first = numbers_at (row_of f).before b q

  abbrev mine : List ℕ
  mine = numbers_at (own_of f) b q

  abbrev behind : List ℕ
  behind = numbers_at (beside_of f) b (q + size (own_of f))

  long_first : length first ≡ need (row_of f).before
  long_first = length_flat (row_of f).before (bits b) q

  long_mine : length mine ≡ numbers_in f
  long_mine = length_flat (own_of f) (bits b) q ∙ (columned f).numbers

  split : first ≡ mine ++ behind
  split = ap (λ (ts : List Line). numbers_at ts b q) (sym (take-append-drop (own_lines f) (row_of f).before)) ∙ flat_append (own_of f) (beside_of f) (bits b) q

  pub content_named : (xs : List ℕ) (k : ℕ) → is_unknown f ≡ false → xs ≡ padded 6 mine → named_by f xs k ≡ content_of f first k
  content_named xs k u e = content_same f (cut ws xs) first k u (listed_same (numbers_in f) 0 (cut ws xs) first at)
    where
      ws : List ℕ
      ws = widths (row_of f).before

      at : (i : ℕ) → i < 0 + numbers_in f → get_or (cut ws xs) i 0 ≡ get_or first i 0
      at i h =
          let n : i < length ws = omega (arith, length_widths (row_of f).before, (good f).numbered) in
          let x : get_or xs i 0 ≡ get_or first i 0 =
          ap (λ (l : List ℕ). get_or l i 0) (e ∙ padded_is 6 mine (omega (arith, long_mine, (good f).few)))
          ∙ get_or-append mine (drop (length mine) (replicate 6 0)) 0 i (omega (arith, long_mine))
          ∙ sym (ap (λ (l : List ℕ). get_or l i 0) split ∙ get_or-append mine behind 0 i (omega (arith, long_mine)))
          in
          cut_at ws xs i (lt-ltb i (length ws) n)
          ∙ ap (λ (y : ℕ). y % room (get_or ws i 0)) x
          ∙ mod-eq_of_lt (roomy (get_or ws i 0) (get_or first i 0) (word_at ws i (each_kind (λ (g : Kind). all of_word (widths (row_of g).before)) all_fit f)) (held_at (row_of f).before b q i))

  -- the digits beside it: two writes, one behind the other, by the lines that code has for them
  pub digits_joined : (N A : List Line) (o o₁ o₂ : List ℕ) (p w x v y i r : ℕ) → N ≡ beside_of f → A ≡ (row_of f).after → o ≡ zeros 35 → p ≡ q + size (own_of f) → i ≡ need (row_of f).before - numbers_in f
      → o₁ ≡ strips o 0 w 1 (λ (n : ℕ). numbers_at N b (p + n * x)) → o₂ ≡ strips o₁ i v 1 (λ (n : ℕ). numbers_at A b (r + n * y)) → o₂ ≡ padded 35 (drop (numbers_in f) first ++ numbers_at (row_of f).after b r)
  digits_joined N A o o₁ o₂ p w x v y i r en ea eo ep ei e g =
      let last = numbers_at (row_of f).after b r in
      let at : p + 0 * x ≡ q + size (own_of f) = omega (arith, ep, zero-mul x) in
      let also : r + 0 * y ≡ r = omega (arith, zero-mul y) in
      let one : o₁ ≡ sets (zeros 35) 0 behind = e ∙ once o 0 w _ ∙ rw (en, eo, at) in
      let two : o₂ ≡ sets o₁ i last = g ∙ once o₁ i v _ ∙ rw (ea, also) in
      let long : i ≡ 0 + length behind = omega (arith, ei, ap length split ∙ length-append mine behind, long_first, long_mine) in
      join (zeros 35) o₁ o₂ behind last 0 i one two long ∙ ap (λ (l : List ℕ). padded 35 (l ++ last)) (sym (ap (drop (numbers_in f)) split ∙ drop_at mine behind (numbers_in f) long_mine))
