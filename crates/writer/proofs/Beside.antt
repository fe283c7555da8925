-- Columns put into bits, one beside the other: a piece a row, a line in all rows, all lines. Assumes nothing.
use mathlib.Core.Path.{◌≡◌, refl, sym, ap, ap₂, ◌∙◌}
use mathlib.Core.Bool.{true}
use mathlib.Core.List.{List, [], ◌++◌, append-nil}
use Prim.Native.Nat.{ℕ, zero, suc, ◌+◌, ◌*◌, ◌/◌, ◌%◌, ◌<◌, ◌≤◌}
use native.Mathlib.Nat.{mul_assoc, mul-le-mul_left}
use native.Mathlib.Numerals.{add-one}
use native.Mathlib.Omega.{arith}
use lib.ListN.{length, get_or, set, take, drop, length-drop, drop_of_length-le}
use lib.Bits.{and_mask}
use lib.Seq.{sets, drop-drop, drop-cons, length-take-le, take-add, get_or-take, get_or-drop}
use Rattle.laws.specs.Bits.{at, bits, bits_of, spread}
use Rattle.laws.proofs.Bits.{length_bits_of, under_bits_of, length_spread, spread_append}
use Rattle.laws.proofs.Cases.{if_yes}
use Rattle.laws.proofs.Writes.{join}
use Rattle.laws.specs.Strips.{strips}
use Rattle.laws.proofs.Strips.{row_below, strips_beside, strips_same, strips_whole, length_strips}
use Rattle.format.specs.declared.Line.{Line}
use Rattle.format.specs.Format.{own, size, need, encode, fill, times}
use Rattle.format.proofs.Halves.{odd_place, pairs_put, bits_set}
use Rattle.format.proofs.Within.{made, field_put}
use Rattle.packet.specs.declared.Lines.{Lines}
use Rattle.packet.specs.InCode.{lines_in}
use Rattle.packet.proofs.Loops.{lines_cons, need_turn}
use Rattle.writer.specs.Puts.{value_of, After, Rows, Filled}
use Rattle.writer.specs.declared.columns.Form.{Form}
use Rattle.writer.specs.declared.columns.Form.TheVariants as form
use Rattle.writer.specs.Forms.{Formed, Put}
use Rattle.writer.proofs.Line.{length_value}
use Rattle.writer.proofs.Rows.{encode_size}
use Rattle.writer.proofs.ByColumn.{rows_bits, column_at}

-- ---- numbers of a row
-- one
pub one_piece : (w : ℕ) (xs : List ℕ) (i : ℕ) → i < length xs → bits_of w (get_or xs i 0) ≡ spread w (take 1 (drop i xs))
unfolding spread
one_piece w xs i h = sym (rw (drop-cons xs i 0 h) (append-nil (bits_of w (get_or xs i 0))))

-- one in the low half of a byte
pub low_put : (o xs : List ℕ) (p i : ℕ) → p % 8 ≡ 4 → i < length xs → get_or o (p / 8) 0 < 256 → bits (set o (p / 8) (get_or o (p / 8) 0 / 16 * 16 + get_or xs i 0 % 16)) ≡ sets (bits o) p (spread 4 (take 1 (drop i xs)))
low_put o xs p i h l b =
    let k = p / 8 in
    let y = get_or o k 0 in
    let x = get_or xs i 0 in
    let q : k * 8 + 4 ≡ p = omega arith in
    let e : y / 16 * 16 + x % 16 ≡ at (sets (bits_of 8 y) 4 (bits_of 4 x)) 0 8 = omega (arith, (made y 4 4 x 15 0 (omega arith) b refl refl).is, and_mask x 4, and_mask y 0) in
    ap (λ (z : ℕ). bits (set o k z)) e
    ∙ field_put o k 4 (bits_of 4 x) (under_bits_of 4 x) (omega (arith, length_bits_of 4 x))
    ∙ ap₂ (λ (n : ℕ) (v : List ℕ). sets (bits o) n v) q (one_piece 4 xs i l)

-- half bytes, two to a byte
abbrev pub piece : ℕ → List ℕ → ℕ → List ℕ
piece m xs i = take (2 * m) (drop i xs)

pub piece_long : (m : ℕ) (xs : List ℕ) (i : ℕ) → i + 2 * m ≤ length xs → length (piece m xs i) ≡ 2 * m
piece_long m xs i h = length-take-le (2 * m) (drop i xs) (omega (arith, length-drop i xs))

pub pairs_turn : (o all xs : List ℕ) (k m i j at x y : ℕ) → i + 2 * m ≤ length xs → j < m → at ≡ i + 2 * j → x ≡ get_or xs at 0 → y ≡ get_or xs (at + 1) 0 → all ≡ sets (bits o) ((k + j) * 8) (spread 4 (drop (2 * j) (piece m xs i)))
    → all ≡ sets (bits (set o (k + j) (x % 16 * 16 + y % 16))) ((k + (j + 1)) * 8) (spread 4 (drop (2 * (j + 1)) (piece m xs i)))
pairs_turn o all xs k m i j at x y h l a f g e =
    let d = piece m xs i in
    let n = piece_long m xs i h in
    let u : get_or d (2 * j) 0 ≡ get_or xs at 0 = get_or-take (2 * m) (drop i xs) (2 * j) 0 (omega arith) ∙ get_or-drop i xs (2 * j) 0 ∙ ap (λ (z : ℕ). get_or xs z 0) (sym a) in
    let b : i + (2 * j + 1) ≡ at + 1 = omega arith in
    let v : get_or d (2 * j + 1) 0 ≡ get_or xs (at + 1) 0 = get_or-take (2 * m) (drop i xs) (2 * j + 1) 0 (omega arith) ∙ get_or-drop i xs (2 * j + 1) 0 ∙ ap (λ (z : ℕ). get_or xs z 0) b in
    let s : 2 * j + 2 ≡ 2 * (j + 1) = omega arith in
    pairs_put o d all k j (2 * j) x y (omega arith) (f ∙ sym u) (g ∙ sym v) e
    ∙ ap (λ (z : ℕ). sets (bits (set o (k + j) (x % 16 * 16 + y % 16))) ((k + (j + 1)) * 8) (spread 4 (drop z d))) s

-- an odd one by itself, then two a byte
pub halves_two : (xs z u r : List ℕ) (p n i : ℕ) → (p + 4 * n) % 8 ≡ 0 → i + n ≤ length xs → u ≡ sets z p (spread 4 (take (n % 2) (drop i xs))) → r ≡ sets u ((p / 8 + n % 2) * 8) (spread 4 (piece (n / 2) xs (i + n % 2)))
    → r ≡ sets z p (spread 4 (take n (drop i xs)))
halves_two xs z u r p n i h l e f =
    let d = drop i xs in
    let a = n % 2 in
    let b = 2 * (n / 2) in
    let la : length (take a d) ≡ a = length-take-le a d (omega (arith, length-drop i xs)) in
    let sa : length (spread 4 (take a d)) ≡ a * 4 = length_spread 4 (take a d) ∙ ap (λ (m : ℕ). m * 4) la in
    let s : a + b ≡ n = omega arith in
    join z u r (spread 4 (take a d)) (spread 4 (take b (drop a d))) p ((p / 8 + a) * 8) e (f ∙ ap (λ (y : List ℕ). sets u ((p / 8 + a) * 8) (spread 4 (take b y))) (sym (drop-drop a i xs))) (omega (arith, sa, odd_place p n h))
    ∙ ap (sets z p) (sym (spread_append 4 (take a d) (take b (drop a d))) ∙ ap (spread 4) (sym (take-add a b d) ∙ ap (λ (m : ℕ). take m d) s))

-- the numbers of a line that has its own
pub own_piece : (t : Line) (w : ℕ) (ys : List ℕ) → t.given ≡ true → t.width ≡ w → spread w (take t.count ys) ≡ spread t.width (value_of t ys)
own_piece t w ys g e = ap₂ spread (sym e) (sym (if_yes (take t.count ys) _ g))

-- ---- a column, r rows of it put
-- so many rows of at most k are at most so much
pub row_near : {k : ℕ} (s r : ℕ) → s ≤ k → r * s ≤ r * k
row_near s r h = mul-le-mul_left r h

-- rows of whole bytes: what ends at a byte's edge in one does in each
pub same_edge : (p s r q c : ℕ) → q ≡ p + r * s → (p + c) % 8 ≡ 0 → s % 8 ≡ 0 → (q + c) % 8 ≡ 0
same_edge p s r q c e h k =
    let x : s ≡ s / 8 * 8 = omega arith in
    let y : r * s ≡ r * (s / 8) * 8 = ap (λ (m : ℕ). r * m) x ∙ sym (mul_assoc r (s / 8) 8) in
    omega (arith, y)

pub strips_first : (l : List ℕ) (p s : ℕ) (f : ℕ → List ℕ) → l ≡ strips l p s 0 f
unfolding strips
strips_first l p s f = refl

pub strips_turn : (l o o'' v : List ℕ) (p s r q : ℕ) (f : ℕ → List ℕ) → o ≡ strips l p s r f → q ≡ p + r * s → v ≡ f r → o'' ≡ sets o q v → o'' ≡ strips l p s (r + 1) f
unfolding strips
strips_turn l o o'' v p s r q f e g h k = k ∙ rw (e, g, h, add-one)

pub strips_done : (l o : List ℕ) (p s n r : ℕ) (f : ℕ → List ℕ) → r ≤ n → n ≤ r → o ≡ strips l p s r f → o ≡ strips l p s n f
strips_done l o p s n r f h k e = let x : r ≡ n = omega arith in e ∙ ap (λ (m : ℕ). strips l p s m f) x

pub strips_long : (a b : List ℕ) (p s n : ℕ) (f : ℕ → List ℕ) → bits a ≡ strips (bits b) p s n f → length a ≡ length b
strips_long a b p s n f e = omega (arith, length_spread 8 a, length_spread 8 b, ap length e ∙ length_strips n f (bits b) p s)

-- ---- all lines, j of them put
pub record Going (out₀ : List ℕ) (p s n w : ℕ) (xs : List ℕ) (m : ℕ) (T : List Line) (out : List ℕ) (q i j : ℕ) : Type 0 where
  pub within : j ≤ m
  pub behind : p ≤ q
  pub kept : length out ≡ length out₀
  pub room : w ≡ i + need (drop j T)
  pub sizes : p + s ≡ q + size (drop j T)
  pub rest : strips (bits out₀) p s n (λ r. encode T (fill T (drop (r * w) xs))) ≡ strips (bits out) q s n (λ r. encode (drop j T) (fill (drop j T) (drop (i + r * w) xs)))

pub going_first : (out : List ℕ) (p : ℕ) (ts : Lines) (n s w : ℕ) (xs : List ℕ) → Rows ts n w xs p → size (lines_in ts) ≡ s → Going out p s n w xs ts.m (lines_in ts) out p 0 0
going_first out p ts n s w xs h e =
    let d = h.each in
    record {
      within = omega arith;
      behind = omega arith;
      kept = refl;
      room = omega arith;
      sizes = omega arith;
      rest = strips_same n _ _ (bits out) p s (λ r k. let i : r * w ≡ 0 + r * w = omega arith in ap (λ (m : ℕ). encode (lines_in ts) (fill (lines_in ts) (drop m xs))) i);
    }

module _ (T : List Line) (j : ℕ) (d t : Line) (h : j < length T) (e : t ≡ get_or T j d) where
  sized : size (drop j T) ≡ t.count * t.width + size (drop (j + 1) T)
  unfolding size
  sized = ap size (lines_cons T j d t h e)

  pub going_turn : (out₀ : List ℕ) (p s n w : ℕ) (xs : List ℕ) (m : ℕ) (out last : List ℕ) (q i a v : ℕ) → Filled t n w xs i → j < m → Going out₀ p s n w xs m T out q i j
      → bits last ≡ strips (bits out) q s n (λ r. spread t.width (value_of t (drop (i + r * w) xs))) → a ≡ t.count * t.width → v ≡ own t → Going out₀ p s n w xs m T last (q + a) (i + v) (j + 1)
  unfolding encode fill
  going_turn out₀ p s n w xs m out last q i a v c k g f ea ev =
      let nd = need_turn T j d t h e i w g.room in
      let sz = g.sizes in
      let R = drop (j + 1) T in
      let one : (r : ℕ) → r < n → length (spread t.width (value_of t (drop (i + r * w) xs))) ≡ a = λ r l.
      length_spread t.width (value_of t (drop (i + r * w) xs)) ∙ ap (λ (x : ℕ). x * t.width) (length_value t xs (i + r * w) (column_at t n w xs i c r l)) ∙ sym ea in
      let more : (r : ℕ) → r < n → a + length (encode R (fill R (drop (i + v + r * w) xs))) ≤ s = λ r l.
      let b : need R ≤ length (drop (i + v + r * w) xs) = omega (arith, length-drop (i + v + r * w) xs, row_below r n w l, c.numbers) in
      omega (arith, encode_size R (drop (i + v + r * w) xs) b, sized, g.behind) in
      record {
        within = omega arith;
        behind = let b = g.behind in omega arith;
        kept = strips_long last out q s n _ f ∙ g.kept;
        room = omega arith;
        sizes = omega (arith, sized);
        rest =
            g.rest
            ∙ strips_same n _ _ (bits out) q s (λ r l.
            let b : i + r * w + own t ≡ i + v + r * w = omega arith in
            ap (λ (ls : List Line). encode ls (fill ls (drop (i + r * w) xs))) (lines_cons T j d t h e)
            ∙ ap (λ (ys : List ℕ). spread t.width (value_of t (drop (i + r * w) xs)) ++ encode R (fill R ys)) (drop-drop (own t) (i + r * w) xs ∙ ap (λ (x : ℕ). drop x xs) b))
            ∙ sym (strips_beside n (λ r. spread t.width (value_of t (drop (i + r * w) xs))) (λ r. encode R (fill R (drop (i + v + r * w) xs))) (bits out) q a s one more)
            ∙ ap (λ (l : List ℕ). strips l (q + a) s n (λ r. encode R (fill R (drop (i + v + r * w) xs)))) (sym f);
      }

strips_none : (n : ℕ) (f : ℕ → List ℕ) (l : List ℕ) (p s : ℕ) → ((r : ℕ) → f r ≡ []) → strips l p s n f ≡ l
unfolding strips
strips_none zero f l p s e = refl
strips_none (suc n) f l p s e = rw (e n) (strips_none n f l p s e)

pub going_last : (out₀ : List ℕ) (p : ℕ) (ts : Lines) (n s w : ℕ) (xs out : List ℕ) (q i j : ℕ) → Rows ts n w xs p → size (lines_in ts) ≡ s → length (lines_in ts) ≤ j → Going out₀ p s n w xs ts.m (lines_in ts) out q i j
    → After out₀ out p (encode (times n (lines_in ts)) (fill (times n (lines_in ts)) xs)) (p + n * s) (n * size (lines_in ts))
unfolding encode
going_last out₀ p ts n s w xs out q i j h e l g =
    let T = lines_in ts in
    let d = h.each in
    let long : (r : ℕ) → r < n → length (encode T (fill T (drop (r * w) xs))) ≡ s = λ r k.
    encode_size T (drop (r * w) xs) (omega (arith, length-drop (r * w) xs, row_below r n w k, h.numbers)) ∙ e in
    record {
      put =
          sym (strips_none n (λ r. encode (drop j T) (fill (drop j T) (drop (i + r * w) xs))) (bits out) q s (λ r. rw (drop_of_length-le T {i = j} l)))
          ∙ sym g.rest
          ∙ strips_whole n (λ r. encode T (fill T (drop (r * w) xs))) (bits out₀) p s long
          ∙ ap (sets (bits out₀) p) (sym (rows_bits T w d n xs h.numbers));
      place = ap (λ (x : ℕ). p + n * x) (sym e);
    }

-- ---- a line in one of the rows that have it
pub put_there : (form : Form) (t : Line) (p s n r a b : ℕ) → Formed form t p s n a → r < n → b ≡ a → Put form t (p + r * s) b
put_there form.Halves t p s n r a b h k e =
    let room = h.room in
    let short = h.short in
    (h.own, h.half, same_edge p s r (p + r * s) (4 * t.count) refl h.edge h.whole, omega (arith, row_below r n s k))
put_there form.Octet t p s n r a b h k e =
    let room = h.room in
    let some = h.some in
    (h.own, h.octet.0, h.octet.1, whole h.edge h.whole, omega (arith, row_below r n s k))
  where
    whole : p % 8 ≡ 0 → s % 8 ≡ 0 → (p + r * s) % 8 ≡ 0
    whole x y = let z : (p + 0) % 8 ≡ 0 = omega (arith, x) in let w = same_edge p s r (p + r * s) 0 refl z y in omega (arith, w)
put_there form.Numbers t p s n r a b h k e = tt

-- a byte of it
pub octet_put : (out xs : List ℕ) (t : Line) (p i x : ℕ) → t.given ≡ true → t.width ≡ 8 → t.count ≡ 1 → p % 8 ≡ 0 → i < length xs → x ≡ get_or xs i 0 → x < 256 → bits (set out (p / 8) x) ≡ sets (bits out) p (spread t.width (value_of t (drop i xs)))
octet_put out xs t p i x g w n e h f b =
    let q : p / 8 * 8 ≡ p = omega arith in
    bits_set out (p / 8) x b
    ∙ ap₂ (λ (m : ℕ) (v : List ℕ). sets (bits out) m v) q
    (ap (bits_of 8) f ∙ one_piece 8 xs i h ∙ ap (λ (m : ℕ). spread 8 (take m (drop i xs))) (sym n) ∙ own_piece t 8 (drop i xs) g w)
