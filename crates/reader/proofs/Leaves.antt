-- The loops over half bytes, bytes and rows: a turn of each, and flags that a test puts down. Assumes nothing.
use mathlib.Core.Path.{◌≡◌, refl, sym, ap, ap₂, ◌∙◌}
use mathlib.Core.Bool.{Bool, true, false, cond, ◌&&◌, and-true, and-false, and_assoc}
use mathlib.Core.Logic.{◌⊎◌, ⊎_elim}
use mathlib.Core.List.{List, [], ◌∷◌, ◌++◌}
use Prim.Native.Nat.{ℕ, zero, suc, ◌+◌, ◌-◌, ◌*◌, ◌/◌, ◌%◌, ◌<◌, ◌≤◌}
use native.Mathlib.Nat.{mul_assoc}
use native.Mathlib.Numerals.{add-one}
use native.Mathlib.Omega.{arith}
use lib.ListN.{length, get_or, set, take, drop, length-drop, take-append-drop}
use lib.Seq.{sets, length-take-le}
use lib.Dec.{leb, eqb}
use borrow.Author.Tests.{le-leb, lt-leb, leb-true, leb-false, eq-eqb, ne_eqb, eqb-true, eqb-false}
use Rattle.laws.specs.Bits.{at, run, bits}
use Rattle.laws.specs.Strips.{strips, every}
use Rattle.laws.proofs.Bits.{Under, length_spread, spread_append, run_right, run_spread, under_drop}
use Rattle.laws.proofs.Cases.{if_yes, if_no, and_yes, and_no, and_both}
use Rattle.laws.proofs.ByteFields.{at_parts}
use Rattle.laws.proofs.Elements.{by_test}
use Rattle.laws.proofs.Strips.{strips_same, every_same}
use Rattle.format.specs.declared.Line.{Line}
use Rattle.format.specs.Format.{inside, own}
use Rattle.format.proofs.Sound.{sound_is}
use Rattle.packet.specs.Columns.{single, digits_line, octet_line, column}
use Rattle.reader.specs.Taking.{own_at, Digits, Octets, Each, Column}
use Rattle.format.proofs.Leaves.{store_more, inside_more}
use Rattle.format.proofs.Halves.{byte_at, high_half, low_half}

-- ---- a number tested by its two ends
pub within_yes : (h : Bool) (lo x hi : ℕ) → lo ≤ x → h ≡ leb x hi → h ≡ (leb lo x && leb x hi)
within_yes h lo x hi l e = e ∙ sym (and_yes (leb x hi) (le-leb lo x l))

pub within_no : (h : Bool) (lo x hi : ℕ) → x < lo → h ≡ leb lo x → h ≡ (leb lo x && leb x hi)
within_no h lo x hi l e = e ∙ lt-leb lo x l ∙ sym (and_no (leb x hi) (lt-leb lo x l))

pub inside_one : (lo hi x : ℕ) → inside lo hi (x ∷ []) ≡ (leb lo x && leb x hi)
unfolding inside
inside_one lo hi x = and-true (leb lo x && leb x hi)

-- the first j numbers of a run and one more
pub judged_more : (l : List ℕ) (g h : Bool) (lo hi p j w x : ℕ) → x ≡ at l (p + j * w) w → g ≡ inside lo hi (run l p j w) → h ≡ (leb lo x && leb x hi) → (g && h) ≡ inside lo hi (run l p (j + 1) w)
judged_more l g h lo hi p j w x e f k = ap₂ (λ (u v : Bool). u && v) f k ∙ sym (inside_more l p j w lo hi x e)

-- ---- the two halves of a byte
first_digit : (x : ℕ) (xs : List ℕ) → inside 0 9 (x ∷ xs) ≡ (leb x 9 && inside 0 9 xs)
unfolding inside
first_digit x xs = rw (le-leb 0 x (omega arith))

-- a half byte above 9 counts one more, a digit none
half_counted : (g u : ℕ) → u < 16 → eqb (g + (u + 6) / 16) 0 ≡ (eqb g 0 && leb u 9)
half_counted g u h =
    by_test (leb u 9)
    (λ t.
    let z : g + (u + 6) / 16 ≡ g = omega (arith, leb-true u 9 t) in
    ap (λ (n : ℕ). eqb n 0) z ∙ sym (and-true (eqb g 0)) ∙ ap (λ (y : Bool). eqb g 0 && y) (sym t))
    (λ t.
    ne_eqb (g + (u + 6) / 16) 0 (λ z. omega (arith, leb-false u 9 t, z))
    ∙ sym (and-false (eqb g 0)) ∙ ap (λ (y : Bool). eqb g 0 && y) (sym t))

module _ (b : List ℕ) (k j x : ℕ) (s : x < 256) (e : x ≡ get_or b (k + j) 0) where
  high_is : x / 16 ≡ at (bits b) (k * 8 + 2 * j * 4) 4
  high_is = let p : (k + j) * 8 ≡ k * 8 + 2 * j * 4 = omega arith in high_half b (k + j) x s e ∙ ap (λ (q : ℕ). at (bits b) q 4) p

  low_is : x % 16 ≡ at (bits b) (k * 8 + (2 * j + 1) * 4) 4
  low_is = let p : (k + j) * 8 + 4 ≡ k * 8 + (2 * j + 1) * 4 = omega arith in low_half b (k + j) x e ∙ ap (λ (q : ℕ). at (bits b) q 4) p

  two : 2 * j + 1 + 1 ≡ 2 * (j + 1)
  two = omega arith

  pub pair_stored : (o u : List ℕ) (to : ℕ) → u ≡ sets o to (run (bits b) (k * 8) (2 * j) 4) → set (set u (to + 2 * j) (x / 16)) (to + 2 * j + 1) (x % 16) ≡ sets o to (run (bits b) (k * 8) (2 * (j + 1)) 4)
  pair_stored o u to f =
      let v = set u (to + 2 * j) (x / 16) in
      let p : to + 2 * j + 1 ≡ to + (2 * j + 1) = omega arith in
      store_more (bits b) o v (set v (to + 2 * j + 1) (x % 16)) to (k * 8) (2 * j + 1) 4 (x % 16)
      (store_more (bits b) o u v to (k * 8) (2 * j) 4 (x / 16) f refl high_is)
      (ap (λ (n : ℕ). set v n (x % 16)) p) low_is
      ∙ ap (λ (n : ℕ). sets o to (run (bits b) (k * 8) n 4)) two

  pub pair_judged : (g h : Bool) → g ≡ inside 0 9 (run (bits b) (k * 8) (2 * j) 4) → h ≡ (leb (x / 16) 9 && leb (x % 16) 9) → (g && h) ≡ inside 0 9 (run (bits b) (k * 8) (2 * (j + 1)) 4)
  pair_judged g h f w =
      ap (λ (y : Bool). g && y) w
      ∙ sym (and_assoc g (leb (x / 16) 9) (leb (x % 16) 9))
      ∙ judged_more (bits b) (g && leb (x / 16) 9) (leb (x % 16) 9) 0 9 (k * 8) (2 * j + 1) 4 (x % 16) low_is
      (judged_more (bits b) g (leb (x / 16) 9) 0 9 (k * 8) (2 * j) 4 (x / 16) high_is f (above (x / 16)))
      (above (x % 16))
      ∙ ap (λ (n : ℕ). inside 0 9 (run (bits b) (k * 8) n 4)) two
    where
      above : (y : ℕ) → leb y 9 ≡ (leb 0 y && leb y 9)
      above y = sym (and_yes (leb y 9) (le-leb 0 y (omega arith)))

  pub pair_counted : (g : ℕ) → eqb g 0 ≡ inside 0 9 (run (bits b) (k * 8) (2 * j) 4) → eqb (g + ((x / 16 + 6) / 16 + (x % 16 + 6) / 16)) 0 ≡ inside 0 9 (run (bits b) (k * 8) (2 * (j + 1)) 4)
  pair_counted g f =
      let z : g + ((x / 16 + 6) / 16 + (x % 16 + 6) / 16) ≡ g + (x / 16 + 6) / 16 + (x % 16 + 6) / 16 = omega arith in
      ap (λ (n : ℕ). eqb n 0) z
      ∙ half_counted (g + (x / 16 + 6) / 16) (x % 16) (omega arith)
      ∙ ap (λ (y : Bool). y && leb (x % 16) 9) (half_counted g (x / 16) (omega (arith, s)))
      ∙ and_assoc (eqb g 0) (leb (x / 16) 9) (leb (x % 16) 9)
      ∙ pair_judged (eqb g 0) (leb (x / 16) 9 && leb (x % 16) 9) f refl

-- ---- a flag that a test puts down, or leaves
pub flagged : {A B : Type 0} (h g t : Bool) → (A → t ≡ false) → (B → t ≡ true) → (A × (h ≡ false)) ⊎ (B × (h ≡ g)) → h ≡ (g && t)
flagged h true t f e w = ⊎_elim (λ u. u.1 ∙ sym (f u.0)) (λ u. u.1 ∙ sym (e u.0)) w
flagged h false t f e w = ⊎_elim (λ u. u.1) (λ u. u.1) w

-- ---- a row more
pub strips_turn : (l o u v : List ℕ) (i w j to : ℕ) (f : ℕ → List ℕ) → o ≡ strips l i w j f → to ≡ i + j * w → u ≡ sets o to v → v ≡ f j → u ≡ strips l i w (j + 1) f
unfolding strips
strips_turn l o u v i w j to f e t g h = rw (add-one j) (g ∙ rw (e, t, h))

pub every_turn : (g h : Bool) (j : ℕ) (f : ℕ → Bool) (t : Bool) → g ≡ every j f → h ≡ (g && t) → t ≡ f j → h ≡ every (j + 1) f
unfolding every
every_turn g h j f t e u v = rw (add-one j) (u ∙ rw (e, v))

-- ---- the piece of a row
pub octet_piece : (b : List ℕ) (k s j x : ℕ) → x < 256 → x ≡ get_or b (k + j * s) 0 → x ∷ [] ≡ run (bits b) (k * 8 + j * (s * 8)) 1 8
unfolding run
octet_piece b k s j x h e =
    let p : (k + j * s) * 8 ≡ k * 8 + j * (s * 8) = omega (arith, mul_assoc j s 8) in
    ap (λ (y : ℕ). y ∷ []) (byte_at b (k + j * s) x h e ∙ ap (λ (q : ℕ). at (bits b) q 8) p)

-- a run of one number is tested at once
pub single_inside : (l : List ℕ) (lo hi p c w : ℕ) → c ≡ 1 → inside lo hi (run l p c w) ≡ (leb lo (at l p w) && leb (at l p w) hi)
unfolding run
single_inside l lo hi p c w e = rw e (inside_one lo hi (at l p w))

-- digits that end with byte e: where they are odd one by itself, then two a byte
pub digits_even : (l : List ℕ) (e c : ℕ) → c ≤ 2 * e → c % 2 ≡ 0 → run l ((e - c / 2) * 8) (2 * (c / 2)) 4 ≡ run l (e * 8 - c * 4) c 4
digits_even l e c h i =
    let p : (e - c / 2) * 8 ≡ e * 8 - c * 4 = omega arith in
    let n : 2 * (c / 2) ≡ c = omega arith in
    ap₂ (λ (u v : ℕ). run l u v 4) p n

module _ (b : List ℕ) (e c x : ℕ) (h : c ≤ 2 * e) (i : c % 2 ≡ 1) (g : x ≡ get_or b (e - c / 2 - 1) 0) where
  digits_odd : x % 16 ∷ run (bits b) ((e - c / 2) * 8) (2 * (c / 2)) 4 ≡ run (bits b) (e * 8 - c * 4) c 4
  unfolding run
  digits_odd =
      let p : e * 8 - c * 4 ≡ (e - c / 2 - 1) * 8 + 4 = omega arith in
      let q : (e - c / 2 - 1) * 8 + 4 + 4 ≡ (e - c / 2) * 8 = omega arith in
      let n : c ≡ suc (2 * (c / 2)) = omega arith in
      sym
      (ap₂ (λ (u v : ℕ). run (bits b) u v 4) p n
      ∙ ap₂ (λ (u v : ℕ). u ∷ run (bits b) v (2 * (c / 2)) 4) (sym (low_half b (e - c / 2 - 1) x g)) q)

  pub odd_stored : (o u : List ℕ) (to : ℕ) → u ≡ sets (set o to (x % 16)) (to + 1) (run (bits b) ((e - c / 2) * 8) (2 * (c / 2)) 4) → u ≡ sets o to (run (bits b) (e * 8 - c * 4) c 4)
  odd_stored o u to f = f ∙ ap (λ (n : ℕ). sets (set o to (x % 16)) n (run (bits b) ((e - c / 2) * 8) (2 * (c / 2)) 4)) (add-one to) ∙ ap (sets o to) digits_odd

  odd_first : (leb (x % 16) 9 && inside 0 9 (run (bits b) ((e - c / 2) * 8) (2 * (c / 2)) 4)) ≡ inside 0 9 (run (bits b) (e * 8 - c * 4) c 4)
  odd_first = sym (first_digit (x % 16) (run (bits b) ((e - c / 2) * 8) (2 * (c / 2)) 4)) ∙ ap (inside 0 9) digits_odd

  pub odd_over : 9 < x % 16 → false ≡ inside 0 9 (run (bits b) (e * 8 - c * 4) c 4)
  odd_over f = sym (and_no _ (lt-leb (x % 16) 9 f)) ∙ odd_first

  pub odd_fine : (r : Bool) → x % 16 ≤ 9 → r ≡ inside 0 9 (run (bits b) ((e - c / 2) * 8) (2 * (c / 2)) 4) → r ≡ inside 0 9 (run (bits b) (e * 8 - c * 4) c 4)
  odd_fine r f k = k ∙ sym (and_yes _ (le-leb (x % 16) 9 f)) ∙ odd_first

pub digits_place : (e c s j : ℕ) → c ≤ 2 * e → (e + j * s) * 8 - c * 4 ≡ e * 8 - c * 4 + j * (s * 8)
digits_place e c s j h = omega (arith, mul_assoc j s 8)

-- pieces that are empty
pub strips_none : (n : ℕ) (f : ℕ → List ℕ) (l : List ℕ) (i w : ℕ) → ((r : ℕ) → f r ≡ []) → strips l i w n f ≡ l
unfolding strips
strips_none zero f l i w e = refl
strips_none (suc n) f l i w e = ap (sets (strips l i w n f) (i + n * w)) (e n) ∙ strips_none n f l i w e

-- ---- what a line is that is taken by columns
pub same_is : (t : Line) → column t ≡ true → t.given ≡ false → t.count ≡ 1
same_is t e g = eqb-true t.count 1 (sym (if_no (cond (eqb t.width 4) (digits_line t) (octet_line t)) (single t) g) ∙ e)

pub digits_is : (t : Line) → column t ≡ true → t.given ≡ true → t.width ≡ 4 → (t.lo ≡ 0) × (t.hi ≡ 9)
digits_is t e g w =
    let d = sym (if_yes (digits_line t) (octet_line t) (eq-eqb t.width 4 w)) ∙ sym (if_yes (cond (eqb t.width 4) (digits_line t) (octet_line t)) (single t) g) ∙ e in
    let b = and_both (eqb t.lo 0) (eqb t.hi 9) (and_both (eqb t.lo 0 && eqb t.hi 9) (eqb t.answer 25) d).0 in
    (eqb-true t.lo 0 b.0, eqb-true t.hi 9 b.1)

pub record OctetLine (t : Line) : Type 0 where
  pub wide : t.width ≡ 8
  pub one : t.count ≡ 1
  pub least : t.lo ≤ 255
  pub most : t.hi ≤ 255

pub octet_is : (t : Line) → column t ≡ true → t.given ≡ true → (t.width ≡ 4 → ⊥) → OctetLine t
octet_is t e g w =
    let d = sym (if_no (digits_line t) (octet_line t) (ne_eqb t.width 4 w)) ∙ sym (if_yes (cond (eqb t.width 4) (digits_line t) (octet_line t)) (single t) g) ∙ e in
    let a = and_both (eqb t.width 8 && eqb t.count 1) (leb t.lo 255 && leb t.hi 255) d in
    let b = and_both (eqb t.width 8) (eqb t.count 1) a.0 in
    let f = and_both (leb t.lo 255) (leb t.hi 255) a.1 in
    record { wide = eqb-true t.width 8 b.0; one = eqb-true t.count 1 b.1; least = leb-true t.lo 255 f.0; most = leb-true t.hi 255 f.1 }

narrow_is : (t : Line) → column t ≡ true → t.given ≡ true → t.width ≤ 8
narrow_is t e g = by_test (eqb t.width 4) (λ x. omega (arith, eqb-true t.width 4 x)) (λ x. omega (arith, (octet_is t e g (eqb-false t.width 4 x)).wide))

module _ (t : Line) (bytes p s n places i w : ℕ) (c : Column t bytes p s n places i w) (g : t.given ≡ true) where
  own_is : own t ≡ t.count
  own_is = if_yes t.count 0 g

  pub column_digits : t.width ≡ 4 → (p + t.count * 4) % 8 ≡ 0 → Digits t.count bytes ((p + t.count * 4) / 8) s n places i w
  column_digits h d =
      let few = (sound_is t c.good).few in
      let area : t.count * t.width ≡ t.count * 4 = ap (λ (x : ℕ). t.count * x) h in
      record {
        enough = omega (arith, d);
        inside = λ k l. omega (arith, d, area, c.inside k l, mul_assoc k s 8);
        room = λ k l. omega (arith, own_is, c.room k l);
        near = omega (arith, few, c.near, mul_assoc n s 8);
        low = omega (arith, c.low);
      }

  pub column_octets : (t.width ≡ 4 → ⊥) → p % 8 ≡ 0 → Octets bytes (p / 8) s n places i w
  column_octets h e =
      let d = octet_is t c.fits g h in
      let area : t.count * t.width ≡ 8 = ap₂ (λ (x y : ℕ). x * y) d.one d.wide in
      record {
        inside = λ k l. omega (arith, e, area, c.inside k l, mul_assoc k s 8);
        room = λ k l. omega (arith, own_is, d.one, c.room k l);
        near = omega (arith, c.near, mul_assoc n s 8);
        low = omega (arith, c.low);
      }

  pub column_each : Each t p s n places i w
  column_each = record { few = (sound_is t c.good).few; narrow = narrow_is t c.fits g; room = λ k l. omega (arith, own_is, c.room k l); near = c.near; low = c.low }

-- ---- pieces and tests that are the line's
module _ (t : Line) (l : List ℕ) (p q c w : ℕ) (eq : q ≡ p) (ec : c ≡ t.count) (ew : w ≡ t.width) where
  pub line_pieces : (b o : List ℕ) (i d n s : ℕ) → t.given ≡ true → l ≡ bits b → strips o i d n (λ (k : ℕ). run l (q + k * s) c w) ≡ strips o i d n (λ (k : ℕ). own_at t b (p + k * s))
  line_pieces b o i d n s g e = strips_same n _ _ o i d (λ k h. rw (eq, ec, ew, e) (sym (if_yes (run (bits b) (p + k * s) t.count t.width) [] g)))

  pub line_tests : (lo hi n s : ℕ) → lo ≡ t.lo → hi ≡ t.hi → every n (λ (k : ℕ). inside lo hi (run l (q + k * s) c w)) ≡ every n (λ (k : ℕ). inside t.lo t.hi (run l (p + k * s) t.count t.width))
  line_tests lo hi n s el eh = every_same n _ _ (λ k h. rw (eq, ec, ew, el, eh))

-- four bytes are a number of 32 bits
pub four_bytes : (b : List ℕ) (k w x y z : ℕ) → w < 256 → x < 256 → y < 256 → z < 256 → w ≡ get_or b k 0 → x ≡ get_or b (k + 1) 0 → y ≡ get_or b (k + 2) 0 → z ≡ get_or b (k + 3) 0
    → w * 16777216 + x * 65536 + y * 256 + z ≡ at (bits b) (8 * k) 32
four_bytes b k w x y z hw hx hy hz ew ex ey ez =
    let l = bits b in
    let p = 8 * k in
    let place : (i q : ℕ) → q ≡ (k + i) * 8 → at l ((k + i) * 8) 8 ≡ at l q 8 = λ i q e. ap (λ (j : ℕ). at l j 8) (sym e) in
    let a : w ≡ at l p 8 = byte_at b k w hw ew ∙ ap (λ (j : ℕ). at l j 8) (omega arith) in
    let c : x ≡ at l (p + 8) 8 = byte_at b (k + 1) x hx ex ∙ place 1 (p + 8) (omega arith) in
    let d : y ≡ at l (p + 16) 8 = byte_at b (k + 2) y hy ey ∙ place 2 (p + 16) (omega arith) in
    let e : z ≡ at l (p + 24) 8 = byte_at b (k + 3) z hz ez ∙ place 3 (p + 24) (omega arith) in
    let two : at l p 16 ≡ at l p 8 * 256 + at l (p + 8) 8 = at_parts l p 8 8 in
    let three : at l p 24 ≡ at l p 16 * 256 + at l (p + 16) 8 = at_parts l p 16 8 in
    let four : at l p 32 ≡ at l p 24 * 256 + at l (p + 24) 8 = at_parts l p 24 8 in
    omega (arith, a, c, d, e, two, three, four)

-- the last bytes, as numbers of eight bits
pub octets_last : (b : List ℕ) (k : ℕ) → Under 256 b → k ≤ length b → run (bits b) (8 * k) (length b - k) 8 ≡ drop k b
octets_last b k u h =
    let v = bits (take k b) in
    let l = bits (drop k b) in
    let e : bits b ≡ v ++ l = ap bits (sym (take-append-drop k b)) ∙ spread_append 8 (take k b) (drop k b) in
    let p : 8 * k ≡ length v + 0 = omega (arith, length_spread 8 (take k b), length-take-le k b h) in
    ap₂ (λ (r : List ℕ) (q : ℕ). run r q (length b - k) 8) e p
    ∙ run_right v l 0 (length b - k) 8
    ∙ ap (λ (n : ℕ). run l 0 n 8) (sym (length-drop k b))
    ∙ run_spread 8 (drop k b) (under_drop 256 k b u)
