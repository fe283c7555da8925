-- A number within a byte: what a byte holds of it, and a byte put with it. Assumes nothing.
use mathlib.Core.Path.{◌≡◌, refl, sym, ap, ap₂, ◌∙◌}
use mathlib.Core.List.{List, [], ◌∷◌, ◌++◌}
use Prim.Native.Nat.{ℕ, zero, suc, ◌+◌, ◌*◌, ◌/◌, ◌%◌, ◌-◌, ◌^◌, ◌<◌, ◌≤◌}
use native.Mathlib.Omega.{arith}
use lib.ListN.{length, get_or, set, take, drop, length-append, take-append-drop}
use lib.Seq.{sets, sets-eq, length-sets, length-take-le, take_all, set-append_left}
use lib.Bits.{bit_and, and_mask}
use lib.Pow.{pow_mono, shr_mod, shr_lt, shl_exact}
use Rattle.laws.specs.Bits.{at, bits_of, spread, bits}
use Rattle.laws.proofs.Bits.{Under, length_bits_of, at_left, at_right, bits_at, at_below, under_bits_of}
use Rattle.laws.proofs.ByteFields.{at_byte, at_parts}
use Rattle.laws.proofs.Words.{at_within}

-- ---- reading
pub read_within : (b : List ℕ) (p w x r : ℕ) → p % 8 + w ≤ 8 → x ≡ get_or b (p / 8) 0 → r ≡ x / 2 ^ (8 - (p % 8 + w)) % 2 ^ w → r ≡ at (bits b) p w
read_within b p w x r h e f =
    let q : p / 8 * 8 + p % 8 ≡ p = omega arith in
    f ∙ ap (λ (y : ℕ). y / 2 ^ (8 - (p % 8 + w)) % 2 ^ w) e ∙ sym (at_byte b (p / 8) (p % 8) w h) ∙ ap (λ (n : ℕ). at (bits b) n w) q

-- ---- lists whose elements are small
under_set : (k : ℕ) (l : List ℕ) (i v : ℕ) → Under k l → v < k → Under k (set l i v)
under_set k [] i v u h j = u j
under_set k (x ∷ l) zero v u h zero = h
under_set k (x ∷ l) zero v u h (suc j) = u (suc j)
under_set k (x ∷ l) (suc i) v u h zero = u 0
under_set k (x ∷ l) (suc i) v u h (suc j) = under_set k l i v (λ n. u (suc n)) h j

under_sets : (k : ℕ) (l : List ℕ) (i : ℕ) (v : List ℕ) → Under k l → Under k v → Under k (sets l i v)
under_sets k l i [] u h = u
under_sets k l i (x ∷ v) u h = under_sets k (set l i x) (suc i) v (under_set k l i x u (h 0)) (λ n. h (suc n))

-- ---- a byte's bits with w others from bit i on
module _ (z i w v : ℕ) (h : i + w ≤ 8) where
  before : length (take i (bits_of 8 z)) ≡ i
  before = length-take-le i (bits_of 8 z) (omega (arith, length_bits_of 8 z))

  until : length (take i (bits_of 8 z) ++ bits_of w v) ≡ i + w
  until = length-append (take i (bits_of 8 z)) (bits_of w v) ∙ omega (arith, before, length_bits_of w v)

  parted : sets (bits_of 8 z) i (bits_of w v) ≡ (take i (bits_of 8 z) ++ bits_of w v) ++ drop (i + w) (bits_of 8 z)
  parted =
      sets-eq (bits_of w v) (bits_of 8 z) i (omega (arith, length_bits_of w v, length_bits_of 8 z))
      ∙ ap (λ (n : ℕ). (take i (bits_of 8 z) ++ bits_of w v) ++ drop (i + n) (bits_of 8 z)) (length_bits_of w v)

  high_part : at (sets (bits_of 8 z) i (bits_of w v)) 0 i ≡ z / 2 ^ (8 - i) % 2 ^ i
  high_part =
      ap (λ (l : List ℕ). at l 0 i) parted
      ∙ at_left (take i (bits_of 8 z) ++ bits_of w v) (drop (i + w) (bits_of 8 z)) 0 i (omega (arith, until))
      ∙ at_left (take i (bits_of 8 z)) (bits_of w v) 0 i (omega (arith, before))
      ∙ sym (at_left (take i (bits_of 8 z)) (drop i (bits_of 8 z)) 0 i (omega (arith, before)))
      ∙ ap (λ (l : List ℕ). at l 0 i) (take-append-drop i (bits_of 8 z))
      ∙ at_within 8 z 0 i (omega arith)
      ∙ ap (λ (n : ℕ). z / 2 ^ (8 - n) % 2 ^ i) (omega arith)

  middle_part : at (sets (bits_of 8 z) i (bits_of w v)) i w ≡ v % 2 ^ w
  middle_part =
      let e : w - (0 + w) ≡ 0 = omega arith in
      ap (λ (l : List ℕ). at l i w) parted
      ∙ at_left (take i (bits_of 8 z) ++ bits_of w v) (drop (i + w) (bits_of 8 z)) i w (omega (arith, until))
      ∙ ap (λ (n : ℕ). at (take i (bits_of 8 z) ++ bits_of w v) n w) (omega (arith, before))
      ∙ at_right (take i (bits_of 8 z)) (bits_of w v) 0 w
      ∙ at_within w v 0 w (omega arith)
      ∙ ap (λ (n : ℕ). v / 2 ^ n % 2 ^ w) e
      ∙ ap (λ (n : ℕ). n % 2 ^ w) (omega arith)

  low_part : at (sets (bits_of 8 z) i (bits_of w v)) (i + w) (8 - (i + w)) ≡ z % 2 ^ (8 - (i + w))
  low_part =
      let s = 8 - (i + w) in
      let u : length (take (i + w) (bits_of 8 z)) ≡ i + w = length-take-le (i + w) (bits_of 8 z) (omega (arith, length_bits_of 8 z)) in
      let e : 8 - (i + w + s) ≡ 0 = omega arith in
      ap (λ (l : List ℕ). at l (i + w) s) parted
      ∙ ap (λ (n : ℕ). at ((take i (bits_of 8 z) ++ bits_of w v) ++ drop (i + w) (bits_of 8 z)) n s) (omega (arith, until))
      ∙ at_right (take i (bits_of 8 z) ++ bits_of w v) (drop (i + w) (bits_of 8 z)) 0 s
      ∙ sym (at_right (take (i + w) (bits_of 8 z)) (drop (i + w) (bits_of 8 z)) 0 s)
      ∙ ap₂ (λ (l : List ℕ) (n : ℕ). at l n s) (take-append-drop (i + w) (bits_of 8 z)) (omega (arith, u))
      ∙ at_within 8 z (i + w) s (omega arith)
      ∙ ap (λ (n : ℕ). z / 2 ^ n % 2 ^ s) e
      ∙ ap (λ (n : ℕ). n % 2 ^ s) (omega arith)

  upper : z < 256 → at (sets (bits_of 8 z) i (bits_of w v)) 0 (i + w) ≡ z / 2 ^ (8 - i) * 2 ^ w + v % 2 ^ w
  upper k =
      let L = sets (bits_of 8 z) i (bits_of w v) in
      let f : i + (8 - i) ≡ 8 = omega arith in
      let g : z < 2 ^ (i + (8 - i)) = rw f k in
      let m : at L (0 + i) w ≡ at L i w = ap (λ (n : ℕ). at L n w) (omega arith) in
      at_parts L 0 i w ∙ ap₂ (λ (x y : ℕ). x * 2 ^ w + y) (high_part ∙ shr_mod i (8 - i) g) (m ∙ middle_part)

  put_together : z < 256 → (z / 2 ^ (8 - i) * 2 ^ w + v % 2 ^ w) * 2 ^ (8 - (i + w)) + z % 2 ^ (8 - (i + w)) ≡ at (sets (bits_of 8 z) i (bits_of w v)) 0 8
  put_together k =
      let s = 8 - (i + w) in
      let L = sets (bits_of 8 z) i (bits_of w v) in
      let e : i + w + s ≡ 8 = omega arith in
      let n : at L (0 + (i + w)) s ≡ at L (i + w) s = ap (λ (n : ℕ). at L n s) (omega arith) in
      sym (ap (λ (n : ℕ). at L 0 n) (sym e) ∙ at_parts L 0 (i + w) s ∙ ap₂ (λ (x y : ℕ). x * 2 ^ s + y) (upper k) (n ∙ low_part))

  bits_small : Under 2 (sets (bits_of 8 z) i (bits_of w v))
  bits_small = under_sets 2 (bits_of 8 z) i (bits_of w v) (under_bits_of 8 z) (under_bits_of w v)

-- what the code makes of it with masks and shifts, and that it fits
pub record Made (z i w v m n : ℕ) : Type 0 where
  pub upper_fits : z / 2 ^ (8 - i) * 2 ^ w % 4294967296 + bit_and v m < 4294967296
  pub is : (z / 2 ^ (8 - i) * 2 ^ w % 4294967296 + bit_and v m) * 2 ^ (8 - (i + w)) % 4294967296 + bit_and z n ≡ at (sets (bits_of 8 z) i (bits_of w v)) 0 8
  pub fits : (z / 2 ^ (8 - i) * 2 ^ w % 4294967296 + bit_and v m) * 2 ^ (8 - (i + w)) % 4294967296 + bit_and z n < 256

pub made : (z i w v m n : ℕ) → i + w ≤ 8 → z < 256 → m ≡ 2 ^ w - 1 → n ≡ 2 ^ (8 - (i + w)) - 1 → Made z i w v m n
made z i w v m n h k e f =
    let s = 8 - (i + w) in
    let L = sets (bits_of 8 z) i (bits_of w v) in
    let a = z / 2 ^ (8 - i) in
    let g : i + (8 - i) ≡ 8 = omega arith in
    let y : z < 2 ^ (i + (8 - i)) = rw g k in
    let p : a * 2 ^ w % 4294967296 ≡ a * 2 ^ w = shl_exact i w 32 (shr_lt i (8 - i) y) (omega arith) in
    let q : bit_and v m ≡ v % 2 ^ w = ap (bit_and v) e ∙ and_mask v w in
    let r : bit_and z n ≡ z % 2 ^ s = ap (bit_and z) f ∙ and_mask z s in
    let u : a * 2 ^ w % 4294967296 + bit_and v m ≡ at L 0 (i + w) = ap₂ (λ (x y : ℕ). x + y) p q ∙ sym (upper z i w v h k) in
    let b : at L 0 (i + w) < 2 ^ (i + w) = at_below L 0 (i + w) (bits_small z i w v h) in
    let c : 2 ^ (i + w) ≤ 256 = pow_mono h in
    let t : at L 0 (i + w) * 2 ^ s % 4294967296 ≡ at L 0 (i + w) * 2 ^ s = shl_exact (i + w) s 32 b (omega arith) in
    let j : (a * 2 ^ w % 4294967296 + bit_and v m) * 2 ^ s % 4294967296 + bit_and z n ≡ at L 0 8 = ap₂ (λ (x y : ℕ). x * 2 ^ s % 4294967296 + y) u r ∙ ap (λ (x : ℕ). x + z % 2 ^ s) (t ∙ ap (λ (x : ℕ). x * 2 ^ s) (upper z i w v h k)) ∙ put_together z i w v h k in
    record {
      upper_fits = omega (arith, u, b, c);
      is = j;
      fits = rw j (at_below L 0 8 (bits_small z i w v h));
    }

-- the mask of k bits
pub ones_are : (k : ℕ) → k ≤ 8 → 1 * 2 ^ k % 4294967296 ≡ 2 ^ k
ones_are k h = shl_exact 1 k 32 (omega arith) (omega arith) ∙ omega arith

-- ---- a byte put in its place
sets_nil : (i : ℕ) (v : List ℕ) → sets [] i v ≡ []
sets_nil i [] = refl
sets_nil i (x ∷ v) = sets_nil (suc i) v

sets_left : (u l : List ℕ) (i : ℕ) (v : List ℕ) → i + length v ≤ length u → sets (u ++ l) i v ≡ sets u i v ++ l
sets_left u l i [] h = refl
sets_left u l i (x ∷ v) h =
    ap (λ (o : List ℕ). sets o (suc i) v) (set-append_left u l i x (omega arith))
    ∙ sets_left (set u i x) l (suc i) v (omega (arith, length-sets u i (x ∷ [])))

set_right : (u l : List ℕ) (i x : ℕ) → set (u ++ l) (length u + i) x ≡ u ++ set l i x
set_right [] l i x = ap (λ (m : ℕ). set l m x) (omega arith)
set_right (y ∷ u) l i x = let e : suc (length u) + i ≡ suc (length u + i) = omega arith in rw e (ap (λ (t : List ℕ). y ∷ t) (set_right u l i x))

sets_right : (u l : List ℕ) (i : ℕ) (v : List ℕ) → sets (u ++ l) (length u + i) v ≡ u ++ sets l i v
sets_right u l i [] = refl
sets_right u l i (x ∷ v) =
    let e : suc (length u + i) ≡ length u + suc i = omega arith in
    ap₂ (λ (o : List ℕ) (n : ℕ). sets o n v) (set_right u l i x) e ∙ sets_right u (set l i x) (suc i) v

-- a byte put with some of its bits changed puts these bits
pub field_put : (b : List ℕ) (k i : ℕ) (v : List ℕ) → Under 2 v → i + length v ≤ 8 → bits (set b k (at (sets (bits_of 8 (get_or b k 0)) i v) 0 8)) ≡ sets (bits b) (k * 8 + i) v
unfolding spread
field_put [] k i v u h = sym (sets_nil (k * 8 + i) v)
field_put (x ∷ b) zero i v u h =
    let l = sets (bits_of 8 x) i v in
    let n : length l ≡ 8 = length-sets (bits_of 8 x) i v ∙ length_bits_of 8 x in
    let e : bits_of 8 (at l 0 8) ≡ l = bits_at l 0 8 (under_sets 2 (bits_of 8 x) i v (under_bits_of 8 x) u) (omega arith) ∙ take_all 8 l (omega arith) in
    let z : 0 * 8 + i ≡ i = omega arith in
    rw (e, z) (sym (sets_left (bits_of 8 x) (spread 8 b) i v (omega (arith, length_bits_of 8 x))))
field_put (x ∷ b) (suc k) i v u h =
    let z : suc k * 8 + i ≡ length (bits_of 8 x) + (k * 8 + i) = omega (arith, length_bits_of 8 x) in
    rw z (ap (λ (t : List ℕ). bits_of 8 x ++ t) (field_put b k i v u h) ∙ sym (sets_right (bits_of 8 x) (spread 8 b) (k * 8 + i) v))
