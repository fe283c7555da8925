-- Half bytes, two to a byte, and whole bytes: how the loops over them go on and end. Assumes nothing.
use mathlib.Core.Path.{◌≡◌, refl, sym, ap, ap₂, ◌∙◌}
use mathlib.Core.Bool.{◌&&◌, and_assoc}
use mathlib.Core.List.{List, [], ◌∷◌, ◌++◌, append-nil}
use Prim.Native.Nat.{ℕ, suc, ◌+◌, ◌*◌, ◌/◌, ◌%◌, ◌-◌, ◌<◌}
use native.Mathlib.Omega.{arith}
use lib.ListN.{length, get_or, set, drop, drop_of_length-le}
use lib.Seq.{sets}
use lib.Dec.{leb}
use Rattle.laws.specs.Bits.{at, bits_of, run, spread, bits}
use Rattle.laws.proofs.Bits.{Under, length_bits_of, at_bits, under_bits_of}
use Rattle.laws.proofs.ByteFields.{at_byte}
use Rattle.laws.proofs.Words.{bits_join}
use Rattle.laws.proofs.Writes.{from_front, sets_append}
use Rattle.format.specs.Format.{inside}
use Rattle.format.proofs.Leaves.{run_step, store_turn, spread_turn}
use Rattle.format.proofs.Parts.{bits_low}
use Rattle.format.proofs.Within.{field_put}

-- ---- a byte and its halves
pub byte_at : (b : List ℕ) (k x : ℕ) → x < 256 → x ≡ get_or b k 0 → x ≡ at (bits b) (k * 8) 8
byte_at b k x h e =
    let z : at (bits b) (k * 8 + 0) 8 ≡ at (bits b) (k * 8) 8 = ap (λ (n : ℕ). at (bits b) n 8) (omega arith) in
    omega (arith, z, e, at_byte b k 0 8 (omega arith))

pub high_half : (b : List ℕ) (k x : ℕ) → x < 256 → x ≡ get_or b k 0 → x / 16 ≡ at (bits b) (k * 8) 4
high_half b k x h e =
    let z : at (bits b) (k * 8 + 0) 4 ≡ at (bits b) (k * 8) 4 = ap (λ (n : ℕ). at (bits b) n 4) (omega arith) in
    omega (arith, z, e, at_byte b k 0 4 (omega arith))

pub low_half : (b : List ℕ) (k x : ℕ) → x ≡ get_or b k 0 → x % 16 ≡ at (bits b) (k * 8 + 4) 4
low_half b k x e = omega (arith, e, at_byte b k 4 4 (omega arith))

-- half bytes that end at a byte's edge: where their number is odd one by itself, then two a byte
pub odd_place : (p n : ℕ) → (p + 4 * n) % 8 ≡ 0 → p + n % 2 * 4 ≡ (p / 8 + n % 2) * 8
odd_place p n h = omega arith

-- numbers behind each other are within a range
pub inside_append : (lo hi : ℕ) (xs ys : List ℕ) → inside lo hi (xs ++ ys) ≡ (inside lo hi xs && inside lo hi ys)
unfolding inside
inside_append lo hi [] ys = refl
inside_append lo hi (x ∷ xs) ys = rw (inside_append lo hi xs ys) (sym (and_assoc (leb lo x && leb x hi) (inside lo hi xs) (inside lo hi ys)))

-- ---- the two halves of byte k + j, read
pub pairs_step : (b : List ℕ) (k m j x : ℕ) → j < m → x < 256 → x ≡ get_or b (k + j) 0
    → run (bits b) ((k + j) * 8) (2 * m - 2 * j) 4 ≡ x / 16 ∷ (x % 16 ∷ run (bits b) ((k + (j + 1)) * 8) (2 * m - 2 * (j + 1)) 4)
pairs_step b k m j x h s e =
    let q = (k + j) * 8 in
    let z : q + 4 + 4 ≡ (k + (j + 1)) * 8 = omega arith in
    let y : 2 * m - (2 * j + 1 + 1) ≡ 2 * m - 2 * (j + 1) = omega arith in
    run_step (bits b) q (2 * m) 4 (2 * j) (omega arith)
    ∙ ap₂ (λ (v : ℕ) (r : List ℕ). v ∷ r) (sym (high_half b (k + j) x s e))
    (run_step (bits b) (q + 4) (2 * m) 4 (2 * j + 1) (omega arith)
    ∙ ap₂ (λ (v : ℕ) (r : List ℕ). v ∷ r) (sym (low_half b (k + j) x e)) (ap₂ (λ (u v : ℕ). run (bits b) u v 4) z y))

pub pairs_store : (b o all : List ℕ) (i k m j x : ℕ) → j < m → x < 256 → x ≡ get_or b (k + j) 0 → all ≡ sets o i (run (bits b) ((k + j) * 8) (2 * m - 2 * j) 4)
    → all ≡ sets (set (set o i (x / 16)) (i + 1) (x % 16)) (i + 2) (run (bits b) ((k + (j + 1)) * 8) (2 * m - 2 * (j + 1)) 4)
pairs_store b o all i k m j x h s e f =
    let u : suc i ≡ i + 1 = omega arith in
    let v : suc (suc i) ≡ i + 2 = omega arith in
    let r = run (bits b) ((k + (j + 1)) * 8) (2 * m - 2 * (j + 1)) 4 in
    f ∙ ap (sets o i) (pairs_step b k m j x h s e) ∙ ap₂ (λ (y z : ℕ). sets (set (set o i (x / 16)) y (x % 16)) z r) u v

pub octets_store : (b o all : List ℕ) (to k n j x : ℕ) → j < n → x < 256 → x ≡ get_or b (k + j) 0 → all ≡ sets o (to + j) (run (bits b) ((k + j) * 8) (n - j) 8)
    → all ≡ sets (set o (to + j) x) (to + (j + 1)) (run (bits b) ((k + (j + 1)) * 8) (n - (j + 1)) 8)
octets_store b o all to k n j x h s e f =
    let z : (k + j) * 8 + 8 ≡ (k + (j + 1)) * 8 = omega arith in
    store_turn (bits b) o (set o (to + j) x) all ((k + j) * 8) n 8 to j x h f (ap (set o (to + j)) (omega arith)) (byte_at b (k + j) x s e)
    ∙ ap (λ (q : ℕ). sets (set o (to + j) x) (to + (j + 1)) (run (bits b) q (n - (j + 1)) 8)) z

-- ---- writing
-- a byte put is its eight bits put
pub bits_set : (b : List ℕ) (k y : ℕ) → y < 256 → bits (set b k y) ≡ sets (bits b) (k * 8) (bits_of 8 y)
bits_set b k y h =
    let v = bits_of 8 y in
    let z = bits_of 8 (get_or b k 0) in
    let n = length_bits_of 8 y in
    let m = length_bits_of 8 (get_or b k 0) in
    let e : sets z 0 v ≡ v = from_front v z (omega arith) ∙ ap (λ (r : List ℕ). v ++ r) (drop_of_length-le z {i = length v} (omega arith)) ∙ append-nil v in
    let f : at (sets z 0 v) 0 8 ≡ y = ap (λ (l : List ℕ). at l 0 8) e ∙ at_bits 8 y h in
    let g : k * 8 + 0 ≡ k * 8 = omega arith in
    ap (λ (x : ℕ). bits (set b k x)) (sym f) ∙ field_put b k 0 v (under_bits_of 8 y) (omega arith) ∙ ap (λ (i : ℕ). sets (bits b) i v) g

pub octets_put : (o d all : List ℕ) (k j x : ℕ) → j < length d → x < 256 → x ≡ get_or d j 0 → all ≡ sets (bits o) ((k + j) * 8) (spread 8 (drop j d))
    → all ≡ sets (bits (set o (k + j) x)) ((k + (j + 1)) * 8) (spread 8 (drop (j + 1) d))
octets_put o d all k j x h s g e =
    let z : (k + j) * 8 + 8 ≡ (k + (j + 1)) * 8 = omega arith in
    spread_turn 8 d (bits o) (bits (set o (k + j) x)) all ((k + j) * 8) j x h e (bits_set o (k + j) x s) g
    ∙ ap (λ (q : ℕ). sets (bits (set o (k + j) x)) q (spread 8 (drop (j + 1) d))) z

-- bytes put are their bits put
pub octets_copied : (o d : List ℕ) (k : ℕ) → Under 256 d → bits (sets o k d) ≡ sets (bits o) (k * 8) (spread 8 d)
unfolding spread
octets_copied o [] k u = refl
octets_copied o (x ∷ d) k u =
    let n : k * 8 + length (bits_of 8 x) ≡ suc k * 8 = omega (arith, length_bits_of 8 x) in
    octets_copied (set o k x) d (suc k) (λ i. u (suc i))
    ∙ ap (λ (l : List ℕ). sets l (suc k * 8) (spread 8 d)) (bits_set o k x (u 0))
    ∙ ap (λ (m : ℕ). sets (sets (bits o) (k * 8) (bits_of 8 x)) m (spread 8 d)) (sym n)
    ∙ sym (sets_append (bits_of 8 x) (spread 8 d) (bits o) (k * 8))

-- two half bytes are a byte
pair_bits : (x y : ℕ) → bits_of 8 (x % 16 * 16 + y % 16) ≡ bits_of 4 x ++ bits_of 4 y
pair_bits x y = bits_join 4 4 (x % 16) (y % 16) (omega arith) ∙ ap₂ (λ (u v : List ℕ). u ++ v) (bits_low 4 x) (bits_low 4 y)

pub pairs_put : (o d all : List ℕ) (k j i x y : ℕ) → i + 1 < length d → x ≡ get_or d i 0 → y ≡ get_or d (i + 1) 0 → all ≡ sets (bits o) ((k + j) * 8) (spread 4 (drop i d))
    → all ≡ sets (bits (set o (k + j) (x % 16 * 16 + y % 16))) ((k + (j + 1)) * 8) (spread 4 (drop (i + 2) d))
pairs_put o d all k j i x y h f g e =
    let q = (k + j) * 8 in
    let v = x % 16 * 16 + y % 16 in
    let one = sets (bits o) q (bits_of 4 x) in
    let n : q + length (bits_of 4 x) ≡ q + 4 = omega (arith, length_bits_of 4 x) in
    let two : bits (set o (k + j) v) ≡ sets one (q + 4) (bits_of 4 y) = bits_set o (k + j) v (omega arith) ∙ ap (sets (bits o) q) (pair_bits x y) ∙ sets_append (bits_of 4 x) (bits_of 4 y) (bits o) q ∙ ap (λ (m : ℕ). sets one m (bits_of 4 y)) n in
    let a : q + 4 + 4 ≡ (k + (j + 1)) * 8 = omega arith in
    let b : i + 1 + 1 ≡ i + 2 = omega arith in
    spread_turn 4 d one (bits (set o (k + j) v)) all (q + 4) (i + 1) y h (spread_turn 4 d (bits o) one all q i x (omega arith) e refl f) two g
    ∙ ap₂ (λ (s t : ℕ). sets (bits (set o (k + j) v)) s (spread 4 (drop t d))) a b
