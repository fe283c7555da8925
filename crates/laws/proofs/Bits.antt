-- Laws of numbers in bits: the bits of a number give it back, bits give themselves back as numbers, and so for bytes. Assumes nothing.
use mathlib.Core.Path.{◌≡◌, refl, sym, ap, ◌∙◌}
use mathlib.Core.List.{List, [], ◌∷◌, ◌++◌, append_assoc}
use Prim.Native.Nat.{ℕ, zero, suc, ◌+◌, ◌*◌, ◌/◌, ◌%◌, ◌-◌, ◌^◌, ◌<◌, ◌≤◌}
use native.Mathlib.Nat.{suc-mul, zero-div, div-div-eq-div-mul, pow-le-pow_right, lt_of_lt_of_le}
use native.Mathlib.Omega.{arith}
use native.Mathlib.Decide.{dec_lt}
use lib.ListN.{length, get_or, take, drop, length-append, length-drop, get_or-append}
use lib.Seq.{take_all, get_or-append-add, get_or_at, get_or-drop, take-suc, take-add, drop-drop}
use Rattle.laws.specs.Bits.{at, bits_of, run, spread, bits, bytes}
pub use Rattle.laws.specs.Bits.{Under}

-- ---- a number
pub length_bits_of : (w x : ℕ) → length (bits_of w x) ≡ w
unfolding bits_of
length_bits_of zero x = refl
length_bits_of (suc w) x = length-append (bits_of w (x / 2)) (x % 2 ∷ []) ∙ omega (arith, length_bits_of w (x / 2))

pub at_right : (u l : List ℕ) (p w : ℕ) → at (u ++ l) (length u + p) w ≡ at l p w
unfolding at
at_right u l p zero = refl
at_right u l p (suc w) =
    let e : length u + p + w ≡ length u + (p + w) = omega arith in
    rw (at_right u l p w, e, get_or-append-add u l (p + w) 0)

pub at_left : (u l : List ℕ) (p w : ℕ) → p + w ≤ length u → at (u ++ l) p w ≡ at u p w
unfolding at
at_left u l p zero h = refl
at_left u l p (suc w) h = rw (at_left u l p w (omega arith), get_or-append u l 0 (p + w) (omega arith))

pub at_bits : (w x : ℕ) → x < 2 ^ w → at (bits_of w x) 0 w ≡ x
unfolding at bits_of
at_bits zero x h = omega arith
at_bits (suc w) x h =
    let n = length_bits_of w (x / 2) in
    let e : at (bits_of w (x / 2) ++ (x % 2 ∷ [])) 0 w ≡ x / 2 =
    at_left (bits_of w (x / 2)) (x % 2 ∷ []) 0 w (omega arith) ∙ at_bits w (x / 2) (omega arith) in
    let z : 0 + w ≡ w = omega arith in
    let d : get_or (bits_of w (x / 2) ++ (x % 2 ∷ [])) (0 + w) 0 ≡ x % 2 =
    rw z (get_or_at (bits_of w (x / 2)) (x % 2) [] 0 w n) in
    omega (arith, e, d)

pub at_below : (l : List ℕ) (p w : ℕ) → Under 2 l → at l p w < 2 ^ w
unfolding at
at_below l p zero h = omega arith
at_below l p (suc w) h = omega (arith, at_below l p w h, h (p + w))

pub bits_at : (l : List ℕ) (p w : ℕ) → Under 2 l → p + w ≤ length l → bits_of w (at l p w) ≡ take w (drop p l)
unfolding at bits_of
bits_at l p zero u h = refl
bits_at l p (suc w) u h =
    let d = get_or l (p + w) 0 in
    let a : (at l p w * 2 + d) / 2 ≡ at l p w = omega (arith, u (p + w)) in
    let b : (at l p w * 2 + d) % 2 ≡ d = omega (arith, u (p + w)) in
    let g : d ≡ get_or (drop p l) w 0 = sym (get_or-drop p l w 0) in
    rw (a, b, bits_at l p w u (omega arith), take-suc (drop p l) w 0 (omega (arith, length-drop p l)), g)

-- ---- numbers
pub length_run : (l : List ℕ) (p n w : ℕ) → length (run l p n w) ≡ n
unfolding run
length_run l p zero w = refl
length_run l p (suc n) w = ap suc (length_run l (p + w) n w)

pub length_spread : (w : ℕ) (xs : List ℕ) → length (spread w xs) ≡ length xs * w
unfolding spread
length_spread w [] = omega arith
length_spread w (x ∷ xs) =
    length-append (bits_of w x) (spread w xs) ∙ omega (arith, length_bits_of w x, length_spread w xs, suc-mul (length xs) w)

pub spread_append : (w : ℕ) (u v : List ℕ) → spread w (u ++ v) ≡ spread w u ++ spread w v
unfolding spread
spread_append w [] v = refl
spread_append w (x ∷ u) v =
    ap (λ (l : List ℕ). bits_of w x ++ l) (spread_append w u v) ∙ sym (append_assoc (bits_of w x) (spread w u) (spread w v))

pub run_right : (u l : List ℕ) (p n w : ℕ) → run (u ++ l) (length u + p) n w ≡ run l p n w
unfolding run
run_right u l p zero w = refl
run_right u l p (suc n) w =
    let e : length u + p + w ≡ length u + (p + w) = omega arith in
    rw (at_right u l p w, e, run_right u l (p + w) n w)

pub run_left : (u l : List ℕ) (p n w : ℕ) → p + n * w ≤ length u → run (u ++ l) p n w ≡ run u p n w
unfolding run
run_left u l p zero w h = refl
run_left u l p (suc n) w h =
    let s = suc-mul n w in
    rw (at_left u l p w (omega arith), run_left u l (p + w) n w (omega arith))

pub run_spread : (w : ℕ) (xs : List ℕ) → Under (2 ^ w) xs → run (spread w xs) 0 (length xs) w ≡ xs
unfolding run spread
run_spread w [] h = refl
run_spread w (x ∷ xs) h =
    let n = length_bits_of w x in
    let a : at (bits_of w x ++ spread w xs) 0 w ≡ x = at_left (bits_of w x) (spread w xs) 0 w (omega arith) ∙ at_bits w x (h 0) in
    let e : 0 + w ≡ length (bits_of w x) + 0 = omega arith in
    rw (a, e, run_right (bits_of w x) (spread w xs) 0 (length xs) w, run_spread w xs (λ i. h (suc i)))

pub spread_run : (l : List ℕ) (p n w : ℕ) → Under 2 l → p + n * w ≤ length l → spread w (run l p n w) ≡ take (n * w) (drop p l)
unfolding run spread
spread_run l p zero w u h = let z : 0 * w ≡ 0 = omega arith in rw z
spread_run l p (suc n) w u h =
    let s = suc-mul n w in
    let e : suc n * w ≡ w + n * w = omega arith in
    rw (bits_at l p w u (omega arith), spread_run l (p + w) n w u (omega arith), e, take-add w (n * w) (drop p l), drop-drop w p l)

pub under_run : (l : List ℕ) (p n w : ℕ) → Under 2 l → Under (2 ^ w) (run l p n w)
unfolding run
under_run l p zero w u i = let z = at_below l p w u in omega arith
under_run l p (suc n) w u zero = at_below l p w u
under_run l p (suc n) w u (suc i) = under_run l (p + w) n w u i

-- ---- bits are below 2
pub under_append : (k : ℕ) (u v : List ℕ) → Under k u → Under k v → Under k (u ++ v)
under_append k [] v hu hv i = hv i
under_append k (x ∷ u) v hu hv zero = hu 0
under_append k (x ∷ u) v hu hv (suc i) = under_append k u v (λ j. hu (suc j)) hv i

pub under_take : (k n : ℕ) (l : List ℕ) → Under k l → Under k (take n l)
under_take k zero l u i = omega (arith, u (length l))
under_take k (suc n) [] u i = u i
under_take k (suc n) (x ∷ l) u zero = u 0
under_take k (suc n) (x ∷ l) u (suc i) = under_take k n l (λ j. u (suc j)) i

pub under_drop : (k n : ℕ) (l : List ℕ) → Under k l → Under k (drop n l)
under_drop k n l u i = rw (get_or-drop n l i 0) (u (n + i))

pub under_bits_of : (w x : ℕ) → Under 2 (bits_of w x)
unfolding bits_of
under_bits_of zero x i = omega arith
under_bits_of (suc w) x i = under_append 2 (bits_of w (x / 2)) (x % 2 ∷ []) (under_bits_of w (x / 2)) (last (x % 2) (omega arith)) i
  where
    last : (y : ℕ) → y < 2 → Under 2 (y ∷ [])
    last y h zero = h
    last y h (suc j) = omega arith

pub under_spread : (w : ℕ) (xs : List ℕ) → Under 2 (spread w xs)
unfolding spread
under_spread w [] i = omega arith
under_spread w (x ∷ xs) i = under_append 2 (bits_of w x) (spread w xs) (under_bits_of w x) (under_spread w xs) i

-- ---- a bit of bytes
pub bit_of : (b : List ℕ) (i : ℕ) → get_or b (i / 8) 0 / 2 ^ (7 - i % 8) % 2 ≡ get_or (bits b) i 0
unfolding spread bits_of
bit_of [] i = rw (zero-div (2 ^ (7 - i % 8)))
bit_of (x ∷ b) zero = omega arith
bit_of (x ∷ b) (suc zero) = omega arith
bit_of (x ∷ b) (suc (suc zero)) = omega arith
bit_of (x ∷ b) (suc (suc (suc zero))) = omega arith
bit_of (x ∷ b) (suc (suc (suc (suc zero)))) = omega arith
bit_of (x ∷ b) (suc (suc (suc (suc (suc zero))))) = omega arith
bit_of (x ∷ b) (suc (suc (suc (suc (suc (suc zero)))))) = omega arith
bit_of (x ∷ b) (suc (suc (suc (suc (suc (suc (suc zero))))))) = omega arith
bit_of (x ∷ b) (suc (suc (suc (suc (suc (suc (suc (suc i)))))))) =
    let q : suc (suc (suc (suc (suc (suc (suc (suc i))))))) / 8 ≡ suc (i / 8) = omega arith in
    let r : suc (suc (suc (suc (suc (suc (suc (suc i))))))) % 8 ≡ i % 8 = omega arith in
    rw (q, r) (bit_of b i)

pub at_small : (b : List ℕ) (p w k : ℕ) → w ≤ k → at (bits b) p w < 2 ^ k
at_small b p w k h = lt_of_lt_of_le (at_below (bits b) p w (under_spread 8 b)) (pow-le-pow_right (omega arith) h)

-- bit i of a number of w bits
pub get_d_bits_of : (w x i : ℕ) → i < w → get_or (bits_of w x) i 0 ≡ x / 2 ^ (w - 1 - i) % 2
unfolding bits_of
get_d_bits_of zero x i h = absurd (omega arith)
get_d_bits_of (suc w) x i h =
    elim (dec_lt i w) [
      | yes k ↦
          let n = length_bits_of w (x / 2) in
          let e : suc w - 1 - i ≡ suc (w - 1 - i) = omega arith in
          let q : 2 * 2 ^ (w - 1 - i) ≡ 2 ^ suc (w - 1 - i) = omega arith in
          get_or-append (bits_of w (x / 2)) (x % 2 ∷ []) 0 i (omega arith) ∙ get_d_bits_of w (x / 2) i k
          ∙ rw (e, div-div-eq-div-mul x 2 (2 ^ (w - 1 - i)), q)
      | no k ↦
          let e : i ≡ w = omega (arith, k) in
          let z : suc w - 1 - i ≡ 0 = omega arith in
          let d : x / 1 ≡ x = omega arith in
          rw (z, e, get_or_at (bits_of w (x / 2)) (x % 2) [] 0 w (length_bits_of w (x / 2)), d)
    ]

-- ---- bytes
pub bytes_bits : (b : List ℕ) → Under 256 b → bytes (bits b) ≡ b
bytes_bits b h =
    let e : length (spread 8 b) / 8 ≡ length b = omega (arith, length_spread 8 b) in
    ap (λ (n : ℕ). run (bits b) 0 n 8) e ∙ run_spread 8 b h

pub bits_bytes : (l : List ℕ) → Under 2 l → length l % 8 ≡ 0 → bits (bytes l) ≡ l
bits_bytes l u h =
    let e : length l / 8 * 8 ≡ length l = omega arith in
    spread_run l 0 (length l / 8) 8 u (omega arith) ∙ rw e (take_all (length l) l (omega arith))
