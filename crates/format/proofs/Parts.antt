-- A number in parts, one for each byte that it lies in: a turn of the loops that read and write it. Assumes nothing.
use mathlib.Core.Path.{◌≡◌, sym, ap, ap₂, ◌∙◌}
use mathlib.Core.List.{List, ◌++◌}
use Prim.Native.Nat.{ℕ, ◌+◌, ◌*◌, ◌/◌, ◌%◌, ◌-◌, ◌^◌, ◌<◌, ◌≤◌}
use native.Mathlib.Omega.{arith}
use lib.ListN.{length, take, drop, take-append-drop}
use lib.Seq.{sets, take_all, drop-drop}
use lib.Pow.{shl_exact}
use Rattle.laws.specs.Bits.{at, bits_of, bits}
use Rattle.laws.proofs.Bits.{length_bits_of, bits_at, at_below, at_small, under_bits_of, under_spread}
use Rattle.laws.proofs.ByteFields.{at_parts}
use Rattle.laws.proofs.Words.{at_within}
use Rattle.laws.proofs.Writes.{sets_append}

-- ---- reading
-- j bits were read, and k behind them: the number of both, and that it fits
pub record Joined (b : List ℕ) (p j k x y : ℕ) : Type 0 where
  pub is : x * 2 ^ k % 4294967296 + y ≡ at (bits b) p (j + k)
  pub small : x * 2 ^ k % 4294967296 + y < 4294967296

pub joined : (b : List ℕ) (p j k x y : ℕ) → j + k ≤ 32 → x ≡ at (bits b) p j → y ≡ at (bits b) (p + j) k → Joined b p j k x y
joined b p j k x y h e f =
    let s : x < 2 ^ j = rw e (at_below (bits b) p j (under_spread 8 b)) in
    let m : x * 2 ^ k % 4294967296 ≡ x * 2 ^ k = shl_exact j k 32 s h in
    let i : x * 2 ^ k % 4294967296 + y ≡ at (bits b) p (j + k) = ap₂ (λ (u v : ℕ). u + v) (m ∙ ap (λ (n : ℕ). n * 2 ^ k) e) f ∙ sym (at_parts (bits b) p j k) in
    record { is = i; small = omega (arith, i, at_small b p (j + k) 32 h) }

-- ---- writing
-- only the lowest k bits of a number count
pub bits_low : (k x : ℕ) → bits_of k (x % 2 ^ k) ≡ bits_of k x
bits_low k x =
    let z : k - (0 + k) ≡ 0 = omega arith in
    let e : at (bits_of k x) 0 k ≡ x % 2 ^ k = at_within k x 0 k (omega arith) ∙ ap (λ (n : ℕ). x / 2 ^ n % 2 ^ k) z ∙ ap (λ (n : ℕ). n % 2 ^ k) (omega arith) in
    ap (bits_of k) (sym e) ∙ bits_at (bits_of k x) 0 k (under_bits_of k x) (omega (arith, length_bits_of k x)) ∙ take_all k (bits_of k x) (omega (arith, length_bits_of k x))

-- k bits of a number behind its first j
pub bits_behind : (w x j k : ℕ) → j + k ≤ w → drop j (bits_of w x) ≡ bits_of k (x / 2 ^ (w - j - k)) ++ drop (j + k) (bits_of w x)
bits_behind w x j k h =
    let l = bits_of w x in
    let n : w - (j + k) ≡ w - j - k = omega arith in
    let e : at l j k ≡ x / 2 ^ (w - j - k) % 2 ^ k = at_within w x j k h ∙ ap (λ (m : ℕ). x / 2 ^ m % 2 ^ k) n in
    let t : take k (drop j l) ≡ bits_of k (x / 2 ^ (w - j - k)) = sym (bits_at l j k (under_bits_of w x) (omega (arith, length_bits_of w x))) ∙ ap (bits_of k) e ∙ bits_low k (x / 2 ^ (w - j - k)) in
    sym (take-append-drop k (drop j l)) ∙ ap₂ (λ (u v : List ℕ). u ++ v) t (drop-drop k j l)

pub parts_turn : (w x j k : ℕ) (o o'' all : List ℕ) (p : ℕ) → j + k ≤ w → all ≡ sets o (p + j) (drop j (bits_of w x)) → o'' ≡ sets o (p + j) (bits_of k (x / 2 ^ (w - j - k))) → all ≡ sets o'' (p + (j + k)) (drop (j + k) (bits_of w x))
parts_turn w x j k o o'' all p h e f =
    let v = bits_of k (x / 2 ^ (w - j - k)) in
    let n : p + j + length v ≡ p + (j + k) = omega (arith, length_bits_of k (x / 2 ^ (w - j - k))) in
    e ∙ ap (sets o (p + j)) (bits_behind w x j k h) ∙ sets_append v (drop (j + k) (bits_of w x)) o (p + j) ∙ ap₂ (λ (l : List ℕ) (i : ℕ). sets l i (drop (j + k) (bits_of w x))) (sym f) n
