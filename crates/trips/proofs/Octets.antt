-- Bytes of a packet as the numbers of its lines of one byte. Assumes nothing.
use mathlib.Core.Path.{◌≡◌, refl, sym, ap, ap₂, ◌∙◌}
use mathlib.Core.List.{List, [], ◌∷◌, ◌++◌}
use Prim.Native.Nat.{ℕ, zero, suc, ◌+◌, ◌*◌, ◌≤◌}
use native.Mathlib.Omega.{arith}
use lib.ListN.{length, take, drop, length-drop, take-append-drop}
use lib.Seq.{length-take-le}
use Rattle.laws.specs.Bits.{at, run, bits}
use Rattle.laws.proofs.Bits.{Under, length_spread, run_right, run_left, run_spread, spread_append, under_take, under_drop}
use Rattle.format.specs.Format.{octets, times, decode, flat}
use Rattle.packet.specs.Reading.{numbers_at}

pub octets_at : (b : List ℕ) (k p : ℕ) → numbers_at (times k (octets 1 ∷ [])) b p ≡ run (bits b) p k 8
unfolding times decode flat run
octets_at b zero p = refl
octets_at b (suc k) p = ap (λ (l : List ℕ). at (bits b) p 8 ∷ l) (octets_at b k (p + 8))

-- k bytes from byte i on
pub run_bytes : (b : List ℕ) (i k : ℕ) → Under 256 b → i + k ≤ length b → run (bits b) (8 * i) k 8 ≡ take k (drop i b)
run_bytes b i k u h =
    let t = take i b in
    let d = drop i b in
    let e = take k d in
    let n : length t ≡ i = length-take-le i b (omega arith) in
    let m : length e ≡ k = length-take-le k d (omega (arith, length-drop i b)) in
    let s : bits b ≡ bits t ++ (bits e ++ bits (drop k d)) = ap bits (sym (take-append-drop i b)) ∙ spread_append 8 t d ∙ ap (λ (l : List ℕ). bits t ++ l) (ap bits (sym (take-append-drop k d)) ∙ spread_append 8 e (drop k d)) in
    let p : 8 * i ≡ length (bits t) + 0 = omega (arith, length_spread 8 t) in
    ap₂ (λ (l : List ℕ) (x : ℕ). run l x k 8) s p
    ∙ run_right (bits t) (bits e ++ bits (drop k d)) 0 k 8
    ∙ run_left (bits e) (bits (drop k d)) 0 k 8 (omega (arith, length_spread 8 e))
    ∙ ap (λ (x : ℕ). run (bits e) 0 x 8) (sym m)
    ∙ run_spread 8 e (under_take 256 k d (under_drop 256 i b u))
