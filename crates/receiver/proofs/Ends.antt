-- A record's bits and a delivery's in one buffer, and the record of the bits left at its end. Assumes nothing.
use mathlib.Core.Path.{◌≡◌, refl, sym, ap, ap₂, ◌∙◌, subst}
use mathlib.Core.Bool.{Bool}
use mathlib.Core.List.{List, [], ◌∷◌, ◌++◌}
use Prim.Native.Nat.{ℕ, suc, ◌+◌, ◌*◌, ◌/◌, ◌%◌, ◌-◌, ◌^◌, ◌<◌, ◌≤◌}
use native.Mathlib.Nat.{add-zero}
use native.Mathlib.Omega.{arith}
use lib.ListN.{length, set, take, drop, length-append}
use lib.Seq.{sets, set_comm, take_at, length-sets}
use lib.Pow.{high, low}
use borrow.Rule.Slice.PartMut.{put_mid}
use Rattle.laws.specs.Bits.{at, bits_of, bits, bytes}
use Rattle.laws.proofs.Bits.{Under, length_bits_of, length_run, length_spread, under_bits_of, under_spread, bits_bytes, spread_append, at_below, at_small}
use Rattle.laws.proofs.ByteFields.{at_parts}
use Rattle.laws.proofs.Words.{bits_join}
use Rattle.laws.proofs.Writes.{join, from_front}
use Rattle.laws.proofs.Parts.{in_place}
use Rattle.receiver.specs.declared.Receiver.{Receiver}
use Rattle.receiver.specs.Receive.{record_of}
use Rattle.receiver.specs.Rule.{one}
use Rattle.receiver.specs.Search.{ahead}
use Rattle.receiver.proofs.Octets.{shifted_one}
use Rattle.receiver.proofs.Onward.{ahead_long, ahead_at}

-- ---- the front
eight : (x : ℕ) → length (bytes (bits_of 64 x)) ≡ 8
eight x = length_run (bits_of 64 x) 0 (length (bits_of 64 x) / 8) 8 ∙ omega (arith, length_bits_of 64 x)

eight_bits : (x : ℕ) → bits (bytes (bits_of 64 x)) ≡ bits_of 64 x
eight_bits x = bits_bytes (bits_of 64 x) (under_bits_of 64 x) (omega (arith, length_bits_of 64 x))

-- what is written further on may be written first
set_past : (l v : List ℕ) (i j x : ℕ) → i < j → set (sets l j v) i x ≡ sets (set l i x) j v
set_past l [] i j x h = refl
set_past l (y ∷ v) i j x h =
    let n : i ≡ j → ⊥ = λ e. omega arith in
    set_past (set l j y) v i (suc j) x (omega arith) ∙ ap (λ (m : List ℕ). sets m (suc j) v) (sym (set_comm l i j x y n))

sets_past : (l v w : List ℕ) (i j : ℕ) → i + length w ≤ j → sets (sets l j v) i w ≡ sets (sets l i w) j v
sets_past l v [] i j h = refl
sets_past l v (x ∷ w) i j h =
    ap (λ (m : List ℕ). sets m (suc i) w) (set_past l v i j x (omega arith)) ∙ sets_past (set l i x) v w (suc i) j (omega arith)

pub filled : (z a o part r d : List ℕ) (hi lo : ℕ) → lo < 2 ^ 64 → length z ≡ 536 → length d ≤ 512
    → a ≡ sets z 0 (bytes (bits_of 64 hi))
    → part ≡ d
    → o ≡ put_mid 16 (16 + length d - 16) a part
    → r ≡ sets o 8 (bytes (bits_of 64 lo))
    → take (128 + length d * 8) (bits r) ≡ bits_of 128 (hi * 2 ^ 64 + lo) ++ bits d
filled z a o part r d hi lo small n k ea ep eo er =
    let la : length a ≡ 536 = ap length ea ∙ length-sets z 0 (bytes (bits_of 64 hi)) ∙ n in
    let c = sets a 8 (bytes (bits_of 64 lo)) in
    let o2 : r ≡ sets c 16 d =
    er ∙ ap (λ (m : List ℕ). sets m 8 (bytes (bits_of 64 lo))) (eo ∙ in_place a d part 16 (16 + length d - 16) (omega arith) (omega arith) ep)
    ∙ sets_past a d (bytes (bits_of 64 lo)) 8 16 (omega (arith, eight lo)) in
    let c2 : c ≡ sets z 0 (bytes (bits_of 64 hi) ++ bytes (bits_of 64 lo)) = join z a c (bytes (bits_of 64 hi)) (bytes (bits_of 64 lo)) 0 8 ea refl (omega (arith, eight hi)) in
    let two : length (bytes (bits_of 64 hi) ++ bytes (bits_of 64 lo)) ≡ 16 = length-append (bytes (bits_of 64 hi)) (bytes (bits_of 64 lo)) ∙ omega (arith, eight hi, eight lo) in
    let v = (bytes (bits_of 64 hi) ++ bytes (bits_of 64 lo)) ++ d in
    let o3 : r ≡ sets z 0 v = join z c r (bytes (bits_of 64 hi) ++ bytes (bits_of 64 lo)) d 0 16 c2 o2 (omega arith) in
    let lv : length v ≡ 16 + length d = length-append (bytes (bits_of 64 hi) ++ bytes (bits_of 64 lo)) d ∙ omega arith in
    let head : bits v ≡ bits_of 128 (hi * 2 ^ 64 + lo) ++ bits d =
    spread_append 8 (bytes (bits_of 64 hi) ++ bytes (bits_of 64 lo)) d
    ∙ ap (λ (m : List ℕ). m ++ bits d)
    (spread_append 8 (bytes (bits_of 64 hi)) (bytes (bits_of 64 lo)) ∙ ap₂ (λ (m w : List ℕ). m ++ w) (eight_bits hi) (eight_bits lo) ∙ sym (bits_join 64 64 hi lo small)) in
    ap (λ (m : List ℕ). take (128 + length d * 8) (bits m)) (o3 ∙ from_front v z (omega arith))
    ∙ ap (take (128 + length d * 8)) (spread_append 8 v (drop (length v) z))
    ∙ take_at (bits v) (bits (drop (length v) z)) (128 + length d * 8) (length_spread 8 v ∙ omega arith)
    ∙ head

-- ---- the end
-- a record by its number, over variables: with a number's text in them these are dear to check
few_record : (x w k : ℕ) (r : Receiver) → x < 2 ^ 64 → r ≡ record { high = x / 2 ^ 64; low = x % 2 ^ 64; count = w; follows = k } → record { high = 0; low = x; count = w; follows = k } ≡ r
few_record x w k r s e =
    let h : 0 ≡ x / 2 ^ 64 = omega arith in
    let l : x ≡ x % 2 ^ 64 = omega arith in
    ap₂ (λ (a c : ℕ). record { high = a; low = c; count = w; follows = k }) h l ∙ sym e

many_record : (x y w k : ℕ) (r : Receiver) → y < 2 ^ 64 → r ≡ record { high = (x * 2 ^ 64 + y) / 2 ^ 64; low = (x * 2 ^ 64 + y) % 2 ^ 64; count = w; follows = k } → record { high = x; low = y; count = w; follows = k } ≡ r
many_record x y w k r s e = ap₂ (λ (a c : ℕ). record { high = a; low = c; count = w; follows = k }) (sym (high x 64 s)) (sym (low x 64 s)) ∙ sym e

module _ (b : List ℕ) (n from lo : ℕ) (h16 : 16 ≤ n) (hb : n ≤ length b) (hf : from ≤ n * 8) (hm : n * 8 < from + 104)
    (el : lo ≡ at (bits b) ((n - 8) * 8) 64) (t : Bool) (o : ℕ) (eo : o ≡ one t) where
  u : Under 2 (bits b)
  u = under_spread 8 b

  long : length (ahead b (n * 8) from) ≡ n * 8 - from
  long = ahead_long b (n * 8) (omega arith) from

  value : at (ahead b (n * 8) from) 0 (length (ahead b (n * 8) from)) ≡ at (bits b) from (n * 8 - from)
  value =
      ap (at (ahead b (n * 8) from) 0) long
      ∙ ahead_at b (n * 8) from 0 (n * 8 - from) (omega arith)
      ∙ ap (λ (p : ℕ). at (bits b) p (n * 8 - from)) (add-zero from)

  record_is : (x : ℕ) → x ≡ at (bits b) from (n * 8 - from) → record_of t (ahead b (n * 8) from) ≡ record { high = x / 2 ^ 64; low = x % 2 ^ 64; count = n * 8 - from; follows = o }
  record_is x e =
      ap₂ (λ (y c : ℕ). record { high = y / 2 ^ 64; low = y % 2 ^ 64; count = c; follows = one t }) (value ∙ sym e) long
      ∙ ap (λ (k : ℕ). record { high = x / 2 ^ 64; low = x % 2 ^ 64; count = n * 8 - from; follows = k }) (sym eo)

  pub few_left : n * 8 - from < 64 → ◌≡◌ {A = Receiver} (record { high = 0; low = lo % (1 * 2 ^ (n * 8 - from) % 2 ^ 64); count = n * 8 - from; follows = o }) (record_of t (ahead b (n * 8) from))
  few_left k =
      let w : ℕ = n * 8 - from in
      let e : 64 ≡ 64 - w + w = omega arith in
      let f : (n - 8) * 8 + (64 - w) ≡ from = omega arith in
      let x : lo % (1 * 2 ^ w % 2 ^ 64) ≡ at (bits b) from w =
      ap₂ (λ (a c : ℕ). a % c) (el ∙ ap (at (bits b) ((n - 8) * 8)) e ∙ at_parts (bits b) ((n - 8) * 8) (64 - w) w) (shifted_one w 64 k)
      ∙ low (at (bits b) ((n - 8) * 8) (64 - w)) w (at_below (bits b) ((n - 8) * 8 + (64 - w)) w u)
      ∙ ap (λ (p : ℕ). at (bits b) p w) f in
      few_record (lo % (1 * 2 ^ w % 2 ^ 64)) w o (record_of t (ahead b (n * 8) from))
      (subst (λ (y : ℕ). y < 2 ^ 64) (sym x) (at_small b from w 64 (omega arith)))
      (record_is (lo % (1 * 2 ^ w % 2 ^ 64)) x)

  pub many_left : (hi : ℕ) → hi ≡ at (bits b) ((n - 16) * 8) 64 → 64 ≤ n * 8 - from
      → ◌≡◌ {A = Receiver} (record { high = hi % (1 * 2 ^ (n * 8 - from - 64) % 2 ^ 64); low = lo; count = n * 8 - from; follows = o }) (record_of t (ahead b (n * 8) from))
  many_left hi eh k =
      let w : ℕ = n * 8 - from - 64 in
      let all : n * 8 - from ≡ w + 64 = omega arith in
      let e : 64 ≡ 64 - w + w = omega arith in
      let f : (n - 16) * 8 + (64 - w) ≡ from = omega arith in
      let g : from + w ≡ (n - 8) * 8 = omega arith in
      let x : hi % (1 * 2 ^ w % 2 ^ 64) ≡ at (bits b) from w =
      ap₂ (λ (a c : ℕ). a % c) (eh ∙ ap (at (bits b) ((n - 16) * 8)) e ∙ at_parts (bits b) ((n - 16) * 8) (64 - w) w) (shifted_one w 64 (omega arith))
      ∙ low (at (bits b) ((n - 16) * 8) (64 - w)) w (at_below (bits b) ((n - 16) * 8 + (64 - w)) w u)
      ∙ ap (λ (p : ℕ). at (bits b) p w) f in
      let small : lo < 2 ^ 64 = subst (λ (y : ℕ). y < 2 ^ 64) (sym el) (at_small b ((n - 8) * 8) 64 64 (omega arith)) in
      let v : hi % (1 * 2 ^ w % 2 ^ 64) * 2 ^ 64 + lo ≡ at (bits b) from (n * 8 - from) =
      ap₂ (λ (a c : ℕ). a * 2 ^ 64 + c) x (el ∙ ap (λ (p : ℕ). at (bits b) p 64) (sym g))
      ∙ sym (at_parts (bits b) from w 64) ∙ ap (at (bits b) from) (sym all) in
      let r = hi % (1 * 2 ^ w % 2 ^ 64) in
      many_record r lo (n * 8 - from) o (record_of t (ahead b (n * 8) from)) small (record_is (r * 2 ^ 64 + lo) v)
