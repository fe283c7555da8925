-- What is known of a packet that the on-air writer takes, and of its frames. Assumes nothing.
use mathlib.Core.Path.{◌≡◌, refl}
use mathlib.Core.Bool.{Bool, true, false, not}
use mathlib.Core.List.{List, [], ◌∷◌, ◌++◌}
use Prim.Native.Nat.{ℕ, zero, suc, ◌+◌, ◌*◌, ◌/◌, ◌%◌, ◌^◌, ◌<◌, ◌≤◌}
use native.Mathlib.Omega.{arith}
use lib.ListN.{length, get_or}
use lib.Dec.{leb, ltb}
use borrow.Author.Tests.{eqb-true, leb-true, ltb-false, not-true}
use Rattle.laws.specs.Refusals.{none, among, apart}
use Rattle.laws.proofs.Bits.{Under, under_append}
use Rattle.laws.proofs.Cases.{and_left, and_right}
use Rattle.laws.proofs.Refusals.{done}
use Rattle.crc.specs.Crc16.{crc16}
use Rattle.size.specs.Size.{packet_size}
use Rattle.crc.proofs.Remainder.{packet_check_is_remainder}
use Rattle.frame.specs.declared.Heading.{Heading}
use Rattle.frame.specs.Heading.{Fits, reserved}
use Rattle.frame.proofs.Back.{bytes_of}
use Rattle.frame.proofs.Accepted.{level_bounds}
use Rattle.air.specs.OnAir.{frames_for, total_for, with_check, carried, frame_of, heading_for, frames_from, frames_of, sized, cases, answer_of}
use Rattle.receiver.specs.Calls.{IsFrame, AreFrames}

-- a packet, level and version that are taken
pub record Taken (p : List ℕ) (l v : ℕ) : Type 0 where
  pub long : 2 ≤ length p
  pub short : length p ≤ 250
  pub stated : length p ≡ packet_size p
  pub level_low : 1 ≤ l
  pub level_high : l ≤ 6
  pub version_high : v ≤ 31

module _ (p : List ℕ) (l v : ℕ) (out : List ℕ) where
  pub numbers_apart : apart (cases p l v out) ≡ true
  unfolding cases apart among
  numbers_apart = refl

  pub taken : answer_of p l v out ≡ 0 → Taken p l v
  unfolding answer_of cases none sized
  taken e =
      let n = (done (cases p l v out) numbers_apart).0 e in
      let n₁ = and_right (not (not (sized p))) _ n in
      let n₂ = and_right (not (reserved l)) _ n₁ in
      let s = twice (sized p) (and_left (not (not (sized p))) _ n) in
      let s₁ = and_right (leb 2 (length p)) _ s in
      let b = level_bounds l (not-true _ (and_left (not (reserved l)) _ n₁)) in
      record {
        long = leb-true _ _ (and_left (leb 2 (length p)) _ s);
        short = leb-true _ _ (and_left (leb (length p) 250) _ s₁);
        stated = eqb-true _ _ (and_right (leb (length p) 250) _ s₁);
        level_low = b.0;
        level_high = b.1;
        version_high = ltb-false 31 v (not-true _ (and_left (not (ltb 31 v)) _ n₂));
      }
    where
      twice : (b : Bool) → not (not b) ≡ true → b ≡ true
      twice true q = refl
      twice false q = q

-- ---- what the frames carry are bytes
padded_small : (xs : List ℕ) → Under 256 xs → (i : ℕ) → get_or xs i 0xFF < 256
padded_small [] u i = omega arith
padded_small (x ∷ xs) u zero = u 0
padded_small (x ∷ xs) u (suc i) = padded_small xs (λ j. u (suc j)) i

two_small : (a b : ℕ) → a < 256 → b < 256 → Under 256 (a ∷ b ∷ [])
two_small a b ha hb zero = ha
two_small a b ha hb (suc zero) = hb
two_small a b ha hb (suc (suc i)) = omega arith

pub carried_small : (p : List ℕ) → Under 256 p → (i : ℕ) → carried p i < 256
unfolding carried with_check
carried_small p u i =
    let s : crc16 p < 2 ^ 16 = (packet_check_is_remainder p u).shorter in
    padded_small (p ++ (crc16 p / 2 ^ 8 ∷ crc16 p % 2 ^ 8 ∷ [])) (under_append 256 p _ u (two_small _ _ (omega arith) (omega arith))) i

-- ---- a frame of eight bytes
eight_small : (x y z a b c d : ℕ) → x < 256 → y < 256 → z < 256 → a < 256 → b < 256 → c < 256 → d < 256 → Under 256 (x ∷ y ∷ 0xB0 ∷ z ∷ a ∷ b ∷ c ∷ d ∷ [])
eight_small x y z a b c d hx hy hz ha hb hc hd zero = hx
eight_small x y z a b c d hx hy hz ha hb hc hd (suc zero) = hy
eight_small x y z a b c d hx hy hz ha hb hc hd (suc (suc zero)) = omega arith
eight_small x y z a b c d hx hy hz ha hb hc hd (suc (suc (suc zero))) = hz
eight_small x y z a b c d hx hy hz ha hb hc hd (suc (suc (suc (suc zero)))) = ha
eight_small x y z a b c d hx hy hz ha hb hc hd (suc (suc (suc (suc (suc zero))))) = hb
eight_small x y z a b c d hx hy hz ha hb hc hd (suc (suc (suc (suc (suc (suc zero)))))) = hc
eight_small x y z a b c d hx hy hz ha hb hc hd (suc (suc (suc (suc (suc (suc (suc zero))))))) = hd
eight_small x y z a b c d hx hy hz ha hb hc hd (suc (suc (suc (suc (suc (suc (suc (suc i)))))))) = omega arith

pub eight_of : (p : List ℕ) (h : Heading) → Fits h
    → frame_of p h
    ≡ (h.level * 32 + h.version) ∷ (h.total.0 * 4 + h.number.0 / 16) ∷ 0xB0 ∷ (h.number.0 % 16)
    ∷ carried p (4 * h.number.0) ∷ carried p (4 * h.number.0 + 1) ∷ carried p (4 * h.number.0 + 2) ∷ carried p (4 * h.number.0 + 3) ∷ []
unfolding frame_of
eight_of p h f = rw (bytes_of h f)

is_frame : (p : List ℕ) → Under 256 p → (h : Heading) → Fits h → IsFrame (frame_of p h)
is_frame p u h f =
    let fl = f.level in
    let fv = f.version in
    let ft = f.total in
    let fn = f.number in
    let c = carried_small p u in
    rw (eight_of p h f)
    (refl, eight_small _ _ _ _ _ _ _ (omega arith) (omega arith) (omega arith) (c (4 * h.number.0)) (c (4 * h.number.0 + 1)) (c (4 * h.number.0 + 2)) (c (4 * h.number.0 + 3)))

-- ---- all frames of a packet
pub frames_few : (p : List ℕ) (l v : ℕ) → Taken p l v → (1 ≤ frames_for (length p)) × (frames_for (length p) ≤ 63)
unfolding frames_for
frames_few p l v t =
    let a = t.long in
    let b = t.short in
    (omega arith, omega arith)

module _ (p : List ℕ) (l v : ℕ) (u : Under 256 p) (t : Taken p l v) where
  pub fits : (k : ℕ) → k < frames_for (length p) → Fits (heading_for l v (total_for (length p)) (record { 0 = k }))
  fits k h =
      let a = t.level_high in
      let b = t.version_high in
      let c = (frames_few p l v t).1 in
      record { level = omega arith; version = omega arith; total = omega arith; number = omega arith }

  are_from : (n k : ℕ) → k + n ≤ frames_for (length p) → AreFrames (frames_from p l v (record { 0 = k }) n)
  unfolding frames_from
  are_from zero k h = tt
  are_from (suc n) k h = (is_frame p u _ (fits k (omega arith)), are_from n (k + 1) (omega arith))

  pub are_frames : AreFrames (frames_of p l v)
  unfolding frames_of
  are_frames = are_from (frames_for (length p)) 0 (omega arith)
