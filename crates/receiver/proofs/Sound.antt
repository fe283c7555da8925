-- What holds of all that the rule yields: eight bytes a frame, how much stays pending, and that a frame takes 104 bits. Assumes nothing.
use mathlib.Core.Path.{◌≡◌, refl, ◌∙◌}
use mathlib.Core.Bool.{Bool, true, false}
use mathlib.Core.List.{List, [], ◌∷◌, ◌++◌}
use Prim.Native.Nat.{ℕ, ◌+◌, ◌*◌, ◌/◌, ◌^◌, ◌<◌, ◌≤◌}
use native.Mathlib.Omega.{arith}
use lib.ListN.{length, take, drop, length-append, length-drop}
use lib.Seq.{length-take-le}
use Rattle.laws.specs.Bits.{bits_of, bits}
use Rattle.laws.proofs.Bits.{Under, length_bits_of, length_spread, length_run, under_append, under_bits_of, under_spread, under_drop}
use Rattle.block.specs.declared.Letter.TheVariants.{A, B, C, D}
use Rattle.receiver.specs.declared.Receiver.{Receiver}
use Rattle.receiver.specs.Rule.{Heard, block_at, information, mended_bits, taken_bytes, heard}
use Rattle.receiver.specs.Receive.{pending_of, follows_of, hearing, joined}
use Rattle.receiver.proofs.Rule.{over}

-- every frame has eight bytes
abbrev pub Eights : List (List ℕ) → Type 0
Eights [] = Unit
Eights (f ∷ fs) = (length f ≡ 8) × Eights fs

-- the information bits of 104 bits
abbrev pub information_bits : List ℕ → List ℕ
information_bits l = take 16 l ++ (take 16 (drop 26 l) ++ (take 16 (drop 52 l) ++ take 16 (drop 78 l)))

pub information_64 : (l : List ℕ) → 104 ≤ length l → length (information_bits l) ≡ 64
information_64 l h =
    let a = length-take-le 16 l (omega arith) in
    let b = length-take-le 16 (drop 26 l) (omega (arith, length-drop 26 l)) in
    let c = length-take-le 16 (drop 52 l) (omega (arith, length-drop 52 l)) in
    let d = length-take-le 16 (drop 78 l) (omega (arith, length-drop 78 l)) in
    omega (
      arith,
      length-append (take 16 l) (take 16 (drop 26 l) ++ (take 16 (drop 52 l) ++ take 16 (drop 78 l))),
      length-append (take 16 (drop 26 l)) (take 16 (drop 52 l) ++ take 16 (drop 78 l)),
      length-append (take 16 (drop 52 l)) (take 16 (drop 78 l)),
    )

pub eight_bytes : (l : List ℕ) → 104 ≤ length l → length (information l) ≡ 8
unfolding information
eight_bytes l h = length_run (information_bits l) 0 (length (information_bits l) / 8) 8 ∙ omega (arith, information_64 l h)

-- four blocks as mended are 104 bits
pub mended_long : (l : List ℕ) → length (mended_bits l) ≡ 104
unfolding mended_bits
mended_long l =
    let d = bits_of 26 (block_at l 78 D).block in
    let c = bits_of 26 (block_at l 52 C).block ++ d in
    let b = bits_of 26 (block_at l 26 B).block ++ c in
    omega (
      arith,
      length-append (bits_of 26 (block_at l 0 A).block) b,
      length-append (bits_of 26 (block_at l 26 B).block) c,
      length-append (bits_of 26 (block_at l 52 C).block) d,
      length_bits_of 26 (block_at l 0 A).block,
      length_bits_of 26 (block_at l 26 B).block,
      length_bits_of 26 (block_at l 52 C).block,
      length_bits_of 26 (block_at l 78 D).block,
    )

pub under_mended : (l : List ℕ) → Under 2 (mended_bits l)
unfolding mended_bits
under_mended l =
    under_append 2 (bits_of 26 (block_at l 0 A).block) _ (under_bits_of 26 (block_at l 0 A).block)
    (under_append 2 (bits_of 26 (block_at l 26 B).block) _ (under_bits_of 26 (block_at l 26 B).block)
    (under_append 2 (bits_of 26 (block_at l 52 C).block) (bits_of 26 (block_at l 78 D).block) (under_bits_of 26 (block_at l 52 C).block) (under_bits_of 26 (block_at l 78 D).block)))

pub taken_eight : (t : Bool) (l : List ℕ) → 104 ≤ length l → length (taken_bytes t l) ≡ 8
unfolding taken_bytes
taken_eight false l h = eight_bytes l h
taken_eight true l h = eight_bytes (mended_bits l) (omega (arith, mended_long l))

pub record Sound (t : Bool) (l : List ℕ) (h : Heard) : Type 0 where
  pub eights : Eights h.frames
  pub counted : length h.counts ≡ length h.frames
  pub short : length h.pending < 104
  pub bits : Under 2 l → Under 2 h.pending
  pub room : length h.frames * 104 + length h.pending ≤ length l

pub sound : (t : Bool) (l : List ℕ) → Sound t l (heard t l)
sound =
    over Sound
    (λ t l k. record { eights = tt; counted = refl; short = k; bits = λ u. u; room = omega arith })
    (λ t l h k v ih. record {
      eights = (taken_eight t l k, ih.eights);
      counted = omega (arith, ih.counted);
      short = ih.short;
      bits = λ u. ih.bits (under_drop 2 104 l u);
      room = omega (arith, ih.room, length-drop 104 l);
    })
    (λ t l h k v ih. record {
      eights = ih.eights;
      counted = ih.counted;
      short = ih.short;
      bits = λ u. ih.bits (under_drop 2 1 l u);
      room = omega (arith, ih.room, length-drop 1 l);
    })

pub eights_joined : (fs : List (List ℕ)) → Eights fs → length (joined fs) ≡ length fs * 8
unfolding joined
eights_joined [] u = omega arith
eights_joined (f ∷ fs) (e, u) = length-append f (joined fs) ∙ omega (arith, eights_joined fs u)

module _ (r : Receiver) (d : List ℕ) where
  pub hearing_sound : Sound (follows_of r) (pending_of r ++ bits d) (hearing r d)
  unfolding hearing
  hearing_sound = sound (follows_of r) (pending_of r ++ bits d)

  pub hearing_bits : Under 2 (hearing r d).pending
  hearing_bits = hearing_sound.bits (under_append 2 (pending_of r) (bits d) (under_bits_of r.count _) (under_spread 8 d))

  -- A delivery of at most 512 bytes, with at most 103 bits pending before it, holds at most 40 frames: there is no 41st.
  pub at_most_forty : r.count ≤ 103 → length d ≤ 512 → length (hearing r d).frames ≤ 40
  at_most_forty h k =
      omega (arith, hearing_sound.room, length-append (pending_of r) (bits d), length_bits_of r.count (r.high * 2 ^ 64 + r.low), length_spread 8 d)
