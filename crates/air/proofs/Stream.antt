-- The loop over the frames: how it starts, goes on and ends. Assumes nothing.
use mathlib.Core.Path.{◌≡◌, refl, sym, ap, ap₂, ◌∙◌}
use mathlib.Core.List.{List, ◌++◌}
use Prim.Native.Nat.{ℕ, suc, ◌+◌, ◌-◌, ◌*◌, ◌<◌, ◌≤◌}
use native.Mathlib.Omega.{arith}
use lib.ListN.{length, take, drop}
use lib.Seq.{sets, length-sets}
use borrow.Rule.Slice.PartMut.{put_mid}
use Rattle.laws.proofs.Writes.{sets_append}
use Rattle.laws.proofs.Parts.{in_part}
use Rattle.frame.specs.declared.Total.{Total}
use Rattle.frame.specs.declared.Number.{Number}
use Rattle.frame.specs.OnAir.{air_bytes, stream_of}
use Rattle.air.specs.OnAir.{frames_for, total_for, frame_of, heading_for, frames_from, frames_of}
use Rattle.frame.proofs.OnAir.{length_air}

-- The frames of a packet of p bytes have room for it and its two check bytes, and no fewer frames have.
pub frames_least : (p : ℕ) → (p + 2 ≤ 4 * frames_for p) × ((n : ℕ) → p + 2 ≤ 4 * n → frames_for p ≤ n)
unfolding frames_for
frames_least p = (omega arith, λ n h. omega arith)

-- at most 63 frames
pub few : (p : ℕ) → p ≤ 250 → frames_for p ≤ 63
unfolding frames_for
few p h = omega arith

pub few_total : (packet : List ℕ) (total : Total) → length packet ≤ 250 → total ≡ total_for (length packet) → (total.0 ≡ frames_for (length packet)) × (total.0 ≤ 63)
few_total packet total h e =
    let t : total.0 ≡ frames_for (length packet) = ap (λ (k : Total). k.0) e in
    (t, omega (arith, few (length packet) h))

-- the number behind this one
abbrev pub next : Number → Number
next number = record { 0 = number.0 + 1 }

pub record Going (packet : List ℕ) (level version : ℕ) (out₀ : List ℕ) (total : Total) (out : List ℕ) (number : Number) : Type 0 where
  pub within : number.0 ≤ total.0
  pub kept : length out ≡ length out₀
  pub rest : sets out₀ 0 (stream_of (frames_of packet level version)) ≡ sets out (13 * number.0) (stream_of (frames_from packet level version number (total.0 - number.0)))

pub going_first : (packet : List ℕ) (level version : ℕ) (out : List ℕ) (total : Total) → total ≡ total_for (length packet) → Going packet level version out total out (record { 0 = 0 })
unfolding frames_of
going_first packet level version out total e =
    let t : total.0 ≡ frames_for (length packet) = ap (λ (k : Total). k.0) e in
    let z : total.0 - 0 ≡ frames_for (length packet) = omega arith in
    record { within = omega arith; kept = refl; rest = rw z }

pub going_turn : (packet : List ℕ) (level version : ℕ) (out₀ : List ℕ) (total : Total) (out part : List ℕ) (number : Number) → Going packet level version out₀ total out number
    → number.0 < total.0 → total ≡ total_for (length packet) → 13 * total.0 ≤ length out₀
    → part ≡ sets (take (length out - 13 * number.0) (drop (13 * number.0) out)) 0 (air_bytes (frame_of packet (heading_for level version total number)))
    → Going packet level version out₀ total (put_mid (13 * number.0) (length out - 13 * number.0) out part) (next number)
unfolding frames_from stream_of
going_turn packet level version out₀ total out part number g h e w p =
    let k = g.kept in
    let at = 13 * number.0 in
    let f = frame_of packet (heading_for level version total number) in
    let behind = stream_of (frames_from packet level version (next number) (total.0 - (number.0 + 1))) in
    let m = length_air f in
    let put : put_mid (13 * number.0) (length out - 13 * number.0) out part ≡ sets out (13 * number.0) (air_bytes f) =
    in_part out (air_bytes f) part (13 * number.0) (omega arith) p in
    let n : total.0 - number.0 ≡ suc (total.0 - (number.0 + 1)) = omega arith in
    let q : 13 * number.0 + length (air_bytes f) ≡ 13 * (number.0 + 1) = omega arith in
    record {
      within = omega arith;
      kept = ap length put ∙ length-sets out at (air_bytes f) ∙ k;
      rest =
          g.rest
          ∙ ap (λ (j : ℕ). sets out at (stream_of (frames_from packet level version number j))) n
          ∙ ap (λ (t : Total). sets out at (air_bytes (frame_of packet (heading_for level version t number)) ++ behind)) (sym e)
          ∙ sets_append (air_bytes f) behind out at
          ∙ ap₂ (λ (o : List ℕ) (j : ℕ). sets o j behind) (sym put) q;
    }

pub going_last : (packet : List ℕ) (level version : ℕ) (out₀ : List ℕ) (total : Total) (out : List ℕ) (number : Number) → Going packet level version out₀ total out number → total.0 ≤ number.0
    → out ≡ sets out₀ 0 (stream_of (frames_of packet level version))
unfolding frames_from stream_of
going_last packet level version out₀ total out number g h =
    let z : total.0 - number.0 ≡ 0 = omega arith in
    sym (g.rest ∙ rw z)
