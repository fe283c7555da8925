-- What is put on air comes back. Assumes nothing.
use mathlib.Core.Path.{◌≡◌, ap, ◌∙◌}
use mathlib.Core.Bool.{true}
use mathlib.Core.List.{List, [], ◌∷◌}
use Prim.Native.Nat.{ℕ, ◌*◌, ◌≤◌}
use native.Mathlib.Omega.{arith}
use lib.ListN.{length, take, drop, replicate}
use lib.Seq.{take_at}
use lib.Dec.{eqb}
use borrow.Author.Tests.{eq-eqb}
use Rattle.laws.proofs.Bits.{Under}
use Rattle.frame.specs.OnAir.{stream_of}
use Rattle.air.specs.OnAir.{frames_for, frames_of, answer_of, aired_of, aired_into}
use Rattle.air.proofs.Answers.{length_frames, length_stream}
use Rattle.receiver.specs.Receive.{quiet_receiver, fresh_receiver}
use Rattle.receiver.specs.Calls.{Call, AreFrames, all_taken, all_frames, all_counts, last_receiver, delivered, in_bounds}
use Rattle.receiver.proofs.CleanAir.{clean_air}
use Rattle.promises.proofs.Sent.{taken, frames_few, are_frames}

module _ (p : List ℕ) (l v : ℕ) (out : List ℕ) (e : answer_of p l v out ≡ 0) where
  -- so many frames, thirteen bytes each
  pub frames_long : length (frames_of p l v) ≡ frames_for (length p)
  unfolding frames_of
  frames_long = length_frames p l v (record { 0 = 0 }) (frames_for (length p))

  stream_long : length (stream_of (frames_of p l v)) ≡ 13 * frames_for (length p)
  stream_long = length_stream (frames_of p l v) ∙ ap (λ (n : ℕ). 13 * n) frames_long

  -- what was written is the frames' stream
  pub written : take (13 * (aired_of p l v out).frames) (aired_into p l v out) ≡ stream_of (frames_of p l v)
  unfolding aired_of aired_into
  written =
      let y : eqb (answer_of p l v out) 0 ≡ true = eq-eqb _ _ e in
      rw (y) (take_at (stream_of (frames_of p l v)) (drop (13 * frames_for (length p)) out) (13 * frames_for (length p)) stream_long)

-- some frames, and some bytes delivered
pub back : (fs : List (List ℕ)) (calls : List Call) → AreFrames fs → 1 ≤ length fs → in_bounds calls ≡ true → delivered calls ≡ stream_of fs
    → (all_taken fresh_receiver calls ≡ true)
    × (all_frames fresh_receiver calls ≡ fs)
    × (all_counts fresh_receiver calls ≡ replicate (length fs) 0)
    × (last_receiver fresh_receiver calls ≡ quiet_receiver true)
unfolding delivered
back [] calls a h b d = absurd (omega arith)
back (f ∷ fs) [] a h b d = let z : 0 ≡ length (stream_of (f ∷ fs)) = ap length d in absurd (omega (arith, length_stream (f ∷ fs)))
back (f ∷ fs) (c ∷ cs) a h b d = clean_air (f ∷ fs) c cs a b d

-- Whatever packet, level and version the on-air writer takes: the bytes that it writes, given to a fresh receiver in deliveries of at most 512 bytes
-- cut anywhere, come back as exactly that packet's frames, in order, with no block mended; no delivery is refused, and the receiver ends right behind a frame
-- with nothing pending.
pub air_comes_back : (packet : List ℕ) (level version : ℕ) (out : List ℕ) → Under 256 packet → (aired_of packet level version out).answer ≡ 0
    → (calls : List Call) → in_bounds calls ≡ true → delivered calls ≡ take (13 * (aired_of packet level version out).frames) (aired_into packet level version out)
    → (all_taken fresh_receiver calls ≡ true)
    × (all_frames fresh_receiver calls ≡ frames_of packet level version)
    × (all_counts fresh_receiver calls ≡ replicate (length (frames_of packet level version)) 0)
    × (last_receiver fresh_receiver calls ≡ quiet_receiver true)
unfolding aired_of
air_comes_back p l v out u e calls b d =
    let t = taken p l v out e in
    back (frames_of p l v) calls (are_frames p l v u t) (omega (arith, (frames_few p l v t).0, frames_long p l v out e)) b (d ∙ written p l v out e)
