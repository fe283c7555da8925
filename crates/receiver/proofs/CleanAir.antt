-- What was put on air frame by frame, clean or with short bursts, is what a fresh receiver hands out. Assumes nothing.
use mathlib.Core.Path.{sym, ◌≡◌, ap, ap₂, ◌∙◌, refl, subst}
use mathlib.Core.Bool.{true, false, ◌&&◌}
use mathlib.Core.List.{List, [], ◌∷◌, ◌++◌, append_assoc, append-nil}
use Prim.Native.Nat.{ℕ, zero, suc, ◌+◌, ◌*◌, ◌^◌, ◌≤◌, ◌<◌}
use native.Mathlib.Omega.{arith}
use lib.ListN.{length, take, drop, replicate, length-append}
use lib.Seq.{take_all, take_at, drop_at, drop-drop}
use Rattle.laws.specs.Bits.{at, bits_of, spread, bits, bytes}
use Rattle.laws.proofs.Bits.{Under, length_bits_of, at_below, under_spread, under_take}
use Rattle.block.specs.Block.{offset_of, check_word, is_valid}
use Rattle.block.specs.declared.Letter.{Letter}
use Rattle.block.specs.declared.Letter.TheVariants.{A, B, C, D}
use Rattle.block.proofs.Validity.{check_word_small, made_valid}
use Rattle.frame.specs.OnAir.{block_bits, frame_bits, air_bytes, stream_of}
use Rattle.frame.specs.Examples.{zeros_on_air}
use Rattle.frame.proofs.OnAir.{block_number, length_block, length_frame, word_at, block, stream_bits}
use Rattle.frame.proofs.OnAir as on_air
use Rattle.receiver.specs.Rule.{Heard, is_frame, information, is_taken, taken_bytes, taken_count, onto, heard}
use Rattle.receiver.specs.Receive.{quiet_receiver, fresh_receiver, end_of, hearing}
use Rattle.receiver.specs.Calls.{Call, some, IsFrame, AreFrames, all_taken, all_frames, all_counts, last_receiver, delivered, in_bounds}
use Rattle.receiver.specs.Standing.{Damaged, BackToBack}
use Rattle.receiver.proofs.Rule.{heard_short, heard_frame}
use Rattle.receiver.proofs.Starts.{fields, same_frame, same_information, same_taken, same_bytes, same_count, damaged_taken, damaged_bytes, damaged_count}
use Rattle.receiver.proofs.Cutting.{cutting_any, takes_all}
use Rattle.receiver.proofs.Stood.{under_frame, undamaged, clean_there}

-- ---- a block as it was made
-- its 26 bits as one number
number : ℕ → Letter → ℕ
number w x = w * 2 ^ 10 + check_word w (offset_of x)

module _ (w : ℕ) (x : Letter) (h : w < 2 ^ 16) where
  number_lt : number w x < 2 ^ 26
  unfolding number
  number_lt = let s : check_word w (offset_of x) < 2 ^ 10 = check_word_small w x in omega arith

  number_valid : is_valid (number w x) x ≡ true
  unfolding number
  number_valid = made_valid w x h

  word : (m : List ℕ) → take 16 (block_bits w x ++ m) ≡ bits_of 16 w
  unfolding block_bits
  word m =
      ap (take 16) (append_assoc (bits_of 16 w) (bits_of 10 (check_word w (offset_of x))) m)
      ∙ take_at (bits_of 16 w) (bits_of 10 (check_word w (offset_of x)) ++ m) 16 (length_bits_of 16 w)

-- ---- a frame as it was made
module _ (f : List ℕ) where
  small : (p : ℕ) → word_at f p < 2 ^ 16
  small p = at_below (bits f) p 16 (under_spread 8 f)

  -- it is a frame
  made_frame : is_frame (frame_bits f) ≡ true
  unfolding is_frame frame_bits number
  made_frame =
      let e : frame_bits f ≡ bits_of 26 (number (word_at f 0) A) ++ (bits_of 26 (number (word_at f 16) B) ++ (bits_of 26 (number (word_at f 32) C) ++ bits_of 26 (number (word_at f 48) D))) =
      ap₂ (λ (a b : List ℕ). a ++ b) (block_number (word_at f 0) A)
      (ap₂ (λ (a b : List ℕ). a ++ b) (block_number (word_at f 16) B) (ap₂ (λ (a b : List ℕ). a ++ b) (block_number (word_at f 32) C) (block_number (word_at f 48) D))) in
      let n =
      fields 26 (number (word_at f 0) A) (number (word_at f 16) B) (number (word_at f 32) C) (number (word_at f 48) D)
      (number_lt (word_at f 0) A (small 0)) (number_lt (word_at f 16) B (small 16)) (number_lt (word_at f 32) C (small 32)) (number_lt (word_at f 48) D (small 48)) (frame_bits f) e in
      ap₂ ◌&&◌ (ap (λ (x : ℕ). is_valid x A) n.0 ∙ number_valid (word_at f 0) A (small 0))
      (ap₂ ◌&&◌ (ap (λ (x : ℕ). is_valid x B) n.1 ∙ number_valid (word_at f 16) B (small 16))
      (ap₂ ◌&&◌ (ap (λ (x : ℕ). is_valid x C) n.2 ∙ number_valid (word_at f 32) C (small 32)) (ap (λ (x : ℕ). is_valid x D) n.3 ∙ number_valid (word_at f 48) D (small 48))))

  -- with its own information
  made_information : IsFrame f → information (frame_bits f) ≡ f
  unfolding information frame_bits
  made_information i =
      let b1 = block f 16 B ++ (block f 32 C ++ block f 48 D) in
      let b2 = block f 32 C ++ block f 48 D in
      let b3 = block f 48 D in
      let l = block f 0 A ++ b1 in
      let d1 : drop 26 l ≡ b1 = drop_at (block f 0 A) b1 26 (length_block (word_at f 0) A) in
      let d2 : drop 52 l ≡ b2 = sym (drop-drop 26 26 l) ∙ ap (drop 26) d1 ∙ drop_at (block f 16 B) b2 26 (length_block (word_at f 16) B) in
      let d3 : drop 78 l ≡ b3 = sym (drop-drop 26 52 l) ∙ ap (drop 26) d2 ∙ drop_at (block f 32 C) b3 26 (length_block (word_at f 32) C) in
      let last : take 16 b3 ≡ bits_of 16 (word_at f 48) = ap (take 16) (sym (append-nil b3)) ∙ word (word_at f 48) D (small 48) [] in
      ap bytes
      (ap₂ (λ (a b : List ℕ). a ++ b) (word (word_at f 0) A (small 0) b1)
      (ap₂ (λ (a b : List ℕ). a ++ b) (ap (take 16) d1 ∙ word (word_at f 16) B (small 16) b2)
      (ap₂ (λ (a b : List ℕ). a ++ b) (ap (take 16) d2 ∙ word (word_at f 32) C (small 32) b3) (ap (take 16) d3 ∙ last)))
      ∙ left (bits_of 16 (word_at f 0)) (bits_of 16 (word_at f 16)) (bits_of 16 (word_at f 32)) (bits_of 16 (word_at f 48)))
      ∙ on_air.information f i.0 i.1
    where
      left : (a b c d : List ℕ) → a ++ (b ++ (c ++ d)) ≡ ((a ++ b) ++ c) ++ d
      left a b c d = simp append_assoc

  -- so it is handed out, from a start that follows no frame
  first_frame : (m : List ℕ) → IsFrame f → heard false (frame_bits f ++ m) ≡ onto (f ∷ []) (0 ∷ []) (heard true m)
  unfolding is_taken taken_bytes taken_count
  first_frame m i =
      let n = length_frame f in
      let k : 104 ≤ length (frame_bits f) = omega arith in
      heard_frame false (frame_bits f ++ m) (omega (arith, length-append (frame_bits f) m)) (same_frame (frame_bits f) m k ∙ made_frame)
      ∙ ap₂ (λ (g r : List ℕ). onto (g ∷ []) (0 ∷ []) (heard true r)) (same_information (frame_bits f) m k ∙ made_information i) (drop_at (frame_bits f) m 104 n)

  -- and from one that does, with its blocks damaged or not
  next_frame : (x m : List ℕ) (k : ℕ) → IsFrame f → Damaged (frame_bits f) x k → heard true (x ++ m) ≡ onto (f ∷ []) (k ∷ []) (heard true m)
  next_frame x m k i d =
      let n = d.long in
      let h : 104 ≤ length x = omega arith in
      let s : 104 ≤ length (frame_bits f) = omega (arith, length_frame f) in
      heard_frame true (x ++ m) (omega (arith, length-append x m)) (same_taken x m h true ∙ damaged_taken (frame_bits f) x k made_frame d)
      ∙ ap₂ (λ (g : List ℕ) (c : ℕ). onto (g ∷ []) (c ∷ []) (heard true (drop 104 (x ++ m))))
      (same_bytes x m h true ∙ damaged_bytes (frame_bits f) x k made_frame d s (under_frame f) ∙ made_information i)
      (same_count x m h true ∙ damaged_count (frame_bits f) x k made_frame d)
      ∙ ap (λ (r : List ℕ). onto (f ∷ []) (k ∷ []) (heard true r)) (drop_at x m 104 n)

-- ---- frames one after the other
next_frames : (fs : List (List ℕ)) (ks l : List ℕ) → AreFrames fs → BackToBack fs ks l → heard true l ≡ record { frames = fs; counts = ks; pending = []; follows = true }
next_frames [] [] l u e = ap (heard true) e ∙ heard_short true [] (omega arith)
next_frames [] (k ∷ ks) l u e = absurd e
next_frames (f ∷ fs) [] l u e = absurd e
next_frames (f ∷ fs) (k ∷ ks) l (i, u) e =
    ap (heard true) e.there ∙ next_frame f e.stood e.behind k i e.damage ∙ ap (onto (f ∷ []) (k ∷ [])) (next_frames fs ks e.behind u e.rest)

-- the first of which no block is damaged
all_frames_lem : (f : List ℕ) (fs : List (List ℕ)) (ks l : List ℕ) → Under 2 l → AreFrames (f ∷ fs) → BackToBack (f ∷ fs) (0 ∷ ks) l
    → heard false l ≡ record { frames = f ∷ fs; counts = 0 ∷ ks; pending = []; follows = true }
all_frames_lem f fs ks l w (i, u) e =
    let d = e.damage in
    let n = length_frame f in
    let x : Under 2 e.stood = subst (Under 2) (ap (take 104) e.there ∙ take_at e.stood e.behind 104 d.long) (under_take 2 104 l w) in
    let s : frame_bits f ≡ e.stood = sym (take_all 104 (frame_bits f) (omega arith)) ∙ clean_there (frame_bits f) e.stood 0 (omega arith) (under_frame f) x d refl in
    ap (heard false) (e.there ∙ ap (λ (m : List ℕ). m ++ e.behind) (sym s))
    ∙ first_frame f e.behind i
    ∙ ap (onto (f ∷ []) (0 ∷ [])) (next_frames fs ks e.behind u e.rest)

-- Frames sent back to back, of which every block but those of the first frame is damaged only within five neighbouring bits, given to a fresh receiver in
-- deliveries cut anywhere, are all handed out as they were sent, each with the number of its damaged blocks; no delivery is refused, and nothing is pending.
pub bursts_mended : (f : List ℕ) (fs : List (List ℕ)) (ks : List ℕ) (c : Call) (cs : List Call) → AreFrames (f ∷ fs) → in_bounds (c ∷ cs) ≡ true
    → BackToBack (f ∷ fs) (0 ∷ ks) (bits (delivered (c ∷ cs)))
    → (all_taken fresh_receiver (c ∷ cs) ≡ true)
    × (all_frames fresh_receiver (c ∷ cs) ≡ f ∷ fs)
    × (all_counts fresh_receiver (c ∷ cs) ≡ 0 ∷ ks)
    × (last_receiver fresh_receiver (c ∷ cs) ≡ quiet_receiver true)
unfolding at hearing bits_of
bursts_mended f fs ks c cs u b e =
    let t = takes_all fresh_receiver (c ∷ cs) (omega arith) b in
    let r = cutting_any fresh_receiver c cs t in
    let h : hearing fresh_receiver (delivered (c ∷ cs)) ≡ record { frames = f ∷ fs; counts = 0 ∷ ks; pending = []; follows = true } =
    all_frames_lem f fs ks (bits (delivered (c ∷ cs))) (under_spread 8 (delivered (c ∷ cs))) u e in
    (t, r.0 ∙ ap (λ (x : Heard). x.frames) h, r.1 ∙ ap (λ (x : Heard). x.counts) h, r.2 ∙ ap end_of h)

-- ---- clean air
sent_so : (fs : List (List ℕ)) → BackToBack fs (replicate (length fs) 0) (bits (stream_of fs))
unfolding stream_of spread
sent_so [] = refl
sent_so (f ∷ fs) = record {
  stood = frame_bits f;
  behind = bits (stream_of fs);
  there = stream_bits f fs;
  damage = undamaged (frame_bits f) (length_frame f);
  rest = sent_so fs;
}

clean_stream : (fs : List (List ℕ)) → AreFrames fs → heard false (bits (stream_of fs)) ≡ record { frames = fs; counts = replicate (length fs) 0; pending = []; follows = some fs }
unfolding stream_of spread
clean_stream [] u = heard_short false [] (omega arith)
clean_stream (f ∷ fs) u = all_frames_lem f fs (replicate (length fs) 0) (bits (stream_of (f ∷ fs))) (under_spread 8 (stream_of (f ∷ fs))) u (sent_so (f ∷ fs))

-- The thirteen bytes of each of some frames, one after the other, given to a fresh receiver in deliveries cut anywhere, come back as exactly
-- those frames, with no block mended; no delivery is refused, and nothing is pending.
pub clean_air : (fs : List (List ℕ)) (c : Call) (cs : List Call) → AreFrames fs → in_bounds (c ∷ cs) ≡ true → delivered (c ∷ cs) ≡ stream_of fs
    → (all_taken fresh_receiver (c ∷ cs) ≡ true)
    × (all_frames fresh_receiver (c ∷ cs) ≡ fs)
    × (all_counts fresh_receiver (c ∷ cs) ≡ replicate (length fs) 0)
    × (last_receiver fresh_receiver (c ∷ cs) ≡ quiet_receiver (some fs))
unfolding at hearing bits_of
clean_air fs c cs u b e =
    let t = takes_all fresh_receiver (c ∷ cs) (omega arith) b in
    let r = cutting_any fresh_receiver c cs t in
    let h : hearing fresh_receiver (delivered (c ∷ cs)) ≡ record { frames = fs; counts = replicate (length fs) 0; pending = []; follows = some fs } = ap (hearing fresh_receiver) e ∙ clean_stream fs u in
    (t, r.0 ∙ ap (λ (x : Heard). x.frames) h, r.1 ∙ ap (λ (x : Heard). x.counts) h, r.2 ∙ ap end_of h)

-- The listing program's example: thirteen bytes, one frame of eight zeros, and nothing pending.
abbrev zeros : List ℕ
zeros = 0 ∷ 0 ∷ 0 ∷ 0 ∷ 0 ∷ 0 ∷ 0 ∷ 0 ∷ []

small_zeros : Under 256 zeros
small_zeros zero = omega arith
small_zeros (suc zero) = omega arith
small_zeros (suc (suc zero)) = omega arith
small_zeros (suc (suc (suc zero))) = omega arith
small_zeros (suc (suc (suc (suc zero)))) = omega arith
small_zeros (suc (suc (suc (suc (suc zero))))) = omega arith
small_zeros (suc (suc (suc (suc (suc (suc zero)))))) = omega arith
small_zeros (suc (suc (suc (suc (suc (suc (suc zero))))))) = omega arith
small_zeros (suc (suc (suc (suc (suc (suc (suc (suc i)))))))) = omega arith

pub listing_example : hearing fresh_receiver (0x00 ∷ 0x00 ∷ 0x3F ∷ 0x00 ∷ 0x00 ∷ 0x19 ∷ 0x80 ∷ 0x00 ∷ 0x05 ∷ 0xA0 ∷ 0x00 ∷ 0x01 ∷ 0xB4 ∷ []) ≡ record { frames = zeros ∷ []; counts = 0 ∷ []; pending = []; follows = true }
unfolding hearing bits_of stream_of
listing_example =
    ap (λ (b : List ℕ). heard false (bits b)) (sym (append-nil (air_bytes zeros) ∙ zeros_on_air))
    ∙ clean_stream (zeros ∷ []) ((refl, small_zeros), tt)
