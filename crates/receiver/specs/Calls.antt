-- Deliveries one after the other, in the words of `receive`'s contract: what the calls hand out and which receiver they end with.
use Rattle.std.specs.Prelude.{◌≡◌, Bool, true, false, ◌&&◌, List, [], ◌∷◌, ◌++◌, ℕ, zero, suc, ◌<◌, length, get_or, take, drop, eqb, leb}
use Rattle.receiver.specs.declared.Receiver.{Receiver}
use Rattle.receiver.specs.declared.Received.{Received}
use Rattle.receiver.specs.Receive.{received_of, received_into, counts_into}

-- n frames as they stand in an output, eight bytes each from its first byte
unfoldable pub frames_in : ℕ → List ℕ → List (List ℕ)
frames_in zero out = []
frames_in (suc n) out = take 8 out ∷ frames_in n (drop 8 out)

-- ---- calls

-- a call: a delivery, the output lent for it, and the one lent for the counts
pub record Call : Type 0 where
  pub delivery : List ℕ
  pub output : List ℕ
  pub counts : List ℕ

-- what it answers
abbrev pub received : Receiver → Call → Received
received r c = received_of r c.delivery c.output c.counts

-- what it hands out: the frames that stand in its output
unfoldable pub handed_out : Receiver → Call → List (List ℕ)
handed_out r c = frames_in (received r c).frames (received_into r c.delivery c.output c.counts)

-- and of each frame how many of its blocks were mended: a byte each in its second output
unfoldable pub mended_in : Receiver → Call → List ℕ
mended_in r c = take (received r c).frames (counts_into r c.delivery c.output c.counts)

-- each call, in turn from the receiver that the one before left, is taken
unfoldable pub all_taken : Receiver → List Call → Bool
all_taken r [] = true
all_taken r (c ∷ cs) = eqb (received r c).answer 0 && all_taken (received r c).receiver cs

-- the frames of all calls, in order
unfoldable pub all_frames : Receiver → List Call → List (List ℕ)
all_frames r [] = []
all_frames r (c ∷ cs) = handed_out r c ++ all_frames (received r c).receiver cs

-- how many of their blocks were mended
unfoldable pub all_counts : Receiver → List Call → List ℕ
all_counts r [] = []
all_counts r (c ∷ cs) = mended_in r c ++ all_counts (received r c).receiver cs

-- the receiver after the last
unfoldable pub last_receiver : Receiver → List Call → Receiver
last_receiver r [] = r
last_receiver r (c ∷ cs) = last_receiver (received r c).receiver cs

-- the bytes that were delivered
unfoldable pub delivered : List Call → List ℕ
delivered [] = []
delivered (c ∷ cs) = c.delivery ++ delivered cs

-- every delivery has at most 512 bytes, every output at least 320, every second one at least 40
unfoldable pub in_bounds : List Call → Bool
in_bounds [] = true
in_bounds (c ∷ cs) = (leb (length c.delivery) 512 && (leb 320 (length c.output) && leb 40 (length c.counts))) && in_bounds cs

-- ---- frames

-- there is one
abbrev pub some : List (List ℕ) → Bool
some [] = false
some (f ∷ fs) = true

-- eight bytes
abbrev pub IsFrame : List ℕ → Type 0
IsFrame f = (length f ≡ 8) × ((i : ℕ) → get_or f i 0 < 256)

-- each of them is a frame
abbrev pub AreFrames : List (List ℕ) → Type 0
AreFrames [] = Unit
AreFrames (f ∷ fs) = IsFrame f × AreFrames fs
