-- What `receive` answers and writes (paper 02, K7, K8 and K10).
use Rattle.std.specs.Prelude.{Bool, false, cond, not, ◌||◌, List, [], ◌∷◌, ◌++◌, ℕ, ◌+◌, ◌*◌, ◌/◌, ◌%◌, ◌^◌, length, drop, ltb, eqb}
use Rattle.laws.specs.Bits.{at, bits_of, bits}
use Rattle.laws.specs.Refusals.{Case, first}
use Rattle.receiver.specs.declared.Receiver.{Receiver}
use Rattle.receiver.specs.declared.Received.{Received}
use Rattle.receiver.specs.Rule.{Heard, one, heard}

-- the bits that a record stands for: the low `count` of its 128; nothing above them means anything
abbrev pub pending_of : Receiver → List ℕ
pending_of r = bits_of r.count (r.high * 2 ^ 64 + r.low)

-- whether they directly follow a frame handed out: any number but 0 says so
abbrev pub follows_of : Receiver → Bool
follows_of r = not (eqb r.follows 0)

-- the record that stands for pending bits, with nothing above them
abbrev pub record_of : Bool → List ℕ → Receiver
record_of follows l = record { high = at l 0 (length l) / 2 ^ 64; low = at l 0 (length l) % 2 ^ 64; count = length l; follows = one follows }

-- a receiver with nothing pending, behind a frame or not
abbrev pub quiet_receiver : Bool → Receiver
quiet_receiver follows = record { high = 0; low = 0; count = 0; follows = one follows }

-- a receiver that has heard nothing: it follows no frame
abbrev pub fresh_receiver : Receiver
fresh_receiver = quiet_receiver false

-- the receiver that bits leave
abbrev pub end_of : Heard → Receiver
end_of h = record_of h.follows h.pending

-- what the rule yields of a delivery's bits behind those pending
unfoldable pub hearing : Receiver → List ℕ → Heard
hearing r d = heard (follows_of r) (pending_of r ++ bits d)

-- the bytes of frames, one after the other
unfoldable pub joined : List (List ℕ) → List ℕ
joined [] = []
joined (f ∷ fs) = f ++ joined fs

-- the refusals in their order: 28, more than 103 bits pending; 11, a delivery of more than 512 bytes; 10, an output of fewer than 320 or a second one of fewer than 40
unfoldable pub receive_cases : Receiver → List ℕ → List ℕ → List ℕ → List Case
receive_cases r d out counts = (ltb 103 r.count, 28) ∷ (ltb 512 (length d), 11) ∷ (ltb (length out) 320 || ltb (length counts) 40, 10) ∷ []

unfoldable pub receive_answer : Receiver → List ℕ → List ℕ → List ℕ → ℕ
receive_answer r d out counts = first (receive_cases r d out counts)

-- refused: the record that was given, and no frame; taken: how many frames there are, and the record of what stays pending
unfoldable pub received_of : Receiver → List ℕ → List ℕ → List ℕ → Received
received_of r d out counts =
    cond (eqb (receive_answer r d out counts) 0)
    (record { answer = 0; frames = length (hearing r d).frames; receiver = end_of (hearing r d) })
    (record { answer = receive_answer r d out counts; frames = 0; receiver = r })

-- bytes from the first byte of an output, and the rest as it was
abbrev pub over : List ℕ → List ℕ → List ℕ
over bytes out = bytes ++ drop (length bytes) out

-- the frames' bytes; refused: as it was
unfoldable pub received_into : Receiver → List ℕ → List ℕ → List ℕ → List ℕ
received_into r d out counts = cond (eqb (receive_answer r d out counts) 0) (over (joined (hearing r d).frames) out) out

-- a byte a frame, how many of its blocks were mended; refused: as it was
unfoldable pub counts_into : Receiver → List ℕ → List ℕ → List ℕ → List ℕ
counts_into r d out counts = cond (eqb (receive_answer r d out counts) 0) (over (hearing r d).counts counts) counts
