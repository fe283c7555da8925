-- A part's number, head and packet as the code puts them. Assumes nothing.
use mathlib.Core.Path.{◌≡◌, sym, ap, ap₂, ◌∙◌}
use mathlib.Core.List.{List}
use Prim.Native.Nat.{ℕ, ◌+◌, ◌-◌, ◌≤◌}
use native.Mathlib.Omega.{arith}
use lib.ListN.{length, take, drop, length-append, replicate, length-replicate}
use lib.Seq.{sets, take_at}
use Rattle.laws.proofs.Writes.{sets_append, from_front}
use Rattle.packet.specs.declared.Fields.{Fields}
use Rattle.packet.specs.Writing.{bytes_for, written_answer, packet_output, output_by}
use Rattle.story.specs.declared.Story.{Story}
use Rattle.story.specs.Telling.{head_of, number_after, fields_with, part_fields, part_body, part_packet}
use Rattle.story.specs.Given.{Lengths}
use Rattle.story.proofs.Part.{part_written, part_long}
use Rattle.tell.specs.Steps.{Sendable}

-- what the writer leaves where it takes the part
pub part_put : (s : Story) (codes : List ℕ) (n k : ℕ) (piece out : List ℕ) → Lengths s → Sendable s codes n k piece (length out)
    → packet_output (part_fields s k piece) codes (part_body n k piece) out ≡ sets out 0 (part_packet s codes n k piece)
unfolding packet_output part_packet
part_put s codes n k piece out y h =
    let b = bytes_for (part_fields s k piece) codes (part_body n k piece) in
    ap (λ (a : ℕ). output_by a b out) (part_written s codes y h.own n k piece h.fits (length out) h.room_left)
    ∙ sym (from_front b out (omega (arith, part_long s codes y h.own n k piece h.fits, h.room_left)))

-- the body: the head, then the text, from the first byte on
pub body_put : (z a b : List ℕ) (n k : ℕ) (piece : List ℕ) → a ≡ sets z 0 (head_of (k + 1) n) → b ≡ sets a 4 piece → 4 + length piece ≤ length z → take (4 + length piece) b ≡ part_body n k piece
body_put z a b n k piece e f h =
    let v = part_body n k piece in
    let l : length v ≡ 4 + length piece = length-append (head_of (k + 1) n) piece in
    ap (take (4 + length piece)) (f ∙ ap (λ (x : List ℕ). sets x 4 piece) e ∙ sym (sets_append (head_of (k + 1) n) piece z 0) ∙ from_front v z (omega arith)) ∙ take_at v (drop (length v) z) (4 + length piece) l

-- the writer takes it
pub part_sent : (s : Story) (codes : List ℕ) (n k : ℕ) (piece : List ℕ) (room : ℕ) (f : Fields) (d : List ℕ) (t : ℕ) (b : List ℕ) → Lengths s → Sendable s codes n k piece room
    → f ≡ fields_with s d t → d ≡ number_after s.digits k → t ≡ 4 + length piece → take (4 + length piece) b ≡ part_body n k piece → written_answer f codes (take (t - 0) b) room ≡ 0
part_sent s codes n k piece room f d t b y h fe de te be =
    let z : t - 0 ≡ 4 + length piece = omega arith in
    ap (λ (g : Fields). written_answer g codes (take (t - 0) b) room) (fe ∙ ap₂ (λ (x : List ℕ) (m : ℕ). fields_with s x m) de te)
    ∙ ap (λ (x : List ℕ). written_answer (part_fields s k piece) codes x room) (ap (λ (m : ℕ). take m b) z ∙ be)
    ∙ part_written s codes y h.own n k piece h.fits room h.room_left

-- all of it
pub part_done : (s : Story) (codes : List ℕ) (n k : ℕ) (piece out : List ℕ) (f : Fields) (d : List ℕ) (t : ℕ) (b exit : List ℕ) → Lengths s → Sendable s codes n k piece (length out)
    → f ≡ fields_with s d t → d ≡ number_after s.digits k → t ≡ 4 + length piece → take (4 + length piece) b ≡ part_body n k piece → exit ≡ packet_output f codes (take (t - 0) b) out
    → exit ≡ sets out 0 (part_packet s codes n k piece)
part_done s codes n k piece out f d t b exit y h fe de te be e =
    let z : t - 0 ≡ 4 + length piece = omega arith in
    e
    ∙ ap (λ (g : Fields). packet_output g codes (take (t - 0) b) out) (fe ∙ ap₂ (λ (x : List ℕ) (m : ℕ). fields_with s x m) de te)
    ∙ ap (λ (x : List ℕ). packet_output (part_fields s k piece) codes x out) (ap (λ (m : ℕ). take m b) z ∙ be)
    ∙ part_put s codes n k piece out y h

pub body_put_250 : (a b : List ℕ) (n k : ℕ) (piece : List ℕ) → a ≡ sets (replicate 250 0) 0 (head_of (k + 1) n) → b ≡ sets a 4 piece → length piece ≤ 246 → take (4 + length piece) b ≡ part_body n k piece
body_put_250 a b n k piece e f h = body_put (replicate 250 0) a b n k piece e f (omega (arith, length-replicate {A = ℕ} 250 0))
