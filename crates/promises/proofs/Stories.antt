-- Paper 02, K1: each number of telling and joining exactly in its case, what a refusal leaves as it was, one outcome of every call, and each part a
-- packet to which the demands apply. Assumes nothing.
use mathlib.Core.Path.{◌≡◌, refl, sym, ap, subst, ◌∙◌}
use mathlib.Core.Bool.{true}
use mathlib.Core.List.{List, [], ◌∷◌, ◌++◌}
use Prim.Native.Nat.{ℕ, zero, suc, ◌-◌, ◌*◌, ◌≤◌, ◌<◌}
use native.Mathlib.Omega.{arith}
use lib.ListN.{length, take, get_or, replicate}
use Rattle.laws.specs.Bits.{Under}
use Rattle.air.specs.OnAir.{frames_for, aired_of, aired_into}
use Rattle.receiver.specs.Receive.{fresh_receiver}
use Rattle.receiver.specs.Calls.{Call, all_taken, all_frames, delivered, in_bounds}
use Rattle.collector.specs.Layout.{no_holdings, copy_gives, copy_leaves}
use Rattle.packet.specs.Writing.{written}
use Rattle.trips.specs.Given.{Typed, packet_of, GivesBack}
use Rattle.trips.proofs.Answers.{write_answer}
use Rattle.trips.proofs.There.{packet_is, fields_come_back}
use Rattle.story.specs.declared.Story.{Story}
use Rattle.story.specs.Telling.{Told, part_fields, part_body, part_packet, part_texts, part_count, packets_of, bytes_of, tell_cases, told_answer, told_by, told, tell_output}
use Rattle.story.specs.Joining.{Joined, text_in, join_cases, join_answer, joined_by, joined, join_output}
use Rattle.story.specs.Given.{Given}
use Rattle.story.proofs.Answers.{tell_apart, join_apart, told_no, joined_no}
use Rattle.story.proofs.Back.{sent}
use Rattle.promises.specs.Exactly.{Exactly}
use Rattle.promises.specs.Run.{answers_from, collected}
use Rattle.promises.proofs.Answers.{exactly}
use Rattle.promises.proofs.Chain.{chain}
use Rattle.promises.proofs.Single.{one_outcome}

pub told_answer_lem : (s : Story) (codes text : List ℕ) (room : ℕ) → (told s codes text room).answer ≡ told_answer s codes text room
unfolding told
told_answer_lem s codes text room = go (told_answer s codes text room)
  where
    go : (a : ℕ) → (told_by a (part_count s text) (length (bytes_of s codes text))).answer ≡ a
    go zero = refl
    go (suc a) = refl

joined_answer : (b : List ℕ) (room : ℕ) → (joined b room).answer ≡ join_answer b room
unfolding joined
joined_answer b room = go (join_answer b room)
  where
    go : (a : ℕ) → (joined_by a (length (text_in b))).answer ≡ a
    go zero = refl
    go (suc a) = refl

-- Whatever story is told, each of its numbers comes exactly when its case holds and none before it does, 0 exactly when no case holds, and no other comes.
pub told_exact : (s : Story) (codes text : List ℕ) (room : ℕ) → Exactly (told s codes text room).answer (tell_cases s codes text room)
unfolding told_answer
told_exact s codes text room =
    subst (λ (a : ℕ). Exactly a (tell_cases s codes text room)) (sym (told_answer_lem s codes text room)) (exactly (tell_cases s codes text room) (tell_apart s codes text room))

-- The same of whatever bytes are joined.
pub joined_exact : (b : List ℕ) (room : ℕ) → Exactly (joined b room).answer (join_cases b room)
unfolding join_answer
joined_exact b room = subst (λ (a : ℕ). Exactly a (join_cases b room)) (sym (joined_answer b room)) (exactly (join_cases b room) (join_apart b room))

-- A story that is refused gives its number with no parts and no bytes, and leaves the output as it was; packets that are refused the same.
pub story_refused_unchanged : ((s : Story) (codes text out : List ℕ) → ((told s codes text (length out)).answer ≡ 0 → ⊥)
    → (told s codes text (length out) ≡ record { answer = (told s codes text (length out)).answer; parts = 0; length = 0 }) × (tell_output s codes text out ≡ out))
    × ((b out : List ℕ) → ((joined b (length out)).answer ≡ 0 → ⊥) → (joined b (length out) ≡ record { answer = (joined b (length out)).answer; length = 0 }) × (join_output b out ≡ out))
unfolding told tell_output joined join_output
story_refused_unchanged = (
  λ s codes text out z.
      let e = told_answer_lem s codes text (length out) in
      let r = told_no (told_answer s codes text (length out)) (part_count s text) (length (bytes_of s codes text)) (bytes_of s codes text) out (λ h. z (e ∙ h)) in
      (r.0 ∙ ap (λ (a : ℕ). record { answer = a; parts = 0; length = 0 }) (sym e), r.1),
  λ b out z.
      let e = joined_answer b (length out) in
      let r = joined_no (join_answer b (length out)) (length (text_in b)) (text_in b) out (λ h. z (e ∙ h)) in
      (r.0 ∙ ap (λ (a : ℕ). record { answer = a; length = 0 }) (sym e), r.1),
)

-- Any two outcomes that the contract of `tell` allows for the same arguments are the same, and so for `join`.
pub story_one_outcome : ((s : Story) (codes text out : List ℕ) (a b : Told) (m n : List ℕ)
    → (a ≡ told s codes text (length out)) × (m ≡ tell_output s codes text out) → (b ≡ told s codes text (length out)) × (n ≡ tell_output s codes text out) → (a ≡ b) × (m ≡ n))
    × ((packets out : List ℕ) (a b : Joined) (m n : List ℕ)
    → (a ≡ joined packets (length out)) × (m ≡ join_output packets out) → (b ≡ joined packets (length out)) × (n ≡ join_output packets out) → (a ≡ b) × (m ≡ n))
story_one_outcome = (
  λ s codes text out. one_outcome (told s codes text (length out)) (tell_output s codes text out),
  λ packets out. one_outcome (joined packets (length out)) (join_output packets out),
)

-- Of every story that is told, each part is the packet that the packet writer writes of its fields, with these values of their types, into any room that has
-- the bytes for it; and the reader gives the fields back.
pub each_part_a_packet : (s : Story) (codes text : List ℕ) (space : ℕ) → Given s → Under 256 text → (told s codes text space).answer ≡ 0
    → (k : ℕ) → k < part_count s text → (room : List ℕ) → 250 ≤ length room
    → let f = part_fields s k (get_or (part_texts s text) k []) in
    let body = part_body (part_count s text) k (get_or (part_texts s text) k []) in
    Typed f body
    × ((written f codes body (length room)).answer ≡ 0)
    × (get_or (packets_of s codes text) k [] ≡ packet_of f codes body room)
    × GivesBack f codes body (get_or (packets_of s codes text) k [])
unfolding part_packet
each_part_a_packet s codes text space y u e k h room big =
    let q = sent s codes text y u space (sym (told_answer_lem s codes text space) ∙ e) k h in
    let f = part_fields s k (get_or (part_texts s text) k []) in
    let body = part_body (part_count s text) k (get_or (part_texts s text) k []) in
    let w : (written f codes body (length room)).answer ≡ 0 = write_answer f codes body (length room) ∙ q.taken (length room) big in
    let p : get_or (packets_of s codes text) k [] ≡ packet_of f codes body room = q.packet ∙ sym (packet_is f codes body room q.typed w).0 in
    (q.typed, w, p, subst (GivesBack f codes body) (sym p) (fields_come_back f codes body room q.typed w))

-- So `chain` holds of each part: sent on air at any level and version, however its air bytes are delivered, it is heard, collected and read as that part.
pub each_part_on_air : (s : Story) (codes text : List ℕ) (space : ℕ) → Given s → Under 256 text → (told s codes text space).answer ≡ 0
    → (k : ℕ) → k < part_count s text
    → let f = part_fields s k (get_or (part_texts s text) k []) in
    let body = part_body (part_count s text) k (get_or (part_texts s text) k []) in
    let packet = get_or (packets_of s codes text) k [] in
    (level version : ℕ) (out : List ℕ) → 1 ≤ level → level ≤ 6 → version ≤ 31 → 13 * frames_for (length packet) ≤ length out
    → (calls : List Call) → in_bounds calls ≡ true
    → delivered calls ≡ take (13 * (aired_of packet level version out).frames) (aired_into packet level version out)
    → (lent : List ℕ) → length packet ≤ length lent
    → ((aired_of packet level version out).answer ≡ 0)
    × (all_taken fresh_receiver calls ≡ true)
    × (answers_from no_holdings (all_frames fresh_receiver calls) ≡ replicate ((aired_of packet level version out).frames - 1) 0 ++ (1 ∷ []))
    × (copy_gives (collected calls) level version (length lent) ≡ record { answer = 0; length = length packet })
    × GivesBack f codes body (take (length packet) (copy_leaves (collected calls) level version lent))
each_part_on_air s codes text space y u e k h =
    let room : List ℕ = replicate 250 0 in
    let f = part_fields s k (get_or (part_texts s text) k []) in
    let body = part_body (part_count s text) k (get_or (part_texts s text) k []) in
    let q = each_part_a_packet s codes text space y u e k h room (omega arith) in
    subst (λ (packet : List ℕ). (level version : ℕ) (out : List ℕ) → 1 ≤ level → level ≤ 6 → version ≤ 31 → 13 * frames_for (length packet) ≤ length out
    → (calls : List Call) → in_bounds calls ≡ true
    → delivered calls ≡ take (13 * (aired_of packet level version out).frames) (aired_into packet level version out)
    → (lent : List ℕ) → length packet ≤ length lent
    → ((aired_of packet level version out).answer ≡ 0)
    × (all_taken fresh_receiver calls ≡ true)
    × (answers_from no_holdings (all_frames fresh_receiver calls) ≡ replicate ((aired_of packet level version out).frames - 1) 0 ++ (1 ∷ []))
    × (copy_gives (collected calls) level version (length lent) ≡ record { answer = 0; length = length packet })
    × GivesBack f codes body (take (length packet) (copy_leaves (collected calls) level version lent))) (sym q.2) (chain f codes body room q.0 q.1)
