-- A story that is told comes back whole, whatever the order its packets are lent in. Assumes nothing.
use mathlib.Core.Path.{◌≡◌, refl, sym, ap, ap₂, subst, ◌∙◌}
use mathlib.Core.List.{List, [], ◌∷◌, ◌++◌}
use mathlib.Core.Bool.{Bool, true, false, not}
use Prim.Native.Nat.{ℕ, zero, suc, ◌+◌, ◌-◌, ◌≤◌, ◌<◌}
use native.Mathlib.Omega.{arith}
use lib.ListN.{length, take, drop, get_or}
use lib.Seq.{take_at, take-append_seam, drop-append_seam}
use lib.Dec.{leb, ltb}
use borrow.Author.Tests.{ltb-false, leb-true, le-ltb}
use Rattle.laws.specs.Scan.{all}
use Rattle.laws.specs.Refusals.{first}
use Rattle.laws.specs.Bits.{Under}
use Rattle.laws.proofs.Bits.{under_take, under_drop}
use Rattle.laws.proofs.Elements.{all_head, all_tail, all_at}
use Rattle.laws.proofs.Refusals.{not_due, pass, none_left}
use Rattle.packet.specs.Table.{kind_of}
use Rattle.packet.specs.Reading.{is_unknown}
use Rattle.packet.specs.Writing.{size_for, bytes_for, count_bad, digit_bad, not_taken, written_answer, output_by}
use Rattle.trips.specs.Given.{Typed}
use Rattle.story.specs.declared.Story.{Story}
use Rattle.story.specs.Characters.{lone, characters, parted}
use Rattle.laws.specs.Lists.{together}
use Rattle.story.specs.Telling.{head_of, room_with, last_four, part_fields, part_body, part_packet, own_cases, part_texts, part_count, packets_from, packets_of, bytes_of, told_answer, told_by, told, tell_output}
use Rattle.story.specs.Joining.{lent, text_in, texts, in_order, joinable, join_answer, joined_by, joined, join_output}
use Rattle.order.specs.Given.{Rearranged}
use Rattle.story.specs.Given.{Given}
use Rattle.story.proofs.Dealing.{some_part}
use Rattle.story.proofs.Whole.{whole_characters}
use Rattle.story.proofs.Shuffled.{length_same, all_same}
use Rattle.story.proofs.Cutting.{stated, cut_back}
use Rattle.story.proofs.Placed.{Parts, no_more, and_more, as_many, all_stated, joined_all}
use Rattle.story.proofs.Part.{bare, few_codes, part_reads, part_typed, part_written}

-- ---- what an answer of 0 says
pub record Tellable (s : Story) (codes text : List ℕ) (room : ℕ) : Type 0 where
  pub own : first (own_cases s codes) ≡ 0
  pub whole : lone text ≡ false
  pub few : part_count s text ≤ 9
  pub numbers : last_four s.digits + (part_count s text - 1) ≤ 9999
  pub room_left : length (bytes_of s codes text) ≤ room

pub tellable : (s : Story) (codes text : List ℕ) (room : ℕ) → told_answer s codes text room ≡ 0 → Tellable s codes text room
unfolding told_answer
tellable s codes text room e =
    let a = not_due (is_unknown (kind_of 15)) 23 _ (λ h. omega arith) e in
    let b = not_due (count_bad (bare s) codes (head_of 1 1)) 26 _ (λ h. omega arith) a.1 in
    let c = not_due (digit_bad (bare s) codes (head_of 1 1)) 25 _ (λ h. omega arith) b.1 in
    let d = not_due (not_taken (bare s) codes (head_of 1 1)) 27 _ (λ h. omega arith) c.1 in
    let f = not_due (ltb 250 (size_for (bare s) (head_of 1 1))) 20 _ (λ h. omega arith) d.1 in
    let g = not_due (lone text) 30 _ (λ h. omega arith) f.1 in
    let h = not_due (ltb 9 (part_count s text)) 31 _ (λ h. omega arith) g.1 in
    let i = not_due (ltb 9999 (last_four s.digits + (part_count s text - 1))) 32 _ (λ h. omega arith) h.1 in
    let j = not_due (ltb room (length (bytes_of s codes text))) 10 _ (λ h. omega arith) i.1 in
    record {
      own = pass 23 _ a.0 ∙ pass 26 _ b.0 ∙ pass 25 _ c.0 ∙ pass 27 _ d.0 ∙ pass 20 _ f.0 ∙ none_left;
      whole = g.0;
      few = ltb-false 9 (part_count s text) h.0;
      numbers = ltb-false 9999 (last_four s.digits + (part_count s text - 1)) i.0;
      room_left = ltb-false room (length (bytes_of s codes text)) j.0;
    }

-- ---- its packets read as its parts
under_first : (p q : List ℕ) → Under 256 (p ++ q) → Under 256 p
under_first p q u = subst (λ (l : List ℕ). Under 256 l) (take-append_seam p q) (under_take 256 (length p) (p ++ q) u)

under_rest : (p q : List ℕ) → Under 256 (p ++ q) → Under 256 q
under_rest p q u = subst (λ (l : List ℕ). Under 256 l) (drop-append_seam p q) (under_drop 256 (length p) (p ++ q) u)

abbrev short : ℕ → List ℕ → Bool
short r p = leb (length p) r

module _ (s : Story) (codes : List ℕ) (y : Given s) (own : first (own_cases s codes) ≡ 0) (n : ℕ) (few : n ≤ 9) (numbers : last_four s.digits + (n - 1) ≤ 9999) where
  reads_all : (ps : List (List ℕ)) (k : ℕ) → k + length ps ≤ n → all (short (room_with s.codes)) ps ≡ true → Under 256 (together ps) → Parts n s.digits k (packets_from s codes n k ps) ps
  unfolding packets_from together
  reads_all [] k h f u = no_more
  reads_all (p ∷ ps) k h f u =
      let l = leb-true (length p) (room_with s.codes) (all_head (short (room_with s.codes)) p ps f) in
      and_more (part_reads s codes y.long own n k p l y (under_first p (together ps) u) (omega arith) few (omega arith))
      (reads_all ps (k + 1) (omega arith) (all_tail (short (room_with s.codes)) p ps f) (under_rest p (together ps) u))

module _ (s : Story) (codes text : List ℕ) (y : Given s) (u : Under 256 text) (room : ℕ) (e : told_answer s codes text room ≡ 0) where
  pub wide_enough : 2 ≤ room_with s.codes
  wide_enough = omega (arith, few_codes s codes y.long (tellable s codes text room e).own)

  pub parts_read : Parts (part_count s text) s.digits 0 (packets_of s codes text) (part_texts s text)
  unfolding packets_of
  parts_read =
      let t = tellable s codes text room e in
      let w = whole_characters (room_with s.codes) text t.whole in
      reads_all s codes y t.own (part_count s text) t.few t.numbers (part_texts s text) 0 (omega arith) (w.3 wide_enough)
      (subst (λ (l : List ℕ). Under 256 l) (sym w.0) u)

  -- the packets in any order are taken apart, and their text is the text
  module _ (bs : List (List ℕ)) (w : Rearranged (packets_of s codes text) bs) where
    lent_is : lent (together bs) ≡ bs
    lent_is =
        let t = tellable s codes text room e in
        let q = parts_read in
        cut_back bs 10 (omega (arith, length_same w, as_many (part_count s text) s.digits q, t.few)) (sym (all_same stated w) ∙ all_stated (part_count s text) s.digits q)

    joins : (joinable (lent (together bs)) ≡ true) × (text_in (together bs) ≡ text)
    unfolding parted
    joins =
        let t = tellable s codes text room e in
        let q = parts_read in
        let r = room_with s.codes in
        let j = joined_all (part_count s text) s.digits (omega (arith, y.long.digits_long)) (sym (as_many (part_count s text) s.digits q)) (some_part r r (characters text)) t.few q w in
        (ap joinable lent_is ∙ j.0, ap (λ (l : List (List ℕ)). texts (in_order l)) lent_is ∙ j.1 ∙ (whole_characters r text t.whole).0)

    join_answer_lem : (space : ℕ) → length text ≤ space → join_answer (together bs) space ≡ 0
    unfolding join_answer
    join_answer_lem space h =
        let j = joins in
        pass 33 _ (ap not j.0) ∙ pass 10 _ (le-ltb space (length (text_in (together bs))) (omega (arith, ap length j.1))) ∙ none_left

-- ---- each part
-- what the part with k before it has: fields of their types, which the writer takes where there is room, and the packet that it writes
pub record Sent (s : Story) (codes text : List ℕ) (k : ℕ) : Type 0 where
  pub typed : Typed (part_fields s k (get_or (part_texts s text) k [])) (part_body (part_count s text) k (get_or (part_texts s text) k []))
  pub taken : (room : ℕ) → 250 ≤ room → written_answer (part_fields s k (get_or (part_texts s text) k [])) codes (part_body (part_count s text) k (get_or (part_texts s text) k [])) room ≡ 0
  pub packet : get_or (packets_of s codes text) k [] ≡ bytes_for (part_fields s k (get_or (part_texts s text) k [])) codes (part_body (part_count s text) k (get_or (part_texts s text) k []))

packet_at : (s : Story) (codes : List ℕ) (n : ℕ) (ps : List (List ℕ)) (j k : ℕ) → k < length ps → get_or (packets_from s codes n j ps) k [] ≡ part_packet s codes n (j + k) (get_or ps k [])
unfolding packets_from
packet_at s codes n [] j k h = absurd (omega arith)
packet_at s codes n (p ∷ ps) j zero h = let z : j ≡ j + 0 = omega arith in ap (λ (i : ℕ). part_packet s codes n i p) z
packet_at s codes n (p ∷ ps) j (suc k) h = let z : j + 1 + k ≡ j + suc k = omega arith in packet_at s codes n ps (j + 1) k (omega arith) ∙ ap (λ (i : ℕ). part_packet s codes n i (get_or ps k [])) z

under_part : (ps : List (List ℕ)) (k : ℕ) → Under 256 (together ps) → Under 256 (get_or ps k [])
unfolding together
under_part [] k u = u
under_part (p ∷ ps) zero u = under_first p (together ps) u
under_part (p ∷ ps) (suc k) u = under_part ps k (under_rest p (together ps) u)

pub sent : (s : Story) (codes text : List ℕ) → Given s → Under 256 text → (room : ℕ) → told_answer s codes text room ≡ 0 → (k : ℕ) → k < part_count s text → Sent s codes text k
unfolding packets_of part_packet
sent s codes text y u room e k h =
    let t = tellable s codes text room e in
    let r = room_with s.codes in
    let w = whole_characters r text t.whole in
    let ps = part_texts s text in
    let n = part_count s text in
    let fits : length (get_or ps k []) ≤ r = leb-true (length (get_or ps k [])) r (all_at (short r) ps k [] (w.3 (wide_enough s codes text y u room e)) h) in
    let few = few_codes s codes y.long t.own in
    let z : 0 + k ≡ k = omega arith in
    let part = under_part ps k (subst (λ (l : List ℕ). Under 256 l) (sym w.0) u) in
    record {
      typed = part_typed s codes y.long t.own n k (get_or ps k []) fits y part (omega (arith, t.few)) t.few;
      taken = λ m big. part_written s codes y.long t.own n k (get_or ps k []) fits m (omega arith);
      packet = packet_at s codes n ps 0 k h ∙ ap (λ (i : ℕ). bytes_for (part_fields s i (get_or ps k [])) codes (part_body n i (get_or ps k []))) z;
    }

-- ---- the theorem
-- Whatever story is told, the bytes told of are its packets back to back; and these packets, lent in any order to the joiner with room for the
-- text, give the text typed, with nothing behind it changed.
pub story_comes_back : (s : Story) (codes text out : List ℕ) → Given s → Under 256 text → told_answer s codes text (length out) ≡ 0
    → (bs : List (List ℕ)) → Rearranged (packets_of s codes text) bs
    → (space : List ℕ) → length text ≤ length space
    → (take (told s codes text (length out)).length (tell_output s codes text out) ≡ together (packets_of s codes text))
    × (joined (together bs) (length space) ≡ record { answer = 0; length = length text })
    × (join_output (together bs) space ≡ text ++ drop (length text) space)
unfolding told tell_output joined join_output bytes_of
story_comes_back s codes text out y u e bs w space h =
    let b = together (packets_of s codes text) in
    let j = joins s codes text y u (length out) e bs w in
    let a = join_answer_lem s codes text y u (length out) e bs w (length space) h in (
      ap (λ (x : ℕ). take (told_by x (part_count s text) (length b)).length (output_by x b out)) e ∙ take_at b (drop (length b) out) (length b) refl,
      ap₂ joined_by a (ap length j.1),
      ap₂ (λ (x : ℕ) (l : List ℕ). output_by x l space) a j.1,
    )
