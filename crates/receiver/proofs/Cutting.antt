-- Deliveries may be cut anywhere: the frames and the receiver are those that the rule yields of all the bits. Assumes nothing.
use mathlib.Core.Path.{◌≡◌, refl, sym, ap, ap₂, ◌∙◌, subst}
use mathlib.Core.Bool.{Bool, true, false, ◌&&◌}
use mathlib.Core.List.{List, [], ◌∷◌, ◌++◌, append_assoc, append-nil}
use Prim.Native.Nat.{ℕ, ◌+◌, ◌*◌, ◌^◌, ◌≤◌, ◌<◌}
use native.Mathlib.Omega.{arith}
use borrow.Author.Tests.{eq-eqb, eqb-true, leb-true}
use lib.ListN.{length, take, drop, length-append}
use lib.Seq.{take_all, take_at, drop_at, drop-append-le}
use lib.Pow.{split}
use lib.Dec.{eqb, leb}
use Rattle.laws.specs.Bits.{at, bits_of, bits}
use Rattle.laws.proofs.Bits.{Under, at_below, bits_at}
use Rattle.laws.proofs.Cases.{if_yes, if_no, and_left, and_right, and_both}
use Rattle.frame.proofs.OnAir.{bits_append}
use Rattle.receiver.specs.declared.Receiver.{Receiver}
use Rattle.receiver.specs.declared.Received.{Received}
use Rattle.receiver.specs.Rule.{Heard, onto, heard}
use Rattle.receiver.specs.Receive.{pending_of, follows_of, record_of, end_of, hearing, joined, receive_answer, received_of, received_into, counts_into}
use Rattle.receiver.specs.Calls.{frames_in, Call, received, handed_out, mended_in, all_taken, all_frames, all_counts, last_receiver, delivered, in_bounds}
use Rattle.receiver.proofs.Rule.{first, over, heard_frame, heard_on}
use Rattle.receiver.proofs.Starts.{same_taken, same_bytes, same_count}
use Rattle.receiver.proofs.Sound.{Eights, hearing_sound, hearing_bits}
use Rattle.receiver.proofs.Whole.{due_none}

-- ---- the rule, on bits in two parts
longer : (l m : List ℕ) → 104 ≤ length l → 104 ≤ length (l ++ m)
longer l m k = omega (arith, length-append l m)

Cut : Bool → List ℕ → Heard → Type 0
Cut t l h = (m : List ℕ) → heard t (l ++ m) ≡ onto h.frames h.counts (heard h.follows (h.pending ++ m))

-- bits in two parts: what the first part leaves is where the second begins
pub heard_cut : (t : Bool) (l m : List ℕ) → heard t (l ++ m) ≡ onto (heard t l).frames (heard t l).counts (heard (heard t l).follows ((heard t l).pending ++ m))
unfolding Cut
heard_cut =
    over Cut
    (λ t l k m. refl)
    (λ t l h k v ih m.
    heard_frame t (l ++ m) (longer l m k) (same_taken l m k t ∙ v)
    ∙ ap₂ (λ (f : List ℕ) (c : ℕ). onto (f ∷ []) (c ∷ []) (heard true (drop 104 (l ++ m)))) (same_bytes l m k t) (same_count l m k t)
    ∙ ap (λ (r : List ℕ). first t l (heard true r)) (drop-append-le 104 l m k)
    ∙ ap (first t l) (ih m))
    (λ t l h k v ih m.
    heard_on t (l ++ m) (longer l m k) (same_taken l m k t ∙ v)
    ∙ ap (heard false) (drop-append-le 1 l m (omega arith)) ∙ ih m)

-- ---- a record stands for what the rule left
stands : (t : Bool) (l : List ℕ) → Under 2 l → pending_of (record_of t l) ≡ l
stands t l u = ap (bits_of (length l)) (split (at l 0 (length l)) 64) ∙ bits_at l 0 (length l) u (omega arith) ∙ take_all (length l) l (omega arith)

stands_behind : (t : Bool) (l : List ℕ) → follows_of (record_of t l) ≡ t
stands_behind true l = refl
stands_behind false l = refl

module _ (r : Receiver) (d : List ℕ) where
  -- the bits of two deliveries, heard at once or one after the other
  pub hearing_cut : (e : List ℕ) → hearing r (d ++ e) ≡ onto (hearing r d).frames (hearing r d).counts (hearing (end_of (hearing r d)) e)
  unfolding hearing
  hearing_cut e =
      let h = hearing r d in
      ap (λ (l : List ℕ). heard (follows_of r) (pending_of r ++ l)) (bits_append d e)
      ∙ ap (heard (follows_of r)) (sym (append_assoc (pending_of r) (bits d) (bits e)))
      ∙ heard_cut (follows_of r) (pending_of r ++ bits d) (bits e)
      ∙ ap₂ (λ (t : Bool) (l : List ℕ). onto h.frames h.counts (heard t (l ++ bits e))) (sym (stands_behind h.follows h.pending)) (sym (stands h.follows h.pending (hearing_bits r d)))

-- ---- a call that is taken
frames_in_lem : (fs : List (List ℕ)) (l : List ℕ) → Eights fs → frames_in (length fs) (joined fs ++ l) ≡ fs
unfolding frames_in joined
frames_in_lem [] l u = refl
frames_in_lem (f ∷ fs) l (e, u) =
    ap₂ (λ (a : List ℕ) (b : List (List ℕ)). a ∷ b)
    (ap (take 8) (append_assoc f (joined fs) l) ∙ take_at f (joined fs ++ l) 8 e)
    (ap (λ (m : List ℕ). frames_in (length fs) (drop 8 m)) (append_assoc f (joined fs) l) ∙ ap (frames_in (length fs)) (drop_at f (joined fs ++ l) 8 e) ∙ frames_in_lem fs l u)

module _ (r : Receiver) (d out counts : List ℕ) where
  pub answer_is : (received_of r d out counts).answer ≡ receive_answer r d out counts
  unfolding received_of
  answer_is = by (eqb (receive_answer r d out counts) 0) refl
    where
      by : (t : Bool) → eqb (receive_answer r d out counts) 0 ≡ t → (received_of r d out counts).answer ≡ receive_answer r d out counts
      by true e = ap (λ (x : Received). x.answer) (if_yes _ _ e) ∙ sym (eqb-true (receive_answer r d out counts) 0 e)
      by false e = ap (λ (x : Received). x.answer) (if_no _ _ e)

module _ (r : Receiver) (c : Call) (a : (received r c).answer ≡ 0) where
  zero_yes : eqb (receive_answer r c.delivery c.output c.counts) 0 ≡ true
  zero_yes = eq-eqb (receive_answer r c.delivery c.output c.counts) 0 (sym (answer_is r c.delivery c.output c.counts) ∙ a)

  received_is : received r c ≡ record { answer = 0; frames = length (hearing r c.delivery).frames; receiver = end_of (hearing r c.delivery) }
  unfolding received_of
  received_is = if_yes _ _ zero_yes

  -- the receiver handed back is the one that the rule leaves
  pub receiver_is_rule : (received r c).receiver ≡ end_of (hearing r c.delivery)
  receiver_is_rule = ap (λ (x : Received). x.receiver) received_is

  -- the record handed back has at most 103 bits pending, and zeros above them
  pub nothing_above : ((received r c).receiver.high * 2 ^ 64 + (received r c).receiver.low < 2 ^ (received r c).receiver.count) × ((received r c).receiver.count ≤ 103)
  nothing_above =
      let d = c.delivery in
      let l = (hearing r d).pending in
      subst (λ (x : Receiver). (x.high * 2 ^ 64 + x.low < 2 ^ x.count) × (x.count ≤ 103)) (sym receiver_is_rule)
      (subst (λ (n : ℕ). n < 2 ^ length l) (sym (split (at l 0 (length l)) 64)) (at_below l 0 (length l) (hearing_bits r d)), omega (arith, (hearing_sound r d).short))

  -- Where a delivery is taken, the count in the answer is the number of frames that the rule yields, the output holds exactly those frames, and the second
  -- output of each how many of its blocks were mended.
  pub count_is_rule : ((received r c).frames ≡ length (hearing r c.delivery).frames) × (handed_out r c ≡ (hearing r c.delivery).frames) × (mended_in r c ≡ (hearing r c.delivery).counts)
  unfolding handed_out mended_in received_into counts_into
  count_is_rule =
      let n = ap (λ (x : Received). x.frames) received_is in
      let fs = (hearing r c.delivery).frames in
      let ks = (hearing r c.delivery).counts in (
        n,
        ap₂ frames_in n (if_yes _ _ zero_yes) ∙ frames_in_lem fs (drop (length (joined fs)) c.output) (hearing_sound r c.delivery).eights,
        ap₂ take n (if_yes _ _ zero_yes) ∙ take_at ks (drop (length ks) c.counts) (length fs) (hearing_sound r c.delivery).counted,
      )

-- ---- theorems
-- Two deliveries, each taken, hand out the same frames with the same counts as one delivery of their bytes, and leave the same receiver.
pub cutting : (r : Receiver) (whole one two : Call) → whole.delivery ≡ one.delivery ++ two.delivery
    → (received r whole).answer ≡ 0 → (received r one).answer ≡ 0 → (received (received r one).receiver two).answer ≡ 0
    → (handed_out r whole ≡ handed_out r one ++ handed_out (received r one).receiver two)
    × (mended_in r whole ≡ mended_in r one ++ mended_in (received r one).receiver two)
    × ((received r whole).receiver ≡ (received (received r one).receiver two).receiver)
cutting r whole one two e a b c =
    let h = hearing r one.delivery in
    let s = (received r one).receiver in
    let z : hearing s two.delivery ≡ hearing (end_of h) two.delivery = ap (λ (x : Receiver). hearing x two.delivery) (receiver_is_rule r one b) in
    let w = ap (hearing r) e ∙ hearing_cut r one.delivery two.delivery in (
      (count_is_rule r whole a).1
          ∙ ap (λ (x : Heard). x.frames) w
          ∙ sym (ap₂ ◌++◌ (count_is_rule r one b).1 ((count_is_rule s two c).1 ∙ ap (λ (x : Heard). x.frames) z)),
      (count_is_rule r whole a).2
          ∙ ap (λ (x : Heard). x.counts) w
          ∙ sym (ap₂ ◌++◌ (count_is_rule r one b).2 ((count_is_rule s two c).2 ∙ ap (λ (x : Heard). x.counts) z)),
      receiver_is_rule r whole a ∙ ap end_of w ∙ sym (receiver_is_rule s two c ∙ ap end_of z),
    )

-- Any deliveries, each taken, hand out together the frames and counts that the rule yields of all their bytes, and leave the receiver that it leaves.
pub cutting_any : (r : Receiver) (c : Call) (cs : List Call) → all_taken r (c ∷ cs) ≡ true
    → (all_frames r (c ∷ cs) ≡ (hearing r (delivered (c ∷ cs))).frames)
    × (all_counts r (c ∷ cs) ≡ (hearing r (delivered (c ∷ cs))).counts)
    × (last_receiver r (c ∷ cs) ≡ end_of (hearing r (delivered (c ∷ cs))))
unfolding all_taken all_frames all_counts last_receiver delivered
cutting_any r c [] t =
    let a = eqb-true (received r c).answer 0 (and_left (eqb (received r c).answer 0) true t) in
    let e : hearing r c.delivery ≡ hearing r (c.delivery ++ []) = ap (hearing r) (sym (append-nil c.delivery)) in (
      append-nil (handed_out r c) ∙ (count_is_rule r c a).1 ∙ ap (λ (x : Heard). x.frames) e,
      append-nil (mended_in r c) ∙ (count_is_rule r c a).2 ∙ ap (λ (x : Heard). x.counts) e,
      receiver_is_rule r c a ∙ ap end_of e,
    )
cutting_any r c (b ∷ cs) t =
    let s = (received r c).receiver in
    let a = eqb-true (received r c).answer 0 (and_left (eqb (received r c).answer 0) (all_taken s (b ∷ cs)) t) in
    let ih = cutting_any s b cs (and_right (eqb (received r c).answer 0) (all_taken s (b ∷ cs)) t) in
    let w = hearing_cut r c.delivery (delivered (b ∷ cs)) in
    let z : hearing s (delivered (b ∷ cs)) ≡ hearing (end_of (hearing r c.delivery)) (delivered (b ∷ cs)) = ap (λ (x : Receiver). hearing x (delivered (b ∷ cs))) (receiver_is_rule r c a) in (
      ap₂ ◌++◌ (count_is_rule r c a).1 (ih.0 ∙ ap (λ (x : Heard). x.frames) z) ∙ sym (ap (λ (x : Heard). x.frames) w),
      ap₂ ◌++◌ (count_is_rule r c a).2 (ih.1 ∙ ap (λ (x : Heard). x.counts) z) ∙ sym (ap (λ (x : Heard). x.counts) w),
      ih.2 ∙ ap end_of z ∙ sym (ap end_of w),
    )

-- So two ways to cut the same bytes into deliveries make no difference.
pub any_two_cuts : (r : Receiver) (b c : Call) (bs cs : List Call) → delivered (b ∷ bs) ≡ delivered (c ∷ cs) → all_taken r (b ∷ bs) ≡ true → all_taken r (c ∷ cs) ≡ true
    → (all_frames r (b ∷ bs) ≡ all_frames r (c ∷ cs)) × (all_counts r (b ∷ bs) ≡ all_counts r (c ∷ cs)) × (last_receiver r (b ∷ bs) ≡ last_receiver r (c ∷ cs))
any_two_cuts r b c bs cs e t u =
    let x = cutting_any r b bs t in
    let y = cutting_any r c cs u in (
      x.0 ∙ ap (λ (l : List ℕ). (hearing r l).frames) e ∙ sym y.0,
      x.1 ∙ ap (λ (l : List ℕ). (hearing r l).counts) e ∙ sym y.1,
      x.2 ∙ ap (λ (l : List ℕ). end_of (hearing r l)) e ∙ sym y.2,
    )

-- A receiver with at most 103 bits pending takes every delivery of at most 512 bytes into outputs of at least 320 and 40: no 41st frame comes.
pub takes : (r : Receiver) (c : Call) → r.count ≤ 103 → length c.delivery ≤ 512 → 320 ≤ length c.output → 40 ≤ length c.counts → (received r c).answer ≡ 0
takes r c h k l m =
    let d = c.delivery in
    let out = c.output in
    let counts = c.counts in
    answer_is r d out counts ∙ due_none r d out counts h k l m

-- And so for deliveries one after the other.
pub takes_all : (r : Receiver) (cs : List Call) → r.count ≤ 103 → in_bounds cs ≡ true → all_taken r cs ≡ true
unfolding all_taken in_bounds
takes_all r [] h b = refl
takes_all r (c ∷ cs) h b =
    let i = and_both (leb (length c.delivery) 512 && (leb 320 (length c.output) && leb 40 (length c.counts))) (in_bounds cs) b in
    let j = and_both (leb (length c.delivery) 512) (leb 320 (length c.output) && leb 40 (length c.counts)) i.0 in
    let k = and_both (leb 320 (length c.output)) (leb 40 (length c.counts)) j.1 in
    let a = takes r c h (leb-true (length c.delivery) 512 j.0) (leb-true 320 (length c.output) k.0) (leb-true 40 (length c.counts) k.1) in
    let n : (received r c).receiver.count ≤ 103 =
    subst (λ (x : Receiver). x.count ≤ 103) (sym (receiver_is_rule r c a)) (omega (arith, (hearing_sound r c.delivery).short)) in
    ap₂ ◌&&◌ (eq-eqb (received r c).answer 0 a) (takes_all (received r c).receiver cs n i.1)
