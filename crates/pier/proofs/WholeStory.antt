-- The sentence that the whole project is for: what is told is shown. Assumes nothing.
use mathlib.Core.Path.{◌≡◌, refl, sym, ap, ap₂, subst, ◌∙◌}
use mathlib.Core.List.{List, [], ◌∷◌, ◌++◌, append_assoc}
use mathlib.Core.Bool.{true, cond}
use Prim.Native.Nat.{ℕ, suc, ◌+◌, ◌-◌, ◌*◌, ◌%◌, ◌≤◌, ◌<◌}
use native.Mathlib.Omega.{arith}
use lib.ListN.{length, get_or, take, drop, replicate, length-append, length-drop, length-replicate}
use lib.Seq.{sets, take_at, get_or-drop, drop-drop}
use lib.Dec.{eqb, leb}
use borrow.Author.Tests.{eqb-true, leb-true}
use Rattle.laws.specs.Bits.{Under}
use Rattle.laws.specs.Scan.{all}
use Rattle.laws.proofs.Cases.{if_yes, if_no, and_both}
use Rattle.laws.proofs.Elements.{all_head, all_tail}
use Rattle.laws.proofs.Writes.{from_front}
use Rattle.frame.specs.OnAir.{air_bytes, stream_of}
use Rattle.air.specs.OnAir.{frames_for, frames_of, aired_of}
use Rattle.receiver.specs.Receive.{fresh_receiver}
use Rattle.receiver.specs.Calls.{Call, AreFrames, all_taken, all_frames, delivered, in_bounds}
use Rattle.collector.specs.declared.Collector.{Collector}
use Rattle.collector.specs.declared.Holdings.{Holdings}
use Rattle.collector.specs.Collector.{is_free}
use Rattle.collector.specs.Layout.{no_holdings, release_gives}
use Rattle.collector.proofs.Seen.{empty_seen}
use Rattle.order.specs.Held.{Good}
use Rattle.order.specs.Numbered.{offer_all_to}
use Rattle.order.proofs.Keeping.{empty_good}
use Rattle.packet.specs.Reading.{text_answer}
use Rattle.packet.proofs.Accepted.{Accepted, accepted, text_there}
use Rattle.trips.proofs.There.{packet_is}
use Rattle.story.specs.declared.Story.{Story}
use Rattle.story.specs.Given.{Given}
use Rattle.story.specs.Characters.{parted, characters}
use Rattle.laws.specs.Lists.{together}
use Rattle.story.specs.Telling.{room_with, last_four, part_fields, part_body, part_texts, part_count, packets_of, told_answer, told}
use Rattle.story.specs.Joining.{is_part, set_in}
use Rattle.story.proofs.Whole.{whole_characters}
use Rattle.story.proofs.Dealing.{some_part}
use Rattle.story.proofs.Placed.{Reads, Parts, no_more, and_more, as_many}
use Rattle.story.proofs.Back.{tellable, parts_read, wide_enough}
use Rattle.promises.proofs.Sent.{taken, frames_few, are_frames}
use Rattle.promises.proofs.Air.{frames_long, written, back}
use Rattle.promises.proofs.Chain.{on_air}
use Rattle.promises.proofs.Stories.{told_answer_lem, each_part_a_packet}
use Rattle.stories.specs.Stories.{take_answer, shown_text, taken_by, taken_in, taken_output}
use Rattle.board.specs.declared.Board.{Board}
use Rattle.board.specs.Board.{quiet_board, heard_of, heard_output}
use Rattle.pier.specs.Given.{Bounded, due, taken_all}
use Rattle.pier.specs.Hearing.{back_to_back, hear_all, shown_all}
use Rattle.pier.proofs.Keeping.{all_fair}
use Rattle.pier.proofs.AnyOrder.{kept_all, stories_in_any_order, before_bounded}
use Rattle.pier.proofs.Packet.{shown_by, Idle, idle_again, packet_heard}
use Rattle.pier.proofs.Told.{Heard as HeardParts, heard_none, heard_next, heard_bounded, due_four, due_one, text_all}

-- ---- frames of several packets
unfoldable frames_all : ℕ → ℕ → List (List ℕ) → List (List ℕ)
frames_all l v [] = []
frames_all l v (p ∷ ps) = frames_of p l (v % 32) ++ frames_all l (v + 1) ps

stream_append : (fs gs : List (List ℕ)) → stream_of (fs ++ gs) ≡ stream_of fs ++ stream_of gs
unfolding stream_of
stream_append [] gs = refl
stream_append (f ∷ fs) gs = ap (λ (l : List ℕ). air_bytes f ++ l) (stream_append fs gs) ∙ sym (append_assoc (air_bytes f) (stream_of fs) (stream_of gs))

frames_append : (fs gs : List (List ℕ)) → AreFrames fs → AreFrames gs → AreFrames (fs ++ gs)
frames_append [] gs a b = b
frames_append (f ∷ fs) gs a b = (a.0, frames_append fs gs a.1 b)

shown_append : (out : List ℕ) (fs gs : List (List ℕ)) (b : Board) → shown_all out b (fs ++ gs) ≡ shown_all out b fs ++ shown_all out (hear_all (length out) b fs) gs
unfolding shown_all hear_all
shown_append out [] gs b = refl
shown_append out (f ∷ fs) gs b =
    let x = cond (eqb (heard_of b f (length out)).answer 1) (take (heard_of b f (length out)).length (heard_output b f out) ∷ []) [] in
    ap (λ (l : List (List ℕ)). x ++ l) (shown_append out fs gs (heard_of b f (length out)).board)
    ∙ sym (append_assoc x (shown_all out (heard_of b f (length out)).board fs) (shown_all out (hear_all (length out) (heard_of b f (length out)).board fs) gs))

-- ---- a packet that is a part goes on air
part_accepted : (b : List ℕ) → is_part b ≡ true → Accepted b
unfolding is_part
part_accepted b e = accepted b (text_there b (eqb-true (text_answer b) 0 (and_both (eqb (text_answer b) 0) (eqb (set_in b) 0) e).0)).0

module _ (l : ℕ) (low : 1 ≤ l) (high : l ≤ 6) (lent : List ℕ) (room : 819 ≤ length lent) where
  goes_out : (b : List ℕ) (v : ℕ) → is_part b ≡ true → (aired_of b l (v % 32) lent).answer ≡ 0
  unfolding frames_for
  goes_out b v e =
      let a = part_accepted b e in
      on_air b l (v % 32) lent a low high (omega arith) (omega (arith, a.most))

  module _ (n : ℕ) (ds : List ℕ) where
    air_is : {k : ℕ} {bs ps : List (List ℕ)} (v : ℕ) → Parts n ds k bs ps → back_to_back lent l v bs ≡ stream_of (frames_all l v bs)
    unfolding back_to_back frames_all aired_of stream_of
    air_is v no_more = refl
    air_is v (and_more {b = b} {bs = bs} r rs) =
        ap₂ (λ (x y : List ℕ). x ++ y) (written b l (v % 32) lent (goes_out b v r.part)) (air_is (v + 1) rs)
        ∙ sym (stream_append (frames_of b l (v % 32)) (frames_all l (v + 1) bs))

    all_frames_lem : {k : ℕ} {bs ps : List (List ℕ)} (v : ℕ) → Parts n ds k bs ps → ((i : ℕ) → i < length bs → Under 256 (get_or bs i [])) → AreFrames (frames_all l v bs)
    unfolding frames_all aired_of
    all_frames_lem v no_more u = tt
    all_frames_lem v (and_more {b = b} {bs = bs} r rs) u =
        let t = taken b l (v % 32) lent (goes_out b v r.part) in
        frames_append (frames_of b l (v % 32)) (frames_all l (v + 1) bs) (are_frames b l (v % 32) (u 0 (omega arith)) t) (all_frames_lem (v + 1) rs (λ i h. u (suc i) (omega arith)))

    some_frames : {k : ℕ} {bs ps : List (List ℕ)} (v : ℕ) → Parts n ds k bs ps → 1 ≤ length bs → 1 ≤ length (frames_all l v bs)
    unfolding frames_all aired_of
    some_frames v no_more h = absurd (omega arith)
    some_frames v (and_more {b = b} {bs = bs} r rs) h =
        let e = goes_out b v r.part in
        let m = frames_long b l (v % 32) lent e in
        let t = frames_few b l (v % 32) (taken b l (v % 32) lent e) in
        omega (arith, length-append (frames_of b l (v % 32)) (frames_all l (v + 1) bs), m, t.0)

    -- ---- the board hears them
    module _ (nine : n ≤ 9) (long : 31 ≤ length ds) (numbers : last_four ds + (n - 1) ≤ 9999) (ps : List (List ℕ)) (count : length ps ≡ n) (out : List ℕ)
        (wide : 1341 ≤ length out) (fits : length (together ps) ≤ 1341) where
      -- so much is still to be shown
      abbrev to_show : List (List ℕ) → List (List ℕ)
      to_show [] = []
      to_show (b ∷ bs) = together ps ∷ []

      show_some : (bs : List (List ℕ)) → 1 ≤ length bs → to_show bs ≡ together ps ∷ []
      show_some [] h = absurd (omega arith)
      show_some (b ∷ bs) h = refl

      module _ (k : ℕ) (hs : List (List ℕ)) (w : HeardParts n ds nine long numbers ps k hs) (b : List ℕ) (r : Reads n ds k b (get_or ps k [])) (inside : k < n) where
        bound : Bounded (b ∷ hs)
        bound = heard_bounded n ds nine long numbers ps k hs w b r inside

        is_due : (taken_in (taken_all (length out) hs) b (length out)).answer ≡ due hs b
        is_due = (stories_in_any_order (length out) wide hs b bound).0

        shown_part : k + 1 < n → shown_by out (taken_all (length out) hs) b ≡ []
        unfolding shown_by
        shown_part h = if_no _ _ (ap (λ (a : ℕ). eqb a 1) (is_due ∙ due_four n ds nine long numbers ps k hs w b r inside h))

        shown_whole : k + 1 ≡ n → shown_by out (taken_all (length out) hs) b ≡ together ps ∷ []
        unfolding shown_by taken_in taken_by taken_output
        shown_whole h =
            let s = taken_all (length out) hs in
            let d = due_one n ds nine long numbers ps k hs w b r inside h in
            let a : take_answer s b (length out) ≡ 1 = is_due ∙ d in
            let t : eqb (take_answer s b (length out)) 1 ≡ true = ap (λ (x : ℕ). eqb x 1) a in
            let x : shown_text s b ≡ together ps = (stories_in_any_order (length out) wide hs b bound).1 d ∙ text_all n ds nine long numbers ps k hs w b r inside h count in
            if_yes _ _ t
            ∙ ap₂ (λ (m : ℕ) (l : List ℕ). take m l ∷ []) (if_yes _ _ t) (if_yes _ _ t)
            ∙ ap (λ (l : List ℕ). take (length l) (sets out 0 l) ∷ []) x
            ∙ ap (λ (l : List ℕ). take (length (together ps)) l ∷ []) (from_front (together ps) out (omega arith))
            ∙ ap (λ (l : List ℕ). l ∷ []) (take_at (together ps) (drop (length (together ps)) out) (length (together ps)) refl)

        last_or_not : {j : ℕ} {bs qs : List (List ℕ)} → Parts n ds j bs qs → drop (k + 1) ps ≡ qs → shown_by out (taken_all (length out) hs) b ++ to_show bs ≡ together ps ∷ []
        last_or_not no_more e =
            let size : length (drop (k + 1) ps) ≡ n - (k + 1) = length-drop (k + 1) ps ∙ ap (λ (m : ℕ). m - (k + 1)) count in
            ap (λ (x : List (List ℕ)). x ++ []) (shown_whole (omega (arith, size, ap length e)))
        last_or_not (and_more r' rs) e =
            let size : length (drop (k + 1) ps) ≡ n - (k + 1) = length-drop (k + 1) ps ∙ ap (λ (m : ℕ). m - (k + 1)) count in
            ap (λ (x : List (List ℕ)). x ++ (together ps ∷ [])) (shown_part (omega (arith, size, ap length e)))

      shows : {k : ℕ} {bs qs : List (List ℕ)} (hs : List (List ℕ)) (v : ℕ) (c : Holdings) → Parts n ds k bs qs → drop k ps ≡ qs → HeardParts n ds nine long numbers ps k hs
          → Idle c → ((i : ℕ) → i < length bs → Under 256 (get_or bs i []))
          → shown_all out (record { collector = c; stories = taken_all (length out) hs }) (frames_all l v bs) ≡ to_show bs
      unfolding frames_all shown_all taken_all
      shows hs v c no_more e w idle u = refl
      shows {k} hs v c (and_more {b = b} {p = p} {bs = bs} {ps = qs} r rs) e w idle u =
          let z : k + 0 ≡ k = omega arith in
          let pe : p ≡ get_or ps k [] = ap (λ (l : List (List ℕ)). get_or l 0 []) (sym e) ∙ get_or-drop k ps 0 [] ∙ ap (λ (i : ℕ). get_or ps i []) z in
          let r' : Reads n ds k b (get_or ps k []) = subst (Reads n ds k b) pe r in
          let size : length (drop k ps) ≡ n - k = length-drop k ps ∙ ap (λ (m : ℕ). m - k) count in
          let inside : k < n = omega (arith, size, ap length e) in
          let bd = bound k hs w b r' inside in
          let kept = kept_all (length out) wide hs (before_bounded b hs bd) in
          let s = taken_all (length out) hs in
          let g = packet_heard b l (v % 32) lent (u 0 (omega arith)) (goes_out b v r.part) c idle s out (all_fair kept.shaped) wide in
          let again = idle_again b l (v % 32) lent (u 0 (omega arith)) (goes_out b v r.part) c idle in
          let d : Holdings = (release_gives (offer_all_to c (frames_of b l (v % 32))) l (v % 32)).collector in
          let next : drop (k + 1) ps ≡ qs = sym (drop-drop 1 k ps) ∙ ap (drop 1) e in
          let i = shows (b ∷ hs) (v + 1) d rs next (heard_next n ds nine long numbers ps k hs w b r' inside) again (λ j h. u (suc j) (omega arith)) in
          shown_append out (frames_of b l (v % 32)) (frames_all l (v + 1) bs) (record { collector = c; stories = s })
          ∙ ap₂ (λ (x y : List (List ℕ)). x ++ y) g.1 (ap (λ (x : Board). shown_all out x (frames_all l (v + 1) bs)) g.0 ∙ i)
          ∙ last_or_not k hs w b r' inside rs next

-- ---- a story
together_short : (r : ℕ) (ps : List (List ℕ)) → r ≤ 149 → all (λ (p : List ℕ). leb (length p) r) ps ≡ true → length (together ps) ≤ 149 * length ps
unfolding together
together_short r [] h e = omega arith
together_short r (p ∷ ps) h e =
    let a = leb-true (length p) r (all_head (λ (q : List ℕ). leb (length q) r) p ps e) in
    let i = together_short r ps h (all_tail (λ (q : List ℕ). leb (length q) r) p ps e) in
    omega (arith, length-append p (together ps))

some_parts : (s : Story) (text : List ℕ) → 1 ≤ length (part_texts s text)
unfolding parted
some_parts s text = some_part (room_with s.codes) (room_with s.codes) (characters text)

idle_nothing : Idle no_holdings
idle_nothing =
    record {
      right = record { clear = empty_seen.1; good = subst Good (sym empty_seen.0) empty_good };
      nothing_held = ap (λ (c : Collector). all is_free c.places) empty_seen.0;
    }

module _ (s : Story) (codes text : List ℕ) (space : ℕ) (y : Given s) (u : Under 256 text) (e : (told s codes text space).answer ≡ 0) where
  zero_answer : told_answer s codes text space ≡ 0
  zero_answer = sym (told_answer_lem s codes text space) ∙ e

  parts : Parts (part_count s text) s.digits 0 (packets_of s codes text) (part_texts s text)
  parts = parts_read s codes text y u space zero_answer

  all_bytes : (i : ℕ) → i < length (packets_of s codes text) → Under 256 (get_or (packets_of s codes text) i [])
  all_bytes i h =
      let room : List ℕ = replicate 250 0 in
      let f = part_fields s i (get_or (part_texts s text) i []) in
      let body = part_body (part_count s text) i (get_or (part_texts s text) i []) in
      let inside : i < part_count s text = omega (arith, as_many (part_count s text) s.digits parts) in
      let w = each_part_a_packet s codes text space y u e i inside room (omega (arith, length-replicate {A = ℕ} 250 0)) in
      subst (λ (l : List ℕ). Under 256 l) (sym w.2) (packet_is f codes body room w.0 w.1).1

  text_short : length (together (part_texts s text)) ≤ 1341
  text_short =
      let t = tellable s codes text space zero_answer in
      let w = whole_characters (room_with s.codes) text t.whole in
      let a = together_short (room_with s.codes) (part_texts s text) (omega arith) (w.3 (wide_enough s codes text y u space zero_answer)) in
      omega (arith, t.few)

-- Whatever story is told: put its parts on air back to back, at any level and with versions that rise from any first one, modulo 32; cut the air bytes into
-- deliveries anywhere, and let a fresh receiver and an empty board hear them. No delivery is refused, and what the board shows is the text typed, once.
pub whole_story : (s : Story) (codes text : List ℕ) (space : ℕ) → Given s → Under 256 text → (told s codes text space).answer ≡ 0
    → (level version : ℕ) → 1 ≤ level → level ≤ 6
    → (lent : List ℕ) → 819 ≤ length lent
    → (calls : List Call) → in_bounds calls ≡ true → delivered calls ≡ back_to_back lent level version (packets_of s codes text)
    → (out : List ℕ) → 1341 ≤ length out
    → (all_taken fresh_receiver calls ≡ true) × (shown_all out quiet_board (all_frames fresh_receiver calls) ≡ text ∷ [])
unfolding taken_all
whole_story s codes text space y u e l v low high lent room calls b d out wide =
    let t = tellable s codes text space (zero_answer s codes text space y u e) in
    let n = part_count s text in
    let ps = part_texts s text in
    let bs = packets_of s codes text in
    let q = parts s codes text space y u e in
    let bytes = all_bytes s codes text space y u e in
    let some_packets : 1 ≤ length bs = omega (arith, as_many n s.digits q, some_parts s text) in
    let heard = back (frames_all l v bs) calls (all_frames_lem l low high lent room n s.digits v q bytes) (some_frames l low high lent room n s.digits v q some_packets) b (d ∙ air_is l low high lent room n s.digits v q) in
    let shown = shows l low high lent room n s.digits t.few (omega (arith, y.long.digits_long)) t.numbers ps refl out wide (text_short s codes text space y u e)
    [] v no_holdings q refl (heard_none n s.digits t.few (omega (arith, y.long.digits_long)) t.numbers ps) idle_nothing bytes in
    (heard.0, ap (shown_all out quiet_board) heard.1 ∙ shown ∙ show_some l low high lent room n s.digits t.few (omega (arith, y.long.digits_long)) t.numbers ps refl out wide (text_short s codes text space y u e) bs some_packets ∙ ap (λ (x : List ℕ). x ∷ []) (whole_characters (room_with s.codes) text t.whole).0)
