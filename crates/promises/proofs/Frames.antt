-- The frames of a packet, offered to an empty collector, give the packet back. Assumes nothing.
use mathlib.Core.Path.{◌≡◌, refl, sym, ap, ap₂, subst, ◌∙◌}
use mathlib.Core.Bool.{true, false, cond, not}
use mathlib.Core.List.{List, [], ◌∷◌, ◌++◌}
use mathlib.Core.Option.{Option, some}
use Prim.Native.Nat.{ℕ, zero, suc, ◌+◌, ◌-◌, ◌*◌, ◌<◌, ◌≤◌}
use native.Mathlib.Omega.{arith}
use lib.ListN.{length, take, drop, replicate}
use lib.Seq.{take_at}
use lib.Dec.{eqb, ltb}
use borrow.Author.Tests.{eq-eqb, le-ltb, ltb-true, ltb-false}
use Rattle.laws.specs.Refusals.{first}
use Rattle.laws.specs.Scan.{index_of}
use Rattle.laws.proofs.Below.{below_yes, below_no}
use Rattle.laws.proofs.Bits.{Under}
use Rattle.laws.proofs.Cases.{if_yes, and_yes, and_no}
use Rattle.laws.proofs.Elements.{by_test, first_append}
use Rattle.laws.proofs.Refusals.{stop, pass, none_left}
use Rattle.frame.specs.declared.Number.{Number}
use Rattle.frame.specs.declared.Total.{Total}
use Rattle.frame.specs.Heading.{refusals}
use Rattle.frame.proofs.Accepted.{none_refused}
use Rattle.air.specs.OnAir.{frames_for, total_for, with_check, carried, frames_from, frames_of, answer_of, aired_of}
use Rattle.collector.specs.declared.Place.{Place}
use Rattle.collector.specs.declared.Collector.{Collector}
use Rattle.collector.specs.declared.Piece.{Piece}
use Rattle.collector.specs.declared.Holdings.{Holdings}
use Rattle.collector.specs.Layout.{tops_clear, as_collector, no_holdings, offer_gives, copy_gives, copy_leaves}
use Rattle.collector.proofs.Seen.{offer_same, copy_same, empty_seen}
use Rattle.order.specs.Numbered.{offer_all_to}
use Rattle.order.proofs.Numbered.{offers_carried}
use Rattle.size.specs.Size.{packet_size}
use Rattle.collector.specs.Whole.{passes}
use Rattle.collector.specs.Places.{is_pair, complete, joined, whole, copy_cases, copy_answer, copy_bytes}
use Rattle.collector.specs.Collector.{nothing, index_of_pair, place_of, piece_of, offered, answered, copied, Offered}
use Rattle.collector.proofs.Calls.{copy_held}
use Rattle.order.specs.Held.{Good, Four, four_at, held_place, holds_in, total_in, holds, total_held, offer_all}
use Rattle.order.specs.Given.{pieces, four, Bounded, given, total_given, is_some, full, joined_to, bytes_of, declare_cases, due_cases, due}
use Rattle.order.proofs.Keeping.{empty_good}
use Rattle.order.proofs.HeldPlace.{held_place_found, held_place_missing}
use Rattle.order.proofs.Declaring.{complete_full, joined_full}
use Rattle.order.proofs.Running.{some_inj, none_some}
use Rattle.order.proofs.Copying.{place_sound}
use Rattle.order.proofs.Offering.{all_good, offer_on}
use Rattle.order.proofs.Theorems.{holdings, answers}
use Rattle.promises.specs.Run.{answers_to, answers_from}
use Rattle.promises.proofs.Sent.{Taken, taken, frames_few}
use Rattle.promises.proofs.Joined.{pad_from, pad_on, pad_four, behind, fill, size_is, passes_is, fill_small, carried_whole}
use Rattle.promises.proofs.Pieces.{frame_at, piece_at, none_due, piece_is, pieces_from, pieces_are, pieces_on, given_in, given_out, total_in_lem, not_come, bounded}

module _ (p : List ℕ) (l v : ℕ) (u : Under 256 p) (t : Taken p l v) where
  abbrev N : ℕ
  N = frames_for (length p)

  abbrev T : Total
  T = total_for (length p)

  frames_on : (n m k : ℕ) → frames_from p l v (record { 0 = k }) (n + m) ≡ frames_from p l v (record { 0 = k }) n ++ frames_from p l v (record { 0 = k + n }) m
  unfolding frames_from
  frames_on zero m k =
      let e : k + 0 ≡ k = omega arith in
      let z : 0 + m ≡ m = omega arith in
      ap (frames_from p l v (record { 0 = k })) z ∙ ap (λ (j : ℕ). frames_from p l v (record { 0 = j }) m) (sym e)
  frames_on (suc n) m k =
      let e : k + suc n ≡ k + 1 + n = omega arith in
      let z : suc n + m ≡ suc (n + m) = omega arith in
      ap (frames_from p l v (record { 0 = k })) z
      ∙ ap (λ (fs : List (List ℕ)). frame_at p l v u t k ∷ fs) (frames_on n m (k + 1) ∙ ap (λ (j : ℕ). frames_from p l v (record { 0 = k + 1 }) n ++ frames_from p l v (record { 0 = j }) m) (sym e))

  -- ---- what numbers with their bytes join to
  module _ (g : Number → Option Four) where
    joined_upto : (n : ℕ) → ((m : ℕ) → m < n → g (record { 0 = m }) ≡ some (four (piece_at p l v u t m))) → joined_to n g ≡ pad_from (with_check p) 0 (4 * n)
    unfolding joined_to pad_from carried
    joined_upto zero e = refl
    joined_upto (suc n) e =
        let z : 4 * suc n ≡ 4 * n + 4 = omega arith in
        let s : 0 + 4 * n ≡ 4 * n = omega arith in
        ap₂ (λ (xs : List ℕ) (o : Option Four). xs ++ bytes_of o) (joined_upto n (λ m h. e m (omega arith))) (e n (omega arith))
        ∙ ap (λ (xs : List ℕ). pad_from (with_check p) 0 (4 * n) ++ xs) (sym (ap (λ (j : ℕ). pad_from (with_check p) j 4) s ∙ pad_four (with_check p) (4 * n)))
        ∙ pad_on (with_check p) (4 * n) 4 0
        ∙ ap (pad_from (with_check p) 0) (sym z)

    module _ (e : (m : ℕ) → m < N → g (record { 0 = m }) ≡ some (four (piece_at p l v u t m))) where
      joined_is : joined_to N g ≡ p ++ behind p l v u t (fill p l v u t)
      joined_is = joined_upto N e ∙ carried_whole p l v u t

      full_is : full T g ≡ true
      unfolding full
      full_is = below_yes N (λ n. is_some (g (record { 0 = n }))) (λ k h. ap is_some (e k h))

      whole_is : passes (joined_to N g) ≡ true
      whole_is = ap passes joined_is ∙ passes_is p l v u t (fill p l v u t) (fill_small p l v u t)

  -- ---- the answer due to each
  given_before : (k : ℕ) (n : Number) → given (pieces_from p l v u t 0 k ++ (piece_at p l v u t k ∷ [])) l v n ≡ given (pieces_from p l v u t 0 (suc k)) l v n
  given_before k n =
      let e : 0 + k ≡ k = omega arith in
      ap (λ (xs : List Piece). given xs l v n) (ap (λ (j : ℕ). pieces_from p l v u t 0 k ++ (piece_at p l v u t j ∷ [])) (sym e) ∙ pieces_on p l v u t k 0)

  abbrev so_far : ℕ → Number → Option Four
  so_far k n = given (pieces_from p l v u t 0 k ++ (piece_at p l v u t k ∷ [])) l v n

  to_declare : (k : ℕ) → k < N → due (frames_from p l v (record { 0 = 0 }) k) (frame_at p l v u t k) ≡ first (declare_cases T (so_far k))
  unfolding due due_cases
  to_declare k h =
      first_append (refusals (frame_at p l v u t k)) (due_cases (pieces (frames_from p l v (record { 0 = 0 }) k)) (piece_of (frame_at p l v u t k)))
      ∙ if_yes _ _ (none_refused (frame_at p l v u t k) (none_due p l v u t k h))
      ∙ ap₂ (λ (xs : List Piece) (x : Piece). first (due_cases xs x)) (pieces_are p l v u t k 0 (omega arith)) (piece_is p l v u t k h)
      ∙ pass 2 _ (not_come p l v u t k 0 k (omega arith))

  due_0 : (k : ℕ) → k + 1 < N → due (frames_from p l v (record { 0 = 0 }) k) (frame_at p l v u t k) ≡ 0
  unfolding declare_cases full
  due_0 k h =
      let e : full T (so_far k) ≡ false = below_no N (λ n. is_some (so_far k (record { 0 = n }))) (k + 1) h (ap is_some (given_before k (record { 0 = k + 1 }) ∙ given_out p l v u t (suc k) 0 (k + 1) (omega arith))) in
      to_declare k (omega arith) ∙ pass 17 _ (and_no _ e) ∙ pass 1 _ (and_no _ e) ∙ none_left

  all_so_far : (k : ℕ) → k + 1 ≡ N → (m : ℕ) → m < N → so_far k (record { 0 = m }) ≡ some (four (piece_at p l v u t m))
  all_so_far k h m b = given_before k (record { 0 = m }) ∙ given_in p l v u t (suc k) 0 m (omega arith) (omega arith)

  due_1 : (k : ℕ) → k + 1 ≡ N → due (frames_from p l v (record { 0 = 0 }) k) (frame_at p l v u t k) ≡ 1
  unfolding declare_cases
  due_1 k h =
      let e = all_so_far k h in
      let f = full_is (so_far k) e in
      let w = whole_is (so_far k) e in
      to_declare k (omega arith) ∙ pass 17 _ (and_yes _ f ∙ ap not w) ∙ stop 1 _ (and_yes _ f ∙ w)

  -- ---- the answers in turn
  abbrev after : ℕ → Collector
  after k = offer_all nothing (frames_from p l v (record { 0 = 0 }) k)

  split : (k n : ℕ) → k + suc n ≡ N → frames_of p l v ≡ frames_from p l v (record { 0 = 0 }) k ++ (frame_at p l v u t k ∷ frames_from p l v (record { 0 = k + 1 }) n)
  unfolding frames_of frames_from
  split k n h =
      let z : 0 + k ≡ k = omega arith in
      ap (frames_from p l v (record { 0 = 0 })) (sym h) ∙ frames_on k (suc n) 0 ∙ ap (λ (j : ℕ). frames_from p l v (record { 0 = 0 }) k ++ frames_from p l v (record { 0 = j }) (suc n)) z

  answer_at : (k n : ℕ) → k + suc n ≡ N → (offered (after k) (frame_at p l v u t k)).answer ≡ due (frames_from p l v (record { 0 = 0 }) k) (frame_at p l v u t k)
  answer_at k n h =
      answers ((l, v) ∷ []) (frames_from p l v (record { 0 = 0 }) k) (frame_at p l v u t k) (frames_from p l v (record { 0 = k + 1 }) n)
      (subst (Bounded ((l, v) ∷ [])) (split k n h) (bounded p l v u t))

  next_is : (k : ℕ) → (offered (after k) (frame_at p l v u t k)).collector ≡ after (k + 1)
  unfolding offer_all frames_from
  next_is k =
      let z : 0 + k ≡ k = omega arith in
      sym (ap (offer_all nothing) (frames_on k 1 0 ∙ ap (λ (j : ℕ). frames_from p l v (record { 0 = 0 }) k ++ frames_from p l v (record { 0 = j }) 1) z) ∙ offer_on (frames_from p l v (record { 0 = 0 }) k) (frame_at p l v u t k ∷ []) nothing)

  answers_from_lem : (n k : ℕ) → k + suc n ≡ N → answers_to (after k) (frames_from p l v (record { 0 = k }) (suc n)) ≡ replicate n 0 ++ (1 ∷ [])
  unfolding answers_to frames_from
  answers_from_lem zero k h = ap (λ (a : ℕ). a ∷ []) (answer_at k 0 h ∙ due_1 k (omega arith))
  answers_from_lem (suc n) k h =
      ap₂ (λ (a : ℕ) (xs : List ℕ). a ∷ xs) (answer_at k (suc n) h ∙ due_0 k (omega arith))
      (ap (λ (c : Collector). answers_to c (frames_from p l v (record { 0 = k + 1 }) (suc n))) (next_is k) ∙ answers_from_lem n (k + 1) (omega arith))

  all_answers : answers_to nothing (frames_of p l v) ≡ replicate (N - 1) 0 ++ (1 ∷ [])
  unfolding frames_of offer_all frames_from
  all_answers =
      let f = (frames_few p l v t).0 in
      let e : N ≡ suc (N - 1) = omega arith in
      let h : 0 + suc (N - 1) ≡ N = omega arith in
      ap (λ (n : ℕ). answers_to nothing (frames_from p l v (record { 0 = 0 }) n)) e ∙ answers_from_lem (N - 1) 0 h

  -- ---- copy
  abbrev ended : Collector
  ended = offer_all nothing (frames_of p l v)

  abbrev place : Place
  place = place_of l v ended.places

  good_end : Good ended
  good_end = all_good (frames_of p l v) nothing empty_good

  all_pieces : pieces (frames_of p l v) ≡ pieces_from p l v u t 0 N
  unfolding frames_of
  all_pieces = pieces_are p l v u t N 0 (omega arith)

  total_end : total_held ended l v ≡ some T
  total_end =
      (holdings ((l, v) ∷ []) (frames_of p l v) (bounded p l v u t) l v (record { 0 = 0 })).1
      ∙ ap (λ (xs : List Piece). total_given xs l v) all_pieces
      ∙ total_in_lem p l v u t N 0 (frames_few p l v t).0

  found : held_place l v ended.places ≡ some place
  unfolding index_of_pair total_held
  found =
      by_test (ltb (index_of (is_pair l v) ended.places) (length ended.places))
      (λ e. held_place_found l v ended.places (ltb-true _ _ e))
      (λ e. absurd (none_some (sym (ap total_in (held_place_missing l v ended.places (ltb-false _ _ e))) ∙ total_end)))

  total_is : place.total ≡ T
  unfolding total_held
  total_is = some_inj (sym (ap total_in found) ∙ total_end)

  four_is : (m : ℕ) → m < N → four_at place (record { 0 = m }) ≡ some (four (piece_at p l v u t m))
  unfolding holds
  four_is m h =
      sym (ap (λ (o : Option Place). holds_in o (record { 0 = m })) found)
      ∙ (holdings ((l, v) ∷ []) (frames_of p l v) (bounded p l v u t) l v (record { 0 = m })).0
      ∙ ap (λ (xs : List Piece). given xs l v (record { 0 = m })) all_pieces
      ∙ given_in p l v u t N 0 m (omega arith) (omega arith)

  complete_is : complete place ≡ true
  complete_is =
      let s = place_sound ended good_end l v place found in
      complete_full place s.shape s.total ∙ ap (λ (n : Total). full n (four_at place)) total_is ∙ full_is (four_at place) four_is

  holds_packet : joined place ≡ p ++ behind p l v u t (fill p l v u t)
  holds_packet =
      let s = place_sound ended good_end l v place found in
      joined_full place s.shape s.total complete_is ∙ ap (λ (n : Total). joined_to n.0 (four_at place)) total_is ∙ joined_is (four_at place) four_is

  size_of : packet_size (joined place) ≡ length p
  size_of = ap packet_size holds_packet ∙ size_is p l v u t (behind p l v u t (fill p l v u t))

  copied_0 : (out : List ℕ) → length p ≤ length out → first (copy_cases place (length out)) ≡ 0
  unfolding copy_cases whole
  copied_0 out h =
      let s = place_sound ended good_end l v place found in
      let w : passes (joined place) ≡ true = ap passes holds_packet ∙ passes_is p l v u t (fill p l v u t) (fill_small p l v u t) in
      let n = size_of in
      let r : packet_size (joined place) ≤ length out = omega arith in
      pass 18 _ (ap not (and_yes _ s.held ∙ and_yes _ complete_is ∙ w)) ∙ pass 10 _ (le-ltb _ _ r) ∙ none_left

  all_copied : (out : List ℕ) → length p ≤ length out
      → (answered ended l v (length out) ≡ record { answer = 0; length = length p }) × (copied ended l v out ≡ p ++ drop (length p) out)
  unfolding copy_answer copy_bytes
  all_copied out h =
      let k = copy_held ended l v out good_end.order place refl in
      let z = copied_0 out h in
      let r = behind p l v u t (fill p l v u t) in
      let c : take (packet_size (joined place)) (joined place) ≡ p = ap₂ take size_of holds_packet ∙ take_at p r (length p) refl in (
        sym k.0 ∙ ap (λ (a : ℕ). copy_answer a place) z ∙ ap (λ (n : ℕ). record { answer = 0; length = n }) size_of,
        sym k.1 ∙ ap (λ (a : ℕ). copy_bytes a place out) z ∙ ap₂ (λ (xs : List ℕ) (n : ℕ). xs ++ drop n out) c size_of,
      )

-- The same of the collector with 63 marks, which the definitions speak of.
pub frames_seen : (packet : List ℕ) (level version : ℕ) (out : List ℕ) → Under 256 packet → (aired_of packet level version out).answer ≡ 0
    → (answers_to nothing (frames_of packet level version) ≡ replicate ((aired_of packet level version out).frames - 1) 0 ++ (1 ∷ []))
    × ((lent : List ℕ) → length packet ≤ length lent
    → (answered (offer_all nothing (frames_of packet level version)) level version (length lent) ≡ record { answer = 0; length = length packet })
    × (copied (offer_all nothing (frames_of packet level version)) level version lent ≡ packet ++ drop (length packet) lent))
unfolding aired_of
frames_seen p l v out u e =
    let t = taken p l v out e in
    let n : cond (eqb (answer_of p l v out) 0) (frames_for (length p)) 0 ≡ frames_for (length p) = if_yes _ _ (eq-eqb _ _ e) in
    (all_answers p l v u t ∙ ap (λ (k : ℕ). replicate (k - 1) 0 ++ (1 ∷ [])) (sym n), all_copied p l v u t)

-- ---- the answers in turn are those of the record seen
pub answers_seen : (fs : List (List ℕ)) (h : Holdings) → tops_clear h ≡ true → answers_from h fs ≡ answers_to (as_collector h) fs
unfolding answers_from answers_to
answers_seen [] h t = refl
answers_seen (f ∷ fs) h t =
    let e = offer_same h t f in
    ap₂ (λ (n : ℕ) (l : List ℕ). n ∷ l) (ap (λ (o : Offered). o.answer) e.0) (answers_seen fs (offer_gives h f).collector e.1 ∙ ap (λ (o : Offered). answers_to o.collector fs) e.0)

-- Whatever packet, level and version the on-air writer takes: an empty collector that is offered the packet's frames in order answers 0 to each but
-- the last and 1 to the last; then copy, lent memory that is long enough, answers 0 with the packet's size and hands back the packet, the rest as it was.
pub frames_come_back : (packet : List ℕ) (level version : ℕ) (out : List ℕ) → Under 256 packet → (aired_of packet level version out).answer ≡ 0
    → (answers_from no_holdings (frames_of packet level version) ≡ replicate ((aired_of packet level version out).frames - 1) 0 ++ (1 ∷ []))
    × ((lent : List ℕ) → length packet ≤ length lent
    → (copy_gives (offer_all_to no_holdings (frames_of packet level version)) level version (length lent) ≡ record { answer = 0; length = length packet })
    × (copy_leaves (offer_all_to no_holdings (frames_of packet level version)) level version lent ≡ packet ++ drop (length packet) lent))
frames_come_back p l v out u e =
    let fs = frames_of p l v in
    let k = frames_seen p l v out u e in
    let w = offers_carried fs no_holdings empty_seen.1 in
    let same : as_collector (offer_all_to no_holdings fs) ≡ offer_all nothing fs = w.0 ∙ ap (λ (c : Collector). offer_all c fs) empty_seen.0 in (
      answers_seen fs no_holdings empty_seen.1 ∙ ap (λ (c : Collector). answers_to c fs) empty_seen.0 ∙ k.0,
      λ lent h.
          let b = copy_same (offer_all_to no_holdings fs) w.1 l v lent in
          (b.0 ∙ ap (λ (c : Collector). answered c l v (length lent)) same ∙ (k.1 lent h).0, b.1 ∙ ap (λ (c : Collector). copied c l v lent) same ∙ (k.1 lent h).1),
    )
