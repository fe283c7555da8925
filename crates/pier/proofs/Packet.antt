-- A board whose collector holds nothing hears the frames of a packet: the stories take the packet in, and the collector holds nothing again. Assumes nothing.
use mathlib.Core.Path.{◌≡◌, refl, sym, ap, ap₂, subst, ◌∙◌}
use mathlib.Core.List.{List, [], ◌∷◌, ◌++◌, Memᴰ}
use mathlib.Core.Bool.{Bool, true, false, cond, not, ◌&&◌, true≢false}
use mathlib.Core.Option.{Option, none, some}
use Prim.Native.Nat.{ℕ, zero, suc, ◌-◌, ◌≤◌}
use native.Mathlib.Omega.{arith}
use lib.ListN.{length, get_or, take, drop, replicate, length-replicate}
use lib.Seq.{take_at}
use lib.Dec.{eqb}
use borrow.Author.Tests.{eq-eqb, le-ltb}
use Rattle.laws.specs.Bits.{Under}
use Rattle.laws.specs.Scan.{all}
use Rattle.laws.proofs.Cases.{if_yes, if_no, and_yes, and_no}
use Rattle.laws.proofs.Elements.{by_test, all_cons}
use Rattle.laws.proofs.Refusals.{pass, none_left}
use Rattle.frame.specs.declared.Heading.{Heading}
use Rattle.frame.specs.declared.Total.{Total}
use Rattle.frame.specs.Heading.{heading_fields}
use Rattle.air.specs.OnAir.{frames_for, total_for, heading_for, frames_of, aired_of}
use Rattle.collector.specs.declared.Place.{Place}
use Rattle.collector.specs.declared.Collector.{Collector}
use Rattle.collector.specs.declared.Piece.{Piece}
use Rattle.collector.specs.declared.Holdings.{Holdings}
use Rattle.collector.specs.Places.{is_pair, Copied}
use Rattle.collector.specs.Collector.{nothing, is_free, released, answered, copied, Offered}
use Rattle.collector.specs.Layout.{tops_clear, as_collector, offer_gives, release_gives, copy_gives, copy_leaves, Outcome}
use Rattle.collector.proofs.Seen.{offer_same, release_same}
use Rattle.order.specs.Numbered.{offer_all_to}
use Rattle.order.proofs.Numbered.{same_as_marks, offers_carried}
use Rattle.order.specs.Held.{Good, offer_all, held_place, total_in, total_held}
use Rattle.order.specs.Given.{of_pair, Said}
use Rattle.order.proofs.Keeping.{offer_good, release_good}
use Rattle.order.proofs.Offering.{all_good}
use Rattle.order.proofs.Running.{none_some}
use Rattle.order.proofs.Theorems.{totals_exact}
use Rattle.order.proofs.Beyond.{released_exactly}
use Rattle.promises.specs.Run.{answers_to, answers_from}
use Rattle.promises.proofs.Sent.{Taken, taken}
use Rattle.promises.proofs.Pieces.{piece_is, one_of, bounded}
use Rattle.promises.proofs.Frames.{frames_seen, answers_seen}
use Rattle.stories.specs.declared.Stories.{Stories}
use Rattle.stories.specs.declared.Shown.{Shown}
use Rattle.stories.specs.Tales.{fair, zeros}
use Rattle.stories.specs.Stories.{taken_in, taken_output}
use Rattle.board.specs.declared.Board.{Board}
use Rattle.board.specs.declared.Heard.{Heard}
use Rattle.board.specs.Board.{offered_at, good_board, packet_in, packet_of, unheard, whole_heard, refused_for, offered_to, heard_of, heard_output}
use Rattle.board.proofs.Hearing.{ready_as_is}
use Rattle.pier.specs.Hearing.{hear_all, shown_all}
use Rattle.pier.proofs.Veiled.{veiled, held_place_same, copy_same, all_offered_same, answers_same, idle_veiled}

-- ---- a record that offers and releases can leave
pub record Right (c : Holdings) : Type 0 where
  pub clear : tops_clear c ≡ true
  pub good : Good (as_collector c)

offer_right : (c : Holdings) (f : List ℕ) → Right c → Right (offer_gives c f).collector
offer_right c f g =
    let e = offer_same c g.clear f in
    record { clear = e.1; good = subst Good (sym (ap (λ (o : Offered). o.collector) e.0)) (offer_good (as_collector c) f g.good) }

-- ---- a good board is not refused
module _ (c : Holdings) (s : Stories) (f : List ℕ) (out : List ℕ) (g : Right c) (fine : all fair s.tales ≡ true) (wide : 1341 ≤ length out) where
  abbrev board : Board
  board = record { collector = c; stories = s }

  let_by : refused_for board (length out) ≡ 0
  unfolding refused_for good_board
  let_by = pass 28 _ (ap not (and_yes _ (and_yes _ g.clear ∙ g.good.order) ∙ fine)) ∙ pass 10 _ (le-ltb (length out) 1341 wide) ∙ none_left

  is_offered : heard_of board f (length out) ≡ offered_to board f (length out)
  unfolding heard_of
  is_offered = if_yes _ _ (eq-eqb _ 0 let_by)

  -- a frame that completes no packet
  pub no_packet : ((offer_gives c f).answer ≡ 0)
      → (heard_of board f (length out) ≡ unheard 0 (record { collector = (offer_gives c f).collector; stories = s }))
  unfolding offered_to
  no_packet e =
      let z = ready_as_is c f (λ (q : (offer_gives c f).answer ≡ 16). omega arith) in
      is_offered
      ∙ if_no _ _ (ap (λ (o : Outcome). eqb o.answer 1) z ∙ ap (λ (n : ℕ). eqb n 1) e)
      ∙ ap (λ (o : Outcome). unheard o.answer (record { collector = o.collector; stories = s })) z
      ∙ ap (λ (n : ℕ). unheard n (record { collector = (offer_gives c f).collector; stories = s })) e

  -- and one that does
  pub a_packet : (offer_gives c f).answer ≡ 1
      → (offered_at c f ≡ offer_gives c f) × (heard_of board f (length out) ≡ whole_heard board f (length out)) × (heard_output board f out ≡ taken_output s (packet_of board f) out)
  unfolding offered_to heard_output
  a_packet e =
      let z = ready_as_is c f (λ (q : (offer_gives c f).answer ≡ 16). omega arith) in
      let t : eqb (offered_at c f).answer 1 ≡ true = ap (λ (o : Outcome). eqb o.answer 1) z ∙ ap (λ (n : ℕ). eqb n 1) e in
      (z, is_offered ∙ if_yes _ _ t, if_yes _ _ (and_yes _ (eq-eqb _ 0 let_by) ∙ t))

-- what the stories show of a packet
unfoldable pub shown_by : List ℕ → Stories → List ℕ → List (List ℕ)
shown_by out s p = cond (eqb (taken_in s p (length out)).answer 1) (take (taken_in s p (length out)).length (taken_output s p out) ∷ []) []

-- ---- frames of one pair, answered 0 but for the last
module _ (s : Stories) (out : List ℕ) (fine : all fair s.tales ≡ true) (wide : 1341 ≤ length out) (l v : ℕ) where
  abbrev then : Holdings → Board
  then c = record { collector = (release_gives c l v).collector; stories = (taken_in s (packet_in c l v) (length out)).stories }

  -- the last frame
  pub heard_last : (f : List ℕ) (c : Holdings) → Right c → (heading_fields f).level ≡ l → (heading_fields f).version ≡ v → (offer_gives c f).answer ≡ 1
      → ((heard_of (record { collector = c; stories = s }) f (length out)).board ≡ then (offer_gives c f).collector)
      × (shown_all out (record { collector = c; stories = s }) (f ∷ []) ≡ shown_by out s (packet_in (offer_gives c f).collector l v))
  unfolding whole_heard shown_all shown_by
  heard_last f c g el ev e =
      let d = (offered_at c f).collector in
      let h = a_packet c s f out g fine wide e in
      let dz : d ≡ (offer_gives c f).collector = ap (λ (o : Outcome). o.collector) h.0 in
      let answer_at : Holdings → ℕ → ℕ → Shown = λ k i j. taken_in s (packet_in k i j) (length out) in (
        ap (λ (x : Heard). x.board) h.1
            ∙ ap₂ (λ (i j : ℕ). record { collector = (release_gives d i j).collector; stories = (answer_at d i j).stories }) el ev
            ∙ ap (λ (k : Holdings). record { collector = (release_gives k l v).collector; stories = (answer_at k l v).stories }) dz,
        ap₂ (λ (x : Heard) (m : List ℕ). cond (eqb x.answer 1) (take x.length m ∷ []) [] ++ []) h.1 h.2
            ∙ no_more (eqb (answer_at d (heading_fields f).level (heading_fields f).version).answer 1) _
            ∙ ap₂ (λ (i j : ℕ). cond (eqb (answer_at d i j).answer 1) (take (answer_at d i j).length (taken_output s (packet_in d i j) out) ∷ []) []) el ev
            ∙ ap (λ (k : Holdings). cond (eqb (answer_at k l v).answer 1) (take (answer_at k l v).length (taken_output s (packet_in k l v) out) ∷ []) []) dz,
      )
    where
      no_more : (t : Bool) (x : List ℕ) → cond t (x ∷ []) [] ++ [] ≡ cond t (x ∷ []) []
      no_more true x = refl
      no_more false x = refl

  pub heard_all : (n : ℕ) (fs : List (List ℕ)) (c : Holdings) → Right c → ((f : List ℕ) → Memᴰ f fs → ((heading_fields f).level ≡ l) × ((heading_fields f).version ≡ v)) → answers_from c fs ≡ replicate n 0 ++ (1 ∷ [])
      → (hear_all (length out) (record { collector = c; stories = s }) fs ≡ then (offer_all_to c fs))
      × (shown_all out (record { collector = c; stories = s }) fs ≡ shown_by out s (packet_in (offer_all_to c fs) l v))
  unfolding hear_all shown_all answers_from offer_all_to
  heard_all n [] c g o e = absurd (too_few n e)
    where
      too_few : (m : ℕ) → ◌≡◌ {A = List ℕ} [] (replicate m 0 ++ (1 ∷ [])) → ⊥
      too_few zero q = let z = ap length q in omega arith
      too_few (suc m) q = let z = ap length q in omega arith
  heard_all zero (f ∷ []) c g o e =
      let w = o f (Memᴰ.head refl) in
      heard_last f c g w.0 w.1 (ap (λ (xs : List ℕ). get_or xs 0 0) e)
  heard_all zero (f ∷ h ∷ fs) c g o e = let z = ap length e in absurd (omega arith)
  heard_all (suc n) (f ∷ fs) c g o e =
      let a : (offer_gives c f).answer ≡ 0 = ap (λ (xs : List ℕ). get_or xs 0 0) e in
      let r : answers_from (offer_gives c f).collector fs ≡ replicate n 0 ++ (1 ∷ []) = ap (drop 1) e in
      let h = no_packet c s f out g fine wide a in
      let i = heard_all n fs (offer_gives c f).collector (offer_right c f g) (λ x m. o x (Memᴰ.tail m)) r in (
        ap (λ (x : Heard). hear_all (length out) x.board fs) h ∙ i.0,
        ap (λ (x : Heard). cond (eqb x.answer 1) (take x.length (heard_output (record { collector = c; stories = s }) f out) ∷ []) [] ++ shown_all out x.board fs) h ∙ i.1,
      )

-- ---- the collector holds nothing
pub record Idle (c : Holdings) : Type 0 where
  pub right : Right c
  pub nothing_held : all is_free (as_collector c).places ≡ true

none_held : (ps : List Place) → ((i j : ℕ) → held_place i j ps ≡ none) → all is_free ps ≡ true
unfolding held_place
none_held [] e = refl
none_held (p ∷ ps) e =
    by_test p.held
    (λ h.
    let own : is_pair p.level p.version p ≡ true = and_yes _ h ∙ and_yes _ (eq-eqb p.level p.level refl) ∙ eq-eqb p.version p.version refl in
    absurd (none_some (sym (sym (if_yes (some p) (held_place p.level p.version ps) own) ∙ e p.level p.version))))
    (λ h. all_cons is_free p ps (ap not h) (none_held ps (λ i j. sym (if_no (some p) (held_place i j ps) (and_no _ h)) ∙ e i j)))

-- ---- a packet's frames
module _ (p : List ℕ) (l v : ℕ) (lent : List ℕ) (u : Under 256 p) (e : (aired_of p l v lent).answer ≡ 0) (c : Holdings) (idle : Idle c) where
  t : Taken p l v
  unfolding aired_of
  t = taken p l v lent e

  abbrev frames : List (List ℕ)
  frames = frames_of p l v

  -- the collector seen with 63 marks, before and behind the frames
  abbrev before : Collector
  before = as_collector c

  abbrev behind : Collector
  behind = offer_all before frames

  veil_is : veiled before ≡ nothing
  veil_is = idle_veiled before idle.right.good.count idle.nothing_held

  all_is : veiled behind ≡ offer_all nothing frames
  all_is = sym (all_offered_same before frames) ∙ ap (λ (d : Collector). offer_all d frames) veil_is

  seen_all : (as_collector (offer_all_to c frames) ≡ behind) × (tops_clear (offer_all_to c frames) ≡ true)
  seen_all = offers_carried frames c idle.right.clear

  pub packet_answers : answers_from c frames ≡ replicate ((aired_of p l v lent).frames - 1) 0 ++ (1 ∷ [])
  packet_answers =
      answers_seen frames c idle.right.clear ∙ sym (answers_same before frames) ∙ ap (λ (d : Collector). answers_to d frames) veil_is ∙ (frames_seen p l v lent u e).0

  pub packet_is : packet_in (offer_all_to c frames) l v ≡ p
  unfolding packet_in zeros
  packet_is =
      let d = offer_all_to c frames in
      let z : List ℕ = replicate 250 0 in
      let w = (same_as_marks d seen_all.1).2 l v z in
      let s = copy_same behind l v z in
      let lz : length z ≡ 250 = length-replicate {A = ℕ} 250 0 in
      let b = (frames_seen p l v lent u e).1 z (omega (arith, t.short, lz)) in
      let a : copy_gives d l v 250 ≡ record { answer = 0; length = length p } =
      ap (copy_gives d l v) (sym lz) ∙ w.0 ∙ ap (λ (k : Collector). answered k l v (length z)) seen_all.0 ∙ sym s.0 ∙ ap (λ (k : Collector). answered k l v (length z)) all_is ∙ b.0 in
      let m : copy_leaves d l v z ≡ p ++ drop (length p) z = w.1 ∙ ap (λ (k : Collector). copied k l v z) seen_all.0 ∙ sym s.1 ∙ ap (λ (k : Collector). copied k l v z) all_is ∙ b.1 in
      ap₂ (λ (x : Copied) (y : List ℕ). take x.length y) a m ∙ take_at p (drop (length p) z) (length p) refl

  pub all_of_pair : (f : List ℕ) → Memᴰ f (frames_of p l v) → ((heading_fields f).level ≡ l) × ((heading_fields f).version ≡ v)
  unfolding frames_of
  all_of_pair f m =
      let w = one_of p l v u t (frames_for (length p)) 0 (omega arith) f m in
      let h : heading_fields f ≡ heading_for l v (total_for (length p)) (record { 0 = w.0 }) = ap heading_fields w.2 ∙ ap (λ (x : Piece). x.heading) (piece_is p l v u t w.0 w.1) in
      (ap (λ (x : Heading). x.level) h, ap (λ (x : Heading). x.version) h)

  -- only the packet's pair is held, so none once it is released
  total_none : (i j : ℕ) → (eqb l i && eqb v j) ≡ false → total_held (offer_all nothing (frames_of p l v)) i j ≡ none
  total_none i j n = never (total_held (offer_all nothing (frames_of p l v)) i j) (λ x q. other x ((totals_exact ((l, v) ∷ []) (frames_of p l v) (bounded p l v u t) i j x).0 q))
    where
      never : (o : Option Total) → ((x : Total) → o ≡ some x → ⊥) → o ≡ none
      never none f = refl
      never (some x) f = absurd (f x refl)

      other : (x : Total) → Said (of_pair i j) (λ (y : Piece). y.heading.total) (frames_of p l v) x → ⊥
      other x w =
          let h = all_of_pair w.0 w.1 in
          true≢false (sym (ap₂ (λ (a b : ℕ). eqb a i && eqb b j) (sym h.0) (sym h.1) ∙ w.3) ∙ n)

  total_again : (i j : ℕ) → total_held (released behind l v).collector i j ≡ none
  unfolding total_held
  total_again i j =
      (released_exactly behind l v (all_good frames before idle.right.good) i j).1
      ∙ by_test (eqb l i && eqb v j)
      (λ q. if_yes _ _ q)
      (λ q. if_no _ _ q ∙ ap total_in (sym (held_place_same i j behind.places)) ∙ ap (λ (k : Collector). total_held k i j) all_is ∙ total_none i j q)

  pub idle_again : Idle (release_gives (offer_all_to c frames) l v).collector
  unfolding total_held
  idle_again =
      let w = release_same (offer_all_to c frames) seen_all.1 l v in
      let r = (released behind l v).collector in
      let same : r ≡ as_collector (release_gives (offer_all_to c frames) l v).collector = sym (ap (λ (o : Offered). o.collector) w.0 ∙ ap (λ (k : Collector). (released k l v).collector) seen_all.0) in
      record {
        right = record { clear = w.1; good = subst Good same (release_good behind l v (all_good frames before idle.right.good)) };
        nothing_held = subst (λ (k : Collector). all is_free k.places ≡ true) same (none_held r.places (λ i j. nowhere (held_place i j r.places) (total_again i j)));
      }
    where
      nowhere : (o : Option Place) → total_in o ≡ none → o ≡ none
      nowhere none q = refl
      nowhere (some x) q = absurd (none_some (sym q))

-- ---- so a packet that goes on air is taken in by the stories, and shown as they say
module _ (p : List ℕ) (l v : ℕ) (lent : List ℕ) (u : Under 256 p) (e : (aired_of p l v lent).answer ≡ 0) (c : Holdings) (idle : Idle c)
    (s : Stories) (out : List ℕ) (fine : all fair s.tales ≡ true) (wide : 1341 ≤ length out) where
  pub packet_heard : (hear_all (length out) (record { collector = c; stories = s }) (frames_of p l v)
      ≡ record { collector = (release_gives (offer_all_to c (frames_of p l v)) l v).collector; stories = (taken_in s p (length out)).stories })
      × (shown_all out (record { collector = c; stories = s }) (frames_of p l v) ≡ shown_by out s p)
  packet_heard =
      let h = heard_all s out fine wide l v ((aired_of p l v lent).frames - 1) (frames_of p l v) c idle.right (all_of_pair p l v lent u e c idle) (packet_answers p l v lent u e c idle) in
      let q = packet_is p l v lent u e c idle in (
        h.0 ∙ ap (λ (x : List ℕ). record { collector = (release_gives (offer_all_to c (frames_of p l v)) l v).collector; stories = (taken_in s x (length out)).stories }) q,
        h.1 ∙ ap (shown_by out s) q,
      )
