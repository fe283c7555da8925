-- The version comes round again: an old half gives way to a message that is sent twice through. Assumes nothing.
use mathlib.Core.Path.{◌≡◌, refl, sym, ap, ap₂, subst, ◌∙◌}
use mathlib.Core.List.Memᴰ
use mathlib.Core.List.{List, [], ◌∷◌, ◌++◌, Memᴰ}
use mathlib.Core.Logic.{◌⊎◌, inl, inr, ⊎_elim}
use mathlib.Core.Option.{Option, none, some}
use mathlib.Core.Bool.{Bool, true, false, cond, not, ◌&&◌, true≢false, false≢true}
use Prim.Native.Nat.{ℕ, zero, suc, ◌+◌, ◌<◌}
use native.Mathlib.Omega.{arith}
use lib.Dec.{eqb}
use borrow.Author.Tests.{eqb-true, eqb-false, eq-eqb, not-false}
use Rattle.laws.proofs.Below.{at_each, below_yes}
use Rattle.laws.proofs.Cases.{if_yes, if_no, and_yes, and_no, and_left, and_right, and_both, or_both}
use Rattle.laws.proofs.Elements.{by_test}
use Rattle.frame.specs.declared.Total.{Total}
use Rattle.frame.specs.declared.Number.{Number}
use Rattle.frame.proofs.Accepted.{Bounds, bounds}
use Rattle.collector.specs.declared.Place.{Place}
use Rattle.collector.specs.declared.Collector.{Collector}
use Rattle.collector.specs.declared.Piece.{Piece}
use Rattle.collector.specs.Whole.{passes}
use Rattle.collector.specs.Places.{marked, complete, shaped, same_four, contradicts, against, taken_for, stored, joined, whole}
use Rattle.collector.specs.Collector.{its_place, piece_of, taken_in, offered, Offered}
use Rattle.collector.proofs.OnePlace.{same_total, new_number, opposed}
use Rattle.collector.proofs.Marks.{mark_own, mark_other, taken_shaped}
use Rattle.order.specs.Held.{Good, Four, bytes_at, four_at, held_place, holds_in, total_in, holds, total_held, offer_all, starts_over, clears}
use Rattle.order.specs.Given.{pieces, four, of_pair, of_number, or_else, Said, given, is_some, full, bytes_of, joined_to, joined_by}
use Rattle.order.specs.Rounds.{Message, Through, mixed, Unmixed, says_whole, whole_since, WholeWith}
use Rattle.order.proofs.HeldPlace.{four_own, four_other}
use Rattle.order.proofs.Outcome.{zero_total, zero_missing}
use Rattle.order.proofs.Keeping.{offer_good}
use Rattle.order.proofs.Stepping.{stored_total, stored_fours, taken_none}
use Rattle.order.proofs.Declaring.{four_marked, marked_four, joined_alike, joined_full}
use Rattle.order.proofs.Taking.{same_bytes}
use Rattle.order.proofs.Running.{some_inj, none_some}
use Rattle.order.proofs.Offering.{offered_taken, accepted_none, pieces_of, clear_is, offer_on, all_good}
use Rattle.order.proofs.Copying.{Sound, place_sound}
use Rattle.order.proofs.Theorems.{said_exact, own_key}
use Rattle.order.proofs.Declared.{one_if}
use Rattle.order.proofs.Again.{against_else, over_three, opposed_again}
use Rattle.order.proofs.Meeting.{Meets, adds, over, same, met, its_is, zero_open, says_one, says_one_over}

-- ---- lists of frames that came
onto : List (List ℕ) → List (List ℕ) → List (List ℕ)
onto [] seen = seen
onto (f ∷ fs) seen = onto fs (f ∷ seen)

onto_old : (fs seen : List (List ℕ)) (f : List ℕ) → Memᴰ f seen → Memᴰ f (onto fs seen)
unfolding onto
onto_old [] seen f m = m
onto_old (g ∷ fs) seen f m = onto_old fs (g ∷ seen) f (Memᴰ.tail m)

onto_new : (fs seen : List (List ℕ)) (f : List ℕ) → Memᴰ f fs → Memᴰ f (onto fs seen)
unfolding onto
onto_new [] seen f m = absurd (Memᴰ.not-nil m)
onto_new (g ∷ fs) seen f m =
    ⊎_elim (λ (e : f ≡ g). onto_old fs (g ∷ seen) f (Memᴰ.head e)) (λ k. onto_new fs (g ∷ seen) f k) (Memᴰ.cases_cons m)

-- ---- how often a pair was declared whole from its last clearing on: once, if it is whole
since_on : (l v : ℕ) (xs ys : List (List ℕ)) (c : Collector) (k : ℕ) → whole_since l v c (xs ++ ys) k ≡ whole_since l v (offer_all c xs) ys (whole_since l v c xs k)
unfolding whole_since offer_all
since_on l v [] ys c k = refl
since_on l v (x ∷ xs) ys c k = since_on l v xs ys (offered c x).collector _

module _ (x : Piece) (b : Bounds x.heading) (p : Place) (s : Bool) (agrees : s ≡ true → against p x ≡ 3) where
  no_more : (q : Place) → 0 + one_if (whole q) ≡ one_if (whole q)
  no_more q = omega arith

  counted : {a : ℕ} {q : Place} → ((contradicts p x ≡ true) × (whole p ≡ false) → s ≡ true) → Meets p x a q
      → cond s 0 (one_if (whole p)) + cond (eqb a 1) 1 0 ≡ one_if (whole q)
  unfolding one_if
  counted {a} {q} back (adds e r t) =
      let n : s ≡ false = by_test s (λ y. let z : ◌≡◌ {A = ℕ} 3 0 = sym (agrees y) ∙ e in absurd (omega arith)) (λ y. y) in
      ap₂ ◌+◌ (if_no 0 (one_if (whole p)) n ∙ ap one_if (zero_open p x e b.number_below)) (ap one_if (ap (λ (k : ℕ). eqb k 1) t ∙ says_one q)) ∙ no_more q
  counted {a} {q} back (over k w r t) =
      ap₂ ◌+◌ (if_yes 0 (one_if (whole p)) (back (k, w))) (ap one_if (ap (λ (j : ℕ). eqb j 1) t ∙ says_one_over q)) ∙ no_more q
  counted {a} {q} back (same e n m r) =
      let f : s ≡ false = by_test s (λ y. absurd (m (e ∙ agrees y))) (λ y. y) in
      let z : eqb a 1 ≡ false = against_else p x (λ (k : ℕ). eqb k 1 ≡ false) refl refl a e n m in
      ap₂ ◌+◌ (if_no 0 (one_if (whole p)) f ∙ ap (λ (w : Place). one_if (whole w)) (sym r)) (if_no 1 0 z) ∙ omega arith

-- ---- a message
module _ (l v : ℕ) (t : Total) (ms : List (List ℕ)) (msg : Message l v t ms) where
  abbrev says : Number → Option Four
  says = given (pieces ms) l v

  fits : (f : List ℕ) → Memᴰ f ms → Bounds (piece_of f).heading
  fits f m = bounds f (accepted_none f (msg.accept f m))

  below_total : (f : List ℕ) → Memᴰ f ms → (piece_of f).heading.number.0 < t.0
  below_total f m = subst (λ (u : Total). (piece_of f).heading.number.0 < u.0) (msg.total f m) (fits f m).number_below

  small : (f : List ℕ) → Memᴰ f ms → (piece_of f).heading.number.0 < 63
  small f m = let b = fits f m in let n = b.number_below in let u = b.total_high in omega arith

  one_voice : (n : Number) (x y : Piece) → Memᴰ x (pieces ms) → Memᴰ y (pieces ms) → of_number l v n x ≡ true → of_number l v n y ≡ true → four x ≡ four y
  one_voice n x y i j s u =
      let f = pieces_of x ms i in
      let g = pieces_of y ms j in
      let k = clear_is (piece_of f.0) (piece_of g.0) (msg.clear f.0 g.0 f.1 g.1) in
      sym (ap four f.3)
      ∙ k.bytes (own_key l v n (piece_of f.0) (piece_of g.0) (ap (of_number l v n) f.3 ∙ s) (ap (of_number l v n) g.3 ∙ u))
      ∙ ap four g.3

  said : (n : Number) (b : Four) → Said (of_number l v n) four ms b → says n ≡ some b
  said n b s = (said_exact (of_number l v n) four ms (one_voice n) b).1 s

  says_own : (f : List ℕ) → Memᴰ f ms → says (piece_of f).heading.number ≡ some (four (piece_of f))
  says_own f m =
      let n = (piece_of f).heading.number in
      said n (four (piece_of f)) (f, m, msg.accept f m, and_yes _ (msg.own f m) ∙ eq-eqb n.0 n.0 refl, refl)

  -- each number below the total is some frame's
  spoken : (n : Number) → n.0 < t.0 → (f : List ℕ) × Memᴰ f ms × ((piece_of f).heading.number.0 ≡ n.0) × (says n ≡ some (four (piece_of f)))
  unfolding full
  spoken n h = of_some (says n) refl (at_each t.0 (λ k. is_some (says (record { 0 = k }))) msg.every n.0 h)
    where
      of_some : (o : Option Four) → says n ≡ o → is_some o ≡ true → (f : List ℕ) × Memᴰ f ms × ((piece_of f).heading.number.0 ≡ n.0) × (says n ≡ some (four (piece_of f)))
      of_some none e i = absurd (false≢true i)
      of_some (some b) e i =
          let s = (said_exact (of_number l v n) four ms (one_voice n) b).0 e in
          (s.0, s.1, eqb-true _ _ (and_right (of_pair l v (piece_of s.0)) (eqb (piece_of s.0).heading.number.0 n.0) s.3), e ∙ ap some (sym s.4))

  -- ---- a place that holds nothing but the message
  record Agree (p : Place) : Type 0 where
    total : p.total ≡ t
    bytes : (n : Number) (b : Four) → n.0 < t.0 → four_at p n ≡ some b → says n ≡ some b

  agree_clear : (p : Place) (f : List ℕ) → Agree p → Memᴰ f ms → contradicts p (piece_of f) ≡ false
  agree_clear p f a m =
      let x = piece_of f in
      let e : p.total.0 ≡ x.heading.total.0 = ap (λ (u : Total). u.0) (a.total ∙ sym (msg.total f m)) in
      same_total p x e
      ∙ by_test (marked p x.heading.number)
      (λ k.
      let here = a.bytes x.heading.number (bytes_at p x.heading.number) (below_total f m) (marked_four p x.heading.number k) in
      and_yes _ k ∙ ap not (same_bytes p x (some_inj (sym here ∙ says_own f m))))
      (λ k. and_no _ k)

  agree_add : (p : Place) (f : List ℕ) → shaped p ≡ true → Agree p → Memᴰ f ms → Agree (stored p (piece_of f))
  agree_add p f s a m =
      let x = piece_of f in
      record {
        total = stored_total p x ∙ a.total;
        bytes = λ n b h e.
            let w = sym (stored_fours p x (four_at p) s (small f m) (λ k ne. refl) n) ∙ e in
            by_test (eqb x.heading.number.0 n.0)
            (λ k. ap (λ (i : ℕ). says (record { 0 = i })) (sym (eqb-true _ _ k)) ∙ says_own f m ∙ sym (if_yes _ _ k) ∙ w)
            (λ k. a.bytes n b h (sym (if_no _ _ k) ∙ w));
      }

  agree_start : (f : List ℕ) → Memᴰ f ms → Agree (stored (taken_for (piece_of f)) (piece_of f))
  unfolding taken_for
  agree_start f m =
      let x = piece_of f in
      record {
        total = stored_total (taken_for x) x ∙ msg.total f m;
        bytes = λ n b h e.
            let w = sym (stored_fours (taken_for x) x (λ k. none) (taken_shaped x) (small f m) (λ k ne. nothing_there x k) n) ∙ e in
            by_test (eqb x.heading.number.0 n.0)
            (λ k. ap (λ (i : ℕ). says (record { 0 = i })) (sym (eqb-true _ _ k)) ∙ says_own f m ∙ sym (if_yes _ _ k) ∙ w)
            (λ k. absurd (none_some (sym (if_no _ _ k) ∙ w)));
      }
    where
      nothing_there : (x : Piece) (k : Number) → four_at (taken_for x) k ≡ none
      nothing_there x k = taken_none (record { places = [] }) x k

  -- ---- a run of the message's frames, and what it keeps true of the pair's place
  record Ran (P : Place → List (List ℕ) → Type 0) (c : Collector) (fs seen : List (List ℕ)) (k : ℕ) : Type 0 where
    place : Place
    held : held_place l v (offer_all c fs).places ≡ some place
    kept : P place (onto fs seen)
    count : whole_since l v c fs k ≡ one_if (whole place)

  module _ (P : Place → List (List ℕ) → Type 0)
      (step : (p q : Place) (f : List ℕ) (seen : List (List ℕ)) (a : ℕ) → Memᴰ f ms → Sound p → Meets p (piece_of f) a q → P p seen → P q (f ∷ seen)) where
    one_more : (c : Collector) (f : List ℕ) (p : Place) → Memᴰ f ms → Good c → held_place l v c.places ≡ some p
        → (q : Place) × (held_place l v (offered c f).collector.places ≡ some q) × Meets p (piece_of f) (offered c f).answer q
        × (cond (clears l v c f) 0 (one_if (whole p)) + cond (says_whole l v c f) 1 0 ≡ one_if (whole q))
    unfolding clears says_whole
    one_more c f p m g e =
        let x = piece_of f in
        let a = msg.accept f m in
        let k = msg.own f m in
        let el : x.heading.level ≡ l = eqb-true _ _ (and_left (eqb x.heading.level l) (eqb x.heading.version v) k) in
        let ev : x.heading.version ≡ v = eqb-true _ _ (and_right (eqb x.heading.level l) (eqb x.heading.version v) k) in
        let e' : held_place x.heading.level x.heading.version c.places ≡ some p = ap₂ (λ (i j : ℕ). held_place i j c.places) el ev ∙ e in
        let w = met c x p e' in
        let o = offered_taken c f g a in
        let its : its_place c x ≡ p = its_is c x p e' in
        let ms₁ : Meets p x (offered c f).answer w.0 = subst (λ (i : ℕ). Meets p x i w.0) (sym (ap (λ (r : Offered). r.answer) o)) w.2 in (
          w.0,
          ap (λ (r : Offered). held_place l v r.collector.places) o ∙ ap₂ (λ (i j : ℕ). held_place i j (taken_in c x).collector.places) (sym el) (sym ev) ∙ w.1,
          ms₁,
          ap₂ (λ (s u : Bool). cond s 0 (one_if (whole p)) + cond u 1 0) (and_yes _ k ∙ and_yes _ a) (and_yes _ k)
              ∙ counted x (fits f m) p (starts_over c x) (λ y. ap (λ (z : Place). against z x) (sym its) ∙ over_three c x y)
              (λ y.
              and_yes _ (and_yes _ (ap (λ (z : Place). z.held) its ∙ (place_sound c g l v p e).held) ∙ ap (λ (z : Place). contradicts z x) its ∙ y.0)
              ∙ ap not (ap whole its ∙ y.1))
              ms₁,
        )

    ran : (fs : List (List ℕ)) (c : Collector) (p : Place) (seen : List (List ℕ)) → ((f : List ℕ) → Memᴰ f fs → Memᴰ f ms) → Good c → held_place l v c.places ≡ some p → P p seen
        → Ran P c fs seen (one_if (whole p))
    unfolding offer_all whole_since onto
    ran [] c p seen sub g e h = record { place = p; held = e; kept = h; count = refl }
    ran (f ∷ fs) c p seen sub g e h =
        let m = sub f (Memᴰ.head refl) in
        let w = one_more c f p m g e in
        let r = ran fs (offered c f).collector w.0 (f ∷ seen) (λ z i. sub z (Memᴰ.tail i)) (offer_good c f g) w.1 (step p w.0 f seen (offered c f).answer m (place_sound c g l v p e) w.2 h) in
        record {
          place = r.place;
          held = r.held;
          kept = r.kept;
          count = ap (whole_since l v (offered c f).collector fs) w.3 ∙ r.count;
        }

  -- ---- the second time through: a place that holds nothing but the message
  Marked : Place → List (List ℕ) → Type 0
  Marked p seen = Agree p × ((f : List ℕ) → Memᴰ f seen → marked p (piece_of f).heading.number ≡ true)

  agree_step : (p q : Place) (f : List ℕ) (a : ℕ) → Memᴰ f ms → Sound p → Meets p (piece_of f) a q → Agree p
      → Agree q × ((n : Number) → marked p n ≡ true → marked q n ≡ true) × (marked q (piece_of f).heading.number ≡ true)
  agree_step p q f a m s (adds e r t) h =
      let x = piece_of f in (
        subst Agree (sym r) (agree_add p f s.shape h m),
        λ n k.
            ap (λ (w : Place). marked w n) r
            ∙ by_test (eqb n.0 x.heading.number.0)
            (λ i. ap (λ (j : ℕ). marked (stored p x) (record { 0 = j })) (eqb-true _ _ i) ∙ mark_own p x s.shape (small f m))
            (λ i. mark_other p x n (eqb-false _ _ i) ∙ k),
        ap (λ (w : Place). marked w x.heading.number) r ∙ mark_own p x s.shape (small f m),
      )
  agree_step p q f a m s (over k w r t) h = absurd (true≢false (sym k ∙ agree_clear p f h m))
  agree_step p q f a m s (same e n o r) h =
      let x = piece_of f in
      let u : p.total.0 ≡ x.heading.total.0 = ap (λ (i : Total). i.0) (h.total ∙ sym (msg.total f m)) in (
        subst Agree (sym r) h,
        λ i k. ap (λ (w : Place). marked w i) r ∙ k,
        ap (λ (w : Place). marked w x.heading.number) r
            ∙ by_test (marked p x.heading.number) (λ k. k) (λ k. absurd (n (e ∙ new_number p x u k))),
      )

  marked_step : (p q : Place) (f : List ℕ) (seen : List (List ℕ)) (a : ℕ) → Memᴰ f ms → Sound p → Meets p (piece_of f) a q → Marked p seen → Marked q (f ∷ seen)
  unfolding Marked
  marked_step p q f seen a m s w h =
      let r = agree_step p q f a m s w h.0 in (
        r.0,
        λ g i.
            ⊎_elim
            (λ (e : g ≡ f). ap (λ (z : List ℕ). marked q (piece_of z).heading.number) e ∙ r.2)
            (λ j. r.1 (piece_of g).heading.number (h.1 g j))
            (Memᴰ.cases_cons i),
      )

  -- with every number come, it is the whole message
  joined_below : (k : ℕ) (f g : Number → Option Four) → ((n : Number) → n.0 < k → f n ≡ g n) → joined_to k f ≡ joined_to k g
  unfolding joined_to
  joined_below zero f g e = refl
  joined_below (suc k) f g e =
      ap₂ (λ (a : List ℕ) (o : Option Four). a ++ bytes_of o) (joined_below k f g (λ n h. e n (omega arith))) (e (record { 0 = k }) (omega arith))

  module _ (p : Place) (s : Sound p) (a : Agree p) (every : (n : Number) → n.0 < t.0 → marked p n ≡ true) where
    all_there : complete p ≡ true
    unfolding complete
    all_there =
        let u : p.total.0 ≡ t.0 = ap (λ (i : Total). i.0) a.total in
        below_yes p.total.0 (λ n. marked p (record { 0 = n })) (λ k h. every (record { 0 = k }) (omega arith))

    its_bytes : joined p ≡ joined_by t says
    its_bytes =
        joined_full p s.shape s.total all_there
        ∙ ap (λ (u : Total). joined_by u (four_at p)) a.total
        ∙ joined_below t.0 (four_at p) says
        (λ n h. let k = marked_four p n (every n h) in k ∙ sym (a.bytes n (bytes_at p n) h k))

    is_whole_lem : whole p ≡ true
    unfolding whole
    is_whole_lem = and_yes _ all_there ∙ ap passes its_bytes ∙ msg.pass

  -- ---- the first time through: the old half with frames of the message beside it, until one contradicts it
  module _ (p : Place) (sp : Sound p) (half : whole p ≡ false)
      (unmixed : p.total ≡ t → passes (joined_by t (λ n. or_else (four_at p n) (says n))) ≡ true → (n : Number) (b : Four) → four_at p n ≡ some b → says n ≡ some b) where
    record Old (q : Place) : Type 0 where
      grown : (q ≡ p) ⊎ (p.total ≡ t)
      total : q.total ≡ p.total
      kept : (n : Number) → marked p n ≡ true → marked q n ≡ true
      from : (n : Number) (b : Four) → four_at q n ≡ some b → or_else (four_at p n) (says n) ≡ some b

    Seen : Place → List (List ℕ) → Type 0
    Seen q seen = (f : List ℕ) → Memᴰ f seen → (four_at q (piece_of f).heading.number ≡ some (four (piece_of f))) × (q.total ≡ t)

    Halved : Place → List (List ℕ) → Type 0
    Halved q seen = Agree q ⊎ (Old q × Seen q seen)

    some_marked : (q : Place) (n : Number) (b : Four) → four_at q n ≡ some b → marked q n ≡ true
    some_marked q n b e = sym (four_marked q n) ∙ ap is_some e

    unmarked_none : (q : Place) (n : Number) → marked q n ≡ false → four_at q n ≡ none
    unfolding four_at
    unmarked_none q n e = if_no _ _ e

    -- such a place is whole only where it is the message's
    whole_agrees : (q : Place) → Sound q → Old q → whole q ≡ true → Agree q
    unfolding whole complete
    whole_agrees q s o w =
        ⊎_elim
        (λ (e : q ≡ p). absurd (true≢false (sym w ∙ ap whole e ∙ half)))
        (λ (e : p.total ≡ t).
        let r = and_both (complete q) (passes (joined q)) w in
        let u : q.total.0 ≡ t.0 = ap (λ (i : Total). i.0) (o.total ∙ e) in
        let mix : joined q ≡ joined_by t (λ n. or_else (four_at p n) (says n)) =
        joined_full q s.shape s.total r.0
        ∙ ap (λ (i : Total). joined_by i (four_at q)) (o.total ∙ e)
        ∙ joined_below t.0 (four_at q) (λ n. or_else (four_at p n) (says n))
        (λ n h.
        let k = marked_four q n (at_each q.total.0 (λ i. marked q (record { 0 = i })) r.0 n.0 (omega arith)) in
        k ∙ sym (o.from n (bytes_at q n) k)) in
        let told = unmixed e (sym (ap passes mix) ∙ r.1) in
        record {
          total = o.total ∙ e;
          bytes = λ n b h k. either (four_at p n) (told n) b (o.from n b k);
        })
        o.grown
      where
        either : {i : Option Four} (j : Option Four) → ((b : Four) → j ≡ some b → i ≡ some b) → (b : Four) → or_else j i ≡ some b → i ≡ some b
        either none y b e = e
        either (some d) y b e = y b e

    -- a frame that is not contradicted and not kept is there already
    same_held : (q : Place) (x : Piece) (a : ℕ) → a ≡ against q x → (a ≡ 0 → ⊥) → contradicts q x ≡ false
        → (q.total.0 ≡ x.heading.total.0) × (four_at q x.heading.number ≡ some (four x))
    unfolding contradicts
    same_held q x a e n k =
        let r = or_both (not (eqb q.total.0 x.heading.total.0)) (marked q x.heading.number && not (same_four q x)) k in
        let u : q.total.0 ≡ x.heading.total.0 = eqb-true _ _ (not-false _ r.0) in
        let m : marked q x.heading.number ≡ true = by_test (marked q x.heading.number) (λ i. i) (λ i. absurd (n (e ∙ new_number q x u i))) in
        let f : same_four q x ≡ true = not-false _ (sym (and_yes (not (same_four q x)) m) ∙ r.1) in
        (u, marked_four q x.heading.number m ∙ ap some (its_four q x f))
      where
        its_four : (q : Place) (x : Piece) → same_four q x ≡ true → bytes_at q x.heading.number ≡ four x
        its_four q x f =
            let w = bytes_at q x.heading.number in
            let f₁ = and_both (eqb w.0 x.a) _ f in
            let f₂ = and_both (eqb w.1 x.b) _ f₁.1 in
            let f₃ = and_both (eqb w.2 x.c) (eqb w.3 x.d) f₂.1 in
            let ea : w.0 ≡ x.a = eqb-true _ _ f₁.0 in
            let eb : w.1 ≡ x.b = eqb-true _ _ f₂.0 in
            let ec : w.2 ≡ x.c = eqb-true _ _ f₃.0 in
            let ed : w.3 ≡ x.d = eqb-true _ _ f₃.1 in
            rw (ea, eb, ec, ed)

    -- a frame of the message that is kept beside the old half
    module _ (q : Place) (f : List ℕ) (m : Memᴰ f ms) (s : Sound q) (o : Old q) (e : against q (piece_of f) ≡ 0) where
      abbrev x : Piece
      x = piece_of f

      of_total : q.total ≡ t
      of_total = ap (λ (k : ℕ). record { 0 = k }) (zero_total q x e) ∙ msg.total f m

      now : (n : Number) → four_at (stored q x) n ≡ cond (eqb x.heading.number.0 n.0) (some (four x)) (four_at q n)
      now n = stored_fours q x (four_at q) s.shape (small f m) (λ k ne. refl) n

      old_add : Old (stored q x)
      old_add =
          record {
            grown = inr (sym o.total ∙ of_total);
            total = stored_total q x ∙ o.total;
            kept = λ n k.
                by_test (eqb n.0 x.heading.number.0)
                (λ i. ap (λ (j : ℕ). marked (stored q x) (record { 0 = j })) (eqb-true _ _ i) ∙ mark_own q x s.shape (small f m))
                (λ i. mark_other q x n (eqb-false _ _ i) ∙ o.kept n k);
            from = λ n b k.
                let w = sym (now n) ∙ k in
                by_test (eqb x.heading.number.0 n.0)
                (λ i.
                let j : n.0 ≡ x.heading.number.0 = sym (eqb-true _ _ i) in
                let lacks : marked p n ≡ false =
                by_test (marked p n) (λ y. absurd (true≢false (sym (o.kept n y) ∙ ap (λ (k : ℕ). marked q (record { 0 = k })) j ∙ zero_missing q x e))) (λ y. y) in
                ap (λ (u : Option Four). or_else u (says n)) (unmarked_none p n lacks)
                ∙ ap (λ (k : ℕ). says (record { 0 = k })) j ∙ says_own f m ∙ sym (if_yes _ _ i) ∙ w)
                (λ i. o.from n b (sym (if_no _ _ i) ∙ w));
          }

      seen_add : (seen : List (List ℕ)) → Seen q seen → Seen (stored q x) (f ∷ seen)
      unfolding Seen
      seen_add seen h g i =
          ⊎_elim
          (λ (k : g ≡ f).
          subst (λ (z : List ℕ). (four_at (stored q x) (piece_of z).heading.number ≡ some (four (piece_of z))) × ((stored q x).total ≡ t)) (sym k)
          (four_own q x s.shape (small f m), stored_total q x ∙ of_total))
          (λ j.
          let y = piece_of g in
          let w = (h g j).0 in
          let ne : y.heading.number.0 ≡ x.heading.number.0 → ⊥ =
          λ (k : y.heading.number.0 ≡ x.heading.number.0).
          true≢false (sym (some_marked q y.heading.number (four y) w) ∙ ap (λ (u : ℕ). marked q (record { 0 = u })) k ∙ zero_missing q x e) in
          (four_other q x y.heading.number ne ∙ w, stored_total q x ∙ of_total))
          (Memᴰ.cases_cons i)

    halved_step : (q r : Place) (f : List ℕ) (seen : List (List ℕ)) (a : ℕ) → Memᴰ f ms → Sound q → Meets q (piece_of f) a r → Halved q seen → Halved r (f ∷ seen)
    unfolding Halved Seen
    halved_step q r f seen a m s w (inl h) = inl (agree_step q r f a m s w h).0
    halved_step q r f seen a m s (adds e k u) (inr h) =
        inr (subst Old (sym k) (old_add q f m s h.0 e), subst (λ (z : Place). Seen z (f ∷ seen)) (sym k) (seen_add q f m s h.0 e seen h.1))
    halved_step q r f seen a m s (over k n u v) (inr h) = inl (subst Agree (sym u) (agree_start f m))
    halved_step q r f seen a m s (same e n k u) (inr h) =
        let x = piece_of f in
        by_test (contradicts q x)
        (λ y.
        let w : whole q ≡ true =
        by_test (whole q) (λ i. i) (λ i. absurd (k (e ∙ opposed q x y (opposed_again q x y) ∙ if_no 15 3 i))) in
        absurd (true≢false (sym y ∙ agree_clear q f (whole_agrees q s h.0 w) m)))
        (λ y.
        let w = same_held q x a e n y in
        let both : (four_at q x.heading.number ≡ some (four x)) × (q.total ≡ t) = (w.1, ap (λ (i : ℕ). record { 0 = i }) w.0 ∙ msg.total f m) in
        let all : Seen q (f ∷ seen) =
        λ g i.
        ⊎_elim
        (λ (j : g ≡ f). subst (λ (z : List ℕ). (four_at q (piece_of z).heading.number ≡ some (four (piece_of z))) × (q.total ≡ t)) (sym j) both)
        (λ j. h.1 g j)
        (Memᴰ.cases_cons i) in
        inr (subst Old (sym u) h.0, subst (λ (z : Place). Seen z (f ∷ seen)) (sym u) all))

    -- once every frame came, nothing is held but the message
    halved_end : (q : Place) (seen : List (List ℕ)) → ((f : List ℕ) → Memᴰ f ms → Memᴰ f seen) → Halved q seen → Agree q
    unfolding Halved Seen
    halved_end q seen came (inl h) = h
    halved_end q seen came (inr h) =
        let first = spoken (record { 0 = 0 }) msg.counts in
        record {
          total = (h.1 first.0 (came first.0 first.1)).1;
          bytes = λ n b i e.
              let w = spoken n i in
              let y = (h.1 w.0 (came w.0 w.1)).0 in
              w.3 ∙ sym (sym e ∙ ap (λ (k : ℕ). four_at q (record { 0 = k })) (sym w.2) ∙ y);
        }

    halved_start : Halved p []
    unfolding Halved Seen
    halved_start =
        inr (record { grown = inl refl; total = refl; kept = λ n k. k; from = λ n b e. ap (λ (u : Option Four). or_else u (says n)) e }, λ f m. absurd (Memᴰ.not-nil m))

  -- ---- twice through
  -- after the first time: a place that holds nothing but the message
  record Once (c : Collector) (fs : List (List ℕ)) : Type 0 where
    place : Place
    held : held_place l v (offer_all c fs).places ≡ some place
    agree : Agree place
    count : whole_since l v c fs 0 ≡ one_if (whole place)

  once : (c : Collector) (fs : List (List ℕ)) (p : Place) → Good c → Through ms fs → held_place l v c.places ≡ some p → whole p ≡ false → Unmixed c l v t ms → Once c fs
  unfolding holds total_held one_if
  once c fs p g a e half bound =
      let sp = place_sound c g l v p e in
      let unmixed : p.total ≡ t → passes (joined_by t (λ n. or_else (four_at p n) (says n))) ≡ true → (n : Number) (d : Four) → four_at p n ≡ some d → says n ≡ some d =
      λ u w n d k.
      bound (ap total_in e ∙ ap some u)
      (ap passes (joined_alike t.0 (mixed c l v ms) (λ i. or_else (four_at p i) (says i)) (λ i. ap (λ (o : Option Place). or_else (holds_in o i) (says i)) e)) ∙ w)
      n d (ap (λ (o : Option Place). holds_in o n) e ∙ k) in
      let r = ran (Halved p sp half unmixed) (halved_step p sp half unmixed) fs c p [] a.only g e (halved_start p sp half unmixed) in
      record {
        place = r.place;
        held = r.held;
        agree = halved_end p sp half unmixed r.place (onto fs []) (λ f m. onto_new fs [] f (a.each f m)) r.kept;
        count = ap (whole_since l v c fs) (sym (if_no 1 0 half)) ∙ r.count;
      }

  -- and the second time
  twice : (c : Collector) (fs : List (List ℕ)) (p : Place) → Good c → Through ms fs → held_place l v c.places ≡ some p → Agree p
      → WholeWith l v t (joined_by t says) (offer_all c fs) × (whole_since l v c fs (one_if (whole p)) ≡ 1)
  unfolding Marked one_if
  twice c fs p g a e agree = ended (ran Marked marked_step fs c p [] a.only g e (agree, λ f m. absurd (Memᴰ.not-nil m)))
    where
      ended : Ran Marked c fs [] (one_if (whole p)) → WholeWith l v t (joined_by t says) (offer_all c fs) × (whole_since l v c fs (one_if (whole p)) ≡ 1)
      ended r =
          let s = place_sound (offer_all c fs) (all_good fs c g) l v r.place r.held in
          let every : (n : Number) → n.0 < t.0 → marked r.place n ≡ true =
          λ n h.
          let w = spoken n h in
          ap (λ (k : ℕ). marked r.place (record { 0 = k })) (sym w.2) ∙ r.kept.1 w.0 (onto_new fs [] w.0 (a.each w.0 w.1)) in
          let done = is_whole_lem r.place s r.kept.0 every in (
            record { place = r.place; held = r.held; is = done; total = r.kept.0.total; join = its_bytes r.place s r.kept.0 every },
            r.count ∙ if_yes 1 0 done,
          )

  through : (c : Collector) (first second : List (List ℕ)) → Good c → Through ms second → Once c first
      → WholeWith l v t (joined_by t says) (offer_all c (first ++ second)) × (whole_since l v c (first ++ second) 0 ≡ 1)
  through c first second g b o =
      let w = twice (offer_all c first) second o.place (all_good first c g) b o.held o.agree in (
        subst (WholeWith l v t (joined_by t says)) (sym (offer_on first second c)) w.0,
        since_on l v first second c 0 ∙ ap (whole_since l v (offer_all c first) second) o.count ∙ w.1,
      )

-- A pair is held and not whole, and then all frames of one message of that pair come, at least twice through, in any order and with any repeats. Unless
-- what is held and the message make another whole packet together, the pair is then whole with that message's bytes, and it was declared whole
-- exactly once from its last clearing on.
pub comes_round : (l v : ℕ) (t : Total) (ms first second : List (List ℕ)) (c : Collector) (p : Place) → Good c → Message l v t ms → Through ms first → Through ms second
    → held_place l v c.places ≡ some p → whole p ≡ false → Unmixed c l v t ms
    → WholeWith l v t (joined_by t (given (pieces ms) l v)) (offer_all c (first ++ second)) × (whole_since l v c (first ++ second) 0 ≡ 1)
comes_round l v t ms first second c p g msg a b e half bound = through l v t ms msg c first second g b (once l v t ms msg c first p g a e half bound)
