-- Demand 3: what a collector holds, answers and hands out follows from the frames alone, whatever their order. Assumes nothing.
use mathlib.Core.Path.{◌≡◌, refl, sym, ap, ap₂, subst, ◌∙◌}
use mathlib.Core.List.Memᴰ
use mathlib.Core.List.{List, [], ◌∷◌, ◌++◌, Memᴰ}
use mathlib.Core.Logic.{◌↔◌, ⊎_elim}
use mathlib.Core.Option.{Option, none, some}
use mathlib.Core.Bool.{Bool, true, false, true≢false}
use Prim.Native.Nat.{ℕ, zero, suc, ◌≤◌, ◌<◌}
use native.Mathlib.Nat.{not-suc-le-zero, le_of_suc-le-suc}
use native.Mathlib.Omega.{arith}
use lib.ListN.{length, get_or, set}
use lib.Seq.{set-set}
use lib.Dec.{eqb, ltb}
use borrow.Author.Tests.{eqb-true, ne_eqb, ltb-true, ltb-false}
use Rattle.laws.specs.Scan.{all, index_of}
use Rattle.laws.specs.Refusals.{first, among}
use Rattle.laws.proofs.Cases.{if_yes, if_no, and_left, and_right}
use Rattle.laws.proofs.Elements.{by_test, first_append, index_yes, index_no}
use Rattle.laws.proofs.Refusals.{listed}
use Rattle.frame.specs.declared.Total.{Total}
use Rattle.frame.specs.declared.Number.{Number}
use Rattle.frame.specs.Heading.{refusals, accepted}
use Rattle.frame.proofs.Accepted.{none_refused, some_refused}
use Rattle.collector.specs.declared.Place.{Place}
use Rattle.collector.specs.declared.Collector.{Collector}
use Rattle.collector.specs.declared.Piece.{Piece}
use Rattle.collector.specs.Places.{blank, is_pair, stored, taken_for, freed, copy_answer, copy_bytes}
use Rattle.collector.specs.Collector.{nothing, good, is_free, is_held, index_of_pair, place_of, its_place, put, piece_of, taken_in, keeps, offer_cases, offered, release_cases, released, copied_cases, answered, copied, Offered}
use Rattle.collector.proofs.Calls.{bad_first, offer_apart, release_apart, copy_apart, release_0}
use Rattle.collector.proofs.AllPlaces.{is_held_lem, is_not_held, some_free}
use Rattle.order.specs.Held.{Good, Four, holds, total_held, offer_all, Act, offering, releasing, run}
use Rattle.order.specs.Given.{pieces, four, of_pair, of_number, Pair, Bounded, Rearranged, first_of, Said, given, total_given, declare_cases, due_cases, due}
use Rattle.order.proofs.Keeping.{kept_collector, empty_good, offer_good, release_good}
use Rattle.order.proofs.Outcome.{Outcome, turned, joins, begins, starts, finds_none, outcome, at_pair, at_free}
use Rattle.order.proofs.Running.{Feed, some_inj, none_some, held_given, total_given_lem, answer_due, number_parts}
use Rattle.order.proofs.Offering.{offered_taken, offered_refused, all_good, all_taken, pieces_yes, pieces_append, pieces_of, of_pieces, accepted_none, refused_some, feed, moved, back, bounded_among}
use Rattle.order.proofs.Copying.{same_copies}

-- ---- holdings
-- After any frames within the bounds, an empty collector holds for each pair and number exactly the four bytes that the frames
-- with accepted headings give for it, for each pair exactly their total, and nothing else.
pub holdings : (qs : List Pair) (fs : List (List ℕ)) → Bounded qs fs → (l v : ℕ) (n : Number)
    → (holds (offer_all nothing fs) l v n ≡ given (pieces fs) l v n) × (total_held (offer_all nothing fs) l v ≡ total_given (pieces fs) l v)
holdings qs fs r l v n =
    let e = all_taken fs nothing empty_good in
    let f = feed qs fs r in
    (ap (λ (c : Collector). holds c l v n) e ∙ held_given qs (pieces fs) f l v n, ap (λ (c : Collector). total_held c l v) e ∙ total_given_lem qs (pieces fs) f l v)

module _ {B : Type 0} (is : Piece → Bool) (val : Piece → B) where
  found_in : (ps : List Piece) (b : B) → first_of is val ps ≡ some b → (x : Piece) × Memᴰ x ps × (is x ≡ true) × (val x ≡ b)
  unfolding first_of
  found_in [] b e = absurd (none_some e)
  found_in (x ∷ ps) b e =
      by_test (is x)
      (λ t. (x, Memᴰ.head refl, t, some_inj (sym (if_yes _ _ t) ∙ e)))
      (λ t. let r = found_in ps b (sym (if_no _ _ t) ∙ e) in (r.0, Memᴰ.tail r.1, r.2, r.3))

  found : (ps : List Piece) (x : Piece) → Memᴰ x ps → is x ≡ true → (y : Piece) × Memᴰ y ps × (is y ≡ true) × (first_of is val ps ≡ some (val y))
  unfolding first_of
  found [] x i t = absurd (Memᴰ.not-nil i)
  found (z ∷ ps) x i t =
      by_test (is z)
      (λ u. (z, Memᴰ.head refl, u, if_yes _ _ u))
      (λ u.
      ⊎_elim (λ (q : x ≡ z). absurd (true≢false (sym (ap is (sym q) ∙ t) ∙ u)))
      (λ j. let r = found ps x j t in (r.0, Memᴰ.tail r.1, r.2, if_no _ _ u ∙ r.3))
      (Memᴰ.cases_cons i))

  -- what frames say of a key is what every frame of that key says, where they agree
  pub said_exact : (fs : List (List ℕ)) → ((x y : Piece) → Memᴰ x (pieces fs) → Memᴰ y (pieces fs) → is x ≡ true → is y ≡ true → val x ≡ val y)
      → (b : B) → (first_of is val (pieces fs) ≡ some b) ↔ Said is val fs b
  said_exact fs one b = (
    λ e.
        let r = found_in (pieces fs) b e in
        let w = pieces_of r.0 fs r.1 in
        (w.0, w.1, w.2, ap is w.3 ∙ r.2, ap val w.3 ∙ r.3),
    λ s.
        let i = of_pieces fs s.0 s.1 s.2 in
        let r = found (pieces fs) (piece_of s.0) i s.3 in
        r.3 ∙ ap some (one r.0 (piece_of s.0) r.1 i r.2 s.3 ∙ s.4),
  )

-- two frames of one pair and number: the one has the pair and number of the other
pub own_key : (l v : ℕ) (n : Number) (x y : Piece) → of_number l v n x ≡ true → of_number l v n y ≡ true → of_number y.heading.level y.heading.version y.heading.number x ≡ true
own_key l v n x y s t =
    let k = number_parts l v n y t in
    ap₂ (λ (i j : ℕ). of_number i j y.heading.number x) k.0 k.1 ∙ ap (λ (i : ℕ). of_number l v (record { 0 = i }) x) k.2 ∙ s

-- Four bytes are held for a pair's number exactly where some frame given with an accepted heading has that pair, that number and those bytes.
pub holdings_exact : (qs : List Pair) (fs : List (List ℕ)) → Bounded qs fs → (l v : ℕ) (n : Number) (b : Four)
    → (holds (offer_all nothing fs) l v n ≡ some b) ↔ Said (of_number l v n) four fs b
holdings_exact qs fs r l v n b =
    let w = said_exact (of_number l v n) four fs (λ x y i j s t. ((feed qs fs r).clear x y i j).bytes (own_key l v n x y s t)) b in
    let h = (holdings qs fs r l v n).0 in
    (λ e. w.0 (sym h ∙ e), λ s. h ∙ w.1 s)

-- A total is held for a pair exactly where some frame given with an accepted heading has that pair and that total.
pub totals_exact : (qs : List Pair) (fs : List (List ℕ)) → Bounded qs fs → (l v : ℕ) (t : Total)
    → (total_held (offer_all nothing fs) l v ≡ some t) ↔ Said (of_pair l v) (λ x. x.heading.total) fs t
totals_exact qs fs r l v t =
    let w = said_exact (of_pair l v) (λ x. x.heading.total) fs (λ x y i j s u. ((feed qs fs r).clear x y i j).total (own_pair x y s u)) t in
    let h = (holdings qs fs r l v (record { 0 = 0 })).1 in
    (λ e. w.0 (sym h ∙ e), λ s. h ∙ w.1 s)
  where
    own_pair : (x y : Piece) → of_pair l v x ≡ true → of_pair l v y ≡ true → of_pair y.heading.level y.heading.version x ≡ true
    own_pair x y s u =
        let el = eqb-true _ _ (and_left (eqb y.heading.level l) (eqb y.heading.version v) u) in
        let ev = eqb-true _ _ (and_right (eqb y.heading.level l) (eqb y.heading.version v) u) in
        ap₂ (λ (i j : ℕ). of_pair i j x) el ev ∙ s

-- ---- answers
-- The answer to each frame follows from the frames before it alone: the refusal of its heading; else 2 if the same frame came before;
-- else, if with it every number of its pair has come, 1 where the joined bytes pass the rules and 17 where they don't; else 0.
pub answers : (qs : List Pair) (before : List (List ℕ)) (f : List ℕ) (rest : List (List ℕ)) → Bounded qs (before ++ (f ∷ rest))
    → (offered (offer_all nothing before) f).answer ≡ due before f
unfolding due
answers qs before f rest r =
    let c = offer_all nothing before in
    let g = all_good before nothing empty_good in
    by_test (accepted f)
    (λ e.
    let fd : Feed qs (pieces before ++ (piece_of f ∷ pieces rest)) =
    subst (Feed qs) (pieces_append before (f ∷ rest) ∙ ap (λ (l : List Piece). pieces before ++ l) (pieces_yes f rest e)) (feed qs (before ++ (f ∷ rest)) r) in
    ap (λ (o : Offered). o.answer) (offered_taken c f g e)
    ∙ ap (λ (d : Collector). (taken_in d (piece_of f)).answer) (all_taken before nothing empty_good)
    ∙ answer_due qs (pieces before) (piece_of f) (pieces rest) fd
    ∙ sym (first_append (refusals f) (due_cases (pieces before) (piece_of f)) ∙ if_yes _ _ (none_refused f (accepted_none f e))))
    (λ e.
    ap (λ (o : Offered). o.answer) (offered_refused c f g e)
    ∙ sym (first_append (refusals f) (due_cases (pieces before) (piece_of f)) ∙ if_no _ _ (some_refused f (refused_some f e))))

-- a number that no case has is not due
no_such : (before : List (List ℕ)) (f : List ℕ) (k : ℕ) → among k (refusals f ++ due_cases (pieces before) (piece_of f)) ≡ false → (k ≡ 0 → ⊥) → due before f ≡ k → ⊥
unfolding due
no_such before f k n z e =
    ⊎_elim
    (λ (q : first (refusals f ++ due_cases (pieces before) (piece_of f)) ≡ 0). z (sym e ∙ q))
    (λ q. true≢false (sym (ap (λ (i : ℕ). among i (refusals f ++ due_cases (pieces before) (piece_of f))) (sym e) ∙ q) ∙ n))
    (listed (refusals f ++ due_cases (pieces before) (piece_of f)))

-- So 15, 16 and 28 never come.
pub never_refused : (qs : List Pair) (before : List (List ℕ)) (f : List ℕ) (rest : List (List ℕ)) → Bounded qs (before ++ (f ∷ rest))
    → ((offered (offer_all nothing before) f).answer ≡ 15 → ⊥) × ((offered (offer_all nothing before) f).answer ≡ 16 → ⊥) × ((offered (offer_all nothing before) f).answer ≡ 28 → ⊥)
unfolding refusals due_cases declare_cases among
never_refused qs before f rest r =
    let e = answers qs before f rest r in (
      λ z. no_such before f 15 refl (λ (q : 15 ≡ 0). omega arith) (sym e ∙ z),
      λ z. no_such before f 16 refl (λ (q : 16 ≡ 0). omega arith) (sym e ∙ z),
      λ z. no_such before f 28 refl (λ (q : 28 ≡ 0). omega arith) (sym e ∙ z),
    )

-- And nothing begins again: 3 never comes.
pub never_begun : (qs : List Pair) (before : List (List ℕ)) (f : List ℕ) (rest : List (List ℕ)) → Bounded qs (before ++ (f ∷ rest))
    → (offered (offer_all nothing before) f).answer ≡ 3 → ⊥
unfolding refusals due_cases declare_cases among
never_begun qs before f rest r z = no_such before f 3 refl (λ (q : 3 ≡ 0). omega arith) (sym (answers qs before f rest r) ∙ z)

-- ---- any order
option_ext : {A : Type 0} (o u : Option A) → ((b : A) → o ≡ some b → u ≡ some b) → ((b : A) → u ≡ some b → o ≡ some b) → o ≡ u
option_ext none none f g = refl
option_ext none (some b) f g = g b refl
option_ext (some a) u f g = sym (f a refl)

-- what was said is said by the same frames elsewhere
said_there : {B : Type 0} (is : Piece → Bool) (val : Piece → B) (fs gs : List (List ℕ)) → ((f : List ℕ) → Memᴰ f fs → Memᴰ f gs) → (b : B) → Said is val fs b → Said is val gs b
said_there is val fs gs to b s = (s.0, to s.0 s.1, s.2, s.3, s.4)

-- Every rearrangement of the frames leaves the same holdings for each pair, and copy then answers and hands out the same, whatever is lent.
pub any_order : (qs : List Pair) (fs gs : List (List ℕ)) → Bounded qs fs → Rearranged fs gs → (l v : ℕ)
    → ((n : Number) → holds (offer_all nothing fs) l v n ≡ holds (offer_all nothing gs) l v n)
    × (total_held (offer_all nothing fs) l v ≡ total_held (offer_all nothing gs) l v)
    × ((out : List ℕ) → (answered (offer_all nothing fs) l v (length out) ≡ answered (offer_all nothing gs) l v (length out)) × (copied (offer_all nothing fs) l v out ≡ copied (offer_all nothing gs) l v out))
any_order qs fs gs r p l v =
    let r' = bounded_among qs fs gs r (moved (back p)) in
    let eh : (n : Number) → holds (offer_all nothing fs) l v n ≡ holds (offer_all nothing gs) l v n =
    λ n.
    option_ext _ _
    (λ b e. (holdings_exact qs gs r' l v n b).1 (said_there (of_number l v n) four fs gs (moved p) b ((holdings_exact qs fs r l v n b).0 e)))
    (λ b e. (holdings_exact qs fs r l v n b).1 (said_there (of_number l v n) four gs fs (moved (back p)) b ((holdings_exact qs gs r' l v n b).0 e)))
    in
    let et : total_held (offer_all nothing fs) l v ≡ total_held (offer_all nothing gs) l v =
    option_ext _ _
    (λ t e. (totals_exact qs gs r' l v t).1 (said_there (of_pair l v) (λ x. x.heading.total) fs gs (moved p) t ((totals_exact qs fs r l v t).0 e)))
    (λ t e. (totals_exact qs fs r l v t).1 (said_there (of_pair l v) (λ x. x.heading.total) gs fs (moved (back p)) t ((totals_exact qs gs r' l v t).0 e)))
    in
    (eh, et, same_copies (offer_all nothing fs) (offer_all nothing gs) (all_good fs nothing empty_good) (all_good gs nothing empty_good) l v eh et)

-- ---- a run keeps the record good
-- From a good record every offer and release, of whatever frames and pairs, leaves a good record.
pub run_keeps_good : (acts : List Act) (c : Collector) → Good c → Good (run c acts)
unfolding run
run_keeps_good [] c g = g
run_keeps_good (offering f ∷ acts) c g = run_keeps_good acts (offered c f).collector (offer_good c f g)
run_keeps_good (releasing l v ∷ acts) c g = run_keeps_good acts (released c l v).collector (release_good c l v g)

-- ---- no number 28 from a good record
-- So 28 comes exactly from a record that is not good, that is, from one made elsewhere: for offer, release and copy alike.
pub bad_record_alone : (c : Collector)
    → ((f : List ℕ) → ((offered c f).answer ≡ 28) ↔ (good c.places ≡ false))
    × ((l v : ℕ) → ((released c l v).answer ≡ 28) ↔ (good c.places ≡ false))
    × ((l v n : ℕ) → ((answered c l v n).answer ≡ 28) ↔ (good c.places ≡ false))
unfolding offered offer_cases released release_cases answered copied_cases copy_answer
bad_record_alone c = (
  λ f. bad_first (good c.places) _ (offer_apart c f),
  λ l v. bad_first (good c.places) _ (release_apart c l v),
  λ l v n. bad_first (good c.places) _ (copy_apart c l v n),
)

-- ---- refusals
-- A refusal leaves everything as it was: whatever the record, a frame answered other than 0, 1, 3 or 17 leaves the collector it was offered to,
-- a refused release the collector it was asked of, and a refused copy the memory lent, with size 0.
pub refusal_keeps : (c : Collector)
    → ((f : List ℕ) → keeps (offered c f).answer ≡ false → (offered c f).collector ≡ c)
    × ((l v : ℕ) → ((released c l v).answer ≡ 0 → ⊥) → (released c l v).collector ≡ c)
    × ((l v : ℕ) (out : List ℕ) → ((answered c l v (length out)).answer ≡ 0 → ⊥) → ((answered c l v (length out)).length ≡ 0) × (copied c l v out ≡ out))
unfolding offered released answered copied copy_answer copy_bytes
refusal_keeps c = (
  λ f k. if_no _ _ k,
  λ l v n. if_no _ _ (ne_eqb _ _ n),
  λ l v out n. (if_no _ _ (ne_eqb _ _ n), if_no _ _ (ne_eqb _ _ n)),
)

-- ---- places are used again
-- the first free place, once a place is made free that none before it is
index_set : (xs : List Place) (i : ℕ) (q : Place) → i < length xs → i ≤ index_of is_free xs → is_free q ≡ true → index_of is_free (set xs i q) ≡ i
index_set [] i q h k t = absurd (not-suc-le-zero h)
index_set (x ∷ xs) zero q h k t = index_yes is_free q xs t
index_set (x ∷ xs) (suc i) q h k t =
    by_test (is_free x)
    (λ u. let w = index_yes is_free x xs u in absurd (omega arith))
    (λ u.
    let w = index_no is_free x xs u in
    index_no is_free x (set xs i q) u ∙ ap suc (index_set xs i q (le_of_suc-le-suc h) (omega arith) t))

freed_free : (p : Place) → is_free (freed p) ≡ true
unfolding freed
freed_free p = refl

held_there : (d : Collector) (x : Piece) → at_pair d x < length d.places → (its_place d x).held ≡ true
unfolding index_of_pair
held_there d x h = is_held_lem d.places x.heading.level x.heading.version h

module _ (c : Collector) (g : Good c) (l v : ℕ) (held : (place_of l v c.places).held ≡ true) (full : all is_held c.places ≡ true) where
  abbrev i : ℕ
  i = index_of (is_pair l v) c.places

  there : i < length c.places
  unfolding index_of_pair
  there =
      by_test (ltb i (length c.places)) (λ t. ltb-true _ _ t)
      (λ t. absurd (true≢false (sym held ∙ is_not_held c.places l v (ltb-false _ _ t))))

  none_free : i ≤ index_of is_free c.places
  none_free =
      let h = there in
      by_test (ltb (index_of is_free c.places) (length c.places))
      (λ t. absurd (true≢false (sym full ∙ some_free c.places (ltb-true _ _ t))))
      (λ t. let k : length c.places ≤ index_of is_free c.places = ltb-false _ _ t in omega arith)

  emptied : (released c l v).collector ≡ put c i (freed (get_or c.places i blank))
  unfolding index_of_pair
  emptied = sym (ap (λ (o : Offered). o.collector) (release_0 c l v g.order held))

  -- Where all four places are held and a pair is released, the next accepted frame of a pair that is not held is kept in the place made free,
  -- which begins anew: zeroed, with no mark but the frame's.
  pub place_used_again : (f : List ℕ) → accepted f ≡ true → (its_place (released c l v).collector (piece_of f)).held ≡ false
      → (offered (released c l v).collector f).collector ≡ put c i (stored (taken_for (piece_of f)) (piece_of f))
  place_used_again f e none_held = again (outcome d x)
    where
      x : Piece
      x = piece_of f

      d : Collector
      d = (released c l v).collector

      gd : Good d
      gd = release_good c l v g

      free_there : at_free d ≡ i
      free_there =
          ap at_free emptied ∙ index_set c.places i (freed (get_or c.places i blank)) there none_free (freed_free (get_or c.places i blank))

      not_there : at_pair d x < length d.places → ⊥
      not_there h = true≢false (sym (held_there d x h) ∙ none_held)

      count : length d.places ≡ length c.places
      count = gd.count ∙ sym g.count

      again : Outcome d x → (offered d f).collector ≡ put c i (stored (taken_for x) x)
      again (turned a h q n m w) = absurd (not_there h)
      again (begins h q w) = absurd (not_there h)
      again (joins h q w) = absurd (not_there h)
      again (finds_none h k w) = let t = there in absurd (omega (arith, free_there, count))
      again (starts h k w) =
          ap (λ (o : Offered). o.collector) (offered_taken d f gd e ∙ sym w)
          ∙ kept_collector d (at_free d) (taken_for x) x
          ∙ ap₂ (λ (r : Collector) (j : ℕ). put r j (stored (taken_for x) x)) emptied free_there
          ∙ ap (λ (ps : List Place). record { places = ps }) (set-set c.places i (freed (get_or c.places i blank)) (stored (taken_for x) x))
