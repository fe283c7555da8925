-- From frames to what those with accepted headings say, and back. Assumes nothing.
use mathlib.Core.Path.{◌≡◌, refl, sym, ap, subst, ◌∙◌}
use mathlib.Core.List.Memᴰ
use mathlib.Core.List.{List, [], ◌∷◌, ◌++◌, Memᴰ}
use mathlib.Core.Logic.{⊎_elim}
use mathlib.Core.Bool.{Bool, true, false, not, ◌&&◌, false≢true}
use Prim.Native.Nat.{ℕ}
use lib.Dec.{eqb}
use borrow.Author.Tests.{not-false, eqb-true, eqb-false}
use Rattle.laws.specs.Refusals.{first}
use Rattle.laws.proofs.Cases.{if_yes, if_no, and_left, and_right, or_both}
use Rattle.laws.proofs.Elements.{by_test}
use Rattle.frame.specs.Heading.{refusals, accepted}
use Rattle.frame.proofs.Accepted.{Bounds, answer_is, bounds}
use Rattle.collector.specs.declared.Collector.{Collector}
use Rattle.collector.specs.declared.Piece.{Piece}
use Rattle.collector.specs.Collector.{piece_of, taken_in, offered, Offered}
use Rattle.collector.proofs.Calls.{offer_heading, offer_taken}
use Rattle.order.specs.Held.{Good, offer_all, take_all}
use Rattle.order.specs.Given.{pieces, four, of_pair, same_bytes, contradict, Pair, pair_among, Bounded, Rearranged, none_left, one_kept, two_swapped, and_then}
use Rattle.order.proofs.Keeping.{offer_good}
use Rattle.order.proofs.Running.{Clear, Feed}

pub accepted_none : (f : List ℕ) → accepted f ≡ true → first (refusals f) ≡ 0
unfolding accepted
accepted_none f e = sym (answer_is f) ∙ eqb-true _ _ e

pub refused_some : (f : List ℕ) → accepted f ≡ false → first (refusals f) ≡ 0 → ⊥
unfolding accepted
refused_some f e z = eqb-false _ _ e (answer_is f ∙ z)

-- ---- offers are what is taken of accepted frames
module _ (c : Collector) (f : List ℕ) (g : Good c) where
  pub offered_taken : accepted f ≡ true → offered c f ≡ taken_in c (piece_of f)
  offered_taken e = sym (offer_taken c f g.order (accepted_none f e))

  pub offered_refused : accepted f ≡ false → offered c f ≡ record { answer = first (refusals f); collector = c }
  offered_refused e = sym (offer_heading c f g.order (refused_some f e))

pub all_good : (fs : List (List ℕ)) (c : Collector) → Good c → Good (offer_all c fs)
unfolding offer_all
all_good [] c g = g
all_good (f ∷ fs) c g = all_good fs (offered c f).collector (offer_good c f g)

pub all_taken : (fs : List (List ℕ)) (c : Collector) → Good c → offer_all c fs ≡ take_all c (pieces fs)
unfolding offer_all take_all pieces
all_taken [] c g = refl
all_taken (f ∷ fs) c g =
    all_taken fs (offered c f).collector (offer_good c f g)
    ∙ by_test (accepted f)
    (λ e.
    ap (λ (o : Offered). take_all o.collector (pieces fs)) (offered_taken c f g e)
    ∙ sym (ap (take_all c) (if_yes (piece_of f ∷ pieces fs) (pieces fs) e)))
    (λ e.
    ap (λ (o : Offered). take_all o.collector (pieces fs)) (offered_refused c f g e)
    ∙ sym (ap (take_all c) (if_no (piece_of f ∷ pieces fs) (pieces fs) e)))

-- offers of one list, then of another
pub offer_on : (xs ys : List (List ℕ)) (c : Collector) → offer_all c (xs ++ ys) ≡ offer_all (offer_all c xs) ys
unfolding offer_all
offer_on [] ys c = refl
offer_on (x ∷ xs) ys c = offer_on xs ys (offered c x).collector

-- ---- the pieces are those of the accepted frames
pub pieces_yes : (f : List ℕ) (fs : List (List ℕ)) → accepted f ≡ true → pieces (f ∷ fs) ≡ piece_of f ∷ pieces fs
unfolding pieces
pieces_yes f fs e = if_yes _ _ e

pub pieces_no : (f : List ℕ) (fs : List (List ℕ)) → accepted f ≡ false → pieces (f ∷ fs) ≡ pieces fs
unfolding pieces
pieces_no f fs e = if_no _ _ e

pub pieces_append : (fs gs : List (List ℕ)) → pieces (fs ++ gs) ≡ pieces fs ++ pieces gs
unfolding pieces
pieces_append [] gs = refl
pieces_append (f ∷ fs) gs =
    by_test (accepted f)
    (λ e. pieces_yes f (fs ++ gs) e ∙ ap (λ (l : List Piece). piece_of f ∷ l) (pieces_append fs gs) ∙ ap (λ (l : List Piece). l ++ pieces gs) (sym (pieces_yes f fs e)))
    (λ e. pieces_no f (fs ++ gs) e ∙ pieces_append fs gs ∙ ap (λ (l : List Piece). l ++ pieces gs) (sym (pieces_no f fs e)))

-- a frame of the list, its heading accepted, that says x
abbrev pub From : List (List ℕ) → Piece → Type 0
From fs x = (f : List ℕ) × Memᴰ f fs × (accepted f ≡ true) × (piece_of f ≡ x)

pub pieces_of : (x : Piece) (fs : List (List ℕ)) → Memᴰ x (pieces fs) → From fs x
unfolding pieces
pieces_of x [] i = absurd (Memᴰ.not-nil i)
pieces_of x (f ∷ fs) i =
    by_test (accepted f)
    (λ e.
    ⊎_elim (λ (q : x ≡ piece_of f). (f, Memᴰ.head refl, e, sym q)) (λ k. later (pieces_of x fs k))
    (Memᴰ.cases_cons (subst (Memᴰ x) (pieces_yes f fs e) i)))
    (λ e. later (pieces_of x fs (subst (Memᴰ x) (pieces_no f fs e) i)))
  where
    later : From fs x → From (f ∷ fs) x
    later r = (r.0, Memᴰ.tail r.1, r.2, r.3)

pub of_pieces : (fs : List (List ℕ)) (f : List ℕ) → Memᴰ f fs → accepted f ≡ true → Memᴰ (piece_of f) (pieces fs)
unfolding pieces
of_pieces [] f i e = absurd (Memᴰ.not-nil i)
of_pieces (g ∷ fs) f i e =
    ⊎_elim
    (λ (q : f ≡ g). subst (λ (l : List Piece). Memᴰ (piece_of f) l) (sym (pieces_yes g fs (ap accepted (sym q) ∙ e))) (Memᴰ.head (ap piece_of q)))
    (λ (j : Memᴰ f fs). later (of_pieces fs f j e))
    (Memᴰ.cases_cons i)
  where
    later : Memᴰ (piece_of f) (pieces fs) → Memᴰ (piece_of f) (pieces (g ∷ fs))
    later k =
        by_test (accepted g)
        (λ a. subst (λ (l : List Piece). Memᴰ (piece_of f) l) (sym (pieces_yes g fs a)) (Memᴰ.tail k))
        (λ a. subst (λ (l : List Piece). Memᴰ (piece_of f) l) (sym (pieces_no g fs a)) k)

-- ---- frames that do not contradict are clear of each other
and_false_left : (a b : Bool) → (a && b) ≡ false → a ≡ true → b ≡ false
and_false_left true b e t = e
and_false_left false b e t = absurd (false≢true t)

pub clear_is : (x y : Piece) → contradict x y ≡ false → Clear x y
unfolding contradict
clear_is x y e =
    record {
      total = λ p. ap (λ (k : ℕ). record { 0 = k }) (eqb-true _ _ (not-false _ (apart p).0));
      bytes = λ p.
          let pr = and_left (of_pair y.heading.level y.heading.version x) (eqb x.heading.number.0 y.heading.number.0) p in
          let n = and_right (of_pair y.heading.level y.heading.version x) (eqb x.heading.number.0 y.heading.number.0) p in
          let b = not-false _ (and_false_left (eqb x.heading.number.0 y.heading.number.0) (not (same_bytes x y)) (apart pr).1 n) in
          four_same b;
    }
  where
    apart : of_pair y.heading.level y.heading.version x ≡ true
        → (not (eqb x.heading.total.0 y.heading.total.0) ≡ false)
        × ((eqb x.heading.number.0 y.heading.number.0 && not (same_bytes x y)) ≡ false)
    apart p = or_both _ _ (and_false_left (of_pair y.heading.level y.heading.version x) _ e p)

    four_same : same_bytes x y ≡ true → four x ≡ four y
    four_same s =
        let s₁ = and_right (eqb x.a y.a) _ s in
        let s₂ = and_right (eqb x.b y.b) _ s₁ in
        let ea : x.a ≡ y.a = eqb-true _ _ (and_left (eqb x.a y.a) _ s) in
        let eb : x.b ≡ y.b = eqb-true _ _ (and_left (eqb x.b y.b) _ s₁) in
        let ec : x.c ≡ y.c = eqb-true _ _ (and_left (eqb x.c y.c) (eqb x.d y.d) s₂) in
        let ed : x.d ≡ y.d = eqb-true _ _ (and_right (eqb x.c y.c) (eqb x.d y.d) s₂) in
        rw (ea, eb, ec, ed)

pub feed : (qs : List Pair) (fs : List (List ℕ)) → Bounded qs fs → Feed qs (pieces fs)
feed qs fs r =
    record {
      few = r.few;
      fits = λ x i. let w = pieces_of x fs i in subst (λ (z : Piece). Bounds z.heading) w.3 (bounds w.0 (accepted_none w.0 w.2));
      listed = λ x i.
          let w = pieces_of x fs i in
          subst (λ (z : Piece). pair_among z.heading.level z.heading.version qs ≡ true) w.3 (r.listed w.0 w.1 w.2);
      clear = λ x y i j.
          let w = pieces_of x fs i in
          let u = pieces_of y fs j in
          subst (λ (z : Piece). Clear z y) w.3
          (subst (λ (z : Piece). Clear (piece_of w.0) z) u.3
          (clear_is (piece_of w.0) (piece_of u.0) (r.clear w.0 u.0 w.1 u.1 w.2 u.2)));
    }

-- ---- a rearrangement has the same members
pub moved : {fs gs : List (List ℕ)} → Rearranged fs gs → (f : List ℕ) → Memᴰ f fs → Memᴰ f gs
moved none_left f i = i
moved (one_kept r) f i = ⊎_elim (λ e. Memᴰ.head e) (λ j. Memᴰ.tail (moved r f j)) (Memᴰ.cases_cons i)
moved two_swapped f i =
    ⊎_elim (λ e. Memᴰ.tail (Memᴰ.head e))
    (λ j. ⊎_elim (λ e. Memᴰ.head e) (λ k. Memᴰ.tail (Memᴰ.tail k)) (Memᴰ.cases_cons j))
    (Memᴰ.cases_cons i)
moved (and_then r s) f i = moved s f (moved r f i)

pub back : {fs gs : List (List ℕ)} → Rearranged fs gs → Rearranged gs fs
back none_left = none_left
back (one_kept r) = one_kept (back r)
back two_swapped = two_swapped
back (and_then r s) = and_then (back s) (back r)

-- the bounds hold of any list with no other frames
pub bounded_among : (qs : List Pair) (fs gs : List (List ℕ)) → Bounded qs fs → ((f : List ℕ) → Memᴰ f gs → Memᴰ f fs) → Bounded qs gs
bounded_among qs fs gs r from =
    record {
      few = r.few;
      listed = λ f i e. r.listed f (from f i) e;
      clear = λ f g i j a b. r.clear f g (from f i) (from g j) a b;
    }
