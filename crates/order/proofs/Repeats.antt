-- A frame is answered 2 exactly when the very same eight bytes came before. Assumes nothing.
use mathlib.Core.Path.{◌≡◌, refl, sym, ap, subst, ◌∙◌}
use mathlib.Core.List.Memᴰ
use mathlib.Core.List.{List, [], ◌∷◌, ◌++◌, Memᴰ}
use mathlib.Core.Logic.{◌↔◌, ⊎_elim}
use mathlib.Core.Bool.{Bool, true, ◌||◌, false≢true, true≢false, or-true}
use Prim.Native.Nat.{ℕ}
use native.Mathlib.Omega.{arith}
use lib.ListN.{get_or}
use lib.Dec.{eqb}
use borrow.Author.Tests.{eqb-true, eq-eqb}
use Rattle.laws.specs.Refusals.{first, among}
use Rattle.laws.proofs.Cases.{if_yes, if_no, and_yes, and_left, and_right, or_yes, or_no}
use Rattle.laws.proofs.Elements.{by_test, first_append}
use Rattle.laws.proofs.Refusals.{listed, stop, pass}
use Rattle.frame.specs.Heading.{refusals, heading_fields, accepted}
use Rattle.frame.proofs.Accepted.{none_refused, some_refused, refused_with}
use Rattle.frame.proofs.Alike.{made, remade}
use Rattle.collector.specs.declared.Piece.{Piece}
use Rattle.collector.specs.Collector.{nothing, piece_of, offered}
use Rattle.order.specs.Held.{offer_all}
use Rattle.order.specs.Given.{pieces, of_pair, of_number, same_bytes, same, came, Pair, Bounded, Bytes, declare_cases, given_with, due_cases, due}
use Rattle.order.proofs.Running.{mem_left, mem_right}
use Rattle.order.proofs.Offering.{accepted_none, refused_some, pieces_of, of_pieces}
use Rattle.order.proofs.Theorems.{answers}

-- two accepted frames of bytes that say the same are the same
module _ (f g : List ℕ) (bf : Bytes f) (bg : Bytes g) (af : accepted f ≡ true) (ag : accepted g ≡ true) where
  same_frames : same (piece_of f) (piece_of g) ≡ true → f ≡ g
  unfolding same
  same_frames s =
      let x = piece_of f in
      let y = piece_of g in
      let k = and_left (of_number y.heading.level y.heading.version y.heading.number x) _ s in
      let p = and_left (of_pair y.heading.level y.heading.version x) (eqb x.heading.number.0 y.heading.number.0) k in
      let r = and_right (of_number y.heading.level y.heading.version y.heading.number x) _ s in
      let b = and_right (eqb x.heading.total.0 y.heading.total.0) (same_bytes x y) r in
      let b₁ = and_right (eqb x.a y.a) _ b in
      let b₂ = and_right (eqb x.b y.b) _ b₁ in
      let el : (heading_fields f).level ≡ (heading_fields g).level = eqb-true _ _ (and_left (eqb x.heading.level y.heading.level) (eqb x.heading.version y.heading.version) p) in
      let ev : (heading_fields f).version ≡ (heading_fields g).version = eqb-true _ _ (and_right (eqb x.heading.level y.heading.level) (eqb x.heading.version y.heading.version) p) in
      let et : (heading_fields f).total.0 ≡ (heading_fields g).total.0 = eqb-true _ _ (and_left (eqb x.heading.total.0 y.heading.total.0) (same_bytes x y) r) in
      let en : (heading_fields f).number.0 ≡ (heading_fields g).number.0 = eqb-true _ _ (and_right (of_pair y.heading.level y.heading.version x) (eqb x.heading.number.0 y.heading.number.0) k) in
      let ea : get_or f 4 0 ≡ get_or g 4 0 = eqb-true _ _ (and_left (eqb x.a y.a) _ b) in
      let eb : get_or f 5 0 ≡ get_or g 5 0 = eqb-true _ _ (and_left (eqb x.b y.b) _ b₁) in
      let ec : get_or f 6 0 ≡ get_or g 6 0 = eqb-true _ _ (and_left (eqb x.c y.c) (eqb x.d y.d) b₂) in
      let ed : get_or f 7 0 ≡ get_or g 7 0 = eqb-true _ _ (and_right (eqb x.c y.c) (eqb x.d y.d) b₂) in
      let m : made (heading_fields f) (get_or f 4 0) (get_or f 5 0) (get_or f 6 0) (get_or f 7 0) ≡ made (heading_fields g) (get_or g 4 0) (get_or g 5 0) (get_or g 6 0) (get_or g 7 0) =
      rw (el, ev, et, en, ea, eb, ec, ed) in
      remade f bf (accepted_none f af)
      ∙ m
      ∙ sym (remade g bg (accepted_none g ag))

same_self : (x : Piece) → same x x ≡ true
unfolding same
same_self x =
    and_yes _ (and_yes _ (and_yes _ (eq-eqb x.heading.level x.heading.level refl) ∙ eq-eqb x.heading.version x.heading.version refl) ∙ eq-eqb x.heading.number.0 x.heading.number.0 refl)
    ∙ and_yes _ (eq-eqb x.heading.total.0 x.heading.total.0 refl)
    ∙ and_yes _ (eq-eqb x.a x.a refl)
    ∙ and_yes _ (eq-eqb x.b x.b refl)
    ∙ and_yes _ (eq-eqb x.c x.c refl)
    ∙ eq-eqb x.d x.d refl

came_from : (ps : List Piece) (y : Piece) → came ps y ≡ true → (x : Piece) × Memᴰ x ps × (same x y ≡ true)
unfolding came
came_from [] y e = absurd (false≢true e)
came_from (x ∷ ps) y e =
    by_test (same x y)
    (λ t. (x, Memᴰ.head refl, t))
    (λ t. let r = came_from ps y (sym (or_no _ t) ∙ e) in (r.0, Memᴰ.tail r.1, r.2))

came_in : (ps : List Piece) (y : Piece) → Memᴰ y ps → came ps y ≡ true
unfolding came
came_in [] y m = absurd (Memᴰ.not-nil m)
came_in (x ∷ ps) y m =
    ⊎_elim
    (λ (q : y ≡ x). or_yes _ (ap (λ (z : Piece). same z y) (sym q) ∙ same_self y))
    (λ k. ap (λ (b : Bool). same x y || b) (came_in ps y k) ∙ or-true (same x y))
    (Memᴰ.cases_cons m)

-- 2 is due exactly for what came before
due_two : (ps : List Piece) (y : Piece) → (first (due_cases ps y) ≡ 2) ↔ (came ps y ≡ true)
unfolding due_cases declare_cases among
due_two ps y = (
  λ e.
      by_test (came ps y) (λ t. t)
      (λ t.
      let w : first (declare_cases y.heading.total (given_with ps y)) ≡ 2 = sym (pass 2 _ t) ∙ e in
      ⊎_elim
      (λ (z : first (declare_cases y.heading.total (given_with ps y)) ≡ 0). let q : 2 ≡ 0 = sym w ∙ z in absurd (omega arith))
      (λ z. absurd (true≢false (sym (ap (λ (k : ℕ). among k (declare_cases y.heading.total (given_with ps y))) (sym w) ∙ z) ∙ refl)))
      (listed (declare_cases y.heading.total (given_with ps y)))),
  λ t. stop 2 _ t,
)

-- A frame is answered 2 exactly when its heading is accepted and the very same frame, byte for byte, came before.
pub repeats : (qs : List Pair) (before : List (List ℕ)) (f : List ℕ) (rest : List (List ℕ)) → Bounded qs (before ++ (f ∷ rest))
    → ((g : List ℕ) → Memᴰ g (before ++ (f ∷ rest)) → Bytes g)
    → ((offered (offer_all nothing before) f).answer ≡ 2) ↔ ((accepted f ≡ true) × Memᴰ f before)
unfolding due
repeats qs before f rest r bytes = (λ e. to (sym (answers qs before f rest r) ∙ e), λ w. answers qs before f rest r ∙ from w.0 w.1)
  where
    taken_due : accepted f ≡ true → due before f ≡ first (due_cases (pieces before) (piece_of f))
    taken_due a = first_append (refusals f) (due_cases (pieces before) (piece_of f)) ∙ if_yes _ _ (none_refused f (accepted_none f a))

    literal : accepted f ≡ true → came (pieces before) (piece_of f) ≡ true → Memᴰ f before
    literal a c =
        let w = came_from (pieces before) (piece_of f) c in
        let g = pieces_of w.0 before w.1 in
        subst (λ (h : List ℕ). Memᴰ h before)
        (same_frames g.0 f (bytes g.0 (mem_left g.0 before (f ∷ rest) g.1)) (bytes f (mem_right f before (f ∷ rest) (Memᴰ.head refl))) g.2 a
        (ap (λ (z : Piece). same z (piece_of f)) g.3 ∙ w.2))
        g.1

    to : due before f ≡ 2 → (accepted f ≡ true) × Memᴰ f before
    to e =
        by_test (accepted f)
        (λ a. (a, literal a ((due_two (pieces before) (piece_of f)).0 (sym (taken_due a) ∙ e))))
        (λ a.
        let n = refused_some f a in
        let w : first (refusals f) ≡ 2 = sym (first_append (refusals f) (due_cases (pieces before) (piece_of f)) ∙ if_no _ _ (some_refused f n)) ∙ e in
        absurd (refused_with f n (λ (k : ℕ). k ≡ 2 → ⊥) (λ (z : 26 ≡ 2). omega arith) (λ (z : 12 ≡ 2). omega arith) (λ (z : 13 ≡ 2). omega arith) (λ (z : 14 ≡ 2). omega arith) w))

    from : accepted f ≡ true → Memᴰ f before → due before f ≡ 2
    from a m = taken_due a ∙ (due_two (pieces before) (piece_of f)).1 (came_in (pieces before) (piece_of f) (of_pieces before f m a))
