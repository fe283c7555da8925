-- What the frames of a packet say to a collector: each its number's four bytes, none against another. Assumes nothing.
use mathlib.Core.Path.{◌≡◌, refl, sym, ap, ap₂, ◌∙◌}
use mathlib.Core.Bool.{true, false}
use mathlib.Core.Logic.{⊎_elim}
use mathlib.Core.List.Memᴰ
use mathlib.Core.List.{List, [], ◌∷◌, ◌++◌, Memᴰ}
use mathlib.Core.Option.{none, some}
use Prim.Native.Nat.{ℕ, zero, suc, ◌+◌, ◌*◌, ◌<◌, ◌≤◌}
use native.Mathlib.Omega.{arith}
use lib.ListN.{length}
use lib.Dec.{eqb}
use borrow.Author.Tests.{eq-eqb, eqb-true, eqb-false}
use Rattle.laws.specs.Refusals.{first}
use Rattle.laws.proofs.Bits.{Under}
use Rattle.laws.proofs.Cases.{if_yes, if_no, and_no, or_no}
use Rattle.laws.proofs.Elements.{by_test}
use Rattle.frame.specs.Heading.{Headed}
use Rattle.frame.specs.declared.Heading.{Heading}
use Rattle.frame.specs.Heading.{refusals, heading_fields, heading_of, accepted}
use Rattle.frame.proofs.Back.{comes_back}
use Rattle.frame.proofs.Accepted.{answer_is, fields_are}
use Rattle.air.specs.OnAir.{frames_for, total_for, carried, frame_of, heading_for, frames_from, frames_of}
use Rattle.collector.specs.declared.Piece.{Piece}
use Rattle.collector.specs.Collector.{piece_with, piece_of}
use Rattle.order.specs.Given.{pieces, four, of_number, contradict, pair_among, Bounded, first_of, given, total_given, same, came}
use Rattle.order.proofs.Offering.{pieces_yes}
use Rattle.promises.proofs.Sent.{Taken, carried_small, eight_of, fits}

module _ (p : List ℕ) (l v : ℕ) (u : Under 256 p) (t : Taken p l v) where
  abbrev N : ℕ
  N = frames_for (length p)

  abbrev pub frame_at : ℕ → List ℕ
  frame_at k = frame_of p (heading_for l v (total_for (length p)) (record { 0 = k }))

  abbrev pub piece_at : ℕ → Piece
  piece_at k =
      record {
        heading = heading_for l v (total_for (length p)) (record { 0 = k });
        a = carried p (4 * k);
        b = carried p (4 * k + 1);
        c = carried p (4 * k + 2);
        d = carried p (4 * k + 3);
      }

  -- ---- one frame
  headed : (k : ℕ) → k < N → heading_of (frame_at k) ≡ record { answer = 0; heading = heading_for l v (total_for (length p)) (record { 0 = k }) }
  unfolding frame_of
  headed k h =
      let s = carried_small p u in
      comes_back (heading_for l v (total_for (length p)) (record { 0 = k })) (fits p l v u t k h) (carried p (4 * k)) (carried p (4 * k + 1)) (carried p (4 * k + 2)) (carried p (4 * k + 3))
      (s (4 * k)) (s (4 * k + 1)) (s (4 * k + 2)) (s (4 * k + 3)) t.level_low t.level_high h

  pub none_due : (k : ℕ) → k < N → first (refusals (frame_at k)) ≡ 0
  none_due k h = sym (answer_is (frame_at k)) ∙ ap (λ (x : Headed). x.answer) (headed k h)

  pub is_accepted : (k : ℕ) → k < N → accepted (frame_at k) ≡ true
  unfolding accepted
  is_accepted k h = ap (λ (x : Headed). eqb x.answer 0) (headed k h)

  pub piece_is : (k : ℕ) → k < N → piece_of (frame_at k) ≡ piece_at k
  piece_is k h =
      let e : heading_fields (frame_at k) ≡ heading_for l v (total_for (length p)) (record { 0 = k }) = sym (fields_are (frame_at k) (none_due k h)) ∙ ap (λ (x : Headed). x.heading) (headed k h) in
      ap (λ (x : Heading). piece_with x (frame_at k)) e ∙ ap (piece_with (heading_for l v (total_for (length p)) (record { 0 = k }))) (eight_of p (heading_for l v (total_for (length p)) (record { 0 = k })) (fits p l v u t k h))

  -- ---- several
  pub pieces_from : ℕ → ℕ → List Piece
  pieces_from k zero = []
  pieces_from k (suc n) = piece_at k ∷ pieces_from (k + 1) n

  pub pieces_are : (n k : ℕ) → k + n ≤ N → pieces (frames_from p l v (record { 0 = k }) n) ≡ pieces_from k n
  unfolding frames_from pieces_from pieces
  pieces_are zero k h = refl
  pieces_are (suc n) k h =
      pieces_yes (frame_at k) (frames_from p l v (record { 0 = k + 1 }) n) (is_accepted k (omega arith))
      ∙ ap₂ (λ (x : Piece) (xs : List Piece). x ∷ xs) (piece_is k (omega arith)) (pieces_are n (k + 1) (omega arith))

  pub pieces_on : (n k : ℕ) → pieces_from k n ++ (piece_at (k + n) ∷ []) ≡ pieces_from k (suc n)
  unfolding pieces_from
  pieces_on zero k = let e : k + 0 ≡ k = omega arith in ap (λ (j : ℕ). piece_at j ∷ []) e
  pieces_on (suc n) k =
      let e : k + suc n ≡ k + 1 + n = omega arith in
      ap (λ (xs : List Piece). piece_at k ∷ xs) (ap (λ (j : ℕ). pieces_from (k + 1) n ++ (piece_at j ∷ [])) e ∙ pieces_on n (k + 1))

  -- ---- what they give
  own : (k m : ℕ) → of_number l v (record { 0 = m }) (piece_at k) ≡ eqb k m
  own k m = let a = eq-eqb l l refl in let b = eq-eqb v v refl in rw (a, b)

  pub given_in : (n k m : ℕ) → k ≤ m → m < k + n → given (pieces_from k n) l v (record { 0 = m }) ≡ some (four (piece_at m))
  unfolding pieces_from first_of
  given_in zero k m lo hi = absurd (omega arith)
  given_in (suc n) k m lo hi =
      by_test (eqb k m)
      (λ e. if_yes _ _ (own k m ∙ e) ∙ ap (λ (i : ℕ). some (four (piece_at i))) (eqb-true _ _ e))
      (λ e. let z = eqb-false k m e in if_no _ _ (own k m ∙ e) ∙ given_in n (k + 1) m (after k m lo z) (omega arith))
    where
      after : (k m : ℕ) → k ≤ m → (k ≡ m → ⊥) → k + 1 ≤ m
      after k m lo z = omega arith

  pub given_out : (n k m : ℕ) → k + n ≤ m → given (pieces_from k n) l v (record { 0 = m }) ≡ none
  unfolding pieces_from first_of
  given_out zero k m h = refl
  given_out (suc n) k m h =
      by_test (eqb k m)
      (λ e. let z : k ≡ m = eqb-true k m e in absurd (omega arith))
      (λ e. if_no _ _ (own k m ∙ e) ∙ given_out n (k + 1) m (omega arith))

  pub total_in_lem : (n k : ℕ) → 1 ≤ n → total_given (pieces_from k n) l v ≡ some (record { 0 = N })
  unfolding pieces_from first_of
  total_in_lem zero k h = absurd (omega arith)
  total_in_lem (suc n) k h = let a = eq-eqb l l refl in let b = eq-eqb v v refl in rw (a, b)

  pub not_come : (n k m : ℕ) → k + n ≤ m → came (pieces_from k n) (piece_at m) ≡ false
  unfolding pieces_from came same
  not_come zero k m h = refl
  not_come (suc n) k m h =
      by_test (eqb k m)
      (λ e. let z : k ≡ m = eqb-true k m e in absurd (omega arith))
      (λ e. or_no _ (and_no _ (own k m ∙ e)) ∙ not_come n (k + 1) m (omega arith))

  -- ---- within the bounds of demand 3: one pair, and no two contradict
  agree : (i j : ℕ) → contradict (piece_at i) (piece_at j) ≡ false
  unfolding contradict
  agree i j =
      let a = eq-eqb l l refl in
      let b = eq-eqb v v refl in
      let n = eq-eqb N N refl in
      by_test (eqb i j)
      (λ e.
      let z : i ≡ j = eqb-true i j e in
      let w = eq-eqb (carried p (4 * j)) _ refl in
      let x = eq-eqb (carried p (4 * j + 1)) _ refl in
      let y = eq-eqb (carried p (4 * j + 2)) _ refl in
      let q = eq-eqb (carried p (4 * j + 3)) _ refl in
      let s = eq-eqb j j refl in
      rw (z, a, b, n, s, w, x, y, q))
      (λ e. rw (a, b, n, e))

  pub one_of : (n k : ℕ) → k + n ≤ N → (f : List ℕ) → Memᴰ f (frames_from p l v (record { 0 = k }) n) → (j : ℕ) × (j < N) × (f ≡ frame_at j)
  unfolding frames_from
  one_of zero k h f m = absurd (Memᴰ.not-nil m)
  one_of (suc n) k h f m = ⊎_elim (λ (e : f ≡ frame_at k). (k, omega arith, e)) (λ r. one_of n (k + 1) (omega arith) f r) (Memᴰ.cases_cons m)

  pub bounded : Bounded ((l, v) ∷ []) (frames_of p l v)
  unfolding frames_of pair_among
  bounded =
      record {
        few = omega arith;
        listed =
            λ f m e.
            let w = one_of N 0 (omega arith) f m in
            let a = eq-eqb l l refl in
            let b = eq-eqb v v refl in
            ap (λ (g : List ℕ). pair_among (piece_of g).heading.level (piece_of g).heading.version ((l, v) ∷ [])) w.2
            ∙ ap (λ (x : Piece). pair_among x.heading.level x.heading.version ((l, v) ∷ [])) (piece_is w.0 w.1)
            ∙ rw (a, b);
        clear =
            λ f g m n e₁ e₂.
            let w = one_of N 0 (omega arith) f m in
            let x = one_of N 0 (omega arith) g n in
            ap₂ (λ (i j : List ℕ). contradict (piece_of i) (piece_of j)) w.2 x.2
            ∙ ap₂ (λ (i j : Piece). contradict i j) (piece_is w.0 w.1) (piece_is x.0 x.1)
            ∙ agree w.0 x.0;
      }
