-- What a collector holds once a frame is kept, or was held already: what it held, and the frame. Assumes nothing.
use mathlib.Core.Path.{◌≡◌, refl, sym, ap, ap₂, ◌∙◌}
use mathlib.Core.Option.{Option, none, some}
use mathlib.Core.Bool.{Bool, true, false, cond, ◌&&◌, and-false}
use Prim.Native.Nat.{ℕ, ◌≤◌, ◌<◌}
use lib.ListN.{length, get_or, set}
use lib.Dec.{eqb}
use borrow.Author.Tests.{not-true, eqb-true, eqb-false, eq-eqb}
use Rattle.laws.proofs.Cases.{if_yes, if_no, and_yes, and_no, and_left, and_right}
use Rattle.laws.proofs.Elements.{by_test, index_holds}
use Rattle.frame.specs.declared.Total.{Total}
use Rattle.frame.specs.declared.Number.{Number}
use Rattle.collector.specs.declared.Place.{Place}
use Rattle.collector.specs.declared.Collector.{Collector}
use Rattle.collector.specs.declared.Piece.{Piece}
use Rattle.collector.specs.Places.{blank, is_pair, shaped, stored, taken_for}
use Rattle.collector.proofs.Marks.{taken_shaped, mark_none}
use Rattle.collector.specs.Collector.{is_free, index_of_pair, its_place, put}
use Rattle.order.specs.Held.{Four, four_at, held_place, holds_in, total_in, holds, total_held}
use Rattle.order.specs.Given.{four, of_pair, of_number, Afresh}
use Rattle.order.proofs.Outcome.{at_pair, at_free}
use Rattle.order.proofs.HeldPlace.{held_place_found, held_place_missing, held_place_hit, held_place_new, held_place_miss, four_other, four_own}

-- ---- one piece more
-- what a collector holds after a piece: what it held, and the piece
pub record Stepped (c : Collector) (x : Piece) (c' : Collector) : Type 0 where
  pub held : (l v : ℕ) (m : Number) → holds c' l v m ≡ cond (of_number l v m x) (some (four x)) (holds c l v m)
  pub total : (l v : ℕ) → total_held c' l v ≡ cond (of_pair l v x) (some x.heading.total) (total_held c l v)

module _ (c : Collector) (x : Piece) (i : ℕ) (q : Place)
    (hit : held_place x.heading.level x.heading.version (set c.places i q) ≡ some q)
    (miss : (l v : ℕ) → of_pair l v x ≡ false → held_place l v (set c.places i q) ≡ held_place l v c.places)
    (same : q.total ≡ x.heading.total)
    (fours : (m : Number) → four_at q m ≡ cond (eqb x.heading.number.0 m.0) (some (four x)) (holds c x.heading.level x.heading.version m)) where
  put_held : (l v : ℕ) (m : Number) → holds (put c i q) l v m ≡ cond (of_number l v m x) (some (four x)) (holds c l v m)
  unfolding holds
  put_held l v m =
      by_test (of_pair l v x)
      (λ e.
      let el : x.heading.level ≡ l = eqb-true _ _ (and_left (eqb x.heading.level l) (eqb x.heading.version v) e) in
      let ev : x.heading.version ≡ v = eqb-true _ _ (and_right (eqb x.heading.level l) (eqb x.heading.version v) e) in
      ap₂ (λ (a b : ℕ). holds (put c i q) a b m) (sym el) (sym ev)
      ∙ ap (λ (o : Option Place). holds_in o m) hit
      ∙ fours m
      ∙ ap (cond (eqb x.heading.number.0 m.0) (some (four x))) (ap₂ (λ (a b : ℕ). holds c a b m) el ev)
      ∙ ap (λ (t : Bool). cond t (some (four x)) (holds c l v m)) (sym (and_yes (eqb x.heading.number.0 m.0) e)))
      (λ e.
      ap (λ (o : Option Place). holds_in o m) (miss l v e)
      ∙ sym (if_no (some (four x)) (holds c l v m) (and_no (eqb x.heading.number.0 m.0) e)))

  put_total : (l v : ℕ) → total_held (put c i q) l v ≡ cond (of_pair l v x) (some x.heading.total) (total_held c l v)
  unfolding total_held
  put_total l v =
      by_test (of_pair l v x)
      (λ e.
      let el : x.heading.level ≡ l = eqb-true _ _ (and_left (eqb x.heading.level l) (eqb x.heading.version v) e) in
      let ev : x.heading.version ≡ v = eqb-true _ _ (and_right (eqb x.heading.level l) (eqb x.heading.version v) e) in
      ap₂ (λ (a b : ℕ). total_held (put c i q) a b) (sym el) (sym ev)
      ∙ ap total_in hit
      ∙ ap some same
      ∙ sym (if_yes (some x.heading.total) (total_held c l v) e))
      (λ e. ap total_in (miss l v e) ∙ sym (if_no (some x.heading.total) (total_held c l v) e))

  put_stepped : Stepped c x (put c i q)
  put_stepped = record { held = put_held; total = put_total }

-- ---- the pair is held
-- a place of the piece's pair is of another pair just where the piece is
pub pair_alike : (p : Place) (x : Piece) → is_pair x.heading.level x.heading.version p ≡ true → (l v : ℕ) → of_pair l v x ≡ false → is_pair l v p ≡ false
pair_alike p x e l v n =
    let r = and_right p.held (eqb p.level x.heading.level && eqb p.version x.heading.version) e in
    let el = eqb-true _ _ (and_left (eqb p.level x.heading.level) (eqb p.version x.heading.version) r) in
    let ev = eqb-true _ _ (and_right (eqb p.level x.heading.level) (eqb p.version x.heading.version) r) in
    ap₂ (λ (a b : ℕ). p.held && (eqb a l && eqb b v)) el ev
    ∙ ap (λ (t : Bool). p.held && t) n
    ∙ and-false p.held

pub stored_pair : (p : Place) (x : Piece) (l v : ℕ) → is_pair l v (stored p x) ≡ is_pair l v p
unfolding stored
stored_pair p x l v = refl

pub stored_total : (p : Place) (x : Piece) → (stored p x).total ≡ p.total
unfolding stored
stored_total p x = refl

-- what a place holds after the store, number by number
pub stored_fours : (p : Place) (x : Piece) (h : Number → Option Four) → shaped p ≡ true → x.heading.number.0 < 63
    → ((m : Number) → (m.0 ≡ x.heading.number.0 → ⊥) → four_at p m ≡ h m) → (m : Number) → four_at (stored p x) m ≡ cond (eqb x.heading.number.0 m.0) (some (four x)) (h m)
stored_fours p x h a b w m =
    by_test (eqb x.heading.number.0 m.0)
    (λ e.
    ap (λ (k : ℕ). four_at (stored p x) (record { 0 = k })) (sym (eqb-true _ _ e)) ∙ four_own p x a b ∙ sym (if_yes (some (four x)) (h m) e))
    (λ e.
    let ne : m.0 ≡ x.heading.number.0 → ⊥ = λ (k : m.0 ≡ x.heading.number.0). eqb-false _ _ e (sym k) in
    four_other p x m ne ∙ w m ne ∙ sym (if_no (some (four x)) (h m) e))

module _ (c : Collector) (x : Piece) where
  pub held_stepped : (at_pair c x) < length c.places → shaped (its_place c x) ≡ true → x.heading.number.0 < 63
      → (its_place c x).total.0 ≡ x.heading.total.0 → Stepped c x (put c (at_pair c x) (stored (its_place c x) x))
  unfolding holds index_of_pair
  held_stepped h a b t =
      let mine : is_pair x.heading.level x.heading.version (its_place c x) ≡ true = index_holds (is_pair x.heading.level x.heading.version) c.places blank (at_pair c x) refl h in
      put_stepped c x (at_pair c x) (stored (its_place c x) x)
      (held_place_hit x.heading.level x.heading.version c.places (at_pair c x) (stored (its_place c x) x) refl h (stored_pair (its_place c x) x _ _ ∙ mine))
      (λ l v n.
      let k = pair_alike (its_place c x) x mine l v n in
      held_place_miss l v c.places (at_pair c x) (stored (its_place c x) x) h k (stored_pair (its_place c x) x l v ∙ k))
      (stored_total (its_place c x) x ∙ ap (λ (k : ℕ). record { 0 = k }) t)
      (stored_fours (its_place c x) x (holds c x.heading.level x.heading.version) a b
      (λ m ne. ap (λ (o : Option Place). holds_in o m) (sym (held_place_found x.heading.level x.heading.version c.places h))))

  -- ---- the pair is not held
  pub new_pair : (l v : ℕ) → is_pair l v (stored (taken_for x) x) ≡ of_pair l v x
  unfolding stored taken_for
  new_pair l v = refl

  pub taken_none : (m : Number) → four_at (taken_for x) m ≡ none
  unfolding four_at
  taken_none m = if_no _ _ (mark_none x m)

  pub new_total : (stored (taken_for x) x).total ≡ x.heading.total
  unfolding stored taken_for
  new_total = refl

  pub new_own : is_pair x.heading.level x.heading.version (stored (taken_for x) x) ≡ true
  new_own =
      new_pair x.heading.level x.heading.version
      ∙ and_yes (eqb x.heading.version x.heading.version) (eq-eqb x.heading.level x.heading.level refl)
      ∙ eq-eqb x.heading.version x.heading.version refl

  pub new_stepped : length c.places ≤ (at_pair c x) → (at_free c) < length c.places → x.heading.number.0 < 63 → Stepped c x (put c (at_free c) (stored (taken_for x) x))
  unfolding holds
  new_stepped none_held h n =
      let open_place : (get_or c.places (at_free c) blank).held ≡ false = not-true _ (index_holds is_free c.places blank (at_free c) refl h) in
      put_stepped c x (at_free c) (stored (taken_for x) x)
      (held_place_new x.heading.level x.heading.version c.places (at_free c) (stored (taken_for x) x) none_held h new_own)
      (λ l v k. held_place_miss l v c.places (at_free c) (stored (taken_for x) x) h (and_no _ open_place) (new_pair l v ∙ k))
      new_total
      (stored_fours (taken_for x) x (holds c x.heading.level x.heading.version) (taken_shaped x) n
      (λ m ne. taken_none m ∙ ap (λ (o : Option Place). holds_in o m) (sym (held_place_missing x.heading.level x.heading.version c.places none_held))))

  -- ---- the pair is held, and its place is taken afresh
  pub begun_afresh : at_pair c x < length c.places → x.heading.number.0 < 63 → Afresh c x (put c (at_pair c x) (stored (taken_for x) x))
  unfolding holds total_held index_of_pair
  begun_afresh h n =
      let q = stored (taken_for x) x in
      let d = put c (at_pair c x) q in
      let mine : is_pair x.heading.level x.heading.version (its_place c x) ≡ true = index_holds (is_pair x.heading.level x.heading.version) c.places blank (at_pair c x) refl h in
      let hit = held_place_hit x.heading.level x.heading.version c.places (at_pair c x) q refl h new_own in
      let miss : (l v : ℕ) → of_pair l v x ≡ false → held_place l v d.places ≡ held_place l v c.places =
      λ l v k. held_place_miss l v c.places (at_pair c x) q h (pair_alike (its_place c x) x mine l v k) (new_pair l v ∙ k) in
      record {
        bytes = λ l v m.
            by_test (of_pair l v x)
            (λ e.
            let el : x.heading.level ≡ l = eqb-true _ _ (and_left (eqb x.heading.level l) (eqb x.heading.version v) e) in
            let ev : x.heading.version ≡ v = eqb-true _ _ (and_right (eqb x.heading.level l) (eqb x.heading.version v) e) in
            ap₂ (λ (a b : ℕ). holds d a b m) (sym el) (sym ev)
            ∙ ap (λ (o : Option Place). holds_in o m) hit
            ∙ stored_fours (taken_for x) x (λ k. none) (taken_shaped x) n (λ k ne. taken_none k) m
            ∙ sym (if_yes _ (holds c l v m) e))
            (λ e. ap (λ (o : Option Place). holds_in o m) (miss l v e) ∙ sym (if_no _ (holds c l v m) e));
        total = λ l v.
            by_test (of_pair l v x)
            (λ e.
            let el : x.heading.level ≡ l = eqb-true _ _ (and_left (eqb x.heading.level l) (eqb x.heading.version v) e) in
            let ev : x.heading.version ≡ v = eqb-true _ _ (and_right (eqb x.heading.level l) (eqb x.heading.version v) e) in
            ap₂ (λ (a b : ℕ). total_held d a b) (sym el) (sym ev) ∙ ap total_in hit ∙ ap some new_total ∙ sym (if_yes _ (total_held c l v) e))
            (λ e. ap total_in (miss l v e) ∙ sym (if_no _ (total_held c l v) e));
        others = miss;
      }

-- ---- what was held agrees with the piece
pub record Agrees (c : Collector) (x : Piece) : Type 0 where
  pub total : (t : Total) → total_held c x.heading.level x.heading.version ≡ some t → t ≡ x.heading.total
  pub bytes : (b : Four) → holds c x.heading.level x.heading.version x.heading.number ≡ some b → b ≡ four x

-- nothing is kept of what is held already
module _ (c : Collector) (x : Piece)
    (here : holds c x.heading.level x.heading.version x.heading.number ≡ some (four x))
    (tot : total_held c x.heading.level x.heading.version ≡ some x.heading.total) where
  pub again_stepped : Stepped c x c
  again_stepped = record { held = again_held; total = again_total }
    where
      again_held : (l v : ℕ) (m : Number) → holds c l v m ≡ cond (of_number l v m x) (some (four x)) (holds c l v m)
      again_held l v m =
          by_test (of_number l v m x)
          (λ e.
          let pr = and_left (of_pair l v x) (eqb x.heading.number.0 m.0) e in
          let el : x.heading.level ≡ l = eqb-true _ _ (and_left (eqb x.heading.level l) (eqb x.heading.version v) pr) in
          let ev : x.heading.version ≡ v = eqb-true _ _ (and_right (eqb x.heading.level l) (eqb x.heading.version v) pr) in
          let en : x.heading.number.0 ≡ m.0 = eqb-true _ _ (and_right (of_pair l v x) (eqb x.heading.number.0 m.0) e) in
          ap₂ (λ (a b : ℕ). holds c a b m) (sym el) (sym ev)
          ∙ ap (λ (k : ℕ). holds c x.heading.level x.heading.version (record { 0 = k })) (sym en)
          ∙ here
          ∙ sym (if_yes (some (four x)) (holds c l v m) e))
          (λ e. sym (if_no (some (four x)) (holds c l v m) e))

      again_total : (l v : ℕ) → total_held c l v ≡ cond (of_pair l v x) (some x.heading.total) (total_held c l v)
      again_total l v =
          by_test (of_pair l v x)
          (λ pr.
          let el : x.heading.level ≡ l = eqb-true _ _ (and_left (eqb x.heading.level l) (eqb x.heading.version v) pr) in
          let ev : x.heading.version ≡ v = eqb-true _ _ (and_right (eqb x.heading.level l) (eqb x.heading.version v) pr) in
          ap₂ (total_held c) (sym el) (sym ev) ∙ tot ∙ sym (if_yes (some x.heading.total) (total_held c l v) pr))
          (λ e. sym (if_no (some x.heading.total) (total_held c l v) e))
