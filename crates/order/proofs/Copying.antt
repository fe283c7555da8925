-- What copy gives depends on the holdings alone. Assumes nothing.
use mathlib.Core.Path.{◌≡◌, refl, sym, ap, ap₂, subst, ◌∙◌}
use mathlib.Core.List.{List, [], ◌∷◌, ◌++◌}
use mathlib.Core.Option.{Option, none, some}
use mathlib.Core.Bool.{Bool, true, cond, not, ◌&&◌}
use Prim.Native.Nat.{ℕ, ◌≤◌}
use lib.ListN.{length, get_or, take, drop}
use lib.Dec.{ltb, eqb}
use borrow.Author.Tests.{ltb-true, ltb-false}
use Rattle.laws.specs.Scan.{index_of}
use Rattle.laws.specs.Refusals.{first}
use Rattle.laws.proofs.Cases.{and_yes, and_no, and_left}
use Rattle.laws.proofs.Elements.{by_test, all_at, index_holds}
use Rattle.laws.proofs.Refusals.{stop}
use Rattle.frame.specs.declared.Total.{Total}
use Rattle.frame.specs.declared.Number.{Number}
use Rattle.collector.specs.declared.Place.{Place}
use Rattle.collector.specs.declared.Collector.{Collector}
use Rattle.size.specs.Size.{packet_size}
use Rattle.collector.specs.Whole.{passes}
use Rattle.collector.specs.Places.{blank, is_pair, shaped, complete, joined, whole, copy_cases, copy_answer, copy_bytes, Copied}
use Rattle.collector.specs.Collector.{index_of_pair, place_of, answered, copied}
use Rattle.collector.proofs.Calls.{copy_none, copy_held}
use Rattle.collector.proofs.AllPlaces.{good_at, total_small, is_not_held}
use Rattle.order.specs.Held.{Good, four_at, held_place, holds_in, total_in, holds, total_held}
use Rattle.order.specs.Given.{full, joined_by}
use Rattle.order.proofs.HeldPlace.{held_place_found, held_place_missing}
use Rattle.order.proofs.Declaring.{full_alike, joined_alike, complete_full, joined_full}
use Rattle.order.proofs.Running.{some_inj, none_some}

-- a place that a good record holds
pub record Sound (p : Place) : Type 0 where
  pub held : p.held ≡ true
  pub shape : shaped p ≡ true
  pub total : p.total.0 ≤ 63

-- ---- two places with the same holdings
module _ (p q : Place) (sp : Sound p) (sq : Sound q) (et : p.total ≡ q.total) (ef : (n : Number) → four_at p n ≡ four_at q n) where
  same_complete : complete p ≡ complete q
  same_complete =
      complete_full p sp.shape sp.total
      ∙ full_alike p.total (four_at p) (four_at q) ef
      ∙ ap (λ (t : Total). full t (four_at q)) et
      ∙ sym (complete_full q sq.shape sq.total)

  same_joined : complete p ≡ true → joined p ≡ joined q
  same_joined e =
      joined_full p sp.shape sp.total e
      ∙ joined_alike p.total.0 (four_at p) (four_at q) ef
      ∙ ap (λ (t : Total). joined_by t (four_at q)) et
      ∙ sym (joined_full q sq.shape sq.total (sym same_complete ∙ e))

  same_whole : whole p ≡ whole q
  unfolding whole
  same_whole =
      by_test (complete p)
      (λ e. ap₂ (λ (b : Bool) (l : List ℕ). b && passes l) same_complete (same_joined e))
      (λ e. and_no _ e ∙ sym (and_no _ (sym same_complete ∙ e)))

  pub same_copy : (out : List ℕ)
      → (copy_answer (first (copy_cases p (length out))) p ≡ copy_answer (first (copy_cases q (length out))) q)
      × (copy_bytes (first (copy_cases p (length out))) p out ≡ copy_bytes (first (copy_cases q (length out))) q out)
  unfolding copy_cases copy_answer copy_bytes whole
  same_copy out =
      by_test (whole p)
      (λ w.
      let j = same_joined (and_left (complete p) (passes (joined p)) w) in
      let h : (p.held && whole p) ≡ (q.held && whole q) = ap₂ ◌&&◌ (sp.held ∙ sym sq.held) same_whole in (
        ap₂ (λ (b : Bool) (l : List ℕ). copy_answer_of b l) h j,
        ap₂ (λ (b : Bool) (l : List ℕ). copy_bytes_of b l) h j,
      ))
      (λ w.
      let a : first (copy_cases p (length out)) ≡ 18 = stop 18 _ (ap not (and_yes _ sp.held ∙ w)) in
      let b : first (copy_cases q (length out)) ≡ 18 = stop 18 _ (ap not (and_yes _ sq.held ∙ sym same_whole ∙ w)) in (
        rw (a, b),
        rw (a, b),
      ))
    where
      copy_answer_of : Bool → List ℕ → Copied
      copy_answer_of b l =
          let a = first ((not b, 18) ∷ (ltb (length out) (packet_size l), 10) ∷ []) in
          record { answer = a; length = cond (eqb a 0) (packet_size l) 0 }

      copy_bytes_of : Bool → List ℕ → List ℕ
      copy_bytes_of b l =
          let a = first ((not b, 18) ∷ (ltb (length out) (packet_size l), 10) ∷ []) in
          cond (eqb a 0) (take (packet_size l) l ++ drop (packet_size l) out) out

-- ---- copy, by the place of the pair
abbrev answer_of : Option Place → ℕ → Copied
answer_of none n = record { answer = 18; length = 0 }
answer_of (some p) n = copy_answer (first (copy_cases p n)) p

abbrev copied_of : Option Place → List ℕ → List ℕ
copied_of none out = out
copied_of (some p) out = copy_bytes (first (copy_cases p (length out))) p out

module _ (c : Collector) (g : Good c) (l v : ℕ) where
  abbrev at : ℕ
  at = index_of (is_pair l v) c.places

  by_place : (out : List ℕ) → (answered c l v (length out) ≡ answer_of (held_place l v c.places) (length out)) × (copied c l v out ≡ copied_of (held_place l v c.places) out)
  unfolding index_of_pair
  by_place out =
      by_test (ltb at (length c.places))
      (λ t.
      let w = held_place_found l v c.places (ltb-true _ _ t) in
      let k = copy_held c l v out g.order (place_of l v c.places) refl in (
        sym k.0 ∙ sym (ap (λ (o : Option Place). answer_of o (length out)) w),
        sym k.1 ∙ sym (ap (λ (o : Option Place). copied_of o out) w),
      ))
      (λ t.
      let h = ltb-false _ _ t in
      let w = held_place_missing l v c.places h in
      let k = copy_none c l v out g.order (is_not_held c.places l v h) in (
        sym k.0 ∙ sym (ap (λ (o : Option Place). answer_of o (length out)) w),
        sym k.1 ∙ sym (ap (λ (o : Option Place). copied_of o out) w),
      ))

  pub place_sound : (p : Place) → held_place l v c.places ≡ some p → Sound p
  place_sound p e =
      by_test (ltb at (length c.places))
      (λ t.
      let h = ltb-true _ _ t in
      let q : get_or c.places at blank ≡ p = some_inj (sym (held_place_found l v c.places h) ∙ e) in
      let held : (get_or c.places at blank).held ≡ true = and_left (get_or c.places at blank).held _ (index_holds (is_pair l v) c.places blank at refl h) in
      subst Sound q
      (record {
        held = held;
        shape = all_at shaped c.places at blank g.shape h;
        total = total_small (get_or c.places at blank) (good_at c.places at blank h g.order) held;
      }))
      (λ t. absurd (none_some (sym (held_place_missing l v c.places (ltb-false _ _ t)) ∙ e)))

pub same_copies : (c d : Collector) → Good c → Good d → (l v : ℕ) → ((n : Number) → holds c l v n ≡ holds d l v n) → total_held c l v ≡ total_held d l v
    → (out : List ℕ) → (answered c l v (length out) ≡ answered d l v (length out)) × (copied c l v out ≡ copied d l v out)
unfolding holds total_held
same_copies c d gc gd l v eh et out =
    let pc = by_place c gc l v out in
    let pd = by_place d gd l v out in
    let w = alike (held_place l v c.places) (held_place l v d.places) (place_sound c gc l v) (place_sound d gd l v) et eh in
    (pc.0 ∙ w.0 ∙ sym pd.0, pc.1 ∙ w.1 ∙ sym pd.1)
  where
    alike : (o u : Option Place) → ((p : Place) → o ≡ some p → Sound p) → ((p : Place) → u ≡ some p → Sound p) → total_in o ≡ total_in u → ((n : Number) → holds_in o n ≡ holds_in u n)
        → (answer_of o (length out) ≡ answer_of u (length out)) × (copied_of o out ≡ copied_of u out)
    alike none none so su t f = (refl, refl)
    alike none (some q) so su t f = absurd (none_some t)
    alike (some p) none so su t f = absurd (none_some (sym t))
    alike (some p) (some q) so su t f = same_copy p q (so p refl) (su q refl) (some_inj t) f out
