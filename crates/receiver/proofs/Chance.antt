-- No frame is lost to a chance match: each that is handed out is the earliest, and whatever else passes overlaps one that began before it. Assumes nothing.
use mathlib.Core.Path.{◌≡◌, refl, sym, ap, ap₂, ◌∙◌, subst}
use mathlib.Core.Logic.{inl, inr}
use mathlib.Core.Bool.{Bool, true, false, true≢false}
use mathlib.Core.List.{List, [], ◌∷◌}
use Prim.Native.Nat.{ℕ, ◌+◌, ◌-◌, ◌≤◌, ◌<◌}
use native.Mathlib.Omega.{arith}
use native.Mathlib.Decide.{dec_lt}
use borrow.Author.Tests.{eq-eqb, ne_eqb}
use lib.ListN.{length, drop, length-drop}
use lib.Seq.{drop-drop}
use Rattle.laws.specs.Bits.{bits_of, bits}
use Rattle.receiver.specs.Rule.{Heard, is_frame, is_taken, taken_bytes, taken_count, heard}
use Rattle.receiver.specs.Receive.{fresh_receiver, hearing}
use Rattle.receiver.specs.Calls.{Call, all_frames, all_counts, delivered, in_bounds}
use Rattle.receiver.specs.Standing.{follows_at, Earliest, Places, Kept}
use Rattle.receiver.proofs.Rule.{over}
use Rattle.receiver.proofs.Starts.{frame_taken}
use Rattle.receiver.proofs.Cutting.{cutting_any, takes_all}

-- the start itself, and one behind it
at_start : (t : Bool) (from : ℕ) → follows_at t from from ≡ t
at_start true from = eq-eqb from from refl
at_start false from = refl

past_start : (t : Bool) (from k : ℕ) → from < k → follows_at t from k ≡ false
past_start true from k h = ne_eqb k from (λ e. omega arith)
past_start false from k h = refl

-- a place with no frame before them
none_before : (l : List ℕ) (t : Bool) (from k : ℕ) → from ≤ k → is_taken t (drop from l) ≡ false → (from < k → is_taken false (drop k l) ≡ false) → is_taken (follows_at t from k) (drop k l) ≡ false
none_before l t from k h v e =
    elim (dec_lt from k) [
      | yes b ↦ ap (λ (x : Bool). is_taken x (drop k l)) (past_start t from k b) ∙ e b
      | no b ↦ let s : from ≡ k = omega arith in subst (λ (i : ℕ). is_taken (follows_at t from i) (drop i l) ≡ false) s (ap (λ (x : Bool). is_taken x (drop from l)) (at_start t from) ∙ v)
    ]

from_before : (l : List ℕ) (t : Bool) (from : ℕ) (ps : List ℕ) (fs : List (List ℕ)) (ks : List ℕ) → is_taken t (drop from l) ≡ false → Earliest l false (from + 1) ps fs ks → Earliest l t from ps fs ks
from_before l t from [] [] [] v e = λ k h j. none_before l t from k h v (λ b. e k (omega arith) j)
from_before l t from [] [] (c ∷ ks) v e = e
from_before l t from [] (f ∷ fs) ks v e = e
from_before l t from (p ∷ ps) [] ks v e = e
from_before l t from (p ∷ ps) (f ∷ fs) [] v e = e
from_before l t from (p ∷ ps) (f ∷ fs) (c ∷ ks) v e =
    let q = past_start t from p (omega (arith, e.later)) in
    record {
      later = omega (arith, e.later);
      room = e.room;
      none = λ k h j. none_before l t from k h v (λ b. e.none k (omega arith) j);
      frame = ap (λ (x : Bool). is_taken x (drop p l)) q ∙ e.frame;
      info = e.info ∙ ap (λ (x : Bool). taken_bytes x (drop p l)) (sym q);
      count = e.count ∙ ap (λ (x : Bool). taken_count x (drop p l)) (sym q);
      rest = e.rest;
    }

module _ (l : List ℕ) where
  abbrev Found : Bool → List ℕ → Heard → Type 0
  Found t m h = (from : ℕ) → from ≤ length l → drop from l ≡ m → Places l t from h.frames h.counts

  found : (t : Bool) (m : List ℕ) → Found t m (heard t m)
  found =
      over Found
      (λ t m k from i e. record { places = []; earliest = λ j a b. absurd (omega (arith, length-drop from l, ap length e)) })
      (λ t m h k v ih from i e.
      let long : length l - from ≡ length m = sym (length-drop from l) ∙ ap length e in
      let r = ih (from + 104) (omega arith) (sym (drop-drop 104 from l) ∙ ap (drop 104) e) in
      let q = at_start t from in
      record {
        places = from ∷ r.places;
        earliest = record {
          later = omega arith;
          room = omega arith;
          none = λ j a b. absurd (omega arith);
          frame = ap₂ is_taken q e ∙ v;
          info = ap₂ taken_bytes (sym q) (sym e);
          count = ap₂ taken_count (sym q) (sym e);
          rest = r.earliest;
        };
      })
      (λ t m h k v ih from i e.
      let long : length l - from ≡ length m = sym (length-drop from l) ∙ ap length e in
      let r = ih (from + 1) (omega arith) (sym (drop-drop 1 from l) ∙ ap (drop 1) e) in
      record { places = r.places; earliest = from_before l t from r.places h.frames h.counts (ap (is_taken t) e ∙ v) r.earliest })

  -- The frames that the rule hands out stand in the bits, each at the earliest place from where the one before it ended, and behind the last there is none.
  pub earliest : Places l false 0 (heard false l).frames (heard false l).counts
  earliest = found false l 0 (omega arith) refl

  -- four blocks that pass are taken at any start
  not_taken : (t : Bool) (k : ℕ) → is_frame (drop k l) ≡ true → is_taken t (drop k l) ≡ false → ⊥
  not_taken t k v e = true≢false (sym (frame_taken (drop k l) v t) ∙ e)

  kept : (t : Bool) (ps : List ℕ) (fs : List (List ℕ)) (ks : List ℕ) (from k : ℕ) → Earliest l t from ps fs ks → from ≤ k → k + 104 ≤ length l → is_frame (drop k l) ≡ true → Kept k ps
  kept t [] [] [] from k e h j v = absurd (not_taken (follows_at t from k) k v (e k h j))
  kept t [] [] (c ∷ ks) from k e h j v = absurd e
  kept t [] (f ∷ fs) ks from k e h j v = absurd e
  kept t (p ∷ ps) [] ks from k e h j v = absurd e
  kept t (p ∷ ps) (f ∷ fs) [] from k e h j v = absurd e
  kept t (p ∷ ps) (f ∷ fs) (c ∷ ks) from k e h j v =
      elim (dec_lt k p) [
        | yes b ↦ absurd (not_taken (follows_at t from k) k v (e.none k h b))
        | no b ↦ elim (dec_lt p k) [
          | yes c ↦ elim (dec_lt k (p + 104)) [
            | yes d ↦ inl (inr (c, d))
            | no d ↦ inr (kept true ps fs ks (p + 104) k e.rest (omega arith) j v)
          ]
          | no c ↦ inl (inl (omega arith))
        ]
      ]

  -- Every 104 bits whose four blocks pass are handed out, or overlap a frame that is handed out and began before them. Nothing else can hide a frame.
  pub nothing_lost : (k : ℕ) → k + 104 ≤ length l → is_frame (drop k l) ≡ true → Kept k earliest.places
  nothing_lost k h v = kept false earliest.places (heard false l).frames (heard false l).counts 0 k earliest.earliest (omega arith) h v

-- The same of a fresh receiver and all that it was given, however it was cut: its frames stand at some places of the bits delivered, earliest first,
-- and whatever passes elsewhere overlaps one that began before.
pub nothing_lost_to_chance : (c : Call) (cs : List Call) → in_bounds (c ∷ cs) ≡ true
    → (ps : List ℕ)
    × Earliest (bits (delivered (c ∷ cs))) false 0 ps (all_frames fresh_receiver (c ∷ cs)) (all_counts fresh_receiver (c ∷ cs))
    × ((k : ℕ) → k + 104 ≤ length (bits (delivered (c ∷ cs))) → is_frame (drop k (bits (delivered (c ∷ cs)))) ≡ true → Kept k ps)
unfolding hearing bits_of
nothing_lost_to_chance c cs b =
    let l = bits (delivered (c ∷ cs)) in
    let all = cutting_any fresh_receiver c cs (takes_all fresh_receiver (c ∷ cs) (omega arith) b) in
    let ps = (earliest l).places in
    (ps, subst (λ (ks : List ℕ). Earliest l false 0 ps (all_frames fresh_receiver (c ∷ cs)) ks) (sym all.1) (subst (λ (fs : List (List ℕ)). Earliest l false 0 ps fs (hearing fresh_receiver (delivered (c ∷ cs))).counts) (sym all.0) (earliest l).earliest), nothing_lost l)
