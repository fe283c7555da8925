-- Offer, release and copy: a law for each way out of the code, and that no number stands for two cases. Assumes nothing.
use mathlib.Core.Path.{◌≡◌, refl, sym, ap, ap₂, ◌∙◌}
use mathlib.Core.Logic.{◌↔◌}
use mathlib.Core.List.{List, [], ◌∷◌}
use mathlib.Core.Bool.{Bool, true, false, cond, not}
use Prim.Native.Nat.{ℕ}
use native.Mathlib.Omega.{arith}
use lib.ListN.{length}
use lib.Dec.{eqb}
use borrow.Author.Tests.{eq-eqb, ne_eqb, not-true}
use Rattle.laws.specs.Refusals.{Case, first, none, among, apart}
use Rattle.laws.proofs.Cases.{if_yes, if_no, and_no}
use Rattle.laws.proofs.Elements.{first_append}
use Rattle.laws.proofs.Refusals.{stop, pass, none_left, exact}
use Rattle.frame.specs.Heading.{refusals}
use Rattle.frame.proofs.Accepted.{none_refused, some_refused, refused_with}
use Rattle.collector.specs.declared.Place.{Place}
use Rattle.collector.specs.declared.Collector.{Collector}
use Rattle.collector.specs.Places.{freed, copy_cases, copy_answer, copy_bytes, Copied}
use Rattle.collector.specs.Collector.{good, index_of_pair, place_of, put, piece_of, spot, after, take_cases, keeps, taken_in, offer_cases, offered, release_cases, released, copied_cases, answered, copied}

-- ---- offer
module _ (c : Collector) (f : List ℕ) where
  offer_refused : (a : ℕ) → first (offer_cases c f) ≡ a → keeps a ≡ false → record { answer = a; collector = c } ≡ offered c f
  unfolding offered
  offer_refused a e k =
      ap₂ (λ (n : ℕ) (d : Collector). record { answer = n; collector = d }) (sym e) (sym (if_no _ _ (ap keeps e ∙ k)))

  pub offer_28 : good c.places ≡ false → record { answer = 28; collector = c } ≡ offered c f
  unfolding offer_cases keeps
  offer_28 g = offer_refused 28 (stop 28 _ (ap not g)) refl

  module _ (g : good c.places ≡ true) where
    pub offer_due : first (offer_cases c f) ≡ cond (none (refusals f)) (first (take_cases c (piece_of f))) (first (refusals f))
    unfolding offer_cases
    offer_due = pass 28 _ (ap not g) ∙ first_append (refusals f) (take_cases c (piece_of f))

    pub offer_heading : (first (refusals f) ≡ 0 → ⊥) → record { answer = first (refusals f); collector = c } ≡ offered c f
    unfolding keeps
    offer_heading n =
        offer_refused (first (refusals f)) (offer_due ∙ if_no _ _ (some_refused f n))
        (refused_with f n (λ (k : ℕ). keeps k ≡ false) refl refl refl refl)

    pub offer_taken : first (refusals f) ≡ 0 → taken_in c (piece_of f) ≡ offered c f
    unfolding taken_in offered
    offer_taken e =
        let w : first (take_cases c (piece_of f)) ≡ first (offer_cases c f) = sym (offer_due ∙ if_yes _ _ (none_refused f e)) in
        ap (λ (n : ℕ). record { answer = n; collector = cond (keeps n) (put c (spot c (piece_of f)) (after c (piece_of f))) c }) w

-- ---- release
module _ (c : Collector) (l v : ℕ) where
  release_refused : (a : ℕ) → first (release_cases c l v) ≡ a → (a ≡ 0 → ⊥) → record { answer = a; collector = c } ≡ released c l v
  unfolding released
  release_refused a e n =
      ap₂ (λ (k : ℕ) (d : Collector). record { answer = k; collector = d }) (sym e)
      (sym (if_no _ _ (ne_eqb _ _ (λ (z : first (release_cases c l v) ≡ 0). n (sym e ∙ z)))))

  pub release_28 : good c.places ≡ false → record { answer = 28; collector = c } ≡ released c l v
  unfolding release_cases
  release_28 g = release_refused 28 (stop 28 _ (ap not g)) (λ (z : 28 ≡ 0). omega arith)

  module _ (g : good c.places ≡ true) where
    pub release_18 : (place_of l v c.places).held ≡ false → record { answer = 18; collector = c } ≡ released c l v
    unfolding release_cases
    release_18 h = release_refused 18 (pass 28 _ (ap not g) ∙ stop 18 [] (ap not h)) (λ (z : 18 ≡ 0). omega arith)

    pub release_0 : (place_of l v c.places).held ≡ true
        → record { answer = 0; collector = put c (index_of_pair l v c.places) (freed (place_of l v c.places)) } ≡ released c l v
    unfolding released release_cases
    release_0 h =
        let e : first (release_cases c l v) ≡ 0 = pass 28 _ (ap not g) ∙ pass 18 [] (ap not h) ∙ none_left in
        ap₂ (λ (k : ℕ) (d : Collector). record { answer = k; collector = d }) (sym e) (sym (if_yes _ _ (eq-eqb _ _ e)))

-- ---- copy
module _ (c : Collector) (l v : ℕ) (out : List ℕ) where
  abbrev Gave : Copied → List ℕ → Type 0
  Gave r now = (r ≡ answered c l v (length out)) × (now ≡ copied c l v out)

  copy_refused : (a : ℕ) → first (copied_cases c l v (length out)) ≡ a → (a ≡ 0 → ⊥) → Gave (record { answer = a; length = 0 }) out
  unfolding answered copied copy_answer copy_bytes
  copy_refused a e n =
      let z : eqb (first (copied_cases c l v (length out))) 0 ≡ false =
      ne_eqb _ _ (λ (q : first (copied_cases c l v (length out)) ≡ 0). n (sym e ∙ q)) in
      (ap₂ (λ (k m : ℕ). record { answer = k; length = m }) (sym e) (sym (if_no _ _ z)), sym (if_no _ _ z))

  pub copy_28 : good c.places ≡ false → Gave (record { answer = 28; length = 0 }) out
  unfolding copied_cases
  copy_28 g = copy_refused 28 (stop 28 _ (ap not g)) (λ (z : 28 ≡ 0). omega arith)

  module _ (g : good c.places ≡ true) where
    pub copy_none : (place_of l v c.places).held ≡ false → Gave (record { answer = 18; length = 0 }) out
    unfolding copied_cases copy_cases
    copy_none h = copy_refused 18 (pass 28 _ (ap not g) ∙ stop 18 _ (ap not (and_no _ h))) (λ (z : 18 ≡ 0). omega arith)

    pub copy_held : (p : Place) → p ≡ place_of l v c.places
        → Gave (copy_answer (first (copy_cases p (length out))) p) (copy_bytes (first (copy_cases p (length out))) p out)
    unfolding answered copied copied_cases
    copy_held p e =
        let q = place_of l v c.places in
        let w : first (copy_cases q (length out)) ≡ first (copied_cases c l v (length out)) = sym (pass 28 _ (ap not g)) in (
          ap (λ (r : Place). copy_answer (first (copy_cases r (length out))) r) e ∙ ap (λ (n : ℕ). copy_answer n q) w,
          ap (λ (r : Place). copy_bytes (first (copy_cases r (length out))) r out) e ∙ ap (λ (n : ℕ). copy_bytes n q out) w,
        )

-- ---- no number stands for two cases, and none is 0: so the law `exact` holds of each list
pub offer_apart : (c : Collector) (f : List ℕ) → apart (offer_cases c f) ≡ true
unfolding offer_cases refusals take_cases apart among
offer_apart c f = refl

pub release_apart : (c : Collector) (l v : ℕ) → apart (release_cases c l v) ≡ true
unfolding release_cases apart among
release_apart c l v = refl

pub copy_apart : (c : Collector) (l v n : ℕ) → apart (copied_cases c l v n) ≡ true
unfolding copied_cases copy_cases apart among
copy_apart c l v n = refl

-- where 28 is asked first, it comes exactly of what is not good
pub bad_first : (g : Bool) (cs : List Case) → apart ((not g, 28) ∷ cs) ≡ true → (first ((not g, 28) ∷ cs) ≡ 28) ↔ (g ≡ false)
unfolding none
bad_first g cs a = let w = exact ((not g, 28) ∷ cs) a 0 (omega arith) in (λ e. not-true g (w.0 e).0, λ e. w.1 (ap not e, refl))
