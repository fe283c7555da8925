-- All stories: the place of one, the order of their waiting, a part kept. Assumes nothing.
use mathlib.Core.Path.{◌≡◌, refl, sym, ap, ap₂, ◌∙◌}
use mathlib.Core.List.{List}
use mathlib.Core.Bool.{true, false, not, ◌&&◌}
use Prim.Native.Nat.{ℕ, ◌+◌, ◌≤◌, ◌<◌}
use native.Mathlib.Decide.{dec_lt}
use native.Mathlib.Omega.{arith}
use lib.ListN.{length, get_or, get_or-eq_default}
use lib.Seq.{sets}
use lib.Dec.{leb}
use borrow.Author.Tests.{le-leb}
use Rattle.laws.specs.Scan.{all}
use Rattle.laws.proofs.Cases.{if_yes, if_no, and_no, and_left}
use Rattle.laws.proofs.Elements.{by_test, all_at, all_set, index_holds}
use Rattle.stories.specs.declared.Part.{Part}
use Rattle.stories.specs.declared.Tale.{Tale}
use Rattle.stories.specs.declared.Stories.{Stories}
use Rattle.stories.specs.Tales.{zeros, untold, blank, is_story, fair, contradicts, holds_text, is_whole, whole_text, with_text, opened}
use Rattle.stories.specs.Stories.{index_of_story, tale_of, moved_last, leaves, after, kept, repeated}
use Rattle.stories.specs.Steps.{Steady, found_for, unshown_with, shown_with, kept_shown, kept_output}
use Rattle.stories.proofs.Texts.{fair_free, held_steady, open_free}

-- ---- the place of a story
module _ (x : Part) (ps : List Tale) where
  held_at : index_of_story x ps < length ps → (tale_of x ps).held ≡ true
  unfolding is_story
  held_at h = and_left (tale_of x ps).held _ (index_holds (is_story x) ps blank (index_of_story x ps) refl h)

  none_at : length ps ≤ index_of_story x ps → (tale_of x ps).held ≡ false
  none_at h = ap (λ (p : Tale). p.held) (get_or-eq_default ps blank h)

  pub found_held : (i : ℕ) → i ≡ index_of_story x ps → i < length ps → (i ≡ leaves ps x) × (get_or ps i blank ≡ found_for x ps)
  found_held i e h =
      let w = held_at (omega (arith, e)) in
      (e ∙ sym (if_yes (index_of_story x ps) 0 w), ap (λ (j : ℕ). get_or ps j blank) e ∙ sym (if_yes (tale_of x ps) untold w))

  pub found_none : (p : Tale) → p ≡ untold → length ps ≤ index_of_story x ps → (0 ≡ leaves ps x) × (p ≡ found_for x ps)
  found_none p e h =
      let w = none_at h in
      (sym (if_no (index_of_story x ps) 0 w), e ∙ sym (if_no (tale_of x ps) untold w))

  pub leaves_below : length ps ≡ 4 → leaves ps x < 4
  leaves_below n =
      elim (dec_lt (index_of_story x ps) (length ps)) [
        | yes h ↦ omega (arith, if_yes (index_of_story x ps) 0 (held_at h))
        | no h ↦ omega (arith, if_no (index_of_story x ps) 0 (none_at (omega arith)))
      ]

  at_any : (i : ℕ) → all fair ps ≡ true → fair (get_or ps i blank) ≡ true
  at_any i e =
      elim (dec_lt i (length ps)) [
        | yes h ↦ all_at fair ps i blank e h
        | no h ↦ ap fair (get_or-eq_default ps blank (omega arith)) ∙ fair_free blank refl
      ]

  pub found_fair : all fair ps ≡ true → fair (found_for x ps) ≡ true
  found_fair e =
      by_test (tale_of x ps).held
      (λ h. ap fair (if_yes (tale_of x ps) untold h) ∙ at_any (index_of_story x ps) e)
      (λ h. ap fair (if_no (tale_of x ps) untold h) ∙ fair_free untold refl)

-- ---- a steady place stays one
module _ (p : Tale) (x : Part) (t : List ℕ) where
  pub steady_opened : fair p ≡ true → x.total ≤ 9 → Steady (opened p x t)
  unfolding opened zeros
  steady_opened e h =
      by_test (p.held && not (contradicts p x.place t))
      (λ w. rw w (held_steady p e (and_left p.held _ w)))
      (λ w. rw w record { few = h; short = refl })

pub steady_with : (p : Tale) (k : ℕ) (t : List ℕ) → Steady p → length t ≤ 149 → Steady (with_text p k t)
steady_with p k t w h = record { few = w.few; short = all_set (λ (n : ℕ). leb n 153) p.lengths k (4 + length t) w.short (le-leb (4 + length t) 153 (omega arith)) }

-- ---- a part is kept
module _ (s : Stories) (x : Part) (t : List ℕ) (f : Tale) (e : f ≡ found_for x s.tales) where
  pub repeat_is : (f.held && holds_text f x.place t) ≡ repeated s.tales x t
  unfolding repeated
  repeat_is =
      by_test (tale_of x s.tales).held
      (λ h. ap (λ (p : Tale). p.held && holds_text p x.place t) (e ∙ if_yes (tale_of x s.tales) untold h))
      (λ h. ap (λ (p : Tale). p.held && holds_text p x.place t) (e ∙ if_no (tale_of x s.tales) untold h) ∙ sym (and_no _ h))

  opened_is : opened f x t ≡ opened (tale_of x s.tales) x t
  opened_is =
      by_test (tale_of x s.tales).held
      (λ h. ap (λ (p : Tale). opened p x t) (e ∙ if_yes (tale_of x s.tales) untold h))
      (λ h. let w = e ∙ if_no (tale_of x s.tales) untold h in sym (open_free f x t (ap (λ (p : Tale). p.held) w)) ∙ open_free (tale_of x s.tales) x t h)

  pub after_is : (o q : Tale) → o ≡ opened f x t → q ≡ with_text o x.place t → q ≡ after s.tales x t
  unfolding after
  after_is o q eo eq = eq ∙ ap (λ (p : Tale). with_text p x.place t) (eo ∙ opened_is)

  pub after_steady : all fair s.tales ≡ true → x.total ≤ 9 → length t ≤ 149 → (o q : Tale) → o ≡ opened f x t → q ≡ with_text o x.place t → Steady q
  after_steady g few brief o q eo eq =
      rw (eq, eo, e) (steady_with (opened (found_for x s.tales) x t) x.place t (steady_opened (found_for x s.tales) x t (found_fair x s.tales g) few) brief)

pub kept_is : (s d : Stories) (x : Part) (t : List ℕ) (j : ℕ) (q : Tale) → d ≡ record { tales = moved_last s.tales j q } → j ≡ leaves s.tales x → q ≡ after s.tales x t → d ≡ record { tales = kept s.tales x t }
unfolding kept
kept_is s d x t j q e f g = e ∙ ap₂ (λ (i : ℕ) (p : Tale). record { tales = moved_last s.tales i p }) f g

module _ (s : Stories) (x : Part) (t out : List ℕ) where
  pub kept_5 : repeated s.tales x t ≡ true → (unshown_with 5 s ≡ kept_shown s x t) × (out ≡ kept_output s x t out)
  unfolding kept_shown kept_output
  kept_5 e = (sym (if_yes _ _ e), sym (if_yes _ _ e))

  pub kept_4 : repeated s.tales x t ≡ false → is_whole (after s.tales x t) ≡ false → (unshown_with 4 (record { tales = kept s.tales x t }) ≡ kept_shown s x t) × (out ≡ kept_output s x t out)
  unfolding kept_shown kept_output
  kept_4 e f = (sym (if_no _ _ e ∙ if_no _ _ f), sym (if_no _ _ e ∙ if_no _ _ f))

  pub kept_1 : repeated s.tales x t ≡ false → is_whole (after s.tales x t) ≡ true → (shown_with x (length (whole_text (after s.tales x t))) (record { tales = kept s.tales x t }) ≡ kept_shown s x t) × (sets out 0 (whole_text (after s.tales x t)) ≡ kept_output s x t out)
  unfolding kept_shown kept_output
  kept_1 e f = (sym (if_no _ _ e ∙ if_yes _ _ f), sym (if_no _ _ e ∙ if_yes _ _ f))
