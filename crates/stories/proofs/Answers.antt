-- What taking a packet in answers, case by case. Assumes nothing.
use mathlib.Core.Path.{◌≡◌, refl, sym, ap, ◌∙◌}
use mathlib.Core.List.{List}
use mathlib.Core.Bool.{true, false, not, ◌&&◌}
use Prim.Native.Nat.{ℕ, ◌≤◌, ◌<◌}
use native.Mathlib.Omega.{arith}
use lib.ListN.{length, drop, length-drop}
use lib.Seq.{sets}
use lib.Dec.{eqb}
use borrow.Author.Tests.{lt-ltb, le-ltb}
use Rattle.laws.specs.Scan.{all}
use Rattle.laws.proofs.Cases.{and_yes, and_no}
use Rattle.laws.proofs.Refusals.{stop, pass}
use Rattle.laws.proofs.Elements.{by_test}
use Rattle.packet.specs.Reading.{body_of}
use Rattle.story.specs.Joining.{is_part}
use Rattle.stories.specs.declared.Part.{Part}
use Rattle.stories.specs.declared.Stories.{Stories}
use Rattle.stories.specs.declared.Shown.{Shown}
use Rattle.stories.specs.Tales.{fair, is_whole, whole_text}
use Rattle.stories.specs.Parts.{belongs, part_of, text_of}
use Rattle.stories.specs.Stories.{after, kept, repeated, take_answer, shown_text, taken_by, taken_in, taken_output}
use Rattle.stories.specs.Steps.{Keepable, unshown_with, shown_with, kept_shown, kept_output}
use Rattle.stories.proofs.Heads.{known, body_brief}
use Rattle.stories.proofs.Keeping.{kept_5, kept_4, kept_1}

module _ (s : Stories) (b out : List ℕ) where
  -- what is given back and left in the output
  abbrev pub Gives : Shown → List ℕ → Type 0
  Gives r o = (r ≡ taken_in s b (length out)) × (o ≡ taken_output s b out)

  -- ---- nothing is shown, nothing kept
  none_shown : (a : ℕ) → eqb a 1 ≡ false → eqb a 4 ≡ false → take_answer s b (length out) ≡ a → Gives (unshown_with a s) out
  unfolding taken_in taken_by taken_output
  none_shown a e f g = (rw (g, e, f), rw (g, e))

  pub taken_28 : all fair s.tales ≡ false → Gives (unshown_with 28 s) out
  unfolding take_answer
  taken_28 e = none_shown 28 refl refl (stop 28 _ (ap not e))

  -- the records are right, and there is room
  module _ (e : all fair s.tales ≡ true) where
    pub taken_10 : length out < 1341 → Gives (unshown_with 10 s) out
    unfolding take_answer
    taken_10 h = none_shown 10 refl refl (pass 28 _ (ap not e) ∙ stop 10 _ (lt-ltb (length out) 1341 h))

    module _ (h : 1341 ≤ length out) where
      pub taken_6 : is_part b ≡ false → Gives (unshown_with 6 s) out
      unfolding take_answer
      taken_6 p = none_shown 6 refl refl (pass 28 _ (ap not e) ∙ pass 10 _ (le-ltb (length out) 1341 h) ∙ stop 6 _ (ap not p))

      -- a text that is one
      module _ (p : is_part b ≡ true) where
        answer_5 : belongs b ≡ true → repeated s.tales (part_of b) (text_of b) ≡ true → take_answer s b (length out) ≡ 5
        unfolding take_answer
        answer_5 t r = pass 28 _ (ap not e) ∙ pass 10 _ (le-ltb (length out) 1341 h) ∙ pass 6 _ (ap not p) ∙ stop 5 _ (and_yes _ t ∙ r)

        answer_4 : belongs b ≡ true → repeated s.tales (part_of b) (text_of b) ≡ false → is_whole (after s.tales (part_of b) (text_of b)) ≡ false → take_answer s b (length out) ≡ 4
        unfolding take_answer
        answer_4 t r w =
            pass 28 _ (ap not e) ∙ pass 10 _ (le-ltb (length out) 1341 h) ∙ pass 6 _ (ap not p) ∙ pass 5 _ (and_yes _ t ∙ r) ∙ stop 4 _ (and_yes _ t ∙ ap not w)

        answer_1 : (belongs b && repeated s.tales (part_of b) (text_of b)) ≡ false → (belongs b && not (is_whole (after s.tales (part_of b) (text_of b)))) ≡ false → take_answer s b (length out) ≡ 1
        unfolding take_answer
        answer_1 r w = pass 28 _ (ap not e) ∙ pass 10 _ (le-ltb (length out) 1341 h) ∙ pass 6 _ (ap not p) ∙ pass 5 _ r ∙ pass 4 _ w ∙ stop 1 _ refl

        -- no part of a story: it is shown as it is
        pub taken_alone : belongs b ≡ false → Gives (shown_with (part_of b) (length (body_of b)) s) (sets out 0 (body_of b))
        unfolding taken_in taken_by taken_output shown_text
        taken_alone t = let g = answer_1 (and_no _ t) (and_no _ t) in (rw (g, t), rw (g, t))

        -- a part of one
        module _ (t : belongs b ≡ true) where
          by_4 : take_answer s b (length out) ≡ 4 → Gives (unshown_with 4 (record { tales = kept s.tales (part_of b) (text_of b) })) out
          unfolding taken_in taken_by taken_output
          by_4 g = (rw (g, t), rw g)

          by_1 : take_answer s b (length out) ≡ 1 → Gives (shown_with (part_of b) (length (whole_text (after s.tales (part_of b) (text_of b)))) (record { tales = kept s.tales (part_of b) (text_of b) })) (sets out 0 (whole_text (after s.tales (part_of b) (text_of b))))
          unfolding taken_in taken_by taken_output shown_text
          by_1 g = (rw (g, t), rw (g, t))

          pub taken_part : Gives (kept_shown s (part_of b) (text_of b)) (kept_output s (part_of b) (text_of b) out)
          taken_part =
              by_test (repeated s.tales (part_of b) (text_of b))
              (λ r. given (kept_5 s (part_of b) (text_of b) out r) (none_shown 5 refl refl (answer_5 t r)))
              (λ r.
              by_test (is_whole (after s.tales (part_of b) (text_of b)))
              (λ w. given (kept_1 s (part_of b) (text_of b) out r w) (by_1 (answer_1 (and_yes _ t ∙ r) (and_yes _ t ∙ ap not w))))
              (λ w. given (kept_4 s (part_of b) (text_of b) out r w) (by_4 (answer_4 t r w))))
            where
              given : {r₁ r₂ : Shown} {o₁ o₂ : List ℕ} → (r₁ ≡ r₂) × (o₁ ≡ o₂) → Gives r₁ o₁ → Gives r₂ o₂
              given q g = (sym q.0 ∙ g.0, sym q.1 ∙ g.1)

-- a part as it was read can be kept
pub keepable : (s : Stories) (b u t : List ℕ) (x : Part) (room : ℕ) → all fair s.tales ≡ true → is_part b ≡ true → belongs b ≡ true → x ≡ part_of b → u ≡ body_of b → t ≡ drop 4 u → 1341 ≤ room → Keepable s.tales x t room
keepable s b u t x room f p h ex eu et w =
    let k = known b h in
    let z : length t ≤ 149 = omega (arith, ap length (et ∙ ap (drop 4) eu), length-drop 4 (body_of b), body_brief b p) in
    rw ex record { every = f; place_small = k.place_small; total_some = k.total_some; total_few = k.total_few; brief = z; wide = w }
