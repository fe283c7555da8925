-- One more part, within the bounds: its answer, the text that is shown, and what is kept then. Assumes nothing.
use mathlib.Core.Path.{◌≡◌, refl, sym, ap, ap₂, subst, ◌∙◌}
use mathlib.Core.List.{List, [], ◌∷◌, ◌++◌}
use mathlib.Core.Bool.{Bool, true, false, not, ◌&&◌}
use mathlib.Core.Option.{Option, none, some}
use Prim.Native.Nat.{ℕ, zero, suc, ◌+◌, ◌≤◌, ◌<◌}
use native.Mathlib.Omega.{arith}
use lib.Dec.{eqb}
use borrow.Author.Tests.{eqb-true, le-ltb}
use Rattle.laws.specs.Below.{below}
use Rattle.laws.specs.Refusals.{first}
use Rattle.laws.proofs.Below.{at_each}
use Rattle.laws.proofs.Cases.{if_yes, if_no, and_yes, and_both, or_yes, or_no}
use Rattle.laws.proofs.Elements.{by_test}
use Rattle.laws.proofs.Refusals.{pass, stop}
use Rattle.story.specs.Joining.{is_part}
use Rattle.laws.specs.Lists.{same}
use Rattle.laws.proofs.Lists.{same_self}
use Rattle.stories.specs.declared.Part.{Part}
use Rattle.stories.specs.declared.Tale.{Tale}
use Rattle.stories.specs.declared.Stories.{Stories}
use Rattle.stories.specs.Parts.{belongs, part_of, text_of}
use Rattle.stories.specs.Tales.{is_story, is_heard, text_at, holds_text, is_whole, texts_from, with_text}
use Rattle.stories.specs.Stories.{tale_of, moved_last, after, kept, repeated, take_answer, shown_text}
use Rattle.order.specs.Given.{is_some}
use Rattle.pier.specs.Given.{same_story, is_place, came, story_count, given, full, text_in, texts_given, due_cases, due}
use Rattle.pier.proofs.Lists.{find, find_is}
use Rattle.pier.proofs.Keys.{given_same, came_same, Right}
use Rattle.pier.proofs.Keeping.{all_fair, held_text, Kept, Base, text_next, kept_next}

pub below_same : (n : ℕ) (f g : ℕ → Bool) → ((k : ℕ) → k < n → f k ≡ g k) → below n f ≡ below n g
unfolding below
below_same zero f g e = refl
below_same (suc n) f g e = ap₂ ◌&&◌ (e n (omega arith)) (below_same n f g (λ k h. e k (omega arith)))

-- what a place holds, by its two tests
held_some : (p : Tale) (k : ℕ) → p.held ≡ true → is_some (held_text p k) ≡ is_heard p k
unfolding held_text
held_some p k h =
    by_test (is_heard p k)
    (λ t. ap is_some (if_yes _ _ (and_yes _ h ∙ t)) ∙ sym t)
    (λ t. ap is_some (if_no _ _ (and_yes _ h ∙ t)) ∙ sym t)

pub held_is : (p : Tale) (k : ℕ) → p.held ≡ true → is_heard p k ≡ true → held_text p k ≡ some (text_at p k)
unfolding held_text
held_is p k h t = if_yes _ _ (and_yes _ h ∙ t)

-- the texts of all parts, where each is there
texts_same : (p : Tale) (g : ℕ → Option (List ℕ)) (m k : ℕ) → p.held ≡ true → ((i : ℕ) → i < k + m → is_heard p i ≡ true) → ((i : ℕ) → i < k + m → held_text p i ≡ g i)
    → texts_from p k m ≡ texts_given g k m
unfolding texts_from texts_given
texts_same p g zero k h t e = refl
texts_same p g (suc m) k h t e =
    let a : some (text_at p k) ≡ g k = sym (held_is p k h (t k (omega arith))) ∙ e k (omega arith) in
    ap₂ (λ (u v : List ℕ). u ++ v) (ap text_in a) (texts_same p g m (k + 1) h (λ i l. t i (omega arith)) (λ i l. e i (omega arith)))

-- ---- a packet that is a part of a story
module _ (bs : List (List ℕ)) (s : Stories) (w : Kept bs s.tales) (b : List ℕ) (room : ℕ) (r : Right b) (part : is_part b ≡ true) (bel : belongs b ≡ true)
    (most : story_count (b ∷ bs) ≤ 4) (wide : 1341 ≤ room) where
  abbrev p : Tale
  p = find (is_story (part_of b)) s.tales

  at_p : tale_of (part_of b) s.tales ≡ p
  at_p = find_is (is_story (part_of b)) s.tales

  -- the answer, once it is known whether the part was heard
  answer_repeat : repeated s.tales (part_of b) (text_of b) ≡ true → take_answer s b room ≡ 5
  unfolding take_answer
  answer_repeat e =
      pass 28 _ (ap not (all_fair w.shaped)) ∙ pass 10 _ (le-ltb room 1341 wide) ∙ pass 6 _ (ap not part) ∙ stop 5 _ (and_yes _ bel ∙ e)

  answer_new : repeated s.tales (part_of b) (text_of b) ≡ false
      → take_answer s b room ≡ first ((not (is_whole (after s.tales (part_of b) (text_of b))), 4) ∷ (true, 1) ∷ [])
  unfolding take_answer
  answer_new e =
      pass 28 _ (ap not (all_fair w.shaped))
      ∙ pass 10 _ (le-ltb room 1341 wide)
      ∙ pass 6 _ (ap not part)
      ∙ pass 5 _ (and_yes _ bel ∙ e)
      ∙ ap (λ (t : Bool). first ((t, 4) ∷ (true, 1) ∷ [])) (and_yes _ bel)

  -- ---- it was heard before, with the same text
  module _ (h : p.held ≡ true) (t : is_heard p (part_of b).place ≡ true) (clear : text_at p (part_of b).place ≡ text_of b) where
    repeat : repeated s.tales (part_of b) (text_of b) ≡ true
    unfolding repeated holds_text
    repeat =
        ap (λ (q : Tale). q.held && (is_heard q (part_of b).place && same (text_at q (part_of b).place) (text_of b))) at_p
        ∙ and_yes _ h
        ∙ and_yes _ t
        ∙ ap (λ (l : List ℕ). same l (text_of b)) clear
        ∙ same_self (text_of b)

    given_there : given bs (part_of b) (part_of b).place ≡ some (text_of b)
    given_there = sym (w.texts (part_of b) (part_of b).place r.few) ∙ held_is p (part_of b).place h t ∙ ap some clear

    pub repeat_due : (take_answer s b room ≡ 5) × (due bs b ≡ 5)
    unfolding due due_cases
    repeat_due = (answer_repeat repeat, stop 5 _ (ap is_some given_there))

    given_more : (y : Part) (i : ℕ) → given (b ∷ bs) y i ≡ given bs y i
    unfolding given
    given_more y i =
        by_test (is_place y i b)
        (λ u.
        let v = and_both (same_story (part_of b) y) (eqb (part_of b).place i) u in
        if_yes _ _ u
        ∙ sym given_there
        ∙ ap (given bs (part_of b)) (eqb-true (part_of b).place i v.1)
        ∙ sym (given_same (part_of b) y v.0 bs i))
        (λ u. if_no _ _ u)

    came_more : (y : Part) → came y (b ∷ bs) ≡ came y bs
    unfolding came
    came_more y =
        by_test (same_story (part_of b) y)
        (λ u. or_yes _ u ∙ sym (came_same (part_of b) y u bs ∙ sym (w.told (part_of b)) ∙ h))
        (λ u. or_no _ u)

    pub repeat_next : Kept (b ∷ bs) s.tales
    unfolding story_count
    repeat_next =
        record {
          four = w.four;
          shaped = w.shaped;
          once = w.once;
          many = w.many ∙ sym (if_yes _ _ (sym (w.told (part_of b)) ∙ h));
          line = w.line;
          told = λ y. w.told y ∙ sym (came_more y);
          texts = λ y i l. w.texts y i l ∙ sym (given_more y i);
        }

  -- ---- it was not
  module _ (base : Tale) (j : ℕ) (e : Base bs s.tales w b r base j) (new : given bs (part_of b) (part_of b).place ≡ none)
      (fresh : repeated s.tales (part_of b) (text_of b) ≡ false) (is : after s.tales (part_of b) (text_of b) ≡ with_text base (part_of b).place (text_of b)) where
    abbrev q : Tale
    q = with_text base (part_of b).place (text_of b)

    whole_same : is_whole (after s.tales (part_of b) (text_of b)) ≡ full (part_of b) (given (b ∷ bs) (part_of b))
    unfolding is_whole full
    whole_same =
        ap (λ (z : Tale). below z.total (is_heard z)) is
        ∙ ap (λ (n : ℕ). below n (is_heard q)) e.total
        ∙ below_same (part_of b).total (is_heard q) (λ k. is_some (given (b ∷ bs) (part_of b) k))
        (λ k l. sym (held_some q k e.held) ∙ ap is_some (text_next bs s.tales w b r base j e k (omega (arith, r.high))))

    pub new_due : take_answer s b room ≡ due bs b
    unfolding due due_cases
    new_due = answer_new fresh ∙ ap (λ (t : Bool). first ((not t, 4) ∷ (true, 1) ∷ [])) whole_same ∙ sym (pass 5 _ (ap is_some new))

    one_full : due bs b ≡ 1 → full (part_of b) (given (b ∷ bs) (part_of b)) ≡ true
    unfolding due due_cases
    one_full d =
        by_test (full (part_of b) (given (b ∷ bs) (part_of b)))
        (λ t. t)
        (λ t. let z : 4 ≡ 1 = sym (pass 5 _ (ap is_some new) ∙ stop 4 _ (ap not t)) ∙ d in absurd (omega arith))

    pub new_text : due bs b ≡ 1 → shown_text s b ≡ texts_given (given (b ∷ bs) (part_of b)) 0 (part_of b).total
    unfolding shown_text full
    new_text d =
        let f = one_full d in
        let h : (i : ℕ) → i < 0 + (part_of b).total → held_text q i ≡ given (b ∷ bs) (part_of b) i = λ i l. text_next bs s.tales w b r base j e i (omega (arith, r.high)) in
        let t : (i : ℕ) → i < 0 + (part_of b).total → is_heard q i ≡ true =
        λ i l. sym (held_some q i e.held) ∙ ap is_some (h i l) ∙ at_each (part_of b).total (λ k. is_some (given (b ∷ bs) (part_of b) k)) f i (omega arith) in
        if_yes _ _ bel
        ∙ ap (λ (z : Tale). texts_from z 0 z.total) is
        ∙ ap (texts_from q 0) e.total
        ∙ texts_same q (given (b ∷ bs) (part_of b)) (part_of b).total 0 e.held t h

    pub new_next : kept s.tales (part_of b) (text_of b) ≡ moved_last s.tales j q → Kept (b ∷ bs) (kept s.tales (part_of b) (text_of b))
    new_next z = subst (Kept (b ∷ bs)) (sym z) (kept_next bs s.tales w b r base j e)
