-- Parts of at most four stories, in any order and with repeats: each story is shown once, whole, when its last missing part comes. Assumes nothing.
use mathlib.Core.Path.{◌≡◌, refl, sym, ap, ap₂, subst, ◌∙◌}
use mathlib.Core.List.{List, [], ◌∷◌, Memᴰ}
use mathlib.Core.Bool.{Bool, true, false, cond, not, ◌&&◌, ◌||◌, true≢false, false≢true}
use mathlib.Core.Option.{Option, none, some}
use Prim.Native.Nat.{ℕ, ◌+◌, ◌≤◌, ◌<◌}
use native.Mathlib.Omega.{arith}
use lib.Dec.{eqb}
use borrow.Author.Tests.{eqb-true}
use Rattle.laws.specs.Scan.{index_of}
use Rattle.laws.specs.Below.{below}
use Rattle.laws.specs.Refusals.{first}
use Rattle.laws.proofs.Below.{below_no}
use Rattle.laws.proofs.Cases.{if_yes, if_no, and_yes, and_no, and_both, or_yes, or_no}
use Rattle.laws.proofs.Elements.{by_test}
use Rattle.laws.proofs.Refusals.{pass, stop}
use Rattle.story.specs.Joining.{is_part}
use Rattle.laws.specs.Lists.{same}
use Rattle.stories.specs.declared.Part.{Part}
use Rattle.stories.specs.declared.Tale.{Tale}
use Rattle.stories.specs.declared.Stories.{Stories}
use Rattle.stories.specs.Parts.{belongs, part_of, text_of}
use Rattle.stories.specs.Tales.{is_story, is_heard, text_at, holds_text, contradicts, taken_for, with_text, opened}
use Rattle.stories.specs.Stories.{tale_of, moved_last, leaves, after, kept, repeated, take_answer, shown_text, taken_by, taken_in}
use Rattle.order.specs.Given.{is_some}
use Rattle.order.proofs.Running.{some_inj, none_some}
use Rattle.pier.specs.Given.{same_story, is_place, came, story_count, given, full, texts_given, Bounded, due_cases, due, taken_all, times_shown}
use Rattle.pier.proofs.Lists.{find, find_is}
use Rattle.pier.proofs.Keys.{total_same, given_same, Right, right}
use Rattle.pier.proofs.Keeping.{held_text, Kept, kept_none, Base, base_held, base_new}
use Rattle.pier.proofs.Step.{below_same, held_is, repeat_due, repeat_next, new_due, new_text, new_next}

-- a text that is given was given by a packet
given_from : (bs : List (List ℕ)) (x : Part) (k : ℕ) (t : List ℕ) → given bs x k ≡ some t → (c : List ℕ) × Memᴰ c bs × (is_place x k c ≡ true) × (text_of c ≡ t)
unfolding given
given_from [] x k t e = absurd (none_some e)
given_from (b ∷ bs) x k t e =
    by_test (is_place x k b)
    (λ u. (b, Memᴰ.head refl, u, some_inj (sym (if_yes _ _ u) ∙ e)))
    (λ u. let r = given_from bs x k t (sym (if_no _ _ u) ∙ e) in (r.0, Memᴰ.tail r.1, r.2, r.3))

-- ---- what a step gives
record Stepped (bs : List (List ℕ)) (s : Stories) (b : List ℕ) (room : ℕ) : Type 0 where
  answer : take_answer s b room ≡ due bs b
  text : due bs b ≡ 1 → shown_text s b ≡ texts_given (given (b ∷ bs) (part_of b)) 0 (part_of b).total
  next : Kept (b ∷ bs) (taken_in s b room).stories.tales

-- 5 changes nothing, 4 and 1 keep their part
stays : (s : Stories) (b : List ℕ) (room : ℕ) → take_answer s b room ≡ 5 → (taken_in s b room).stories.tales ≡ s.tales
unfolding taken_in taken_by
stays s b room e = ap (λ (a : ℕ). cond ((eqb a 1 || eqb a 4) && belongs b) (kept s.tales (part_of b) (text_of b)) s.tales) e

changes : (s : Stories) (b : List ℕ) (room : ℕ) (t : Bool) → belongs b ≡ true → take_answer s b room ≡ first ((not t, 4) ∷ (true, 1) ∷ []) → (taken_in s b room).stories.tales ≡ kept s.tales (part_of b) (text_of b)
unfolding taken_in taken_by first
changes s b room true bel e = ap (λ (a : ℕ). cond ((eqb a 1 || eqb a 4) && belongs b) (kept s.tales (part_of b) (text_of b)) s.tales) e ∙ if_yes _ _ bel
changes s b room false bel e = ap (λ (a : ℕ). cond ((eqb a 1 || eqb a 4) && belongs b) (kept s.tales (part_of b) (text_of b)) s.tales) e ∙ if_yes _ _ bel

module _ (bs : List (List ℕ)) (s : Stories) (w : Kept bs s.tales) (b : List ℕ) (room : ℕ) (bound : Bounded (b ∷ bs)) (wide : 1341 ≤ room) where
  abbrev p : Tale
  p = find (is_story (part_of b)) s.tales

  part : is_part b ≡ true
  part = (bound.parts b (Memᴰ.head refl)).0

  bel : belongs b ≡ true
  bel = (bound.parts b (Memᴰ.head refl)).1

  r : Right b
  r = right b part bel

  at_p : tale_of (part_of b) s.tales ≡ p
  at_p = find_is (is_story (part_of b)) s.tales

  -- a text that is held for the part is its own
  clear_own : p.held ≡ true → is_heard p (part_of b).place ≡ true → text_at p (part_of b).place ≡ text_of b
  clear_own h t =
      let g = given_from bs (part_of b) (part_of b).place (text_at p (part_of b).place) (sym (w.texts (part_of b) (part_of b).place r.few) ∙ held_is p (part_of b).place h t) in
      sym g.3 ∙ bound.clear g.0 b (Memᴰ.tail g.1) (Memᴰ.head refl) g.2

  step_repeat : p.held ≡ true → is_heard p (part_of b).place ≡ true → Stepped bs s b room
  step_repeat h t =
      let c = clear_own h t in
      let d = repeat_due bs s w b room r part bel bound.few wide h t c in
      record {
        answer = d.0 ∙ sym d.1;
        text = λ (z : due bs b ≡ 1). absurd (omega (arith, d.1));
        next = subst (Kept (b ∷ bs)) (sym (stays s b room d.0)) (repeat_next bs s w b room r part bel bound.few wide h t c);
      }

  -- a part that was not heard, its story held or not
  step_new : (base : Tale) (j : ℕ) → Base bs s.tales w b r base j → given bs (part_of b) (part_of b).place ≡ none
      → repeated s.tales (part_of b) (text_of b) ≡ false
      → opened (tale_of (part_of b) s.tales) (part_of b) (text_of b) ≡ base → leaves s.tales (part_of b) ≡ j → Stepped bs s b room
  unfolding after kept due due_cases
  step_new base j e new fresh o l =
      let is = ap (λ (q : Tale). with_text q (part_of b).place (text_of b)) o in
      let a = new_due bs s w b room r part bel bound.few wide base j e new fresh is in
      let f : take_answer s b room ≡ first ((not (full (part_of b) (given (b ∷ bs) (part_of b))), 4) ∷ (true, 1) ∷ []) = a ∙ pass 5 _ (ap is_some new) in
      let z = changes s b room (full (part_of b) (given (b ∷ bs) (part_of b))) bel f in
      record {
        answer = a;
        text = new_text bs s w b room r part bel bound.few wide base j e new fresh is;
        next = subst (Kept (b ∷ bs)) (sym z) (new_next bs s w b room r part bel bound.few wide base j e new fresh is (ap₂ (moved_last s.tales) l is));
      }

  given_none : (p.held && is_heard p (part_of b).place) ≡ false → given bs (part_of b) (part_of b).place ≡ none
  unfolding held_text
  given_none t = sym (w.texts (part_of b) (part_of b).place r.few) ∙ if_no _ _ t

  not_repeated : (p.held && is_heard p (part_of b).place) ≡ false → repeated s.tales (part_of b) (text_of b) ≡ false
  unfolding repeated holds_text
  not_repeated t = ap (λ (q : Tale). q.held && (is_heard q (part_of b).place && same (text_at q (part_of b).place) (text_of b))) at_p ∙ both_no p.held (is_heard p (part_of b).place) _ t
    where
      both_no : (x y z : Bool) → (x && y) ≡ false → (x && (y && z)) ≡ false
      both_no false y z e = refl
      both_no true false z e = refl
      both_no true true z e = absurd (true≢false e)

  step_held : p.held ≡ true → is_heard p (part_of b).place ≡ false → Stepped bs s b room
  unfolding opened contradicts
  step_held h t =
      let u : (p.held && is_heard p (part_of b).place) ≡ false = and_yes _ h ∙ t in
      let o : opened p (part_of b) (text_of b) ≡ p = if_yes _ _ (and_yes _ h ∙ ap not (and_no _ t)) in
      step_new p (index_of (is_story (part_of b)) s.tales) (base_held bs s.tales w b r h) (given_none u) (not_repeated u)
      (ap (λ (q : Tale). opened q (part_of b) (text_of b)) at_p ∙ o)
      (if_yes _ _ (ap (λ (q : Tale). q.held) at_p ∙ h))

  step_free : p.held ≡ false → Stepped bs s b room
  unfolding opened
  step_free h =
      let u : (p.held && is_heard p (part_of b).place) ≡ false = and_no _ h in
      let o : opened p (part_of b) (text_of b) ≡ taken_for (part_of b) = if_no _ _ (and_no _ h) in
      step_new (taken_for (part_of b)) 0 (base_new bs s.tales w b r h bound.few) (given_none u) (not_repeated u)
      (ap (λ (q : Tale). opened q (part_of b) (text_of b)) at_p ∙ o)
      (if_no _ _ (ap (λ (q : Tale). q.held) at_p ∙ h))

  step : Stepped bs s b room
  step =
      by_test p.held
      (λ h. by_test (is_heard p (part_of b).place) (λ t. step_repeat h t) (λ t. step_held h t))
      (λ h. step_free h)

-- ---- all of a history
fewer : (b : List ℕ) (bs : List (List ℕ)) → story_count bs ≤ story_count (b ∷ bs)
unfolding story_count
fewer b bs =
    by_test (came (part_of b) bs)
    (λ t. let e : story_count (b ∷ bs) ≡ story_count bs = if_yes _ _ t in omega arith)
    (λ t. let e : story_count (b ∷ bs) ≡ story_count bs + 1 = if_no _ _ t in omega arith)

pub before_bounded : (b : List ℕ) (bs : List (List ℕ)) → Bounded (b ∷ bs) → Bounded bs
before_bounded b bs r =
    record {
      few = omega (arith, fewer b bs, r.few);
      parts = λ c m. r.parts c (Memᴰ.tail m);
      clear = λ c d m n. r.clear c d (Memᴰ.tail m) (Memᴰ.tail n);
    }

pub kept_all : (room : ℕ) → 1341 ≤ room → (bs : List (List ℕ)) → Bounded bs → Kept bs (taken_all room bs).tales
unfolding taken_all
kept_all room h [] r = kept_none
kept_all room h (b ∷ bs) r = let q = before_bounded b bs r in (step bs (taken_all room bs) (kept_all room h bs q) b room r h).next

answer_is : (s : Stories) (b : List ℕ) (room : ℕ) → (taken_in s b room).answer ≡ take_answer s b room
unfolding taken_in taken_by
answer_is s b room = refl

-- Parts of at most four stories, no two of one story and place with different texts, came in any order and with repeats, and one more comes: it is answered
-- 5 if that part came before; else 4 if with it some part of its story is still missing; else 1, and what is shown is the texts of all its parts, joined.
pub stories_in_any_order : (room : ℕ) → 1341 ≤ room → (before : List (List ℕ)) (b : List ℕ) → Bounded (b ∷ before)
    → ((taken_in (taken_all room before) b room).answer ≡ due before b)
    × (due before b ≡ 1 → shown_text (taken_all room before) b ≡ texts_given (given (b ∷ before) (part_of b)) 0 (part_of b).total)
stories_in_any_order room h before b r =
    let s = taken_all room before in
    let e = step before s (kept_all room h before (before_bounded b before r)) b room r h in
    (answer_is s b room ∙ e.answer, e.text)

-- ---- once
full_none : (x : Part) (g : ℕ → Option (List ℕ)) (k : ℕ) → k < x.total → g k ≡ none → full x g ≡ false
unfolding full
full_none x g k h e = below_no x.total (λ i. is_some (g i)) k h (ap is_some e)

given_came : (bs : List (List ℕ)) (x : Part) (k : ℕ) → is_some (given bs x k) ≡ true → came x bs ≡ true
unfolding given came
given_came [] x k e = absurd (false≢true e)
given_came (b ∷ bs) x k e =
    by_test (same_story (part_of b) x)
    (λ t. or_yes _ t)
    (λ t. or_no _ t ∙ given_came bs x k (ap is_some (sym (if_no _ _ (and_no (eqb (part_of b).place k) t))) ∙ e))

abbrev one : Bool → ℕ
one t = cond t 1 0

-- whether every part is there, with one packet more
full_other : (b : List ℕ) (bs : List (List ℕ)) (x : Part) → same_story (part_of b) x ≡ false → full x (given (b ∷ bs) x) ≡ full x (given bs x)
unfolding full given
full_other b bs x t =
    below_same x.total (λ k. is_some (given (b ∷ bs) x k)) (λ k. is_some (given bs x k))
    (λ k h. ap is_some (if_no _ _ (and_no (eqb (part_of b).place k) t)))

full_repeat : (b : List ℕ) (bs : List (List ℕ)) (x : Part) → is_some (given bs x (part_of b).place) ≡ true → full x (given (b ∷ bs) x) ≡ full x (given bs x)
unfolding full given
full_repeat b bs x e =
    below_same x.total (λ k. is_some (given (b ∷ bs) x k)) (λ k. is_some (given bs x k))
    (λ k h. by_test (is_place x k b)
    (λ t.
    let z = eqb-true (part_of b).place k (and_both (same_story (part_of b) x) (eqb (part_of b).place k) t).1 in
    ap is_some (if_yes _ _ t) ∙ sym (ap (λ (i : ℕ). is_some (given bs x i)) (sym z) ∙ e))
    (λ t. ap is_some (if_no _ _ t)))

-- a story is the same by any of its parts
full_same : (x y : Part) → same_story x y ≡ true → (bs : List (List ℕ)) → full y (given bs y) ≡ full x (given bs x)
unfolding full
full_same x y e bs =
    ap (λ (n : ℕ). below n (λ k. is_some (given bs y k))) (sym (total_same x y e))
    ∙ below_same x.total (λ k. is_some (given bs y k)) (λ k. is_some (given bs x k)) (λ k h. ap is_some (given_same x y e bs k))

module _ (room : ℕ) (wide : 1341 ≤ room) (b : List ℕ) (bs : List (List ℕ)) (r : Bounded (b ∷ bs)) (x : Part) where
  is_due : (taken_in (taken_all room bs) b room).answer ≡ due bs b
  is_due = (stories_in_any_order room wide bs b r).0

  own : Right b
  own = right b (r.parts b (Memᴰ.head refl)).0 (r.parts b (Memᴰ.head refl)).1

  -- a part that came before is not shown, one that completes its story is
  due_repeat : is_some (given bs (part_of b) (part_of b).place) ≡ true → due bs b ≡ 5
  unfolding due due_cases
  due_repeat t = stop 5 _ t

  due_new : is_some (given bs (part_of b) (part_of b).place) ≡ false → eqb (due bs b) 1 ≡ full (part_of b) (given (b ∷ bs) (part_of b))
  unfolding due due_cases
  due_new t =
      by_test (full (part_of b) (given (b ∷ bs) (part_of b)))
      (λ u. ap (λ (n : ℕ). eqb n 1) (pass 5 _ t ∙ pass 4 _ (ap not u) ∙ stop 1 _ refl) ∙ sym u)
      (λ u. ap (λ (n : ℕ). eqb n 1) (pass 5 _ t ∙ stop 4 _ (ap not u)) ∙ sym u)

  none_is : (o : Option (List ℕ)) → is_some o ≡ false → o ≡ none
  none_is none e = refl
  none_is (some t) e = absurd (true≢false e)

  times_next : times_shown room x bs ≡ one (came x bs && full x (given bs x)) → times_shown room x (b ∷ bs) ≡ one (came x (b ∷ bs) && full x (given (b ∷ bs) x))
  unfolding times_shown came
  times_next i =
      by_test (same_story (part_of b) x)
      (λ s. by_test (is_some (given bs (part_of b) (part_of b).place))
      (λ t.
      let z : eqb (taken_in (taken_all room bs) b room).answer 1 ≡ false = ap (λ (n : ℕ). eqb n 1) (is_due ∙ due_repeat t) in
      let g : is_some (given bs x (part_of b).place) ≡ true = ap is_some (given_same (part_of b) x s bs (part_of b).place) ∙ t in
      let c = given_came bs x (part_of b).place g in
      ap (λ (n : ℕ). n + times_shown room x bs) (if_no 1 0 (and_no _ z))
      ∙ plus_none (times_shown room x bs)
      ∙ i
      ∙ ap one (and_yes _ c ∙ sym (full_repeat b bs x g) ∙ sym (and_yes _ (or_yes _ s))))
      (λ t.
      let e : eqb (taken_in (taken_all room bs) b room).answer 1 ≡ full (part_of b) (given (b ∷ bs) (part_of b)) = ap (λ (n : ℕ). eqb n 1) is_due ∙ due_new t in
      let n = none_is (given bs (part_of b) (part_of b).place) t in
      let f : full x (given bs x) ≡ false = full_same (part_of b) x s bs ∙ full_none (part_of b) (given bs (part_of b)) (part_of b).place own.inside n in
      let q : times_shown room x bs ≡ 0 = i ∙ ap one (and_no_right (came x bs) f) in
      ap₂ (λ (m k : ℕ). m + k) (ap one (and_yes_right _ s ∙ e ∙ sym (full_same (part_of b) x s (b ∷ bs)))) q
      ∙ none_plus (one (full x (given (b ∷ bs) x)))
      ∙ sym (ap one (and_yes _ (or_yes _ s)))))
      (λ s.
      ap (λ (n : ℕ). n + times_shown room x bs) (if_no 1 0 (and_no_right (eqb (taken_in (taken_all room bs) b room).answer 1) s))
      ∙ plus_none (times_shown room x bs)
      ∙ i
      ∙ ap one (ap₂ ◌&&◌ (sym (or_no _ s)) (sym (full_other b bs x s))))
    where
      plus_none : (n : ℕ) → 0 + n ≡ n
      plus_none n = omega arith

      none_plus : (n : ℕ) → n + 0 ≡ n
      none_plus n = omega arith

      and_no_right : {t : Bool} (a : Bool) → t ≡ false → (a && t) ≡ false
      and_no_right true e = e
      and_no_right false e = refl

      and_yes_right : {t : Bool} (a : Bool) → t ≡ true → (a && t) ≡ a
      and_yes_right true e = e
      and_yes_right false e = refl

-- So each story is shown exactly once if all its parts came, and else not at all.
pub shown_once : (room : ℕ) → 1341 ≤ room → (bs : List (List ℕ)) → Bounded bs → (x : Part)
    → times_shown room x bs ≡ cond (came x bs && full x (given bs x)) 1 0
unfolding times_shown came
shown_once room h [] r x = refl
shown_once room h (b ∷ bs) r x = times_next room h b bs r x (shown_once room h bs (before_bounded b bs r) x)
