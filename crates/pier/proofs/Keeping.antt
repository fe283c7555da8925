-- Stories after a history within the bounds: each has its place, with exactly the texts that were given. Assumes nothing.
use mathlib.Core.Path.{◌≡◌, refl, sym, ap, ap₂, subst, ◌∙◌}
use mathlib.Core.List.{List, [], ◌∷◌, ◌++◌}
use mathlib.Core.Bool.{Bool, true, false, cond, ◌&&◌, false≢true}
use mathlib.Core.Option.{Option, none, some}
use Prim.Native.Nat.{ℕ, zero, suc, ◌+◌, ◌≤◌, ◌<◌}
use native.Mathlib.Omega.{arith}
use lib.ListN.{length, get_or, replicate, length-replicate}
use lib.Dec.{eqb}
use borrow.Author.Tests.{eqb-true, eqb-false}
use Rattle.laws.specs.Scan.{all, index_of}
use Rattle.laws.proofs.Cases.{if_yes, if_no, and_yes, and_no, or_yes, or_no}
use Rattle.laws.proofs.Elements.{by_test, all_cons}
use Rattle.stories.specs.declared.Part.{Part}
use Rattle.stories.specs.declared.Tale.{Tale}
use Rattle.stories.specs.Parts.{part_of, text_of}
use Rattle.stories.specs.Tales.{zeros, untold, blank, is_story, fair, is_heard, text_at, taken_for, with_text}
use Rattle.stories.specs.Stories.{moved_last}
use Rattle.pier.specs.Given.{same_story, came, story_count, given}
use Rattle.pier.proofs.Lists.{find, find_is, one, count, moved_on, moved_length, moved_count, find_other, find_own, is_held, free_first, moved_free_first, first_held}
use Rattle.pier.proofs.Texts.{StandsFor, shaped_fair, taken_shaped, taken_none, with_heard, with_text_lem, with_shaped, other_heard, other_text}
use Rattle.pier.proofs.Keys.{story_self, find_same, count_same, given_same, story_own, story_other, story_number, unheld_none, found_passes, found_none, Right}

-- every one is shaped
pub data AllShaped : List Tale → Type 0 where
  no_tale : AllShaped []
  and_tale : {p : Tale} {ps : List Tale} → StandsFor p → AllShaped ps → AllShaped (p ∷ ps)

pub all_fair : {ps : List Tale} → AllShaped ps → all fair ps ≡ true
all_fair no_tale = refl
all_fair (and_tale {p} {ps} s r) = all_cons fair p ps (shaped_fair p s) (all_fair r)

found_shaped : (f : Tale → Bool) (ps : List Tale) → AllShaped ps → (find f ps).held ≡ true → StandsFor (find f ps)
unfolding find
found_shaped f [] no_tale h = absurd (false≢true h)
found_shaped f (p ∷ ps) (and_tale s r) h =
    by_test (f p)
    (λ t. subst StandsFor (sym (if_yes p (find f ps) t)) s)
    (λ t. subst StandsFor (sym (if_no p (find f ps) t)) (found_shaped f ps r (ap (λ (q : Tale). q.held) (sym (if_no p (find f ps) t)) ∙ h)))

shaped_behind : (ps : List Tale) (q : Tale) → AllShaped ps → StandsFor q → AllShaped (ps ++ (q ∷ []))
shaped_behind [] q no_tale t = and_tale t no_tale
shaped_behind (p ∷ ps) q (and_tale s r) t = and_tale s (shaped_behind ps q r t)

shaped_moved : (ps : List Tale) (j : ℕ) (q : Tale) → j < length ps → AllShaped ps → StandsFor q → AllShaped (moved_last ps j q)
shaped_moved [] j q h no_tale t = absurd (omega arith)
shaped_moved (p ∷ ps) zero q h (and_tale s r) t = shaped_behind ps q r t
shaped_moved (p ∷ ps) (suc j) q h (and_tale s r) t = subst AllShaped (sym (moved_on p q ps j)) (and_tale s (shaped_moved ps j q (omega arith) r t))

-- ---- what a place holds
unfoldable pub held_text : Tale → ℕ → Option (List ℕ)
held_text p k = cond (p.held && is_heard p k) (some (text_at p k)) none

not_held : (p : Tale) (k : ℕ) → p.held ≡ false → held_text p k ≡ none
unfolding held_text
not_held p k h = rw (h) refl

not_heard : (x : Part) (k : ℕ) → k < 9 → held_text (taken_for x) k ≡ none
unfolding held_text
not_heard x k h = if_no _ _ (taken_none x k h)

-- the stories are those that came, each once, free places first, with the texts that were given
pub record Kept (bs : List (List ℕ)) (ps : List Tale) : Type 0 where
  pub four : length ps ≡ 4
  pub shaped : AllShaped ps
  pub once : (x : Part) → count (is_story x) ps ≤ 1
  pub many : count is_held ps ≡ story_count bs
  pub line : free_first ps ≡ true
  pub told : (x : Part) → (find (is_story x) ps).held ≡ came x bs
  pub texts : (x : Part) (k : ℕ) → k < 9 → held_text (find (is_story x) ps) k ≡ given bs x k

pub untold_shaped : StandsFor untold
unfolding zeros
untold_shaped = record { nine = refl; room = length-replicate {A = ℕ} 1341 0; short = refl; low = λ h. absurd (false≢true h); high = λ h. absurd (false≢true h) }

pub kept_none : Kept [] (replicate 4 untold)
unfolding count find is_story free_first came given story_count held_text
kept_none =
    record {
      four = refl;
      shaped = and_tale untold_shaped (and_tale untold_shaped (and_tale untold_shaped (and_tale untold_shaped no_tale)));
      once = λ x. omega arith;
      many = refl;
      line = refl;
      told = λ x. refl;
      texts = λ x k h. refl;
    }

-- ---- a part is kept in the place of its story, or in a new one
module _ (bs : List (List ℕ)) (ps : List Tale) (w : Kept bs ps) (b : List ℕ) (r : Right b) where
  -- the story as it was before, at place j, or taken for the part in place of the one at j
  pub record Base (p : Tale) (j : ℕ) : Type 0 where
    pub held : p.held ≡ true
    pub number : p.number ≡ (part_of b).number
    pub total : p.total ≡ (part_of b).total
    pub shaped : StandsFor p
    pub before : (i : ℕ) → i < 9 → held_text p i ≡ given bs (part_of b) i
    pub inside : j < length ps
    pub other : (y : Part) → same_story (part_of b) y ≡ false → is_story y (get_or ps j blank) ≡ false
    pub single : count (is_story (part_of b)) ps ≤ one (is_story (part_of b) (get_or ps j blank))
    pub grows : count is_held ps + 1 ≡ story_count (b ∷ bs) + one (get_or ps j blank).held

  module _ (p : Tale) (j : ℕ) (e : Base p j) where
    abbrev pub q : Tale
    q = with_text p (part_of b).place (text_of b)

    own : is_story (part_of b) q ≡ true
    own = story_own (part_of b) (with_text p (part_of b).place (text_of b)) e.held e.number e.total

    once_own : count (is_story (part_of b)) (moved_last ps j q) ≤ 1
    once_own =
        let c = moved_count (is_story (part_of b)) ps j q e.inside in
        let o : one (is_story (part_of b) q) ≡ 1 = ap one own in
        omega (arith, c, o, e.single)

    other_q : (y : Part) → same_story (part_of b) y ≡ false → is_story y q ≡ false
    other_q y n = story_other (part_of b) y (with_text p (part_of b).place (text_of b)) n e.number e.total

    once_next : (y : Part) → count (is_story y) (moved_last ps j q) ≤ 1
    once_next y =
        by_test (same_story (part_of b) y)
        (λ t. omega (arith, count_same (part_of b) y t (moved_last ps j q), once_own))
        (λ t.
        let c = moved_count (is_story y) ps j q e.inside in
        let o : one (is_story y q) ≡ 0 = ap one (other_q y t) in
        omega (arith, c, o, w.once y))

    -- what is found for a story
    found_own : (y : Part) → same_story (part_of b) y ≡ true → find (is_story y) (moved_last ps j q) ≡ q
    found_own y t = find_same (part_of b) y t (moved_last ps j q) ∙ find_own (is_story (part_of b)) ps j q own once_own

    found_other : (y : Part) → same_story (part_of b) y ≡ false → find (is_story y) (moved_last ps j q) ≡ find (is_story y) ps
    found_other y t = find_other (is_story y) ps j q e.inside (e.other y t) (other_q y t)

    held_next : (y : Part) → (find (is_story y) (moved_last ps j q)).held ≡ came y (b ∷ bs)
    unfolding came
    held_next y =
        by_test (same_story (part_of b) y)
        (λ t. ap (λ (z : Tale). z.held) (found_own y t) ∙ e.held ∙ sym (or_yes _ t))
        (λ t. ap (λ (z : Tale). z.held) (found_other y t) ∙ w.told y ∙ sym (or_no _ t))

    -- the part's own text, and those of the others
    pub text_own : held_text q (part_of b).place ≡ some (text_of b)
    unfolding held_text
    text_own =
        let s = e.shaped in
        if_yes _ _ (and_yes _ e.held ∙ with_heard p s (part_of b).place (text_of b) r.few r.short)
        ∙ ap some (with_text_lem p s (part_of b).place (text_of b) r.few r.short)

    pub text_other : (i : ℕ) → i < 9 → (i ≡ (part_of b).place → ⊥) → held_text q i ≡ held_text p i
    unfolding held_text
    text_other i h n =
        let s = e.shaped in
        ap₂ (λ (t : Bool) (l : List ℕ). cond (p.held && t) (some l) none)
        (other_heard p s (part_of b).place (text_of b) r.few r.short i h n)
        (other_text p s (part_of b).place (text_of b) r.few r.short i h n)

    pub text_next : (i : ℕ) → i < 9 → held_text q i ≡ given (b ∷ bs) (part_of b) i
    unfolding given
    text_next i h =
        by_test (eqb (part_of b).place i)
        (λ t. ap (held_text q) (sym (eqb-true (part_of b).place i t)) ∙ text_own ∙ sym (if_yes _ _ (and_yes _ (story_self (part_of b)) ∙ t)))
        (λ t. text_other i h (λ z. eqb-false (part_of b).place i t (sym z)) ∙ e.before i h ∙ sym (if_no _ _ (and_yes _ (story_self (part_of b)) ∙ t)))

    texts_next : (y : Part) (i : ℕ) → i < 9 → held_text (find (is_story y) (moved_last ps j q)) i ≡ given (b ∷ bs) y i
    unfolding given
    texts_next y i h =
        by_test (same_story (part_of b) y)
        (λ t. ap (λ (z : Tale). held_text z i) (found_own y t) ∙ text_next i h ∙ sym (given_same (part_of b) y t (b ∷ bs) i))
        (λ t. ap (λ (z : Tale). held_text z i) (found_other y t) ∙ w.texts y i h ∙ sym (if_no _ _ (and_no (eqb (part_of b).place i) t)))

    pub kept_next : Kept (b ∷ bs) (moved_last ps j q)
    kept_next =
        let s = with_shaped p e.shaped (part_of b).place (text_of b) r.few r.short in
        let c = moved_count is_held ps j q e.inside in
        let o : one p.held ≡ 1 = ap one e.held in
        record {
          four = moved_length ps j q e.inside ∙ w.four;
          shaped = shaped_moved ps j q e.inside w.shaped s;
          once = once_next;
          many = omega (arith, c, o, e.grows);
          line = moved_free_first ps j q e.inside e.held w.line;
          told = held_next;
          texts = texts_next;
        }

  -- ---- the story is held
  pub base_held : (find (is_story (part_of b)) ps).held ≡ true → Base (find (is_story (part_of b)) ps) (index_of (is_story (part_of b)) ps)
  unfolding story_count
  base_held h =
      let f = is_story (part_of b) in
      let u = found_passes f ps h in
      let i : get_or ps (index_of f ps) blank ≡ find f ps = find_is f ps in
      let n = story_number (part_of b) (find f ps) u.0 in
      let o : one (f (get_or ps (index_of f ps) blank)) ≡ 1 = ap (λ (z : Tale). one (f z)) i ∙ ap one u.0 in
      let g : one (get_or ps (index_of f ps) blank).held ≡ 1 = ap (λ (z : Tale). one z.held) i ∙ ap one h in
      let c : story_count (b ∷ bs) ≡ story_count bs = if_yes _ _ (sym (w.told (part_of b)) ∙ h) in
      record {
        held = h;
        number = n.0;
        total = n.1;
        shaped = found_shaped f ps w.shaped h;
        before = w.texts (part_of b);
        inside = u.1;
        other = λ y t. ap (is_story y) i ∙ story_other (part_of b) y (find f ps) t n.0 n.1;
        single = omega (arith, o, w.once (part_of b));
        grows = omega (arith, g, c, w.many);
      }

  -- ---- it is not, and there is room
  module _ (h : (find (is_story (part_of b)) ps).held ≡ false) (most : story_count (b ∷ bs) ≤ 4) where
    more : story_count (b ∷ bs) ≡ story_count bs + 1
    unfolding story_count
    more = if_no _ _ (sym (w.told (part_of b)) ∙ h)

    pub first_free : (get_or ps 0 blank).held ≡ false
    first_free = by_test (get_or ps 0 blank).held (λ t. absurd (crowded ps w.four w.line t w.many)) (λ t. t)
      where
        crowded : (rs : List Tale) → length rs ≡ 4 → free_first rs ≡ true → (get_or rs 0 blank).held ≡ true → count is_held rs ≡ story_count bs → ⊥
        crowded [] l f t c = omega arith
        crowded (p ∷ rs) l f t c = let z = first_held p rs f t in omega (arith, z, c, more, most, l)

    pub base_new : Base (taken_for (part_of b)) 0
    base_new =
        let f = is_story (part_of b) in
        let o : one (get_or ps 0 blank).held ≡ 0 = ap one first_free in
        let z = found_none (part_of b) ps h in
        record {
          held = refl;
          number = refl;
          total = refl;
          shaped = taken_shaped (part_of b) r.low r.high;
          before = λ i g. none_there i g;
          inside = omega (arith, w.four);
          other = λ y t. unheld_none y (get_or ps 0 blank) first_free;
          single = omega (arith, z);
          grows = omega (arith, o, more, w.many);
        }
      where
        none_there : (i : ℕ) → i < 9 → held_text (taken_for (part_of b)) i ≡ given bs (part_of b) i
        none_there i g =
            let a : held_text (find (is_story (part_of b)) ps) i ≡ none = not_held (find (is_story (part_of b)) ps) i h in
            not_heard (part_of b) i g ∙ sym a ∙ w.texts (part_of b) i g
