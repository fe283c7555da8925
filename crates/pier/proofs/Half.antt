-- Whatever packets came before, a story is shown only with every part of it, each as a packet gave it. Assumes nothing.
use mathlib.Core.Path.{◌≡◌, refl, sym, ap, subst, ◌∙◌}
use mathlib.Core.List.{List, [], ◌∷◌, ◌++◌, Memᴰ}
use mathlib.Core.Bool.{Bool, true, false, not, ◌&&◌, ◌||◌, true≢false, false≢true}
use Prim.Native.Nat.{ℕ, zero, suc, ◌≤◌, ◌<◌}
use native.Mathlib.Omega.{arith}
use lib.ListN.{length, get_or-replicate}
use lib.Dec.{eqb}
use borrow.Author.Tests.{eqb-true, eqb-false, le-ltb}
use Rattle.laws.specs.Scan.{index_of}
use Rattle.laws.proofs.Below.{at_each}
use Rattle.laws.proofs.Cases.{if_yes, if_no, and_yes, and_both}
use Rattle.laws.proofs.Elements.{by_test}
use Rattle.laws.proofs.Refusals.{pass, stop}
use Rattle.story.specs.Joining.{is_part}
use Rattle.stories.specs.declared.Tale.{Tale}
use Rattle.stories.specs.declared.Stories.{Stories}
use Rattle.stories.specs.Parts.{belongs, part_of, text_of}
use Rattle.stories.specs.Tales.{zeros, untold, is_story, is_heard, text_at, is_whole, texts_from, taken_for, with_text, contradicts, opened}
use Rattle.stories.specs.Stories.{tale_of, moved_last, leaves, after, kept, repeated, take_answer, shown_text, taken_by, taken_in}
use Rattle.pier.specs.Given.{taken_all}
use Rattle.pier.proofs.Lists.{find, find_is, moved_on, moved_length}
use Rattle.pier.proofs.Texts.{StandsFor, taken_shaped, taken_none, with_text_lem, with_shaped, other_heard, other_text}
use Rattle.pier.proofs.Keys.{story_number, found_passes, Right, right}
use Rattle.pier.proofs.Keeping.{AllShaped, no_tale, and_tale, all_fair, untold_shaped}

-- a packet of these is the part of the story of p with k before it, and has the text that p has of it
pub record Came (bs : List (List ℕ)) (p : Tale) (k : ℕ) : Type 0 where
  pub packet : List ℕ
  pub there : Memᴰ packet bs
  pub part : is_part packet ≡ true
  pub belongs : belongs packet ≡ true
  pub number : (part_of packet).number ≡ p.number
  pub total : (part_of packet).total ≡ p.total
  pub place : (part_of packet).place ≡ k
  pub text : text_of packet ≡ text_at p k

-- every part that a place has came, and the place is shaped
record Sourced (bs : List (List ℕ)) (p : Tale) : Type 0 where
  shaped : StandsFor p
  came : (k : ℕ) → k < 9 → is_heard p k ≡ true → Came bs p k

data AllSourced (bs : List (List ℕ)) : List Tale → Type 0 where
  none_sourced : AllSourced bs []
  and_sourced : {p : Tale} {ps : List Tale} → Sourced bs p → AllSourced bs ps → AllSourced bs (p ∷ ps)

all_shaped : {bs : List (List ℕ)} {ps : List Tale} → AllSourced bs ps → AllShaped ps
all_shaped none_sourced = no_tale
all_shaped (and_sourced s r) = and_tale s.shaped (all_shaped r)

-- a packet more
more : (bs : List (List ℕ)) (b : List ℕ) (p : Tale) → Sourced bs p → Sourced (b ∷ bs) p
more bs b p s =
    record {
      shaped = s.shaped;
      came = λ k h t.
          let c = s.came k h t in
          record { packet = c.packet; there = Memᴰ.tail c.there; part = c.part; belongs = c.belongs; number = c.number; total = c.total; place = c.place; text = c.text };
    }

all_more : (bs : List (List ℕ)) (b : List ℕ) {ps : List Tale} → AllSourced bs ps → AllSourced (b ∷ bs) ps
all_more bs b none_sourced = none_sourced
all_more bs b (and_sourced {p} s r) = and_sourced (more bs b p s) (all_more bs b r)

-- the place that is found, and one moved to the end
found_sourced : (bs : List (List ℕ)) (f : Tale → Bool) (ps : List Tale) → AllSourced bs ps → (find f ps).held ≡ true → Sourced bs (find f ps)
unfolding find
found_sourced bs f [] none_sourced h = absurd (false≢true h)
found_sourced bs f (p ∷ ps) (and_sourced s r) h =
    by_test (f p)
    (λ t. subst (Sourced bs) (sym (if_yes p (find f ps) t)) s)
    (λ t. subst (Sourced bs) (sym (if_no p (find f ps) t)) (found_sourced bs f ps r (ap (λ (q : Tale). q.held) (sym (if_no p (find f ps) t)) ∙ h)))

behind_sourced : (bs : List (List ℕ)) (ps : List Tale) (q : Tale) → AllSourced bs ps → Sourced bs q → AllSourced bs (ps ++ (q ∷ []))
behind_sourced bs [] q none_sourced t = and_sourced t none_sourced
behind_sourced bs (p ∷ ps) q (and_sourced s r) t = and_sourced s (behind_sourced bs ps q r t)

moved_sourced : (bs : List (List ℕ)) (ps : List Tale) (j : ℕ) (q : Tale) → j < length ps → AllSourced bs ps → Sourced bs q → AllSourced bs (moved_last ps j q)
moved_sourced bs [] j q h none_sourced t = absurd (omega arith)
moved_sourced bs (p ∷ ps) zero q h (and_sourced s r) t = behind_sourced bs ps q r t
moved_sourced bs (p ∷ ps) (suc j) q h (and_sourced s r) t = subst (AllSourced bs) (sym (moved_on p q ps j)) (and_sourced s (moved_sourced bs ps j q (omega arith) r t))

-- ---- a part is kept
module _ (bs : List (List ℕ)) (b : List ℕ) (part : is_part b ≡ true) (bel : belongs b ≡ true) (p : Tale) (s : Sourced bs p)
    (number : p.number ≡ (part_of b).number) (total : p.total ≡ (part_of b).total) where
  r : Right b
  r = right b part bel

  with_sourced : Sourced (b ∷ bs) (with_text p (part_of b).place (text_of b))
  with_sourced =
      record {
        shaped = with_shaped p s.shaped (part_of b).place (text_of b) r.few r.short;
        came = λ k h t. by_test (eqb k (part_of b).place) (λ e. own k (eqb-true k (part_of b).place e)) (λ e. other k h t (eqb-false k (part_of b).place e));
      }
    where
      own : (k : ℕ) → k ≡ (part_of b).place → Came (b ∷ bs) (with_text p (part_of b).place (text_of b)) k
      own k e =
          record {
            packet = b;
            there = Memᴰ.head refl;
            part = part;
            belongs = bel;
            number = sym number;
            total = sym total;
            place = sym e;
            text = sym (with_text_lem p s.shaped (part_of b).place (text_of b) r.few r.short) ∙ ap (text_at (with_text p (part_of b).place (text_of b))) (sym e);
          }

      other : (k : ℕ) → k < 9 → is_heard (with_text p (part_of b).place (text_of b)) k ≡ true → (k ≡ (part_of b).place → ⊥) → Came (b ∷ bs) (with_text p (part_of b).place (text_of b)) k
      other k h t n =
          let c = s.came k h (sym (other_heard p s.shaped (part_of b).place (text_of b) r.few r.short k h n) ∙ t) in
          record {
            packet = c.packet;
            there = Memᴰ.tail c.there;
            part = c.part;
            belongs = c.belongs;
            number = c.number;
            total = c.total;
            place = c.place;
            text = c.text ∙ sym (other_text p s.shaped (part_of b).place (text_of b) r.few r.short k h n);
          }

-- the story with the part kept, whatever it was before
module _ (bs : List (List ℕ)) (ps : List Tale) (a : AllSourced bs ps) (four : length ps ≡ 4) (b : List ℕ) (part : is_part b ≡ true) (bel : belongs b ≡ true) where
  abbrev p : Tale
  p = find (is_story (part_of b)) ps

  at_p : tale_of (part_of b) ps ≡ p
  at_p = find_is (is_story (part_of b)) ps

  after_is : after ps (part_of b) (text_of b) ≡ with_text (opened p (part_of b) (text_of b)) (part_of b).place (text_of b)
  unfolding after
  after_is = ap (λ (q : Tale). with_text (opened q (part_of b) (text_of b)) (part_of b).place (text_of b)) at_p

  opened_sourced : (Sourced bs (opened p (part_of b) (text_of b))) × ((opened p (part_of b) (text_of b)).number ≡ (part_of b).number) × ((opened p (part_of b) (text_of b)).total ≡ (part_of b).total)
  unfolding opened
  opened_sourced =
      let z = right b part bel in
      let new : Sourced bs (taken_for (part_of b)) =
      record { shaped = taken_shaped (part_of b) z.low z.high; came = λ k h t. absurd (true≢false (sym t ∙ taken_none (part_of b) k h)) } in
      by_test (p.held && not (contradicts p (part_of b).place (text_of b)))
      (λ t.
      let h = (and_both p.held (not (contradicts p (part_of b).place (text_of b))) t).0 in
      let n = story_number (part_of b) p (found_passes (is_story (part_of b)) ps h).0 in
      let e = if_yes p (taken_for (part_of b)) t in
      (subst (Sourced bs) (sym e) (found_sourced bs (is_story (part_of b)) ps a h), ap (λ (q : Tale). q.number) e ∙ n.0, ap (λ (q : Tale). q.total) e ∙ n.1))
      (λ t. let e = if_no p (taken_for (part_of b)) t in (subst (Sourced bs) (sym e) new, ap (λ (q : Tale). q.number) e, ap (λ (q : Tale). q.total) e))

  after_sourced : (Sourced (b ∷ bs) (after ps (part_of b) (text_of b))) × ((after ps (part_of b) (text_of b)).number ≡ (part_of b).number) × ((after ps (part_of b) (text_of b)).total ≡ (part_of b).total)
  after_sourced =
      let o = opened_sourced in (
        subst (Sourced (b ∷ bs)) (sym after_is) (with_sourced bs b part bel (opened p (part_of b) (text_of b)) o.0 o.1 o.2),
        ap (λ (q : Tale). q.number) after_is ∙ o.1,
        ap (λ (q : Tale). q.total) after_is ∙ o.2,
      )

  leaves_inside : leaves ps (part_of b) < length ps
  leaves_inside =
      by_test (tale_of (part_of b) ps).held
      (λ t.
      let e : leaves ps (part_of b) ≡ index_of (is_story (part_of b)) ps = if_yes _ _ t in
      let i = (found_passes (is_story (part_of b)) ps (ap (λ (q : Tale). q.held) (sym at_p) ∙ t)).1 in
      omega (arith, e, i))
      (λ t. let e : leaves ps (part_of b) ≡ 0 = if_no _ _ t in omega (arith, e, four))

  kept_sourced : AllSourced (b ∷ bs) (kept ps (part_of b) (text_of b))
  unfolding kept
  kept_sourced = moved_sourced (b ∷ bs) ps (leaves ps (part_of b)) (after ps (part_of b) (text_of b)) leaves_inside (all_more bs b a) after_sourced.0

  kept_four : length (kept ps (part_of b) (text_of b)) ≡ 4
  unfolding kept
  kept_four = moved_length ps (leaves ps (part_of b)) (after ps (part_of b) (text_of b)) leaves_inside ∙ four

-- ---- all of a history
module _ (s : Stories) (b : List ℕ) (room : ℕ) (wide : 1341 ≤ room) (fine : AllShaped s.tales) where
  -- 1 and 4 come for a packet that is taken as a text in set 0
  is_a_part : (take_answer s b room ≡ 6 → ⊥) → is_part b ≡ true
  unfolding take_answer
  is_a_part n =
      by_test (is_part b)
      (λ t. t)
      (λ t. absurd (n (pass 28 _ (ap not (all_fair fine)) ∙ pass 10 _ (le-ltb room 1341 wide) ∙ stop 6 _ (ap not t))))

  -- and 1 for a part only once its story is whole
  one_whole : is_part b ≡ true → belongs b ≡ true → take_answer s b room ≡ 1 → is_whole (after s.tales (part_of b) (text_of b)) ≡ true
  unfolding take_answer
  one_whole part bel e =
      by_test (repeated s.tales (part_of b) (text_of b))
      (λ u. let z : take_answer s b room ≡ 5 = pass 28 _ (ap not (all_fair fine)) ∙ pass 10 _ (le-ltb room 1341 wide) ∙ pass 6 _ (ap not part) ∙ stop 5 _ (and_yes _ bel ∙ u) in absurd (omega (arith, e, z)))
      (λ u. by_test (is_whole (after s.tales (part_of b) (text_of b)))
      (λ t. t)
      (λ t.
      let z : take_answer s b room ≡ 4 = pass 28 _ (ap not (all_fair fine)) ∙ pass 10 _ (le-ltb room 1341 wide) ∙ pass 6 _ (ap not part) ∙ pass 5 _ (and_yes _ bel ∙ u) ∙ stop 4 _ (and_yes _ bel ∙ ap not t) in
      absurd (omega (arith, e, z))))

untold_none : (k : ℕ) → k < 9 → is_heard untold k ≡ false
unfolding is_heard zeros
untold_none k h = ap (λ (n : ℕ). not (eqb n 0)) (get_or-replicate 9 k 0 0 h)

source : (room : ℕ) → 1341 ≤ room → (bs : List (List ℕ)) → AllSourced bs (taken_all room bs).tales × (length (taken_all room bs).tales ≡ 4)
unfolding taken_all taken_in taken_by
source room h [] = (and_sourced none_there (and_sourced none_there (and_sourced none_there (and_sourced none_there none_sourced))), refl)
  where
    none_there : Sourced [] untold
    none_there = record { shaped = untold_shaped; came = λ k g t. absurd (true≢false (sym t ∙ untold_none k g)) }
source room h (b ∷ bs) =
    let s = taken_all room bs in
    let i = source room h bs in
    let a = take_answer s b room in
    by_test ((eqb a 1 || eqb a 4) && belongs b)
    (λ t.
    let u = and_both (eqb a 1 || eqb a 4) (belongs b) t in
    let part = is_a_part s b room h (all_shaped i.0) (λ z. true≢false (sym u.0 ∙ ap (λ (n : ℕ). eqb n 1 || eqb n 4) z)) in
    let e = if_yes (kept s.tales (part_of b) (text_of b)) s.tales t in
    (subst (AllSourced (b ∷ bs)) (sym e) (kept_sourced bs s.tales i.0 i.1 b part u.1), ap length e ∙ kept_four bs s.tales i.0 i.1 b part u.1))
    (λ t. let e = if_no (kept s.tales (part_of b) (text_of b)) s.tales t in
    (subst (AllSourced (b ∷ bs)) (sym e) (all_more bs b i.0), ap length e ∙ i.1))

-- Whatever packets came before, in whatever order: where a part of a story is answered 1, every part of that story came, with the text that is shown of it,
-- and what is shown is the texts of all of them, the first part's first.
pub never_half : (room : ℕ) → 1341 ≤ room → (before : List (List ℕ)) (b : List ℕ) → belongs b ≡ true → (taken_in (taken_all room before) b room).answer ≡ 1
    → let p = after (taken_all room before).tales (part_of b) (text_of b) in
    (p.number ≡ (part_of b).number) × (p.total ≡ (part_of b).total)
    × ((k : ℕ) → k < (part_of b).total → Came (b ∷ before) p k)
    × (shown_text (taken_all room before) b ≡ texts_from p 0 (part_of b).total)
unfolding taken_in taken_by is_whole shown_text
never_half room h before b bel e =
    let s = taken_all room before in
    let i = source room h before in
    let part = is_a_part s b room h (all_shaped i.0) (λ (z : take_answer s b room ≡ 6). omega (arith, e, z)) in
    let w = after_sourced before s.tales i.0 i.1 b part bel in
    let p = after s.tales (part_of b) (text_of b) in
    let whole = one_whole s b room h (all_shaped i.0) part bel e in (
      w.1,
      w.2,
      λ k l. w.0.came k (omega (arith, (right b part bel).high)) (at_each p.total (is_heard p) whole k (omega (arith, w.2))),
      if_yes _ _ bel ∙ ap (texts_from p 0) w.2,
    )
