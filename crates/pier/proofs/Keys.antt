-- Which story a part is of, what a part of a story says of itself, and finding a story among those held. Assumes nothing.
use mathlib.Core.Path.{◌≡◌, refl, sym, ap, ap₂, ◌∙◌}
use mathlib.Core.List.{List, [], ◌∷◌}
use mathlib.Core.Bool.{Bool, true, false, cond, ◌&&◌, ◌||◌, true≢false, false≢true}
use mathlib.Core.Option.{Option, some}
use Prim.Native.Nat.{ℕ, ◌+◌, ◌-◌, ◌*◌, ◌/◌, ◌≤◌, ◌<◌}
use native.Mathlib.Omega.{arith}
use lib.ListN.{length, take, drop, length-take, length-drop}
use lib.Dec.{eqb, leb}
use borrow.Author.Tests.{eqb-true, eq-eqb, leb-true}
use Rattle.laws.specs.Scan.{index_of}
use Rattle.laws.proofs.Cases.{if_yes, if_no, and_yes, and_both, and_left}
use Rattle.laws.proofs.Elements.{by_test, index_yes, index_no}
use Rattle.packet.specs.Table.{row_of}
use Rattle.packet.specs.Reading.{codes_in, kind_in, count_of, part_at, has_entries, part_by, read_answer, text_answer, body_of}
use Rattle.packet.proofs.Accepted.{accepted, text_there, text_from, body_inside}
use Rattle.story.specs.Joining.{is_part, set_in, headed, digits_of}
use Rattle.laws.specs.Lists.{same}
use Rattle.story.specs.Telling.{head_of}
use Rattle.laws.proofs.Lists.{same_self, same_eq}
use Rattle.stories.specs.declared.Part.{Part}
use Rattle.stories.specs.declared.Tale.{Tale}
use Rattle.stories.specs.Parts.{part_in, total_in, right_head, in_reach, belongs, part_of, text_of}
use Rattle.stories.specs.Tales.{is_story}
use Rattle.pier.specs.Given.{same_story, came, given}
use Rattle.pier.proofs.Lists.{find, find_no, find_yes, one, count}

pub story_self : (x : Part) → same_story x x ≡ true
story_self x = and_yes _ (same_self x.number) ∙ eq-eqb x.total x.total refl

-- ---- two parts of one story
module _ (x y : Part) (e : same_story x y ≡ true) where
  number_same : x.number ≡ y.number
  number_same = same_eq x.number y.number (and_both _ (eqb x.total y.total) e).0

  pub total_same : x.total ≡ y.total
  total_same = eqb-true x.total y.total (and_both (same x.number y.number) _ e).1

  pub story_same : (p : Tale) → is_story y p ≡ is_story x p
  unfolding is_story
  story_same p = sym (ap₂ (λ (n : List ℕ) (m : ℕ). p.held && (same p.number n && eqb p.total m)) number_same total_same)

  pub find_same : (ps : List Tale) → find (is_story y) ps ≡ find (is_story x) ps
  unfolding find
  find_same [] = refl
  find_same (p ∷ ps) = ap₂ (λ (t : Bool) (q : Tale). cond t p q) (story_same p) (find_same ps)

  pub count_same : (ps : List Tale) → count (is_story y) ps ≡ count (is_story x) ps
  unfolding count
  count_same [] = refl
  count_same (p ∷ ps) = ap₂ (λ (t : Bool) (n : ℕ). one t + n) (story_same p) (count_same ps)

  of_same : (z : Part) → same_story z y ≡ same_story z x
  of_same z = sym (ap₂ (λ (n : List ℕ) (m : ℕ). same z.number n && eqb z.total m) number_same total_same)

  pub came_same : (bs : List (List ℕ)) → came y bs ≡ came x bs
  unfolding came
  came_same [] = refl
  came_same (b ∷ bs) = ap₂ ◌||◌ (of_same (part_of b)) (came_same bs)

  pub given_same : (bs : List (List ℕ)) (k : ℕ) → given bs y k ≡ given bs x k
  unfolding given
  given_same [] k = refl
  given_same (b ∷ bs) k =
      ap₂ (λ (t : Bool) (o : Option (List ℕ)). cond (t && eqb (part_of b).place k) (some (text_of b)) o) (of_same (part_of b)) (given_same bs k)

-- ---- a place that is held for a story
pub story_own : (x : Part) (p : Tale) → p.held ≡ true → p.number ≡ x.number → p.total ≡ x.total → is_story x p ≡ true
unfolding is_story
story_own x p h n t = and_yes _ h ∙ ap₂ (λ (a : List ℕ) (c : ℕ). same a x.number && eqb c x.total) n t ∙ story_self x

pub story_other : (x y : Part) (p : Tale) → same_story x y ≡ false → p.number ≡ x.number → p.total ≡ x.total → is_story y p ≡ false
unfolding is_story
story_other x y p e n t =
    by_test p.held
    (λ h. and_yes _ h ∙ ap₂ (λ (a : List ℕ) (c : ℕ). same a y.number && eqb c y.total) n t ∙ e)
    (λ h. rw (h) refl)

pub story_held : (x : Part) (p : Tale) → is_story x p ≡ true → p.held ≡ true
unfolding is_story
story_held x p e = and_left p.held _ e

pub story_number : (x : Part) (p : Tale) → is_story x p ≡ true → (p.number ≡ x.number) × (p.total ≡ x.total)
unfolding is_story
story_number x p e =
    let a = (and_both p.held (same p.number x.number && eqb p.total x.total) e).1 in
    let c = and_both (same p.number x.number) (eqb p.total x.total) a in
    (same_eq _ _ c.0, eqb-true _ _ c.1)

pub unheld_none : (x : Part) (p : Tale) → p.held ≡ false → is_story x p ≡ false
unfolding is_story
unheld_none x p h = rw (h) refl

-- ---- finding it
pub found_passes : (f : Tale → Bool) (ps : List Tale) → (find f ps).held ≡ true → (f (find f ps) ≡ true) × (index_of f ps < length ps)
unfolding find
found_passes f [] h = absurd (false≢true h)
found_passes f (p ∷ ps) h =
    by_test (f p)
    (λ t. (ap f (if_yes p (find f ps) t) ∙ t, omega (arith, index_yes f p ps t)))
    (λ t.
    let i = found_passes f ps (ap (λ (q : Tale). q.held) (sym (if_no p (find f ps) t)) ∙ h) in
    (ap f (if_no p (find f ps) t) ∙ i.0, omega (arith, index_no f p ps t, i.1)))

pub found_none : (x : Part) (ps : List Tale) → (find (is_story x) ps).held ≡ false → count (is_story x) ps ≡ 0
unfolding count
found_none x [] h = refl
found_none x (p ∷ ps) h =
    by_test (is_story x p)
    (λ t. absurd (true≢false (sym (ap (λ (q : Tale). q.held) (find_yes (is_story x) p ps t) ∙ story_held x p t) ∙ h)))
    (λ t.
    let i = found_none x ps (ap (λ (q : Tale). q.held) (sym (find_no (is_story x) p ps t)) ∙ h) in
    let w : one (is_story x p) ≡ 0 = ap one t in
    omega arith)

-- ---- what a part of a story says of itself
pub record Right (b : List ℕ) : Type 0 where
  pub low : 1 ≤ (part_of b).total
  pub high : (part_of b).total ≤ 9
  pub inside : (part_of b).place < (part_of b).total
  pub few : (part_of b).place < 9
  pub short : length (text_of b) ≤ 149

body_short : (b : List ℕ) → is_part b ≡ true → length (body_of b) ≤ 153
unfolding is_part body_of
body_short b e =
    let t = text_there b (eqb-true (text_answer b) 0 (and_both (eqb (text_answer b) 0) (eqb (set_in b) 0) e).0) in
    let a = accepted b t.0 in
    let f = text_from b t.1 in
    let from = 3 + 12 * codes_in b + part_at (row_of (kind_in b)) / 8 in
    let n = cond (has_entries (kind_in b)) 0 (count_of b) in
    let z : part_by (read_answer b) from n b ≡ take n (drop from b) = ap (λ (r : ℕ). part_by r from n b) t.0 in
    let l = length-take n (drop from b) in
    omega (arith, ap length z, l, body_inside b a, f.0, a.most)

pub right : (b : List ℕ) → is_part b ≡ true → belongs b ≡ true → Right b
unfolding part_of belongs right_head
right b e g =
    let h = (and_both (right_head b) (in_reach (digits_of b) (part_in b) (total_in b)) g).0 in
    let c = (and_both (headed (head_of (part_in b) (total_in b)) b) _ h).1 in
    let d = and_both (leb 1 (part_in b)) _ c in
    let f = and_both (leb (part_in b) (total_in b)) (leb (total_in b) 9) d.1 in
    let one_up = leb-true 1 (part_in b) d.0 in
    let below_total = leb-true (part_in b) (total_in b) f.0 in
    let nine = leb-true (total_in b) 9 f.1 in
    let t : (part_of b).total ≡ total_in b = if_yes (total_in b) 1 g in
    let p : (part_of b).place ≡ part_in b - 1 = if_yes (part_in b - 1) 0 g in
    let s = body_short b e in
    record {
      low = omega (arith, t, one_up, below_total);
      high = omega (arith, t, nine);
      inside = omega (arith, t, p, one_up, below_total);
      few = omega (arith, p, one_up, below_total, nine);
      short = omega (arith, length-drop 4 (body_of b), s);
    }
