-- One story's place: its test, its texts, a part kept in it. Assumes nothing.
use mathlib.Core.Path.{◌≡◌, refl, sym, ap, ap₂, ◌∙◌}
use mathlib.Core.List.{List, [], ◌∷◌, ◌++◌}
use mathlib.Core.Bool.{Bool, true, false, not, ◌&&◌}
use Prim.Native.Nat.{ℕ, zero, suc, ◌+◌, ◌-◌, ◌*◌, ◌≤◌, ◌<◌}
use native.Mathlib.Omega.{arith}
use lib.ListN.{length, take, drop, get_or, length-drop, length-take, length-append}
use lib.Seq.{take-suc, sets, length-sets, length-take-le}
use lib.Dec.{leb, eqb}
use borrow.Author.Tests.{leb-true, eq-eqb, ne_eqb}
use borrow.Rule.Slice.PartMut.{put_mid}
use Rattle.laws.proofs.Cases.{if_no, and_no, and_both, or_yes, or_no}
use Rattle.laws.proofs.Elements.{all_at}
use Rattle.laws.proofs.Writes.{sets_append}
use Rattle.std.proofs.lemmas.List.Folds.{list_all-append}
use Rattle.laws.specs.Below.{below}
use Rattle.laws.specs.Scan.{all}
use Rattle.laws.proofs.Parts.{in_place}
use Rattle.story.proofs.Copying.{copied_in}
use Rattle.stories.specs.declared.Part.{Part}
use Rattle.stories.specs.declared.Tale.{Tale}
use Rattle.stories.specs.Tales.{fair, is_heard, text_at, is_whole, texts_from, whole_text, taken_for, opened}
use Rattle.stories.specs.Steps.{all_short, Steady}

-- ---- a fair place
module _ (p : Tale) where
  pub fair_free : not p.held ≡ true → fair p ≡ true
  unfolding fair
  fair_free e = or_yes _ e

  -- what it tells of one that is held
  pub held_steady : fair p ≡ true → p.held ≡ true → Steady p
  unfolding fair
  held_steady e h =
      let a = sym (or_no _ (ap not h)) ∙ e in
      let b = and_both (leb 1 p.total) (leb p.total 9 && all_short p.lengths) a in
      let d = and_both (leb p.total 9) (all_short p.lengths) b.1 in
      record { few = leb-true _ _ d.0; short = d.1 }

-- ---- a text
pub size_brief : (l : List ℕ) (k : ℕ) → all_short l ≡ true → k < length l → get_or l k 0 - 4 ≤ 149
size_brief l k e h = let z = leb-true (get_or l k 0) 153 (all_at (λ (n : ℕ). leb n 153) l k 0 e h) in omega arith

pub text_room : (l : List ℕ) (k n : ℕ) → n ≡ get_or l k 0 - 4 → all_short l ≡ true → length l ≡ 9 → k < 9 → 149 * k + n ≤ 1341
text_room l k n e s m h = omega (arith, e, size_brief l k s (omega arith))

module _ (p : Tale) (k n : ℕ) (e : n ≡ get_or p.lengths k 0 - 4) where
  pub text_is : take (149 * k + n - 149 * k) (drop (149 * k) p.bytes) ≡ text_at p k
  unfolding text_at
  text_is = let z : 149 * k + n - 149 * k ≡ get_or p.lengths k 0 - 4 = omega (arith, e) in ap (λ (m : ℕ). take m (drop (149 * k) p.bytes)) z

  pub text_long : 149 * k + n ≤ length p.bytes → length (text_at p k) ≡ n
  unfolding text_at
  text_long h =
      ap (λ (m : ℕ). length (take m (drop (149 * k) p.bytes))) (sym e)
      ∙ length-take-le n (drop (149 * k) p.bytes) (omega (arith, length-drop (149 * k) p.bytes))

-- ---- heard before
module _ (p : Tale) (k : ℕ) where
  pub not_heard : get_or p.lengths k 0 ≡ 0 → is_heard p k ≡ false
  unfolding is_heard
  not_heard e = ap not (eq-eqb _ _ e)

  pub heard : (get_or p.lengths k 0 ≡ 0 → ⊥) → is_heard p k ≡ true
  unfolding is_heard
  heard e = ap not (ne_eqb _ _ e)

-- ---- opened
module _ (p : Tale) (x : Part) (t : List ℕ) where
  pub open_free : p.held ≡ false → taken_for x ≡ opened p x t
  unfolding opened
  open_free e = sym (if_no _ _ (and_no _ e))

-- ---- a part is kept
pub text_kept : (l t part : List ℕ) (k : ℕ) → length l ≡ 1341 → k < 9 → length t ≤ 149 → part ≡ t → put_mid (149 * k) (149 * k + length t - 149 * k) l part ≡ sets l (149 * k) t
text_kept l t part k n h g e = copied_in l t part (149 * k) (omega (arith, n)) e

-- ---- every part
turned : (a b : Bool) → (a && (b && true)) ≡ (b && a)
turned true true = refl
turned true false = refl
turned false true = refl
turned false false = refl

-- of the first k lengths none is 0
heard_below : (p : Tale) (k : ℕ) → k ≤ length p.lengths → all (λ n. not (eqb n 0)) (take k p.lengths) ≡ below k (is_heard p)
unfolding below is_heard
heard_below p zero h = refl
heard_below p (suc k) h =
    let f : ℕ → Bool = λ n. not (eqb n 0) in
    ap (all f) (take-suc p.lengths k 0 h)
    ∙ list_all-append f (take k p.lengths) (get_or p.lengths k 0 ∷ [])
    ∙ turned (all f (take k p.lengths)) (f (get_or p.lengths k 0))
    ∙ ap (λ b. f (get_or p.lengths k 0) && b) (heard_below p k (omega (arith, h)))

pub whole_is : (p : Tale) → p.total ≤ length p.lengths → all (λ n. not (eqb n 0)) (take p.total p.lengths) ≡ is_whole p
unfolding is_whole
whole_is p h = heard_below p p.total h

-- ---- the texts, put one behind the other: k parts and `to` bytes of the output are done
texts_next : (p : Tale) (k : ℕ) → k < p.total → texts_from p k (p.total - k) ≡ text_at p k ++ texts_from p (k + 1) (p.total - (k + 1))
unfolding texts_from
texts_next p k h = let z : p.total - k ≡ suc (p.total - (k + 1)) = omega arith in ap (texts_from p k) z

texts_end : (p : Tale) (k : ℕ) → p.total ≤ k → texts_from p k (p.total - k) ≡ []
unfolding texts_from
texts_end p k h = let z : p.total - k ≡ 0 = omega arith in ap (texts_from p k) z

pub record Putting (p : Tale) (out₀ out : List ℕ) (to k : ℕ) : Type 0 where
  pub goes : sets out₀ 0 (whole_text p) ≡ sets out to (texts_from p k (p.total - k))
  pub kept : length out ≡ length out₀
  pub ends : to + length (texts_from p k (p.total - k)) ≡ length (whole_text p)
  pub room : to ≤ 149 * k

pub putting_first : (p : Tale) (out : List ℕ) → Putting p out out 0 0
putting_first p out =
    let z : texts_from p 0 (p.total - 0) ≡ whole_text p = let m : p.total - 0 ≡ p.total = omega arith in ap (texts_from p 0) m in
    record { goes = ap (sets out 0) (sym z); kept = refl; ends = omega (arith, ap length z); room = omega arith }

pub putting_next : (p : Tale) (out₀ out out'' : List ℕ) (to k to'' : ℕ) → Putting p out₀ out to k → k < p.total → length (text_at p k) ≤ 149 → to'' ≡ to + length (text_at p k) → out'' ≡ sets out to (text_at p k) → Putting p out₀ out'' to'' (k + 1)
putting_next p out₀ out out'' to k to'' g h s e f =
    let t = text_at p k in
    let B = texts_from p (k + 1) (p.total - (k + 1)) in
    record {
      goes = g.goes ∙ ap (sets out to) (texts_next p k h) ∙ sets_append t B out to ∙ ap₂ (λ (o : List ℕ) (m : ℕ). sets o m B) (sym f) (sym e);
      kept = ap length f ∙ length-sets out to t ∙ g.kept;
      ends = omega (arith, g.ends, ap length (texts_next p k h), length-append t B, e);
      room = omega (arith, g.room, e, s);
    }

pub putting_last : (p : Tale) (out₀ out : List ℕ) (to k : ℕ) → Putting p out₀ out to k → p.total ≤ k → (to ≡ length (whole_text p)) × (out ≡ sets out₀ 0 (whole_text p))
putting_last p out₀ out to k g h = (omega (arith, g.ends, ap length (texts_end p k h)), sym (g.goes ∙ ap (sets out to) (texts_end p k h)))

pub text_brief : (p : Tale) (k : ℕ) → all_short p.lengths ≡ true → k < length p.lengths → length (text_at p k) ≤ 149
unfolding text_at
text_brief p k s h = omega (arith, length-take (get_or p.lengths k 0 - 4) (drop (149 * k) p.bytes), size_brief p.lengths k s h)

-- a copy to the output's start
pub copied_front : (t l part : List ℕ) → length t ≤ length l → part ≡ t → put_mid 0 (length t - 0) l part ≡ sets l 0 t
copied_front t l part h e = in_place l t part 0 (length t - 0) (omega arith) (omega arith) e
