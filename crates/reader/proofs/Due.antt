-- The least number that is due, found part by part. Assumes nothing.
use mathlib.Core.Path.{◌≡◌, refl, sym, ap, subst, ◌∙◌}
use mathlib.Core.Bool.{Bool, true, false, not, ◌&&◌, ◌||◌}
use mathlib.Core.List.{List, [], ◌∷◌}
use Prim.Native.Nat.{min, ℕ, ◌+◌, ◌*◌, ◌<◌, ◌≤◌}
use native.Mathlib.Decide.{dec_lt}
use native.Mathlib.Omega.{arith}
use lib.ListN.{length, get_or, drop, drop_of_length-le, get_or-eq_default}
use lib.Dec.{eqb, ltb}
use borrow.Author.Tests.{eq-eqb, ne_eqb, eqb-true, ltb-true, ltb-false}
use Rattle.laws.specs.Bits.{run}
use Rattle.laws.specs.Scan.{all}
use Rattle.laws.proofs.Cases.{if_yes, if_no, and_yes, and_no, or_no, and_both}
use Rattle.laws.proofs.Elements.{by_test, all_at}
use Rattle.format.specs.declared.Line.{Line}
use Rattle.format.specs.Format.{octets, times, decode, line_ok, fine, unmet}
use Rattle.packet.specs.InCode.{lines_of_each, every_line}
use Rattle.packet.proofs.Loops.{lines_cons, rows_unmet}
use Rattle.reader.specs.Due.{asked, plain, asks, passing, Judged}

-- ---- parts behind each other: F is the whole, G what is still to come
pub record Going (F G : ℕ → Bool) (d : ℕ) : Type 0 where
  pub rest : (k : ℕ) → asked k ≡ true → k < d → F k ≡ G k
  pub found : d < 255 → (asked d ≡ true) × (F d ≡ false)

pub going_first : (F : ℕ → Bool) → Going F F 255
going_first F = record { rest = λ k a l. refl; found = λ l. absurd (omega arith) }

pub going_turn : (F G H K : ℕ → Bool) (d r e : ℕ) → Going F G d → Judged H r → ((k : ℕ) → G k ≡ (H k && K k)) → e ≡ min d r → Going F K e
going_turn F G H K d r e g h s w = by_test (ltb r d) less more
  where
    less : ltb r d ≡ true → Going F K e
    less t =
        let l : r < d = ltb-true r d t in
        let x : e ≡ r = omega (arith, w, l) in
        subst (Going F K) (sym x)
        (record {
          rest = λ k a m. g.rest k a (omega arith) ∙ s k ∙ and_yes (K k) (h.fine k a m);
          found = λ m. let y = h.due m in (y.0, g.rest r y.0 l ∙ s r ∙ and_no (K r) y.1);
        })

    more : ltb r d ≡ false → Going F K e
    more t =
        let l : d ≤ r = ltb-false r d t in
        let x : e ≡ d = omega (arith, w, l) in
        subst (Going F K) (sym x) (record { rest = λ k a m. g.rest k a m ∙ s k ∙ and_yes (K k) (h.fine k a (omega arith)); found = g.found })

pub going_last : (F G : ℕ → Bool) (d : ℕ) → Going F G d → ((k : ℕ) → G k ≡ true) → Judged F d
going_last F G d g e = record { fine = λ k a l. g.rest k a l ∙ e k; due = g.found }

-- two parts
pub both : (F H W : ℕ → Bool) (r s e : ℕ) → Judged F r → Judged H s → ((k : ℕ) → asked k ≡ true → W k ≡ (F k && H k)) → e ≡ min r s → Judged W e
both F H W r s e f h w x = by_test (ltb s r) less more
  where
    less : ltb s r ≡ true → Judged W e
    less t =
        let l : s < r = ltb-true s r t in
        let y : e ≡ s = omega (arith, x, l) in
        subst (Judged W) (sym y)
        (record {
          fine = λ k a m. w k a ∙ and_yes (H k) (f.fine k a (omega arith)) ∙ h.fine k a m;
          due = λ m. let z = h.due m in (z.0, w s z.0 ∙ and_yes (H s) (f.fine s z.0 l) ∙ z.1);
        })

    more : ltb s r ≡ false → Judged W e
    more t =
        let l : r ≤ s = ltb-false s r t in
        let y : e ≡ r = omega (arith, x, l) in
        subst (Judged W) (sym y)
        (record {
          fine = λ k a m. w k a ∙ and_yes (H k) (f.fine k a m) ∙ h.fine k a (omega arith);
          due = λ m. let z = f.due m in (z.0, w r z.0 ∙ and_no (H r) z.1);
        })

pub judged_same : (F G : ℕ → Bool) (r : ℕ) → ((k : ℕ) → asked k ≡ true → F k ≡ G k) → Judged F r → Judged G r
judged_same F G r e j = record { fine = λ k a l. sym (e k a) ∙ j.fine k a l; due = λ l. let y = j.due l in (y.0, sym (e r y.0) ∙ y.1) }

pub none_due : (F : ℕ → Bool) → ((k : ℕ) → asked k ≡ true → F k ≡ true) → Judged F 255
none_due F e = record { fine = λ k a l. e k a; due = λ l. absurd (omega arith) }

-- ---- a line
pub asked_cases : {P : Type 0} (k : ℕ) → asked k ≡ true → (k ≡ 24 → P) → (k ≡ 25 → P) → (k ≡ 27 → P) → P
asked_cases k a x y z =
    by_test (eqb k 24) (λ e. x (eqb-true k 24 e))
    (λ e. by_test (eqb k 25) (λ f. y (eqb-true k 25 f)) (λ f. z (eqb-true k 27 (sym (or_no (eqb k 27) f) ∙ (sym (or_no (eqb k 25 || eqb k 27) e) ∙ a)))))

pub asked_some : (k : ℕ) → asked k ≡ true → k ≡ 0 → ⊥
asked_some k a e = asked_cases k a (λ x. omega arith) (λ x. omega arith) (λ x. omega arith)

pub asked_not : (k : ℕ) → asked k ≡ true → k ≡ 26 → ⊥
asked_not k a e = asked_cases k a (λ x. omega arith) (λ x. omega arith) (λ x. omega arith)

module _ (t : Line) (x : Bool) where
  pub line_none : t.answer ≡ 0 → Judged (passing t x) 255
  line_none e = none_due (passing t x) (λ k a. if_no _ _ (ne_eqb t.answer k (λ y. asked_some k a (sym y ∙ e))))

  pub line_fine : x ≡ true → Judged (passing t x) 255
  line_fine e = none_due (passing t x) (λ k a. by_test (eqb t.answer k) (λ y. if_yes x true y ∙ e) (λ y. if_no x true y))

  pub line_due : asks t ≡ true → (t.answer ≡ 0 → ⊥) → x ≡ false → Judged (passing t x) t.answer
  line_due q n e =
      record {
        fine = λ k a l. if_no _ _ (ne_eqb t.answer k (λ y. absurd (omega arith)));
        due = λ l. (sym (or_no _ (ne_eqb t.answer 0 n)) ∙ q, if_yes x true (eq-eqb t.answer t.answer refl) ∙ e);
      }

-- every line of the table asks so, and so does what stands past the last
every_asks : all asks every_line ≡ true
unfolding every_line lines_of_each
every_asks = refl

pub asks_at : (i : ℕ) → asks (get_or every_line i (octets 0)) ≡ true
asks_at i = elim (dec_lt i (length every_line)) [
  | yes l ↦ all_at asks every_line i (octets 0) every_asks l
  | no l ↦ ap asks (get_or-eq_default every_line (octets 0) {n = i} (omega arith))
]

-- ---- lines, t being the j-th
module _ (T : List Line) (j : ℕ) (d t : Line) (h : j < length T) (e : t ≡ get_or T j d) where
  pub lines_turn : (l : List ℕ) (p q w : ℕ) → w ≡ t.count * t.width → (a r m : ℕ) → Going (λ (k : ℕ). fine k T (decode T l p)) (λ (k : ℕ). fine k (drop j T) (decode (drop j T) l q)) a
      → Judged (λ (k : ℕ). line_ok k t (run l q t.count t.width)) r → m ≡ min a r
      → Going (λ (k : ℕ). fine k T (decode T l p)) (λ (k : ℕ). fine k (drop (j + 1) T) (decode (drop (j + 1) T) l (q + w))) m
  unfolding fine decode
  lines_turn l p q w ew a r m g i x =
      going_turn (λ (k : ℕ). fine k T (decode T l p)) (λ (k : ℕ). fine k (drop j T) (decode (drop j T) l q)) (λ (k : ℕ). line_ok k t (run l q t.count t.width))
      (λ (k : ℕ). fine k (drop (j + 1) T) (decode (drop (j + 1) T) l (q + w))) a r m g i (λ k. rw (lines_cons T j d t h e, ew)) x

module _ (T : List Line) (j : ℕ) (h : length T ≤ j) where
  pub lines_last : (l : List ℕ) (p q a : ℕ) → Going (λ (k : ℕ). fine k T (decode T l p)) (λ (k : ℕ). fine k (drop j T) (decode (drop j T) l q)) a → Judged (λ (k : ℕ). fine k T (decode T l p)) a
  unfolding fine decode
  lines_last l p q a g = going_last (λ (k : ℕ). fine k T (decode T l p)) (λ (k : ℕ). fine k (drop j T) (decode (drop j T) l q)) a g (λ k. rw (drop_of_length-le T h))

-- ---- rows of lines
pub plain_unmet : (k : ℕ) (ts : List Line) → asked k ≡ true → all plain ts ≡ true → all (unmet k) ts ≡ true
plain_unmet k [] a h = refl
plain_unmet k (t ∷ ts) a h =
    let b = and_both (plain t) (all plain ts) h in
    and_yes (all (unmet k) ts) (ap not (ne_eqb t.answer k (λ x. asked_some k a (sym x ∙ eqb-true t.answer 0 b.0)))) ∙ plain_unmet k ts a b.1

pub rows_plain : (n : ℕ) (row : List Line) (l : List ℕ) (q : ℕ) → all plain row ≡ true → Judged (λ (k : ℕ). fine k (times n row) (decode (times n row) l q)) 255
rows_plain n row l q h = none_due (λ (k : ℕ). fine k (times n row) (decode (times n row) l q)) (λ k a. rows_unmet k n row l q (plain_unmet k row a h))

-- the smaller of two is at most the first
pub min_left : (a b : ℕ) → min a b ≤ a
min_left a b = omega arith
