-- One story's texts: what is kept is there, and nothing else changed. Assumes nothing.
use mathlib.Core.Path.{◌≡◌, refl, sym, ap, ◌∙◌}
use mathlib.Core.List.{List, ◌++◌, append_assoc}
use mathlib.Core.Bool.{true, false, not}
use Prim.Native.Nat.{ℕ, ◌+◌, ◌-◌, ◌*◌, ◌≤◌, ◌<◌}
use native.Mathlib.Omega.{arith}
use lib.ListN.{length, get_or, set, take, drop, length-append, length-drop, take-append-drop, length-set, length-replicate, get_or-replicate}
use lib.Seq.{sets, sets-eq, length-sets, take_at, drop_at, drop-drop, take-append-le, drop-append-le, length-take-le, get_or-set_same, get_or-set_other}
use lib.Dec.{leb, eqb}
use borrow.Author.Tests.{ne_eqb, le-leb, leb-true, leb-false}
use Rattle.laws.specs.Scan.{all}
use Rattle.laws.proofs.Cases.{and_yes, or_yes, or_no}
use Rattle.laws.proofs.Elements.{by_test, all_at, all_set}
use Rattle.stories.specs.declared.Part.{Part}
use Rattle.stories.specs.declared.Tale.{Tale}
use Rattle.stories.specs.Tales.{zeros, fair, is_heard, text_at, with_text, taken_for}

-- ---- a window of a list that was written to beside it
module _ {A : Type 0} where
  window_before : (l vs : List A) (a n b : ℕ) → a + n ≤ b → b + length vs ≤ length l → take n (drop a (sets l b vs)) ≡ take n (drop a l)
  window_before l vs a n b h g =
      let e : sets l b vs ≡ take b l ++ (vs ++ drop (b + length vs) l) = sets-eq vs l b g ∙ append_assoc (take b l) vs (drop (b + length vs) l) in
      let x = vs ++ drop (b + length vs) l in
      let z = drop b l in
      let tl : length (take b l) ≡ b = length-take-le b l (omega arith) in
      let dl : a ≤ length (take b l) = omega arith in
      cut (sets l b vs) x e tl ∙ sym (cut l z (sym (take-append-drop b l)) tl)
    where
      cut : (m x : List A) → m ≡ take b l ++ x → length (take b l) ≡ b → take n (drop a m) ≡ take n (drop a (take b l))
      cut m x e tl =
          ap (λ (k : List A). take n (drop a k)) e
          ∙ ap (take n) (drop-append-le a (take b l) x (omega arith))
          ∙ take-append-le n (drop a (take b l)) x (omega (arith, length-drop a (take b l)))

  window_behind : (l vs : List A) (a n b : ℕ) → b + length vs ≤ a → b + length vs ≤ length l → take n (drop a (sets l b vs)) ≡ take n (drop a l)
  window_behind l vs a n b h g =
      let m = b + length vs in
      let hl : length (take b l ++ vs) ≡ m = length-append (take b l) vs ∙ ap (λ (k : ℕ). k + length vs) (length-take-le b l (omega arith)) in
      let e : drop m (sets l b vs) ≡ drop m l = ap (drop m) (sets-eq vs l b g) ∙ drop_at (take b l ++ vs) (drop m l) m hl in
      let k : m + (a - m) ≡ a = omega arith in
      ap (take n)
      (ap (λ (j : ℕ). drop j (sets l b vs)) (sym k) ∙ sym (drop-drop (a - m) m (sets l b vs)) ∙ ap (drop (a - m)) e ∙ drop-drop (a - m) m l ∙ ap (λ (j : ℕ). drop j l) k)

  window_own : (l vs : List A) (b : ℕ) → b + length vs ≤ length l → take (length vs) (drop b (sets l b vs)) ≡ vs
  window_own l vs b g =
      let e : sets l b vs ≡ take b l ++ (vs ++ drop (b + length vs) l) = sets-eq vs l b g ∙ append_assoc (take b l) vs (drop (b + length vs) l) in
      ap (λ (m : List A). take (length vs) (drop b m)) e
      ∙ ap (take (length vs)) (drop_at (take b l) (vs ++ drop (b + length vs) l) b (length-take-le b l (omega arith)))
      ∙ take_at vs (drop (b + length vs) l) (length vs) refl

-- ---- what the types give, and 28 asks for
pub record StandsFor (p : Tale) : Type 0 where
  pub nine : length p.lengths ≡ 9
  pub room : length p.bytes ≡ 1341
  pub short : all (λ (n : ℕ). leb n 153) p.lengths ≡ true
  pub low : p.held ≡ true → 1 ≤ p.total
  pub high : p.held ≡ true → p.total ≤ 9

pub shaped_fair : (p : Tale) → StandsFor p → fair p ≡ true
unfolding fair
shaped_fair p s =
    by_test p.held
    (λ t. or_no _ (ap not t) ∙ and_yes _ (le-leb 1 p.total (s.low t)) ∙ and_yes _ (le-leb p.total 9 (s.high t)) ∙ s.short)
    (λ t. or_yes _ (ap not t))

pub short_at : (p : Tale) → StandsFor p → (k : ℕ) → k < 9 → get_or p.lengths k 0 ≤ 153
short_at p s k h = leb-true _ _ (all_at (λ (n : ℕ). leb n 153) p.lengths k 0 s.short (omega (arith, s.nine)))

-- a place taken for a story
pub taken_shaped : (x : Part) → 1 ≤ x.total → x.total ≤ 9 → StandsFor (taken_for x)
unfolding zeros
taken_shaped x low high = record { nine = refl; room = length-replicate {A = ℕ} 1341 0; short = refl; low = λ t. low; high = λ t. high }

pub taken_none : (x : Part) (k : ℕ) → k < 9 → is_heard (taken_for x) k ≡ false
unfolding is_heard zeros
taken_none x k h = ap (λ (n : ℕ). not (eqb n 0)) (get_or-replicate 9 k 0 0 h)

module _ (p : Tale) (s : StandsFor p) (k : ℕ) (t : List ℕ) (h : k < 9) (g : length t ≤ 149) where
  fits : 149 * k + length t ≤ length p.bytes
  fits = omega (arith, s.room)

  own_length : get_or (set p.lengths k (4 + length t)) k 0 ≡ 4 + length t
  own_length = get_or-set_same p.lengths k (4 + length t) 0 (omega (arith, s.nine))

  pub with_heard : is_heard (with_text p k t) k ≡ true
  unfolding is_heard
  with_heard = ap not (ne_eqb (get_or (set p.lengths k (4 + length t)) k 0) 0 (λ (z : get_or (set p.lengths k (4 + length t)) k 0 ≡ 0). omega (arith, own_length)))

  pub with_text_lem : text_at (with_text p k t) k ≡ t
  unfolding text_at
  with_text_lem =
      let e : get_or (set p.lengths k (4 + length t)) k 0 - 4 ≡ length t = omega (arith, own_length) in
      ap (λ (n : ℕ). take n (drop (149 * k) (sets p.bytes (149 * k) t))) e ∙ window_own p.bytes t (149 * k) fits

  pub with_shaped : StandsFor (with_text p k t)
  with_shaped =
      record {
        nine = length-set p.lengths k (4 + length t) ∙ s.nine;
        room = length-sets p.bytes (149 * k) t ∙ s.room;
        short = all_set (λ (n : ℕ). leb n 153) p.lengths k (4 + length t) s.short (le-leb (4 + length t) 153 (omega arith));
        low = s.low;
        high = s.high;
      }

  -- the others are as they were
  module _ (j : ℕ) (f : j < 9) (ne : j ≡ k → ⊥) where
    pub other_heard : is_heard (with_text p k t) j ≡ is_heard p j
    unfolding is_heard
    other_heard = ap (λ (n : ℕ). not (eqb n 0)) (get_or-set_other p.lengths k j (4 + length t) 0 ne)

    pub other_text : text_at (with_text p k t) j ≡ text_at p j
    unfolding text_at
    other_text =
        let n = get_or p.lengths j 0 in
        let small = short_at p s j f in
        ap (λ (m : ℕ). take (m - 4) (drop (149 * j) (sets p.bytes (149 * k) t))) (get_or-set_other p.lengths k j (4 + length t) 0 ne)
        ∙ by_test (leb j k)
        (λ (u : leb j k ≡ true). window_before p.bytes t (149 * j) (n - 4) (149 * k) (omega (arith, leb-true j k u, ne, small)) fits)
        (λ (u : leb j k ≡ false). window_behind p.bytes t (149 * j) (n - 4) (149 * k) (omega (arith, leb-false j k u, g)) fits)
