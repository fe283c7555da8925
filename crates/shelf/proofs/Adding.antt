-- What adding does to a summary: it stays that of the shelf, and only the entry of the record's type is rewritten. Assumes nothing.
use mathlib.Core.Path.{◌≡◌, refl, sym, ap, ap₂, ◌∙◌}
use mathlib.Core.Logic.{◌⊎◌, inl, inr}
use mathlib.Core.Bool.{true, cond, not, ◌&&◌}
use mathlib.Core.List.{List, [], ◌∷◌, ◌++◌}
use Prim.Native.Nat.{ℕ, zero, suc, ◌+◌, ◌*◌, ◌/◌, ◌%◌, ◌^◌, ◌<◌, ◌≤◌}
use native.Mathlib.Omega.{arith}
use lib.ListN.{length, get_or, set, take, drop, length-append, length-drop}
use lib.Dec.{eqb, leb}
use lib.Seq.{sets, get_or-set_other, take-append-le, drop-append-le, drop_at, take_all}
use borrow.Author.Tests.{eq-eqb, ne_eqb, eqb-true, eqb-false, not-false}
use Rattle.laws.proofs.Cases.{if_yes, if_no, and_both}
use Rattle.laws.proofs.Elements.{by_test}
use Rattle.laws.proofs.Refusals.{not_due}
use Rattle.shelf.specs.Record.{type_in, right}
use Rattle.shelf.specs.Summary.{word, word_at, record_at, records_in, count_of, last_of, entry_of, summary_of, noted}
use Rattle.shelf.specs.Shelf.{whole, all_right, add_cases, add_answer, added}
use Rattle.shelf.proofs.Rules.{at_most}
use Rattle.shelf.proofs.Entries.{entry_length, same_entries, one_more}

-- what is stored from a byte on leaves the bytes before and behind it
before : (v l : List ℕ) (i j : ℕ) → j < i → get_or (sets l i v) j 0 ≡ get_or l j 0
before [] l i j h = refl
before (x ∷ v) l i j h = before v (set l i x) (suc i) j (omega arith) ∙ get_or-set_other l i j x 0 (λ (q : j ≡ i). omega arith)

behind : (v l : List ℕ) (i j : ℕ) → i + length v ≤ j → get_or (sets l i v) j 0 ≡ get_or l j 0
behind [] l i j h = refl
behind (x ∷ v) l i j h = behind v (set l i x) (suc i) j (omega arith) ∙ get_or-set_other l i j x 0 (λ (q : j ≡ i). omega arith)

-- what an answer of 0 says of the shelf, the record and the summary
pub record Taken (s r m : List ℕ) : Type 0 where
  pub shelf : whole s ≡ true
  pub long : length r ≡ 256
  pub wide : length m ≡ 256
  pub each : all_right s ≡ true
  pub kept : right r ≡ true
  pub room : records_in s ≡ 4096 → ⊥

apart : (m : List ℕ) (t n j : ℕ) → (j < 8 * t) ⊎ (8 * t + 8 ≤ j) → get_or (noted m t n) j 0 ≡ get_or m j 0
unfolding noted word
apart m t n j (inl h) = before (word ((word_at m (8 * t) + 1) % 2 ^ 32) ++ word n) m (8 * t) j h
apart m t n j (inr h) = behind (word ((word_at m (8 * t) + 1) % 2 ^ 32) ++ word n) m (8 * t) j h

parts : (s : List ℕ) → whole s ≡ true → length s % 256 ≡ 0
unfolding whole
parts s e = eqb-true (length s % 256) 0 (and_both (eqb (length s % 256) 0) (leb (records_in s) 4096) e).0

module _ (s r m : List ℕ) where
  pub taken : add_answer s r m ≡ 0 → Taken s r m
  unfolding add_answer add_cases
  taken e =
      let a = not_due (not (whole s && (eqb (length r) 256 && eqb (length m) 256))) 34 _ (λ (z : 34 ≡ 0). omega arith) e in
      let b = not_due (not (all_right s && right r)) 35 _ (λ (z : 35 ≡ 0). omega arith) a.1 in
      let c = not_due (eqb (records_in s) 4096) 36 [] (λ (z : 36 ≡ 0). omega arith) b.1 in
      let f = and_both (whole s) (eqb (length r) 256 && eqb (length m) 256) (not-false _ a.0) in
      let g = and_both (eqb (length r) 256) (eqb (length m) 256) f.1 in
      let h = and_both (all_right s) (right r) (not-false _ b.0) in
      record {
        shelf = f.0;
        long = eqb-true (length r) 256 g.0;
        wide = eqb-true (length m) 256 g.1;
        each = h.0;
        kept = h.1;
        room = eqb-false (records_in s) 4096 c.0;
      }

  -- A refusal leaves the summary as it was.
  pub add_refused_unchanged : (add_answer s r m ≡ 0 → ⊥) → added s r m ≡ m
  unfolding added
  add_refused_unchanged h = if_no _ _ (ne_eqb (add_answer s r m) 0 h)

  is_noted : add_answer s r m ≡ 0 → added s r m ≡ noted m (type_in r) (records_in s)
  unfolding added
  is_noted e = if_yes _ _ (eq-eqb (add_answer s r m) 0 e)

  -- The other 31 entries are untouched, whatever they held: no byte changes but the eight of the record's type.
  pub only_its_entry : (j : ℕ) → (j < 8 * type_in r) ⊎ (8 * type_in r + 8 ≤ j) → get_or (added s r m) j 0 ≡ get_or m j 0
  only_its_entry j h =
      by_test (eqb (add_answer s r m) 0)
      (λ t. ap (λ (l : List ℕ). get_or l j 0) (is_noted (eqb-true (add_answer s r m) 0 t)) ∙ apart m (type_in r) (records_in s) j h)
      (λ t. ap (λ (l : List ℕ). get_or l j 0) (add_refused_unchanged (eqb-false (add_answer s r m) 0 t)))

-- ---- a record behind a shelf
module _ (s r : List ℕ) (n : ℕ) (e : length s ≡ 256 * n) where
  at_front : (i : ℕ) → i < n → record_at (s ++ r) i ≡ record_at s i
  at_front i h =
      ap (take 256) (drop-append-le (256 * i) s r (omega arith))
      ∙ take-append-le 256 (drop (256 * i) s) r (omega (arith, length-drop (256 * i) s))

  pub at_end : length r ≡ 256 → record_at (s ++ r) n ≡ r
  at_end k = ap (take 256) (drop_at s r (256 * n) e) ∙ take_all 256 r (omega arith)

  pub records_more : length r ≡ 256 → records_in (s ++ r) ≡ suc n
  records_more k = ap (λ (l : ℕ). l / 256) (length-append s r) ∙ omega arith

  count_same : (t k : ℕ) → k ≤ n → count_of (s ++ r) t k ≡ count_of s t k
  unfolding count_of
  count_same t zero h = refl
  count_same t (suc k) h =
      ap₂ (λ (c : ℕ) (x : List ℕ). c + cond (eqb t (type_in x)) 1 0) (count_same t k (omega arith)) (at_front k (omega arith))

  last_same : (t k : ℕ) → k ≤ n → last_of (s ++ r) t k ≡ last_of s t k
  unfolding last_of
  last_same t zero h = refl
  last_same t (suc k) h =
      ap₂ (λ (c : ℕ) (x : List ℕ). cond (eqb t (type_in x)) k c) (last_same t k (omega arith)) (at_front k (omega arith))

  entry_same : (t : ℕ) → entry_of (s ++ r) n t ≡ entry_of s n t
  unfolding entry_of
  entry_same t = ap₂ (λ (c l : ℕ). word c ++ word l) (count_same t n (omega arith)) (last_same t n (omega arith))

  summary_same : summary_of (s ++ r) n ≡ summary_of s n
  unfolding summary_of
  summary_same = same_entries (entry_of s n) (entry_length s n) (entry_of (s ++ r) n) 32 (λ t h. entry_same t)

  pub summary_behind : length r ≡ 256 → n ≤ 4096 → noted (summary_of s n) (type_in r) n ≡ summary_of (s ++ r) (records_in (s ++ r))
  summary_behind k h =
      ap₂ (λ (m x : List ℕ). noted m (type_in x) n) (sym summary_same) (sym (at_end k))
      ∙ one_more (s ++ r) n h
      ∙ ap (summary_of (s ++ r)) (sym (records_more k))

-- If the summary was that of the shelf, then after adding it is that of the shelf with the record behind it.
pub summary_agrees : (s r m : List ℕ) → add_answer s r m ≡ 0 → m ≡ summary_of s (records_in s) → added s r m ≡ summary_of (s ++ r) (records_in (s ++ r))
summary_agrees s r m e a =
    let t = taken s r m e in
    let w = parts s t.shelf in
    is_noted s r m e
    ∙ ap (λ (x : List ℕ). noted x (type_in r) (records_in s)) a
    ∙ summary_behind s r (records_in s) (omega arith) t.long (at_most s t.shelf)
