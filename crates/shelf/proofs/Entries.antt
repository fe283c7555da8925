-- The entries of a summary: reading one, writing one over, and a record more. Assumes nothing.
use mathlib.Core.Path.{◌≡◌, refl, sym, ap, ap₂, ◌∙◌}
use mathlib.Core.List.{List, [], ◌∷◌, ◌++◌, append-nil}
use Prim.Native.Nat.{ℕ, zero, suc, ◌+◌, ◌*◌, ◌%◌, ◌^◌, ◌<◌, ◌≤◌}
use native.Mathlib.Nat.{not-suc-le-zero, add-zero}
use native.Mathlib.Decide.{dec_lt}
use native.Mathlib.Numerals.{add-one}
use native.Mathlib.Omega.{arith}
use lib.ListN.{length, get_or, set, length-append, length-set, drop_of_length-le, get_or-append}
use lib.Dec.{eqb}
use lib.Seq.{sets, sets-eq, set-append_left, get_or-append-add, take_at, length-sets}
use borrow.Author.Tests.{eq-eqb, ne_eqb}
use Rattle.laws.proofs.Bits.{at_small}
use Rattle.laws.proofs.Elements.{by_test}
use Rattle.laws.proofs.Writes.{from_front, join}
use Rattle.shelf.specs.Record.{type_in}
use Rattle.shelf.specs.Summary.{word, word_at, record_at, count_of, last_of, entry_of, entries, summary_of, noted}

-- what is written within the first of two lists
pub sets_left : (v xs ys : List ℕ) (i : ℕ) → i + length v ≤ length xs → sets (xs ++ ys) i v ≡ sets xs i v ++ ys
sets_left [] xs ys i h = refl
sets_left (x ∷ v) xs ys i h =
    ap (λ (l : List ℕ). sets l (suc i) v) (set-append_left xs ys i x (omega arith))
    ∙ sets_left v (set xs i x) ys (suc i) (omega (arith, length-set xs i x))

module _ (f : ℕ → List ℕ) (eight : (k : ℕ) → length (f k) ≡ 8) where
  pub entries_length : (n : ℕ) → length (entries n f) ≡ 8 * n
  unfolding entries
  entries_length zero = refl
  entries_length (suc n) = length-append (entries n f) (f n) ∙ omega (arith, entries_length n, eight n)

  -- byte j of entry t
  pub entry_byte : (n t j : ℕ) → t < n → j < 8 → get_or (entries n f) (8 * t + j) 0 ≡ get_or (f t) j 0
  unfolding entries
  entry_byte zero t j h l = absurd (not-suc-le-zero h)
  entry_byte (suc n) t j h l =
      elim (dec_lt t n) [
        | yes k ↦ get_or-append (entries n f) (f n) 0 (8 * t + j) (omega (arith, entries_length n)) ∙ entry_byte n t j k l
        | no k ↦
            let e : n ≡ t = omega arith in
            let i : 8 * t + j ≡ length (entries n f) + j = omega (arith, entries_length n) in
            ap (λ (m : ℕ). get_or (entries n f ++ f n) m 0) i ∙ get_or-append-add (entries n f) (f n) j 0 ∙ ap (λ (m : ℕ). get_or (f m) j 0) e
      ]

  module _ (g : ℕ → List ℕ) where
    pub same_entries : (n : ℕ) → ((k : ℕ) → k < n → g k ≡ f k) → entries n g ≡ entries n f
    unfolding entries
    same_entries zero e = refl
    same_entries (suc n) e = ap₂ ◌++◌ (same_entries n (λ k h. e k (omega arith))) (e n (omega arith))

    -- entry t written over
    pub put_entry : (n t : ℕ) → t < n → length (g t) ≡ 8 → ((k : ℕ) → (k ≡ t → ⊥) → g k ≡ f k) → sets (entries n f) (8 * t) (g t) ≡ entries n g
    unfolding entries
    put_entry zero t h w e = absurd (not-suc-le-zero h)
    put_entry (suc n) t h w e =
        elim (dec_lt t n) [
          | yes k ↦
              sets_left (g t) (entries n f) (f n) (8 * t) (omega (arith, entries_length n))
              ∙ ap₂ ◌++◌ (put_entry n t k w e) (sym (e n (λ (q : n ≡ t). omega arith)))
          | no k ↦
              let q : t ≡ n = omega arith in
              let m : 8 * t + length (g t) ≡ length (entries n f ++ f n) = omega (arith, length-append (entries n f) (f n), entries_length n, eight n) in
              sets-eq (g t) (entries n f ++ f n) (8 * t) (omega arith)
              ∙ ap₂ (λ (x y : List ℕ). x ++ g t ++ y) (take_at (entries n f) (f n) (8 * t) (omega (arith, entries_length n))) (drop_of_length-le (entries n f ++ f n) {i = 8 * t + length (g t)} (omega arith))
              ∙ append-nil (entries n f ++ g t)
              ∙ ap₂ ◌++◌ (sym (same_entries n (λ j l. e j (λ (z : j ≡ t). omega arith)))) (ap g q)
        ]

-- ---- numbers of four bytes
pub word_length : (x : ℕ) → length (word x) ≡ 4
unfolding word
word_length x = refl

pub word_back : (x : ℕ) (rest : List ℕ) → x < 2 ^ 32 → word_at (word x ++ rest) 0 ≡ x
unfolding word word_at
word_back x rest h = omega arith

pub entry_length : (s : List ℕ) (n t : ℕ) → length (entry_of s n t) ≡ 8
unfolding entry_of word
entry_length s n t = refl

pub summary_length : (s : List ℕ) (n : ℕ) → length (summary_of s n) ≡ 256
unfolding summary_of
summary_length s n = entries_length (entry_of s n) (entry_length s n) 32

pub type_small : (r : List ℕ) → type_in r < 32
type_small r = at_small r 32 5 5 (omega arith)

-- ---- a record more
count_most : (s : List ℕ) (t n : ℕ) → count_of s t n ≤ n
unfolding count_of
count_most s t zero = omega arith
count_most s t (suc n) =
    by_test (eqb t (type_in (record_at s n))) (λ e. rw e (omega (arith, count_most s t n))) (λ e. rw e (omega (arith, count_most s t n)))

module _ (s : List ℕ) (n : ℕ) where
  -- the count in an entry, and in a summary
  entry_count : (t : ℕ) → n ≤ 4096 → word_at (entry_of s n t) 0 ≡ count_of s t n
  unfolding entry_of
  entry_count t h = word_back (count_of s t n) (word (last_of s t n)) (omega (arith, count_most s t n))

  count_stands : (t : ℕ) → n ≤ 4096 → t < 32 → word_at (summary_of s n) (8 * t) ≡ count_of s t n
  unfolding summary_of word_at
  count_stands t h k =
      let b = entry_byte (entry_of s n) (entry_length s n) 32 t in
      let e : 8 * t ≡ 8 * t + 0 = omega arith in
      let first : get_or (entries 32 (entry_of s n)) (8 * t) 0 ≡ get_or (entry_of s n t) 0 0 = ap (λ (i : ℕ). get_or (entries 32 (entry_of s n)) i 0) e ∙ b 0 k (omega arith) in
      rw (first, b 1 k (omega arith), b 2 k (omega arith), b 3 k (omega arith)) (entry_count t h)

  -- the entry of record n's type, and those of the others
  own_entry : entry_of s (suc n) (type_in (record_at s n)) ≡ word (count_of s (type_in (record_at s n)) n + 1) ++ word n
  unfolding entry_of count_of last_of
  own_entry = let t = type_in (record_at s n) in rw (eq-eqb t t refl) refl

  other_entry : (k : ℕ) → (k ≡ type_in (record_at s n) → ⊥) → entry_of s (suc n) k ≡ entry_of s n k
  unfolding entry_of count_of last_of
  other_entry k h = rw (ne_eqb k (type_in (record_at s n)) h, add-zero (count_of s k n)) refl

  written_over : sets (summary_of s n) (8 * type_in (record_at s n)) (entry_of s (suc n) (type_in (record_at s n))) ≡ summary_of s (suc n)
  unfolding summary_of
  written_over =
      put_entry (entry_of s n) (entry_length s n) (entry_of s (suc n)) 32 (type_in (record_at s n)) (type_small (record_at s n)) (entry_length s (suc n) (type_in (record_at s n))) other_entry

  pub one_more : n ≤ 4096 → noted (summary_of s n) (type_in (record_at s n)) n ≡ summary_of s (suc n)
  unfolding noted
  one_more h =
      let t = type_in (record_at s n) in
      let m = count_most s t n in
      let small : (count_of s t n + 1) % 2 ^ 32 ≡ count_of s t n + 1 = omega arith in
      ap (λ (x : ℕ). sets (summary_of s n) (8 * t) (word x ++ word n)) (ap (λ (x : ℕ). (x + 1) % 2 ^ 32) (count_stands t h (type_small (record_at s n))) ∙ small)
      ∙ ap (sets (summary_of s n) (8 * t)) (sym own_entry)
      ∙ written_over

-- ---- the summary of none, entry by entry
none_more : (k : ℕ) → entries k (entry_of [] 0) ++ (word 0 ++ word 0xFFFFFFFF) ≡ entries (suc k) (entry_of [] 0)
unfolding entries entry_of count_of last_of
none_more k = refl

none_same : (s : List ℕ) (k : ℕ) → entry_of [] 0 k ≡ entry_of s 0 k
unfolding entry_of count_of last_of
none_same s k = refl

pub record Clearing (out₀ out : List ℕ) (k : ℕ) : Type 0 where
  pub within : k ≤ 32
  pub kept : length out ≡ 256
  pub done : out ≡ sets out₀ 0 (entries k (entry_of [] 0))

pub clearing_first : (out : List ℕ) → length out ≡ 256 → Clearing out out 0
unfolding entries
clearing_first out e = record { within = omega arith; kept = e; done = refl }

pub clearing_turn : (out₀ out a b : List ℕ) (k : ℕ) → Clearing out₀ out k → k < 32 → a ≡ sets out (8 * k) (word 0) → b ≡ sets a (8 * k + 4) (word 0xFFFFFFFF) → Clearing out₀ b (k + 1)
clearing_turn out₀ out a b k g h ea eb =
    let l = entries_length (entry_of [] 0) (entry_length [] 0) k in
    let two = join out a b (word 0) (word 0xFFFFFFFF) (8 * k) (8 * k + 4) ea eb (ap (λ (n : ℕ). 8 * k + n) (sym (word_length 0))) in
    record {
      within = omega arith;
      kept = ap length two ∙ length-sets out (8 * k) (word 0 ++ word 0xFFFFFFFF) ∙ g.kept;
      done = join out₀ out b (entries k (entry_of [] 0)) (word 0 ++ word 0xFFFFFFFF) 0 (8 * k) g.done two (omega arith)
          ∙ ap (sets out₀ 0) (none_more k ∙ ap (λ (j : ℕ). entries j (entry_of [] 0)) (sym (add-one k)));
    }

pub clearing_last : (out₀ out : List ℕ) (k : ℕ) → length out₀ ≡ 256 → Clearing out₀ out k → 32 ≤ k → out ≡ summary_of [] 0
unfolding summary_of
clearing_last out₀ out k w g h =
    let m = g.within in
    let e : k ≡ 32 = omega arith in
    let l = entries_length (entry_of [] 0) (entry_length [] 0) 32 in
    g.done ∙ ap (λ (j : ℕ). sets out₀ 0 (entries j (entry_of [] 0))) e
    ∙ from_front (entries 32 (entry_of [] 0)) out₀ (omega arith)
    ∙ ap (λ (x : List ℕ). entries 32 (entry_of [] 0) ++ x) (drop_of_length-le out₀ {i = length (entries 32 (entry_of [] 0))} (omega arith))
    ∙ append-nil (entries 32 (entry_of [] 0))

pub from_none : (s : List ℕ) → summary_of [] 0 ≡ summary_of s 0
unfolding summary_of
from_none s = same_entries (entry_of s 0) (entry_length s 0) (entry_of [] 0) 32 (λ k h. none_same s k)
