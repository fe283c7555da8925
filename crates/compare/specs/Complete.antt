-- What the list of differences is (paper 02, K9): complete, each record once and their numbers rising, those of both before those of one; and the byte
-- named is the first that differs.
use Rattle.std.specs.Prelude.{◌≡◌, ◌↔◌, Bool, true, false, ℕ, ◌<◌, ◌≤◌, get_or}
use mathlib.Core.List.{List, [], ◌∷◌, Memᴰ}
use Rattle.shelf.specs.Summary.{record_at, records_in}
use Rattle.compare.specs.Differences.{Difference, differs, only, differences}

-- the record that a line tells of
abbrev pub number_of : Difference → ℕ
number_of (differs n byte x y) = n
number_of (only right n) = n

-- byte k is the first in which two records differ, and these are its values
pub record FirstAt (a b : List ℕ) (k x y : ℕ) : Type 0 where
  pub within : k < 256
  pub on_left : x ≡ get_or a k 0
  pub on_right : y ≡ get_or b k 0
  pub apart : x ≡ y → ⊥
  pub alike : (j : ℕ) → j < k → get_or a j 0 ≡ get_or b j 0

-- each line's record has a smaller number than those of all lines behind it; so none stands twice
pub data Rising : List Difference → Type 0 where
  no_line : Rising []
  a_line : {d : Difference} {ds : List Difference} → ((e : Difference) → Memᴰ e ds → number_of d < number_of e) → Rising ds → Rising (d ∷ ds)

pub record Complete (left right : List ℕ) : Type 0 where
  -- a record of both has a line exactly where a byte differs, the first of them, and none other
  pub of_both_lem : (n k x y : ℕ) → Memᴰ (differs n k x y) (differences left right) ↔ ((n < records_in left) × (n < records_in right) × FirstAt (record_at left n) (record_at right n) k x y)
  -- there is such a byte where the records are not the same
  pub some_byte : (n : ℕ) → n < records_in left → n < records_in right → (record_at left n ≡ record_at right n → ⊥)
      → (k : ℕ) × FirstAt (record_at left n) (record_at right n) k (get_or (record_at left n) k 0) (get_or (record_at right n) k 0)
  -- a record has a line as one of one shelf exactly where it is
  pub of_left : (n : ℕ) → Memᴰ (only false n) (differences left right) ↔ ((records_in right ≤ n) × (n < records_in left))
  pub of_right : (n : ℕ) → Memᴰ (only true n) (differences left right) ↔ ((records_in left ≤ n) × (n < records_in right))
  pub rising : Rising (differences left right)
  pub both_first : (n k x y : ℕ) (q : Bool) (m : ℕ) → Memᴰ (differs n k x y) (differences left right) → Memᴰ (only q m) (differences left right) → n < m
