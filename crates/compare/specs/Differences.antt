-- What two shelves differ in (paper 02, K9): for each record that both have, the first byte that differs; and each record that only one has.
use Rattle.std.specs.Prelude.{Bool, cond, not, ◌&&◌, List, [], ◌∷◌, ◌++◌, ℕ, zero, suc, get_or, eqb, leb, ltb}
use Rattle.shelf.specs.Summary.{record_at, records_in}

-- a record of both that differs: its number, the byte, left's and right's; or one that only one shelf has: whether that is the right one, its number
pub data Difference : Type 0 where
  differs : ℕ → ℕ → ℕ → ℕ → Difference
  only : Bool → ℕ → Difference

-- whether byte i of two records differs
unfoldable pub unlike : List ℕ → List ℕ → ℕ → Bool
unlike a b i = not (eqb (get_or a i 0) (get_or b i 0))

-- the first of k numbers from i on that passes, or the number behind them where none does
unfoldable pub first_from : (ℕ → Bool) → ℕ → ℕ → ℕ
first_from f i zero = i
first_from f i (suc k) = cond (f i) i (first_from f (suc i) k)

-- the first byte that differs, counted from 0; 256 where none of a record's does
unfoldable pub first_byte : List ℕ → List ℕ → ℕ
first_byte a b = first_from (unlike a b) 0 256

-- of record n, as both have it
unfoldable pub of_both : ℕ → List ℕ → List ℕ → List Difference
of_both n a b =
    cond (eqb (first_byte a b) 256) []
    (differs n (first_byte a b) (get_or a (first_byte a b) 0) (get_or b (first_byte a b) 0) ∷ [])

-- of record n of two shelves, one of which has it
unfoldable pub of_record : List ℕ → List ℕ → ℕ → List Difference
of_record left right n =
    cond (ltb n (records_in left) && ltb n (records_in right)) (of_both n (record_at left n) (record_at right n))
    (only (leb (records_in left) n) n ∷ [])

-- of the records below n, their numbers rising
unfoldable pub below : List ℕ → List ℕ → ℕ → List Difference
below left right zero = []
below left right (suc n) = below left right n ++ of_record left right n

-- the number of records of the longer shelf
unfoldable pub longer : List ℕ → List ℕ → ℕ
longer left right = cond (ltb (records_in left) (records_in right)) (records_in right) (records_in left)

-- the whole list
unfoldable pub differences : List ℕ → List ℕ → List Difference
differences left right = below left right (longer left right)
