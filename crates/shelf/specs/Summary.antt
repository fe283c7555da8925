-- The summary of a shelf (paper 02, K6): 32 entries of eight bytes, one per type, each how many and the last record's number from 0.
use Rattle.std.specs.Prelude.{cond, List, [], ◌∷◌, ◌++◌, ℕ, zero, suc, ◌+◌, ◌*◌, ◌/◌, ◌%◌, ◌^◌, length, get_or, take, drop, eqb}
use Rattle.std.proofs.lemmas.List.Edits.{sets}
use Rattle.shelf.specs.Record.{type_in}

-- four bytes, high first
unfoldable pub word : ℕ → List ℕ
word x = x / 2 ^ 24 ∷ x / 2 ^ 16 % 2 ^ 8 ∷ x / 2 ^ 8 % 2 ^ 8 ∷ x % 2 ^ 8 ∷ []

-- the number of four bytes from a byte on
unfoldable pub word_at : List ℕ → ℕ → ℕ
word_at m i = ((get_or m i 0 * 2 ^ 8 + get_or m (i + 1) 0) * 2 ^ 8 + get_or m (i + 2) 0) * 2 ^ 8 + get_or m (i + 3) 0

-- record i of a shelf
abbrev pub record_at : List ℕ → ℕ → List ℕ
record_at shelf i = take 256 (drop (256 * i) shelf)

-- how many records a shelf of whole ones has
abbrev pub records_in : List ℕ → ℕ
records_in shelf = length shelf / 256

-- how many of the first n records have the type
unfoldable pub count_of : List ℕ → ℕ → ℕ → ℕ
count_of shelf type zero = 0
count_of shelf type (suc n) = count_of shelf type n + cond (eqb type (type_in (record_at shelf n))) 1 0

-- the number of the last of them; 0xFFFFFFFF where there is none
unfoldable pub last_of : List ℕ → ℕ → ℕ → ℕ
last_of shelf type zero = 0xFFFFFFFF
last_of shelf type (suc n) = cond (eqb type (type_in (record_at shelf n))) n (last_of shelf type n)

-- the entry of a type over the first n records
unfoldable pub entry_of : List ℕ → ℕ → ℕ → List ℕ
entry_of shelf n type = word (count_of shelf type n) ++ word (last_of shelf type n)

-- the entries of the types below k
unfoldable pub entries : ℕ → (ℕ → List ℕ) → List ℕ
entries zero f = []
entries (suc k) f = entries k f ++ f k

-- the summary of the first n records
unfoldable pub summary_of : List ℕ → ℕ → List ℕ
summary_of shelf n = entries 32 (entry_of shelf n)

-- what adding rewrites: the type's count plus one modulo 2^32, and the last number
unfoldable pub noted : List ℕ → ℕ → ℕ → List ℕ
noted summary type number = sets summary (8 * type) (word ((word_at summary (8 * type) + 1) % 2 ^ 32) ++ word number)
