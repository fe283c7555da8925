-- A part of a list of bytes.
use Rattle.std.specs.Prelude.{ℕ, List, take, drop}

-- k bytes from a byte on, as many as there are: what is handed back as a part of what is lent
abbrev pub part_of : List ℕ → ℕ → ℕ → List ℕ
part_of b from k = take k (drop from b)
