-- A packet read back from the hex of a record's line (paper 02, K6).
use Rattle.std.specs.Prelude.{cond, List, [], ◌∷◌, ℕ, ◌+◌, ◌-◌, ◌*◌, length, take, drop, ltb}
use Rattle.print.specs.Records.{front}
use Rattle.shelf.specs.Record.{level_in, version_in, packet_in}
use Rattle.shelf.specs.Shelf.{line_in}

-- the number of a character 0 to 9, A to F
unfoldable pub digit_of : ℕ → ℕ
digit_of c = cond (ltb c 58) (c - 48) (c - 55)

-- a byte of every two characters, the high half first
unfoldable pub bytes_of : List ℕ → List ℕ
bytes_of [] = []
bytes_of (a ∷ []) = []
bytes_of (a ∷ b ∷ l) = (digit_of a * 16 + digit_of b) ∷ bytes_of l

-- the hex of a record's line: what stands behind level, version and P and their spaces, but for the line's end
unfoldable pub hex_in : List ℕ → List ℕ
hex_in r = take (2 * length (packet_in r)) (drop (length (front (level_in r) (version_in r) (length (packet_in r)))) (line_in r))
