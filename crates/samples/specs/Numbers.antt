-- A number as eight bytes, high first (paper 02, K12).
use Rattle.std.specs.Prelude.{List, ℕ, zero, suc, ◌+◌, ◌*◌, get_or, Float}
use Rattle.std.specs.Float.{binary64}
use Rattle.std.specs.Float.Ieee.{of_bits}

-- the number of k bytes from `at` on; a byte that is not there is 0
unfoldable pub word_at : List ℕ → ℕ → ℕ → ℕ
word_at b at zero = 0
word_at b at (suc k) = word_at b at k * 256 + get_or b (at + k) 0

-- the float whose pattern stands there
unfoldable pub number_at : List ℕ → ℕ → Float
number_at b at = of_bits binary64 (word_at b at 8)
