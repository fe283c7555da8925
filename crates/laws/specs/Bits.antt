-- Numbers as bits and bits as numbers, the highest bit first (000, 4.1: uimsbf). A bit is the number 0 or 1.
use Rattle.std.specs.Prelude.{ℕ, zero, suc, ◌+◌, ◌*◌, ◌/◌, ◌%◌, ◌<◌, List, [], ◌∷◌, ◌++◌, length, get_or}

-- the number of w bits from place p of l; 0 past the end (000, 4.1)
unfoldable pub at : List ℕ → ℕ → ℕ → ℕ
at l p zero = 0
at l p (suc w) = at l p w * 2 + get_or l (p + w) 0

-- the w bits of x (000, 4.1)
unfoldable pub bits_of : ℕ → ℕ → List ℕ
bits_of zero x = []
bits_of (suc w) x = bits_of w (x / 2) ++ (x % 2 ∷ [])

-- n numbers of w bits each, from place p on (000, 4.1)
unfoldable pub run : List ℕ → ℕ → ℕ → ℕ → List ℕ
run l p zero w = []
run l p (suc n) w = at l p w ∷ run l (p + w) n w

-- the bits of numbers of w bits each (000, 4.1)
unfoldable pub spread : ℕ → List ℕ → List ℕ
spread w [] = []
spread w (x ∷ xs) = bits_of w x ++ spread w xs

-- the bits of bytes (000, 4.1)
abbrev pub bits : List ℕ → List ℕ
bits b = spread 8 b

-- the bytes of bits, eight to a byte; what is left over is none (000, 4.1)
abbrev pub bytes : List ℕ → List ℕ
bytes l = run l 0 (length l / 8) 8

-- each element is below k: below 2 of bits, below 256 of bytes (ours: what the types give)
abbrev pub Under : ℕ → List ℕ → Type 0
Under k l = (i : ℕ) → get_or l i 0 < k
