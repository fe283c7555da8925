-- The characters of a text in set 0, and how they are dealt out to parts (paper 02, K1).
use Rattle.std.specs.Prelude.{ℕ, ◌-◌, List, [], ◌∷◌, ◌++◌, Bool, true, false, cond, length, leb}

-- a byte that is one character with the byte after it
abbrev pub wide : ℕ → Bool
wide x = leb 0x80 x

-- the characters, each as its one or two bytes; a wide byte at the end that has no byte after it stands alone
unfoldable pub characters : List ℕ → List (List ℕ)
characters [] = []
characters (x ∷ []) = (x ∷ []) ∷ []
characters (x ∷ y ∷ l) = cond (wide x) ((x ∷ y ∷ []) ∷ characters l) ((x ∷ []) ∷ characters (y ∷ l))

-- 30: the last byte is wide and belongs to no character
unfoldable pub lone : List ℕ → Bool
lone [] = false
lone (x ∷ []) = wide x
lone (x ∷ y ∷ l) = cond (wide x) (lone l) (lone (y ∷ l))

-- ---- dealing out
-- the first part gets the character c before what it has
abbrev pub onto : List ℕ → List (List ℕ) → List (List ℕ)
onto c [] = c ∷ []
onto c (p ∷ ps) = (c ++ p) ∷ ps

-- c belongs to the part at hand where it fits, else the part at hand ends and c begins the next: each part takes all the whole characters that fit
abbrev pub place : Bool → List ℕ → List (List ℕ) → List (List ℕ)
place true c ps = onto c ps
place false c ps = [] ∷ onto c ps

-- the room that is left behind c, where r is the room of a part and k what is left of it
abbrev pub after : Bool → ℕ → ℕ → List ℕ → ℕ
after true r k c = k - length c
after false r k c = r - length c

-- the texts of the parts: the first has room for k more bytes, each after it for r
unfoldable pub deal : ℕ → ℕ → List (List ℕ) → List (List ℕ)
deal r k [] = [] ∷ []
deal r k (c ∷ cs) = place (leb (length c) k) c (deal r (after (leb (length c) k) r k c) cs)

-- the texts of the parts of a text, each with room for r bytes; an empty text is one part
unfoldable pub parted : ℕ → List ℕ → List (List ℕ)
parted r text = deal r r (characters text)
