-- A board that hears frames one after the other, and packets sent back to back (the pier board).
use Rattle.std.specs.Prelude.{ℕ, ◌+◌, ◌*◌, ◌%◌, List, [], ◌∷◌, ◌++◌, cond, length, take, eqb}
use Rattle.air.specs.OnAir.{aired_of, aired_into}
use Rattle.board.specs.declared.Board.{Board}
use Rattle.board.specs.Board.{heard_of, heard_output}

-- ---- on air
-- the bytes that the on-air writer writes of a packet, lent so much
abbrev pub air_of : List ℕ → List ℕ → ℕ → ℕ → List ℕ
air_of lent p l v = take (13 * (aired_of p l v lent).frames) (aired_into p l v lent)

-- packets back to back at one level, versions rising modulo 32
unfoldable pub back_to_back : List ℕ → ℕ → ℕ → List (List ℕ) → List ℕ
back_to_back lent l v [] = []
back_to_back lent l v (p ∷ ps) = air_of lent p l (v % 32) ++ back_to_back lent l (v + 1) ps

-- ---- at the board
-- the board once it heard them all
unfoldable pub hear_all : ℕ → Board → List (List ℕ) → Board
hear_all room b [] = b
hear_all room b (f ∷ fs) = hear_all room (heard_of b f room).board fs

-- the texts that it showed, in their order
unfoldable pub shown_all : List ℕ → Board → List (List ℕ) → List (List ℕ)
shown_all out b [] = []
shown_all out b (f ∷ fs) =
    cond (eqb (heard_of b f (length out)).answer 1) (take (heard_of b f (length out)).length (heard_output b f out) ∷ []) []
    ++ shown_all out (heard_of b f (length out)).board fs
