-- The order of refusals (paper 01, "Numbers given back"): a list of cases with their numbers, of which the first that holds is answered.
use Rattle.std.specs.Prelude.{Bool, true, false, cond, not, ◌&&◌, ◌||◌, List, [], ◌∷◌, ℕ, get_or, eqb}

-- whether the case holds, and the number that it is answered with (01, Numbers given back)
abbrev pub Case : Type 0
Case = Bool × ℕ

-- the number of the first case that holds; 0, done, where none does (01, Numbers given back)
unfoldable pub first : List Case → ℕ
first [] = 0
first (c ∷ cs) = cond c.0 c.1 (first cs)

-- no case holds (01, Numbers given back)
unfoldable pub none : List Case → Bool
none [] = true
none (c ∷ cs) = not c.0 && none cs

-- some case has this number (01, Numbers given back)
unfoldable pub among : ℕ → List Case → Bool
among n [] = false
among n (c ∷ cs) = eqb n c.1 || among n cs

-- no number stands twice, and none is 0 (01, Numbers given back)
unfoldable pub apart : List Case → Bool
apart [] = true
apart (c ∷ cs) = (not (eqb c.1 0) && not (among c.1 cs)) && apart cs

-- the case at place k of the list (01, Numbers given back)
abbrev pub case_at : List Case → ℕ → Case
case_at cs k = get_or cs k (false, 0)
