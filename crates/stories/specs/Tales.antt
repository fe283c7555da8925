-- The parts of one story that a board has heard (the pier board). An array is the list of its elements.
use Rattle.std.specs.Prelude.{ℕ, zero, suc, ◌+◌, ◌-◌, ◌*◌, List, [], ◌++◌, Bool, true, false, cond, not, ◌&&◌, ◌||◌, length, get_or, set, take, drop, replicate, leb, eqb}
use Rattle.std.proofs.lemmas.List.Edits.{sets}
use Rattle.laws.specs.Below.{below}
use Rattle.laws.specs.Scan.{all}
use Rattle.laws.specs.Lists.{same}
use Rattle.stories.specs.declared.Part.{Part}
use Rattle.stories.specs.declared.Tale.{Tale}

-- n zeros, shut
unfoldable pub zeros : ℕ → List ℕ
zeros n = replicate n 0

-- a place that was never taken
abbrev pub untold : Tale
untold = record { held = false; number = zeros 35; total = 0; lengths = zeros 9; bytes = zeros 1341 }

-- what stands for the place of a story that no place is held for
abbrev pub blank : Tale
blank = record { held = false; number = []; total = 0; lengths = []; bytes = [] }

-- held for the story that x is a part of: the same number of part 1, the same total
unfoldable pub is_story : Part → Tale → Bool
is_story x p = p.held && (same p.number x.number && eqb p.total x.total)

-- 28 asks this of a held place: a total of 1 to 9, and no body longer than a packet's can be
unfoldable pub fair : Tale → Bool
fair p = not p.held || (leb 1 p.total && (leb p.total 9 && all (λ (n : ℕ). leb n 153) p.lengths))

-- ---- its parts: the length of each body, 0 where the part was not heard, and room for 149 bytes of text
unfoldable pub is_heard : Tale → ℕ → Bool
is_heard p k = not (eqb (get_or p.lengths k 0) 0)

-- the text of the part with k before it
unfoldable pub text_at : Tale → ℕ → List ℕ
text_at p k = take (get_or p.lengths k 0 - 4) (drop (149 * k) p.bytes)

-- that part was heard, with this text
unfoldable pub holds_text : Tale → ℕ → List ℕ → Bool
holds_text p k t = is_heard p k && same (text_at p k) t

-- or with another
unfoldable pub contradicts : Tale → ℕ → List ℕ → Bool
contradicts p k t = is_heard p k && not (same (text_at p k) t)

-- every part was heard
unfoldable pub is_whole : Tale → Bool
is_whole p = below p.total (is_heard p)

-- the texts of m parts from the one with k before it on
unfoldable pub texts_from : Tale → ℕ → ℕ → List ℕ
texts_from p k zero = []
texts_from p k (suc m) = text_at p k ++ texts_from p (k + 1) m

-- the text of all parts
abbrev pub whole_text : Tale → List ℕ
whole_text p = texts_from p 0 p.total

-- ---- a place changes
-- taken for the story of x: zeroed, no part
abbrev pub taken_for : Part → Tale
taken_for x = record { held = true; number = x.number; total = x.total; lengths = zeros 9; bytes = zeros 1341 }

-- the part with k before it is kept
abbrev pub with_text : Tale → ℕ → List ℕ → Tale
with_text p k t =
    record {
      held = p.held;
      number = p.number;
      total = p.total;
      lengths = set p.lengths k (4 + length t);
      bytes = sets p.bytes (149 * k) t;
    }

-- a part of another text begins the story afresh, and so does the first part of a story that is not held
unfoldable pub opened : Tale → Part → List ℕ → Tale
opened p x t = cond (p.held && not (contradicts p x.place t)) p (taken_for x)
