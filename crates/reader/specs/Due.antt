-- The least number that lines are due, as the functions under the packet reader find it (ours, between functions).
use Rattle.std.specs.Prelude.{◌≡◌, Bool, true, false, cond, ◌||◌, ℕ, ◌<◌, eqb}
use Rattle.format.specs.declared.Line.{Line}

-- the numbers that a line of the table can be due (01, Numbers given back)
abbrev pub asked : ℕ → Bool
asked k = eqb k 24 || (eqb k 25 || eqb k 27)

-- a line is never due any
abbrev pub plain : Line → Bool
plain t = eqb t.answer 0

-- or it is due one of them
abbrev pub asks : Line → Bool
asks t = plain t || asked t.answer

-- what a line's numbers pass that are as it says, or not
abbrev pub passing : Line → Bool → ℕ → Bool
passing t x k = cond (eqb t.answer k) x true

-- the answer where so much is due: it, or 27 for the day
abbrev pub answer_by : ℕ → Bool → ℕ
answer_by d day = cond (eqb d 255) (cond day 27 0) d

-- r is the least of these numbers whose test fails, and 255 where none does
pub record Judged (passes : ℕ → Bool) (r : ℕ) : Type 0 where
  pub fine : (k : ℕ) → asked k ≡ true → k < r → passes k ≡ true
  pub due : r < 255 → (asked r ≡ true) × (passes r ≡ false)
