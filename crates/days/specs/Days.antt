-- The days of a month, by the Gregorian leap rule, for every year from 0 (01, Packet, type 3).
use Rattle.std.specs.Prelude.{Bool, cond, not, ◌&&◌, ◌||◌, ℕ, ◌%◌, eqb}

unfoldable pub leap : ℕ → Bool
leap year = eqb (year % 4) 0 && (not (eqb (year % 100) 0) || eqb (year % 400) 0)

-- 28 to 31
unfoldable pub days_in : ℕ → ℕ → ℕ
days_in year month =
    cond (eqb month 2) (cond (leap year) 29 28)
    (cond (eqb month 4 || (eqb month 6 || (eqb month 9 || eqb month 11))) 30
    31)
