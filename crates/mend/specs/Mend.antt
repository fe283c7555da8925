-- Which block is used for 26 bits that may hold a short burst (paper 02, K10).
use Rattle.std.specs.Prelude.{Option, Some, None, Bool, true, false, cond, not, ◌&&◌, ◌||◌, ℕ, zero, suc, ◌+◌, ◌/◌, ◌%◌, ◌^◌, eqb}
use Rattle.block.specs.declared.Letter.{Letter}
use Rattle.block.specs.Block.{is_valid}
use Rattle.mend.specs.declared.Mended.{Mended}

-- two numbers are the same but for the five neighbouring bits of which the lowest is bit k: below bit k they are the same, and from bit k + 5 on
unfoldable pub same_but : ℕ → ℕ → ℕ → Bool
same_but a b k = eqb (a % 2 ^ k) (b % 2 ^ k) && eqb (a / 2 ^ (k + 5)) (b / 2 ^ (k + 5))

-- for some place below bit n
unfoldable pub near : ℕ → ℕ → ℕ → Bool
near zero a b = false
near (suc k) a b = same_but a b k || near k a b

-- two numbers of 26 bits differ only within five neighbouring bits: the lowest of the five is bit 21 at most
abbrev pub within_five : ℕ → ℕ → Bool
within_five a b = near 22 a b

-- a valid block of the letter that differs from the bits only so
unfoldable pub fits : ℕ → Letter → ℕ → Bool
fits bits letter block = is_valid block letter && within_five block bits

-- what mending comes to: whether there is a block to use, whether a bit of it was changed, and it
pub record Outcome : Type 0 where
  pub found : Bool
  pub changed : Bool
  pub block : ℕ

abbrev pub nothing : Outcome
nothing = record { found = false; changed = false; block = 0 }

-- what the code gives back for it
abbrev pub told : Option Mended → Outcome
told None = nothing
told (Some m) = record { found = true; changed = m.changed; block = m.block }

-- of the numbers below n the one that fits, and whether it is another number than the bits; or nothing
unfoldable pub sought : ℕ → ℕ → Letter → Outcome
sought zero bits letter = nothing
sought (suc n) bits letter =
    cond (fits bits letter n) (record { found = true; changed = not (eqb n bits); block = n })
    (sought n bits letter)

-- of all numbers of 26 bits (`only_one`: at most one fits, so the order of the search means nothing)
unfoldable pub mended_of : ℕ → Letter → Outcome
mended_of bits letter = sought (2 ^ 26) bits letter
