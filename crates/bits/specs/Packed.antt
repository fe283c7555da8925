-- What a piece of samples gives (paper 02, K12): the bits of its symbols in order, up to the first that is refused.
use Rattle.std.specs.Prelude.{Option, Some, None, ℕ, zero, suc, ◌+◌, ◌*◌, ◌/◌, cond, List, [], ◌∷◌, length, ◌==◌, Float}
use Rattle.samples.specs.Numbers.{number_at}
use Rattle.samples.specs.Symbol.{decided}
use Rattle.samples.specs.Coding.{bit_of}
use Rattle.samples.specs.declared.Pair.{Pair}
use Rattle.refusal.specs.declared.Refusal.{Refusal}
use Rattle.refusal.specs.Refusal.{number_of}
use Rattle.bits.specs.declared.Taken.{Taken as Given}

-- n numbers of eight bytes each, from byte `at` on
unfoldable pub numbers_from : List ℕ → ℕ → ℕ → List Float
numbers_from b at zero = []
numbers_from b at (suc n) = number_at b at ∷ numbers_from b (at + 8) n

-- n symbols of 32 numbers each, from the k-th on
unfoldable pub symbols_from : List ℕ → ℕ → ℕ → List (List Float)
symbols_from b k zero = []
symbols_from b k (suc n) = numbers_from b (k * 256) 32 ∷ symbols_from b (k + 1) n

-- the whole symbols of a piece
abbrev pub symbols_in : List ℕ → List (List Float)
symbols_in b = symbols_from b 0 (length b / 256)

-- the bits of symbols behind a state, up to the first that is refused
unfoldable pub decided_bits : Pair → List (List Float) → List ℕ
decided_bits s [] = []
decided_bits s (x ∷ xs) = cond ((decided s x).answer == 0) (bit_of (decided s x).verdict ∷ decided_bits (decided s x).state xs) []

-- a state, a count of symbols and a number given back
pub record Taken : Type 0 where
  pub state : Pair
  pub symbols : ℕ
  pub answer : ℕ

-- the number of a refusal, and 0 where there is none
abbrev pub answer_for : Option Refusal → ℕ
answer_for None = 0
answer_for (Some e) = number_of e

abbrev pub told : Given → Taken
told t = record { state = t.state; symbols = t.symbols; answer = answer_for t.refusal }

-- the state behind them, how many they are with k before them, and the answer to the next, 0 where there is none
unfoldable pub taken_from : Pair → ℕ → List (List Float) → Taken
taken_from s k [] = record { state = s; symbols = k; answer = 0 }
taken_from s k (x ∷ xs) = cond ((decided s x).answer == 0) (taken_from (decided s x).state (k + 1) xs) (record { state = s; symbols = k; answer = (decided s x).answer })
