-- From samples to bits, over the whole numbers (paper 02, K12).
use Rattle.std.specs.Prelude.{Result, Ok, Err, ℕ, zero, suc, ◌+◌, ◌*◌, Bool, cond, not, ◌&&◌, List, [], ◌∷◌, length, get_or, eqb, ℤ, pos, negsuc, ◌+ℤ◌, ◌-ℤ◌, ◌*ℤ◌, Float}
use Rattle.std.specs.Float.{nan}
use Rattle.laws.specs.Scan.{all}
use Rattle.laws.specs.Refusals.{Case, first}
use Rattle.samples.specs.Whole.{whole_of, of_whole, within}
use Rattle.samples.specs.declared.Pair.{Pair}
use Rattle.samples.specs.declared.Verdict.{Verdict}
use Rattle.samples.specs.declared.Verdict.TheVariants.{Zero, One, Undecided}
use Rattle.refusal.specs.declared.Refusal.{Refusal}
use Rattle.refusal.specs.Refusal.{number_of}
use Rattle.samples.specs.declared.Decided.{Decided as Given}

-- a whole number from -32768 to 32767
abbrev pub is_sample : Float → Bool
is_sample x = within (negsuc 32767) (pos 32767) x

-- a whole number of at most 524,280 either way
abbrev pub is_part : Float → Bool
is_part x = within (negsuc 524279) (pos 524280) x

abbrev pub is_pair : Pair → Bool
is_pair p = is_part p.inphase && is_part p.quadrature

-- the sum of n numbers, every second from `at` on: in phase from an even place, quadrature from an odd one
unfoldable pub total : List Float → ℕ → ℕ → ℤ
total xs at zero = pos 0
total xs at (suc n) = total xs at n +ℤ whole_of (get_or xs (at + 2 * n) nan)

-- one number of the symbol's pair: the first eight less the last eight
abbrev pub part : List Float → ℕ → ℤ
part xs at = total xs at 8 -ℤ total xs (at + 16) 8

-- the dot product of two pairs
abbrev pub product : ℤ → ℤ → ℤ → ℤ → ℤ
product i q i' q' = i *ℤ i' +ℤ q *ℤ q'

-- above zero is bit 0, below is bit 1, zero is undecided; each with its product, a zero as plus zero
unfoldable pub verdict_of : ℤ → Verdict
verdict_of (pos zero) = Undecided (of_whole (pos 0))
verdict_of (pos (suc n)) = Zero (of_whole (pos (suc n)))
verdict_of (negsuc n) = One (of_whole (negsuc n))

abbrev pub pair_of : ℤ → ℤ → Pair
pair_of i q = record { inphase = of_whole i; quadrature = of_whole q }

-- before the first symbol: the previous pair is zero
abbrev pub fresh_pair : Pair
fresh_pair = pair_of (pos 0) (pos 0)

-- the refusals in their order: 28, a previous pair not whole or too large; 37, not 32 numbers; 38, a number that is no sample
unfoldable pub decide_cases : Pair → List Float → List Case
decide_cases state xs = (not (is_pair state), 28) ∷ (not (eqb (length xs) 32), 37) ∷ (not (all is_sample xs), 38) ∷ []

unfoldable pub decide_answer : Pair → List Float → ℕ
decide_answer state xs = first (decide_cases state xs)

-- a number given back, a verdict and a state
pub record Decided : Type 0 where
  pub answer : ℕ
  pub verdict : Verdict
  pub state : Pair

-- refused: the state stays, and the verdict is undecided with plus zero
abbrev pub refusal : ℕ → Pair → Decided
refusal n state = record { answer = n; verdict = Undecided (of_whole (pos 0)); state = state }

-- what a result tells, where it was asked with a state
abbrev pub told : Pair → Result Given Refusal → Decided
told state (Ok d) = record { answer = 0; verdict = d.verdict; state = d.state }
told state (Err e) = refusal (number_of e) state

-- taken: the symbol's pair is the next state, and its product with the previous one decides
abbrev pub taken : Pair → List Float → Decided
taken state xs = record {
  answer = 0;
  verdict = verdict_of (product (whole_of state.inphase) (whole_of state.quadrature) (part xs 0) (part xs 1));
  state = pair_of (part xs 0) (part xs 1);
}

unfoldable pub decided : Pair → List Float → Decided
decided state xs = cond (eqb (decide_answer state xs) 0) (taken state xs) (refusal (decide_answer state xs) state)
