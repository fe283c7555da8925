-- Examples, by computation: the edges, what is no sample, and bits that are coded, sent and decided. Assumes nothing.
use mathlib.Core.Path.{◌≡◌, refl, ap}
use mathlib.Core.Bool.{true, false}
use mathlib.Core.List.{List, [], ◌∷◌, ◌++◌, map}
use native.Mathlib.Omega.{arith}
use Prim.Native.Nat.{ℕ}
use lib.ListN.{replicate, set}
use lib.IntN.{ℤ, pos, negsuc, nat_abs}
use lib.Ieee.{Float, nan, inf, binary64, of_int, of_bits}
use Rattle.laws.specs.Scan.{all}
use Rattle.laws.specs.Refusals.{first}
use Rattle.samples.specs.Whole.{is_whole, whole_of, of_whole, within}
use Rattle.samples.specs.Symbol.{is_sample, is_part, total, verdict_of, pair_of, fresh_pair, refusal, decide_cases, decide_answer, decided}
use Rattle.samples.specs.Coding.{coded, symbol_at, phased, wave_of, sent, Sendable, told, verdicts}
use Rattle.samples.specs.Numbers.{word_at, number_at}
use Rattle.samples.specs.declared.Verdict.TheVariants.{Zero, One, Undecided}

-- 32 numbers: the lowest in the first eight pairs, the highest in the last
abbrev lowest : List Float
lowest = replicate 16 (of_whole (negsuc 32767)) ++ replicate 16 (of_whole (pos 32767))

pub full : decided (pair_of (pos 524280) (negsuc 524279)) lowest ≡ record { answer = 0; verdict = Undecided (of_whole (pos 0)); state = pair_of (negsuc 524279) (negsuc 524279) }
unfolding decided decide_answer decide_cases first total verdict_of is_whole whole_of within of_int
full = refl

pub largest : decided (pair_of (negsuc 524279) (negsuc 524279)) lowest ≡ record { answer = 0; verdict = Zero (of_whole (pos 549739036800)); state = pair_of (negsuc 524279) (negsuc 524279) }
unfolding decided decide_answer decide_cases first total verdict_of is_whole whole_of within of_int
largest = refl

-- 5.0 in front, minus zeros, 32767.0 behind, as patterns
abbrev mixed : List Float
mixed = set (set (replicate 32 (of_bits binary64 0x8000000000000000)) 0 (of_bits binary64 0x4014000000000000)) 31 (of_bits binary64 0x40dfffc000000000)

pub some : decided (pair_of (negsuc 2) (pos 1)) mixed ≡ record { answer = 0; verdict = One (of_whole (negsuc 32781)); state = pair_of (pos 5) (negsuc 32766) }
unfolding decided decide_answer decide_cases first total verdict_of is_whole whole_of within of_int of_bits
some = refl

-- minus zero is a sample, and a symbol of nothing else gives plus zeros
pub minus_zeros : decided (pair_of (negsuc 2) (pos 1)) (replicate 32 (of_bits binary64 0x8000000000000000)) ≡ record { answer = 0; verdict = Undecided (of_whole (pos 0)); state = fresh_pair }
unfolding decided decide_answer decide_cases first total verdict_of is_whole whole_of within of_int of_bits
minus_zeros = refl

pub half : decided (pair_of (negsuc 2) (pos 1)) (set mixed 3 (of_bits binary64 0x3fe0000000000000)) ≡ refusal 38 (pair_of (negsuc 2) (pos 1))
unfolding decided decide_answer decide_cases first total verdict_of is_whole whole_of within of_int of_bits
half = refl

-- what is no sample: not a number, both infinities, a half, 2 ^ 53, one past each end; and the ends, which are
pub no_samples : map is_sample (nan ∷ inf false ∷ inf true ∷ of_bits binary64 0x3fe0000000000000 ∷ of_whole (pos 9007199254740992) ∷ of_whole (pos 32768) ∷ of_whole (negsuc 32768) ∷ [])
    ≡ replicate 7 false
unfolding is_whole whole_of within of_int of_bits
no_samples = refl

pub end_samples : map is_sample (of_whole (pos 32767) ∷ of_whole (negsuc 32767) ∷ []) ≡ replicate 2 true
unfolding is_whole whole_of within of_int
end_samples = refl

pub no_parts : map is_part (nan ∷ inf false ∷ inf true ∷ of_bits binary64 0x3fe0000000000000 ∷ of_whole (pos 9007199254740992) ∷ of_whole (pos 524281) ∷ of_whole (negsuc 524280) ∷ [])
    ≡ replicate 7 false
unfolding is_whole whole_of within of_int of_bits
no_parts = refl

-- two cases at once: 28 comes before 37, and 37 before 38
pub beyond : decided (pair_of (pos 524281) (pos 0)) [] ≡ refusal 28 (pair_of (pos 524281) (pos 0))
unfolding decided decide_answer decide_cases first total verdict_of is_whole whole_of within of_int of_bits
beyond = refl

pub few : decided (pair_of (pos 524280) (pos 0)) (replicate 31 nan) ≡ refusal 37 (pair_of (pos 524280) (pos 0))
unfolding decided decide_answer decide_cases first total verdict_of is_whole whole_of within of_int of_bits
few = refl

-- 5.0 as eight bytes, high first, behind one other
pub five : number_at (0xff ∷ 0x40 ∷ 0x14 ∷ replicate 6 0) 1 ≡ of_whole (pos 5)
unfolding number_at word_at of_bits of_int
five = refl

-- ---- a half-wave in the phase (3, -4)
abbrev half_wave : List ℤ
half_wave = pos 1 ∷ pos 3 ∷ pos 5 ∷ pos 6 ∷ pos 6 ∷ pos 5 ∷ pos 3 ∷ pos 1 ∷ []

abbrev wave : List ℤ
wave = wave_of half_wave (pos 3) (negsuc 3)

-- it can be sent, so `differential` speaks of something
pub sendable : Sendable wave
unfolding phased symbol_at total whole_of of_int
sendable = record { numbers = refl; samples = refl; nonzero = λ a b. let n : ◌≡◌ {A = ℕ} 180 0 = ap nat_abs a in omega arith }

-- 1, 0, 1, 1 from level 0
pub four_bits : verdicts fresh_pair (sent wave false (1 ∷ 0 ∷ 1 ∷ 1 ∷ [])) ≡ Undecided (of_whole (pos 0)) ∷ map (told 90000) (0 ∷ 1 ∷ 1 ∷ [])
unfolding verdicts coded phased symbol_at decided decide_answer decide_cases first total verdict_of is_whole whole_of within of_int
four_bits = refl
