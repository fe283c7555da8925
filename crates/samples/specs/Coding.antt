-- Differential coding (004, 1.5), sent as symbols of one phase, and the bits that verdicts give (paper 02, K12).
use Rattle.std.specs.Prelude.{◌≡◌, Bool, true, false, not, List, [], ◌∷◌, ◌++◌, map, ℕ, zero, suc, ◌+◌, ◌*◌, leb, length, replicate, ℤ, pos, neg_ℤ, nat_abs, ◌*ℤ◌, Float}
use Rattle.laws.specs.Scan.{all}
use Rattle.samples.specs.Whole.{of_whole}
use Rattle.samples.specs.Symbol.{part, fresh_pair, decided}
use Rattle.samples.specs.declared.Pair.{Pair}
use Rattle.samples.specs.declared.Verdict.{Verdict}
use Rattle.samples.specs.declared.Verdict.TheVariants.{Zero, One, Undecided}

-- the levels that bits are coded as, behind the level before them: 0 leaves the level as it was, 1 turns it (004, 1.5)
unfoldable pub coded : Bool → List ℕ → List Bool
coded before [] = []
coded before (zero ∷ bits) = before ∷ coded before bits
coded before (suc _ ∷ bits) = not before ∷ coded (not before) bits

abbrev pub turned : Bool → ℤ → ℤ
turned false z = z
turned true z = neg_ℤ z

-- the samples of a level: those of one, or each of them turned
unfoldable pub symbol_at : List ℤ → Bool → List Float
symbol_at wave level = map (λ z. of_whole (turned level z)) wave

-- whole samples in the phase of a pair: each times both of its numbers
unfoldable pub phased : List ℤ → ℤ → ℤ → List ℤ
phased [] i q = []
phased (w ∷ ws) i q = (w *ℤ i) ∷ (w *ℤ q) ∷ phased ws i q

-- a half-wave, then the same turned (004, 1.3: two-phase)
abbrev pub wave_of : List ℤ → ℤ → ℤ → List ℤ
wave_of half i q = phased (half ++ map neg_ℤ half) i q

-- the symbols that bits are sent as
abbrev pub sent : List ℤ → Bool → List ℕ → List (List Float)
sent wave before bits = map (symbol_at wave) (coded before bits)

-- 32 numbers that are samples turned or not, and whose pair is not zero
pub record Sendable (wave : List ℤ) : Type 0 where
  pub numbers : length wave ≡ 32
  pub samples : all (λ z. leb (nat_abs z) 32767) wave ≡ true
  pub nonzero : part (symbol_at wave false) 0 ≡ pos 0 → part (symbol_at wave false) 1 ≡ pos 0 → ⊥

-- what is answered to symbols, one after the other
unfoldable pub answers : Pair → List (List Float) → List ℕ
answers state [] = []
answers state (xs ∷ rest) = (decided state xs).answer ∷ answers (decided state xs).state rest

-- and their verdicts
unfoldable pub verdicts : Pair → List (List Float) → List Verdict
verdicts state [] = []
verdicts state (xs ∷ rest) = (decided state xs).verdict ∷ verdicts (decided state xs).state rest

-- the dot product of the wave's pair with itself
unfoldable pub strength : List ℤ → ℕ
strength wave = nat_abs (part (symbol_at wave false) 0) * nat_abs (part (symbol_at wave false) 0) + nat_abs (part (symbol_at wave false) 1) * nat_abs (part (symbol_at wave false) 1)

-- the verdict on a bit that is sent with such a product: as it is for 0, turned for 1
abbrev pub told : ℕ → ℕ → Verdict
told n zero = Zero (of_whole (pos n))
told n (suc _) = One (of_whole (neg_ℤ (pos n)))

-- the bit that is packed for a verdict: an undecided one as 0
abbrev pub bit_of : Verdict → ℕ
bit_of (Zero _) = 0
bit_of (One _) = 1
bit_of (Undecided _) = 0

-- what symbols that carry a first bit and then these give a fresh state: each is taken, the first is undecided, and the others decide the bits
pub record ComeBack (symbols : List (List Float)) (n : ℕ) (bits : List ℕ) : Type 0 where
  pub none_refused : answers fresh_pair symbols ≡ replicate (suc (length bits)) 0
  pub verdicts_are : verdicts fresh_pair symbols ≡ Undecided (of_whole (pos 0)) ∷ map (told n) bits
  pub bits_are : map bit_of (verdicts fresh_pair symbols) ≡ 0 ∷ bits
