-- What it is that no sum and no product is rounded (paper 02, K12): the floats as they are added and multiplied, against whole numbers.
use Rattle.std.specs.Prelude.{◌≡◌, List, ℕ, zero, suc, ◌+◌, ◌*◌, ◌≤◌, T, get_or, ℤ, ◌*ℤ◌, Float, pos}
use Rattle.std.specs.Float.{nan, binary64}
use Rattle.std.specs.Float.Ieee.{add, sub, mul}
use Rattle.samples.specs.Whole.{is_whole, whole_of, of_whole}
use Rattle.samples.specs.Symbol.{total, part, product, decided}
use Rattle.samples.specs.declared.Pair.{Pair}
use Rattle.samples.specs.declared.Verdict.{Verdict}
use Rattle.samples.specs.declared.Verdict.TheVariants.{Zero, One, Undecided}

-- the float is this whole number
abbrev pub Is : Float → ℤ → Type 0
Is x z = T (is_whole x) × (whole_of x ≡ z)

-- the sum of n numbers, every second from `at` on, as floats are added from plus zero
unfoldable pub float_sum : List Float → ℕ → ℕ → Float
float_sum xs at zero = of_whole (pos 0)
float_sum xs at (suc n) = add binary64 (float_sum xs at n) (get_or xs (at + 2 * n) nan)

-- the first eight less the last eight, as floats
abbrev pub float_part : List Float → ℕ → Float
float_part xs at = sub binary64 (float_sum xs at 8) (float_sum xs (at + 16) 8)

-- the dot product, as floats from plus zero
abbrev pub float_product : Pair → Pair → Float
float_product a b =
    add binary64 (add binary64 (of_whole (pos 0)) (mul binary64 a.inphase b.inphase)) (mul binary64 a.quadrature b.quadrature)

-- the product that a verdict carries
abbrev pub carried : Verdict → Float
carried (Zero x) = x
carried (One x) = x
carried (Undecided x) = x

-- every sum on the way, both differences, both products and their sum are those of whole numbers, and they are what is handed back
pub record Unrounded (s : Pair) (xs : List Float) : Type 0 where
  pub sums : (at n : ℕ) → at ≤ 17 → n ≤ 8 → Is (float_sum xs at n) (total xs at n)
  pub inphase : Is (float_part xs 0) (part xs 0)
  pub quadrature : Is (float_part xs 1) (part xs 1)
  pub next : (decided s xs).state ≡ record { inphase = float_part xs 0; quadrature = float_part xs 1 }
  pub first_product : Is (mul binary64 s.inphase (float_part xs 0)) (whole_of s.inphase *ℤ part xs 0)
  pub second_product : Is (mul binary64 s.quadrature (float_part xs 1)) (whole_of s.quadrature *ℤ part xs 1)
  pub product_is : Is (float_product s (decided s xs).state) (product (whole_of s.inphase) (whole_of s.quadrature) (part xs 0) (part xs 1))
  pub handed_back : carried (decided s xs).verdict ≡ float_product s (decided s xs).state
