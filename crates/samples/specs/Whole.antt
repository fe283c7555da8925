-- The whole number that a float stands for, and the float of a whole number (paper 02, K12). Minus zero stands for 0.
use Rattle.std.specs.Prelude.{ℕ, ◌*◌, ◌/◌, ◌%◌, Bool, true, false, not, ◌&&◌, eqb, ℤ, pos, neg_ℤ, Float}
use Rattle.std.specs.Int.Signed.{lt_z}
use Rattle.std.specs.Float.{nan, inf, fin, binary64}
use Rattle.std.specs.Float.Ieee.{up, down, of_int}

abbrev pub signed : Bool → ℕ → ℤ
signed false n = pos n
signed true n = neg_ℤ (pos n)

-- finite, with no fraction
unfoldable pub is_whole : Float → Bool
is_whole nan = false
is_whole (inf s) = false
is_whole (fin s m e) = eqb (m * up e % down e) 0

unfoldable pub whole_of : Float → ℤ
whole_of nan = pos 0
whole_of (inf s) = pos 0
whole_of (fin s m e) = signed s (m * up e / down e)

-- plus zero for 0
abbrev pub of_whole : ℤ → Float
of_whole z = of_int binary64 z

unfoldable pub within : ℤ → ℤ → Float → Bool
within low high x = is_whole x && (not (lt_z (whole_of x) low) && not (lt_z high (whole_of x)))
