-- What differs from itself has no pattern; all else has one.
use mathlib.Core.Path.{◌≡◌, sym, ◌∙◌, subst}
use mathlib.Core.Bool.{false, not}
use lib.Dec.{T}
use lib.Ieee.{Float, nan, inf, fin, ne, is_nan}
use lib.Ieee.Compare.{nan_differs}
use Rattle.ask.proofs.deciding.pattern.Goals as goal

no_nan : (x : Float) → ne x x ≡ false → T (not (is_nan x))
unfolding is_nan
no_nan nan h = absurd (subst T (sym nan_differs ∙ h) tt)
no_nan (inf s) h = tt
no_nan (fin s m e) h = tt

pub float_to_bits-bits : goal.float_to_bits-bits
float_to_bits-bits g c = no_nan c.args.x c.if-x.false
