-- `print::hex_of`: what its goals need. Assumes nothing.
use mathlib.Core.Path.{ap₂}
use mathlib.Core.List.{[], ◌∷◌}
use Prim.Native.Nat.{ℕ}
use Rattle.print.specs.Lines.{hex_of}
use Rattle.print.proofs.hex_of.Goals as goal

pub returns : goal.returns
unfolding hex_of
returns c = ap₂ (λ (x y : ℕ). x ∷ y ∷ []) c.hex_glyph.ensures c.hex_glyph-2.ensures
