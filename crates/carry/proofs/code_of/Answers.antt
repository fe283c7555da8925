-- `carry::code_of`: what its goals need. Assumes nothing.
use mathlib.Core.Path.{ap, ◌∙◌}
use Prim.Native.Nat.{ℕ}
use lib.ListN.{take}
use Rattle.carry.specs.Carrying.{code_digits}
use Rattle.carry.proofs.code_of.Goals as goal

pub returns : goal.returns
returns c = c.part.ensures ∙ ap (λ (n : ℕ). take n c.args.digits.now) (c.code_digits.ensures.0 ∙ ap code_digits c.command_of.ensures)
