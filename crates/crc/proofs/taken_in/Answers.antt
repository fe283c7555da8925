-- `crc::taken_in`: what its goals need. Assumes nothing.
use mathlib.Core.Path.{◌≡◌, ap, ◌∙◌}
use Prim.Native.Nat.{ℕ, ◌*◌, ◌%◌}
use native.Mathlib.Omega.{arith}
use Rattle.laws.specs.Poly.{◌⊕◌}
use Rattle.crc.specs.Crc16.{times_byte, taken}
use Rattle.crc.proofs.taken_in.Goals as goal

pub returns : goal.returns
unfolding taken
returns c = let e : c.args.byte * 256 % 65536 ≡ c.args.byte * 256 = omega arith in
    c.times_byte.ensures ∙ ap (λ (x : ℕ). times_byte (c.args.register ⊕ x)) e
