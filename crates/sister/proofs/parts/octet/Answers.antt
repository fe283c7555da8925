-- `sister::parts::octet`: what its goals need. Assumes nothing.
use mathlib.Core.Path.{◌∙◌}
use native.Mathlib.Omega.{arith}
use Rattle.sister.proofs.Found.{byte_is}
use Rattle.sister.proofs.parts.octet.Goals as goal

pub returns : goal.returns
returns c = let a = c.args in c.byte.ensures ∙ byte_is a.b.now a.i (omega (arith, c.shared_slice_known-1.given a.i))
