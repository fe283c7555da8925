-- `sister::parts::medium`: what its goals need. Assumes nothing.
use mathlib.Core.Path.{◌≡◌, ◌∙◌}
use native.Mathlib.Omega.{arith}
use Rattle.laws.specs.Bits.{at, bits}
use Rattle.laws.proofs.Bits.{at_small}
use Rattle.laws.proofs.Cases.{if_yes}
use Rattle.format.proofs.Leaves.{reached}
use Rattle.sister.proofs.parts.medium.Goals as goal

pub overflow_cast-result : goal.overflow_cast-result
overflow_cast-result c = let a = c.args in
    let e : c.field.result ≡ at (bits a.b.now) a.p 16 = c.field.ensures ∙ if_yes _ _ (reached a.p 1 16 (omega arith) (omega arith) (omega arith)) in
    omega (arith, e, at_small a.b.now a.p 16 16 (omega arith))

pub returns : goal.returns
returns c = let a = c.args in
    c.field.ensures ∙ if_yes _ _ (reached a.p 1 16 (omega arith) (omega arith) (omega arith))
