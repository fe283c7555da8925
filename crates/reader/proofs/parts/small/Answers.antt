-- `reader::parts::small`: what its goals need. Assumes nothing.
use mathlib.Core.Path.{◌≡◌, ◌∙◌}
use native.Mathlib.Omega.{arith}
use Rattle.laws.specs.Bits.{at, bits}
use Rattle.laws.proofs.Bits.{at_small}
use Rattle.laws.proofs.Cases.{if_yes}
use Rattle.format.proofs.Leaves.{reached}
use Rattle.reader.proofs.parts.small.Goals as goal

pub overflow_cast-result : goal.overflow_cast-result
overflow_cast-result c = let a = c.args in
    let e : c.field.result ≡ at (bits a.b.now) a.p a.w = c.field.ensures ∙ if_yes _ _ (reached a.p 1 a.w (omega arith) (omega arith) (omega arith)) in
    omega (arith, e, at_small a.b.now a.p a.w 8 (omega arith))

pub returns : goal.returns
returns c = let a = c.args in
    c.field.ensures ∙ if_yes _ _ (reached a.p 1 a.w (omega arith) (omega arith) (omega arith))
