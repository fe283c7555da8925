-- `format::read_parts`: what its goals need. Assumes nothing.
use mathlib.Core.Path.{refl, ◌≡◌, ap, ◌∙◌}
use Prim.Native.Nat.{ℕ, ◌+◌}
use native.Mathlib.Omega.{arith}
use Rattle.laws.specs.Bits.{at, bits}
use Rattle.format.proofs.Within.{read_within}
use Rattle.format.proofs.Parts.{joined}
use Rattle.format.proofs.read_parts.Goals as goal

pub loop-j-init : goal.loop-j-init
unfolding at
loop-j-init c = (omega arith, refl)

pub overflow_add-x : goal.overflow_add-x
overflow_add-x c = let a = c.args in
    let k = c.loop-j in
    let y = read_within a.b.now (a.p + k.j) c.min-k.result c.byte.result c.bits_within-y.result (omega (arith, c.min-k.ensures)) c.byte.ensures c.bits_within-y.ensures in
    omega (arith, (joined a.b.now a.p k.j c.min-k.result k.x c.bits_within-y.result (omega (arith, c.min-k.ensures)) k.invariant.1 y).small)

pub loop-j-preserved : goal.loop-j-preserved
loop-j-preserved c = let a = c.args in
    let k = c.loop-j in
    let y = read_within a.b.now (a.p + k.j) c.min-k.result c.byte.result c.bits_within-y.result (omega (arith, c.min-k.ensures)) c.byte.ensures c.bits_within-y.ensures in
    (omega (arith, c.min-k.ensures), (joined a.b.now a.p k.j c.min-k.result k.x c.bits_within-y.result (omega (arith, c.min-k.ensures)) k.invariant.1 y).is)

pub returns : goal.returns
returns c = let e : c.loop-j.j ≡ c.args.w = omega arith in
    c.loop-j.invariant.1 ∙ ap (λ (n : ℕ). at (bits c.args.b.now) c.args.p n) e
