-- `compare::put_below`: what its goals need. Assumes nothing.
use mathlib.Core.Path.{◌≡◌, subst}
use Prim.Native.Nat.{ℕ}
use native.Mathlib.Omega.{arith}
use Rattle.compare.specs.Differences.{below}
use Rattle.compare.specs.Texts.{Further}
use Rattle.compare.proofs.Going.{going_first, going_turn, going_long}
use Rattle.compare.proofs.put_below.Goals as goal

pub loop-i-init : goal.loop-i-init
loop-i-init c = going_first c.args.left.now c.args.right.now c.args.out.now

pub put_record-so-requires : goal.put_record-so-requires
put_record-so-requires c = let a = c.args in
    let l = c.loop-i in
    let g = l.invariant in
    let k = going_long a.left.now a.right.now a.out.now l.out l.so.at l.so.lines l.i g in
    (omega arith, omega (arith, k, g.near, c.requires.1), omega (arith, g.few, c.requires.0))

pub loop-i-preserved : goal.loop-i-preserved
loop-i-preserved c = let a = c.args in
    let l = c.loop-i in
    going_turn a.left.now a.right.now a.out.now l.out _ _ _ _ _ l.i l.invariant c.put_record-so.ensures

pub shape_of-out : goal.shape_of-out
shape_of-out c = let a = c.args in
    let l = c.loop-i in
    going_long a.left.now a.right.now a.out.now l.out l.so.at l.so.lines l.i l.invariant

pub returns : goal.returns
returns c = let a = c.args in
    let l = c.loop-i in
    let g = l.invariant in
    let e : l.i ≡ a.n = omega arith in
    (omega (arith, g.near), omega (arith, g.few), subst (λ (k : ℕ). Further 0 0 a.out.now (below a.left.now a.right.now k) l.so.at l.so.lines l.out) e g.goes)
