-- `writer::columns::put_odd`: what its goals need. Assumes nothing.
use mathlib.Core.Path.{◌≡◌, sym, ap, ◌∙◌}
use Prim.Native.Nat.{ℕ, ◌/◌}
use native.Mathlib.Omega.{arith}
use lib.ListN.{take, drop}
use lib.Seq.{sets}
use Rattle.laws.specs.Bits.{bits, spread}
use Rattle.writer.proofs.Beside.{low_put}
use Rattle.writer.proofs.columns.put_odd.Goals as goal

pub returns-then-a-eq1 : goal.returns-then-a-eq1
returns-then-a-eq1 c = let a = c.args in
    let e : 1 ≡ a.a = sym c.if-a-eq1.true in
    low_put a.out.now a.xs.now a.p a.i (omega arith) (omega arith) (omega (arith, c.slice_known-1.given (a.p / 8)))
    ∙ ap (λ (n : ℕ). sets (bits a.out.now) a.p (spread 4 (take n (drop a.i a.xs.now)))) e

pub returns-else-a-eq1 : goal.returns-else-a-eq1
unfolding spread
returns-else-a-eq1 c = let a = c.args in
    let e : a.a ≡ 0 = omega arith in
    rw e
