-- `compare::put_both`: what its goals need. Assumes nothing.
use Rattle.std.proofs.Common.{◌≡◌, refl, sym, arith}
use lib.ListN.{get_or}
use Rattle.compare.specs.Differences.{differs}
use Rattle.compare.proofs.Going.{further_none, further_one, both_none, both_some}
use Rattle.compare.proofs.put_both.Goals as goal

pub returns-in-None : goal.returns-in-None
returns-in-None c =
    let a = c.args in
    rw (both_none a.n a.a.now a.b.now 256 (sym c.in-None.ensures) refl) (further_none a.so.at a.so.lines a.out.now)

pub returns-in-Some : goal.returns-in-Some
returns-in-Some c =
    let a = c.args in
    let k = c.in-Some.k in
    let less : k ≡ 256 → ⊥ = λ e. omega (arith, e, c.in-Some.ensures.1) in
    rw (both_some a.n a.a.now a.b.now k c.in-Some.ensures.0 less) (further_one a.so.at a.so.lines a.out.now (differs a.n k (get_or a.a.now k 0) (get_or a.b.now k 0)) _ _ c.put_differs.ensures.0 c.put_differs.ensures.1)
