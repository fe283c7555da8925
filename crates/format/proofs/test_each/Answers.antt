-- `format::test_each`: what its goals need. Assumes nothing.
use mathlib.Core.Path.{◌≡◌}
use mathlib.Core.Bool.{◌&&◌}
use Prim.Native.Nat.{ℕ, ◌+◌, ◌*◌}
use native.Mathlib.Omega.{arith}
use lib.Dec.{leb}
use borrow.Author.Tests.{tests}
use Rattle.std.proofs.Common.{rules}
use Rattle.std.proofs.lemmas.Iterator.{YieldsList-from_range, YieldsList-from_map}
use Rattle.std.proofs.lemmas.Iterator.Search.{all_from_yields_List}
use Rattle.laws.specs.Bits.{at, bits}
use Rattle.format.specs.Format.{inside}
use Rattle.format.proofs.Leaves.{run_map}
use Rattle.format.proofs.test_each.Goals as goal

pub returns : goal.returns
unfolding inside
returns c = let a = c.args in
    let e : a.p + 0 * a.w ≡ a.p = omega arith in
    rw (← e, run_map (bits a.b.now) a.p 0 a.n a.w)
    (all_from_yields_List (λ (x : ℕ). leb a.lo x && leb x a.hi) _ _ _ c.all.ensures.ran
    (YieldsList-from_map _ (λ (j : ℕ). at (bits a.b.now) (a.p + j * a.w) a.w) (YieldsList-from_range 0 a.n a.n c.map.ensures.source (omega arith)) c.map.ensures.closure (λ x r q k. search rules))
    (λ x r q k. search (rules, tests)))
