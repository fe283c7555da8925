-- `stories::find`: what its goals need. Assumes nothing.
use mathlib.Core.Path.{◌≡◌}
use native.Mathlib.Omega.{arith}
use lib.ListN.{length}
use Rattle.laws.proofs.Elements.{length_mapped}
use Rattle.stories.proofs.Keeping.{found_held, found_none}
use borrow.Author.Rules.{rules}
use Rattle.stories.proofs.find.Goals as goal

pub returns-in-Some : goal.returns-in-Some
returns-in-Some c =
    let ps = c.args.s.tales in
    let n : length ps ≡ 4 = search (rules, length_mapped) in
    found_held c.args.x ps c.in-Some.i c.in-Some.ensures.0 (omega (arith, n, c.in-Some.ensures.1))

pub returns-in-None : goal.returns-in-None
returns-in-None c =
    let ps = c.args.s.tales in
    let n : length ps ≡ 4 = search (rules, length_mapped) in
    found_none c.args.x ps c.untold.result c.untold.ensures (omega (arith, n, c.in-None.ensures))
