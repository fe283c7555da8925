-- `writer::columns::in_range`: what its goals need. Assumes nothing.
use mathlib.Core.Path.{◌≡◌, sym, ap, ◌∙◌}
use Prim.Native.Nat.{ℕ, ◌+◌, ◌-◌}
use native.Mathlib.Omega.{arith}
use lib.ListN.{take, drop}
use mathlib.Core.Bool.{◌&&◌}
use lib.Dec.{leb}
use borrow.Author.Rules.{rules}
use borrow.Author.Tests.{tests}
use Rattle.std.proofs.lemmas.Iterator.{YieldsList-from_slice}
use Rattle.std.proofs.lemmas.Iterator.Search.{all_from_yields_List}
use Rattle.laws.proofs.Cases.{if_yes, if_no}
use Rattle.format.specs.Format.{inside}
use Rattle.writer.proofs.Inside.{lowest}
use Rattle.writer.proofs.columns.in_range.Goals as goal

pub returns-then-t : goal.returns-then-t
unfolding inside
returns-then-t c = let a = c.args in
    let t = a.t in
    let e : a.i + t.count - a.i ≡ t.count = omega arith in
    let h : c.all.result ≡ inside t.lo t.hi (take (a.i + t.count - a.i) (drop a.i a.xs.now)) =
    all_from_yields_List (λ x. leb t.lo x && leb x t.hi) _ _ _ c.all.ensures.ran (YieldsList-from_slice (take (a.i + t.count - a.i) (drop a.i a.xs.now)) cc) (λ x b q k. search (rules, tests)) in
    h ∙ ap (λ (m : ℕ). inside t.lo t.hi (take m (drop a.i a.xs.now))) e ∙ ap (inside t.lo t.hi) (sym (if_yes (take t.count (drop a.i a.xs.now)) _ c.if-t.true))

pub returns-then-t-eq0 : goal.returns-then-t-eq0
unfolding inside
returns-then-t-eq0 c = rw (c.if-t.false, c.if-t-eq0.true)

pub returns-else-t-eq0 : goal.returns-else-t-eq0
returns-else-t-eq0 c = let t = c.args.t in
    lowest t.lo t.hi t.count c.if-t-eq0.false ∙ ap (inside t.lo t.hi) (sym (if_no _ _ c.if-t.false))
