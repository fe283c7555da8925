-- `compare::put_record`: what its goals need. Assumes nothing.
use mathlib.Core.Path.{◌≡◌, ap, ap₂, sym, ◌∙◌, subst}
use mathlib.Core.List.{List}
use Prim.Native.Nat.{ℕ}
use native.Mathlib.Omega.{arith}
use lib.ListN.{length}
use Rattle.shelf.specs.Summary.{record_at}
use Rattle.compare.specs.Differences.{Difference, of_both}
use Rattle.compare.specs.Texts.{Further}
use Rattle.compare.proofs.Going.{record_right, record_left, record_both, record_whole}
use Rattle.compare.proofs.put_record.Goals as goal

pub returns-then-left-n : goal.returns-then-left-n
returns-then-left-n c = let a = c.args in
    rw (record_right a.left.now a.right.now a.n (omega arith)) c.put_one.ensures

pub returns-then-right-n : goal.returns-then-right-n
returns-then-right-n c = let a = c.args in
    rw (record_left a.left.now a.right.now a.n (omega arith) (omega arith)) c.put_one-then-right-n.ensures

pub put_both-requires : goal.put_both-requires
put_both-requires c = let a = c.args in (
  ap length c.part.ensures ∙ record_whole a.left.now a.n (omega arith),
  ap length c.part-2.ensures ∙ record_whole a.right.now a.n (omega arith),
  c.requires.1,
  c.requires.2,
)

pub returns : goal.returns
returns c = let a = c.args in
    let e : of_both a.n c.part.result.now c.part-2.result.now ≡ of_both a.n (record_at a.left.now a.n) (record_at a.right.now a.n) =
    ap₂ (λ (x y : List ℕ). of_both a.n x y) c.part.ensures c.part-2.ensures in
    subst (λ (ds : List Difference). Further a.so.at a.so.lines a.out.now ds c.put_both.result.at c.put_both.result.lines c.put_both.new.out)
    (e ∙ sym (record_both a.left.now a.right.now a.n (omega arith) (omega arith)))
    c.put_both.ensures
