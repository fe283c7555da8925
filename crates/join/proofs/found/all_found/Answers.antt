-- `join::found::all_found`: what its goals need. Assumes nothing.
use Rattle.join.proofs.Bodies.{part_none, found_part}
use Rattle.join.proofs.Finding.{found_first, found_next, found_end}
use Rattle.join.proofs.Cuts.{parts_next, parts_stop, parts_end}
use Rattle.story.specs.Joining.{lent, is_part, with_head}
use Rattle.story.specs.Telling.{head_of}
use Rattle.laws.specs.Scan.{all}
use lib.ListN.{length}
use Prim.Native.Nat.{◌+◌}
use native.Mathlib.Omega.{arith}
use mathlib.Core.Path.{sym, ap, ◌∙◌}
use borrow.Author.Tests.{eqb-true, eqb-false}
use Rattle.join.proofs.found.all_found.Goals as goal

pub loop-k-init : goal.loop-k-init
loop-k-init c = ap (all is_part) (found_first c.args.n (lent c.args.packets.now))

pub returns-then-is_empty : goal.returns-then-is_empty
returns-then-is_empty c =
    let n = c.args.n in
    let k = c.loop-k.k in
    let bs = lent c.args.packets.now in
    let w = with_head (head_of (k + 1) n) bs in
    let none = eqb-true _ 0 (sym c.is_empty.ensures ∙ c.if-is_empty.true) in
    sym (c.loop-k.invariant ∙ ap (all is_part) (found_next n bs k (omega arith)) ∙ parts_stop w _ (part_none w (ap length (sym (c.piece.ensures ∙ c.requires.1 k (omega arith))) ∙ none)))

pub loop-k-preserved : goal.loop-k-preserved
loop-k-preserved c =
    let n = c.args.n in
    let k = c.loop-k.k in
    let bs = lent c.args.packets.now in
    let w = with_head (head_of (k + 1) n) bs in
    let e = c.piece.ensures ∙ c.requires.1 k (omega arith) in
    let some = eqb-false _ 0 (sym c.is_empty.ensures ∙ c.if-is_empty.false) in
    c.loop-k.invariant
    ∙ ap (all is_part) (found_next n bs k (omega arith))
    ∙ parts_next w _ (found_part (head_of (k + 1) n) bs c.requires.2 (λ z. some (ap length e ∙ z)))

pub returns : goal.returns
returns c = sym (c.loop-k.invariant ∙ ap (all is_part) (found_end c.args.n (lent c.args.packets.now) c.loop-k.k (omega arith)) ∙ parts_end)
