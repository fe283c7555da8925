-- Each sum on the way is that of whole numbers. Assumes nothing.
use Prim.Native.Nat.{ℕ, ◌+◌, ◌*◌}
use mathlib.Core.Path.{◌≡◌, refl, ap, ◌∙◌}
use native.Mathlib.Omega.{arith}
use lib.ListN.{get_or}
use lib.Ieee.{Float, of_bits, of_int, add, binary64, nan}
use Rattle.samples.specs.Whole.{of_whole}
use Rattle.samples.specs.Symbol.{total}
use Rattle.samples.proofs.Steps.{total_more}
use Rattle.samples.proofs.sum_eight.Goals as goal

pub loop-k-init : goal.loop-k-init
unfolding of_bits of_int total
loop-k-init c = refl

pub loop-k-preserved : goal.loop-k-preserved
loop-k-preserved c = let e = c in
    let l = c.loop-k in
    ap (λ (t : Float). add binary64 t (get_or e.args.symbol.now (e.args.from + 2 * l.k) nan)) l.invariant
    ∙ total_more e.args.symbol.now e.args.from l.k e.requires.t (omega arith) (omega arith)

pub returns : goal.returns
returns c = let e = c in
    let l = c.loop-k in
    let h : l.k ≡ 8 = omega arith in
    l.invariant ∙ ap (λ (k : ℕ). of_whole (total e.args.symbol.now e.args.from k)) h
