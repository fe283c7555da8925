-- A number a turn, 32 in all. Assumes nothing.
use Rattle.std.proofs.Common.{ℕ, ◌+◌, ◌*◌, ◌<◌, ◌∙◌, arith, length-set}
use Rattle.samples.specs.Numbers.{number_at}
use Rattle.bits.proofs.Filled.{more_set}
use Rattle.bits.proofs.Packed.{numbers_are}
use Rattle.bits.proofs.symbol_at.Goals as goal

pub loop-k-init : goal.loop-k-init
loop-k-init c = (omega arith, omega arith, λ j h. absurd (none j h))
  where
    none : (j : ℕ) → j < 0 → ⊥
    none j h = omega arith

pub loop-k-preserved : goal.loop-k-preserved
loop-k-preserved c = let l = c.loop-k in
    let e = c in
    (omega arith, length-set l.s l.k c.number.result ∙ l.invariant.1, more_set l.s l.k c.number.result (λ j. number_at e.args.bytes.now (e.args.at + 8 * j)) (omega arith) c.number.ensures l.invariant.2)

pub returns : goal.returns
returns c = let l = c.loop-k in
    let a = c.args in
    numbers_are a.bytes.now l.s 32 a.at l.invariant.1 (λ k h. l.invariant.2 k (omega arith))
