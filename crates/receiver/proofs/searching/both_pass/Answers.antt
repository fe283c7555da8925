-- `receiver::searching::both_pass`: what its goals need: both remainders are compared with both offset words. Assumes nothing.
use mathlib.Core.Path.{◌≡◌, ap, ap₂, ◌∙◌}
use mathlib.Core.Bool.{◌&&◌}
use Prim.Native.Nat.{ℕ, ◌/◌, ◌%◌, ◌^◌, ◌<◌}
use native.Mathlib.Omega.{arith}
use lib.Dec.{eqb}
use Rattle.block.specs.Block.{is_valid}
use Rattle.receiver.proofs.Pairs.{both_valid}
use borrow.Author.Rules.{rules}
use Rattle.receiver.proofs.searching.both_pass.Goals as goal

pub returns : goal.returns
returns c = let a = c.args in
    let x = a.x in
    let l : x < 2 ^ 64 = search rules in
    let e : x / 4096 / 67108864 ≡ x / 274877906944 = omega arith in
    ap₂ eqb c.remainders.ensures c.expected.ensures
    ∙ both_valid (x / 4096 / 67108864) (x / 4096 % 67108864) a.first a.second (omega arith) (omega arith)
    ∙ ap (λ (n : ℕ). is_valid n a.first && is_valid (x / 4096 % 67108864) a.second) e
