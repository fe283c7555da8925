-- `receiver::searching::rests`: what its goals need: two remainders and two offset words are added side by side. Assumes nothing.
use Prim.Native.Nat.{◌^◌, ◌<◌}
use Rattle.receiver.proofs.Blocks.{both_rests}
use borrow.Author.Rules.{rules}
use Rattle.receiver.proofs.searching.rests.Goals as goal

pub returns : goal.returns
returns c = let a = c.args in
    let l : a.x < 2 ^ 64 = search rules in
    both_rests a.x a.first a.second c.remainders.result c.expected.result l c.remainders.ensures c.expected.ensures
