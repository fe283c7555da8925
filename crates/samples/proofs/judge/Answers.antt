-- The first refusal that is due, test by test. Assumes nothing.
use mathlib.Core.Path.{◌≡◌}
use mathlib.Core.Bool.{true}
use lib.ListN.{length}
use borrow.Author.Tests.{eq-eqb, ne_eqb}
use Rattle.samples.specs.Symbol.{is_pair}
use Rattle.samples.proofs.Steps.{failed, passed, pair_first, pair_second, pair_both, gives_28, gives_37, gives_38, gives_0}
use mathlib.Core.Path.{ap}
use mathlib.Core.Bool.{not}
use Rattle.samples.proofs.judge.Goals as goal

pub returns-then-not-is_part : goal.returns-then-not-is_part
returns-then-not-is_part c = let p = c.args.state in
    gives_28 p c.args.symbol.now (pair_first p (failed c.is_part.ensures (ap not c.if-not-is_part.true)))

pub returns-then-not-is_part-2 : goal.returns-then-not-is_part-2
returns-then-not-is_part-2 c = let p = c.args.state in
    gives_28 p c.args.symbol.now (pair_second p (passed c.is_part.ensures (ap not c.if-not-is_part.false)) (failed c.is_part-2.ensures (ap not c.if-not-is_part-2.true)))

pub returns-then-symbol-ne32 : goal.returns-then-symbol-ne32
returns-then-symbol-ne32 c = let p = c.args.state in
    let xs = c.args.symbol.now in
    let a : is_pair p ≡ true = pair_both p (passed c.is_part.ensures (ap not c.if-not-is_part.false)) (passed c.is_part-2.ensures (ap not c.if-not-is_part-2.false)) in
    gives_37 p xs a (ne_eqb (length xs) 32 c.if-symbol-ne32.true)

pub returns-then-not-are_samples : goal.returns-then-not-are_samples
returns-then-not-are_samples c = let p = c.args.state in
    let xs = c.args.symbol.now in
    let a : is_pair p ≡ true = pair_both p (passed c.is_part.ensures (ap not c.if-not-is_part.false)) (passed c.is_part-2.ensures (ap not c.if-not-is_part-2.false)) in
    gives_38 p xs a (eq-eqb (length xs) 32 c.if-symbol-ne32.false) (failed c.are_samples.ensures (ap not c.if-not-are_samples.true))

pub returns : goal.returns
returns c = let p = c.args.state in
    let xs = c.args.symbol.now in
    let a : is_pair p ≡ true = pair_both p (passed c.is_part.ensures (ap not c.if-not-is_part.false)) (passed c.is_part-2.ensures (ap not c.if-not-is_part-2.false)) in
    gives_0 p xs a (eq-eqb (length xs) 32 c.if-symbol-ne32.false) (passed c.are_samples.ensures (ap not c.if-not-are_samples.false))
