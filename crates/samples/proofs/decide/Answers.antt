-- `samples::decide`: what its goals need: refused, or taken with its pair and verdict. Assumes nothing.
use mathlib.Core.Path.{◌≡◌, sym, ◌∙◌}
use native.Mathlib.Omega.{arith}
use lib.ListN.{length}
use Rattle.samples.specs.Symbol.{decide_answer}
use Rattle.samples.proofs.Steps.{passed_all, is_refused, is_taken, symbol_good, product_good, all_good}
use Rattle.std.proofs.lemmas.Result.{err_from_is_err_and}
use Rattle.refusal.proofs.Numbers.{some_number}
use Rattle.samples.proofs.decide.Goals as goal

pub returns-in_err-judge : goal.returns-in_err-judge
returns-in_err-judge c = let p = err_from_is_err_and c.from_residual.result c.from_residual.ensures.1 in rw (p.1, p.2) (is_refused c.args.state c.args.symbol.now _ c.in_err-judge.ensures (some_number c.in_err-judge.field-0.0))

pub difference-requires : goal.difference-requires
difference-requires c = let xs = c.args.symbol.now in
    let h = passed_all c.args.state xs (c.in_ok-judge.ensures) in
    let l : length xs ≡ 32 = h.1 in record {
      t = h.2;
      from_in_bounds = omega arith;
    }

pub difference-requires-2 : goal.difference-requires-2
difference-requires-2 c = let xs = c.args.symbol.now in
    let h = passed_all c.args.state xs (c.in_ok-judge.ensures) in
    let l : length xs ≡ 32 = h.1 in record {
      t = h.2;
      from_in_bounds = omega arith;
    }

pub dot-requires : goal.dot-requires
dot-requires c = let p = c.args.state in
    let xs = c.args.symbol.now in
    let h = passed_all p xs (c.in_ok-judge.ensures) in record {
      t = h.0;
      t_2 = symbol_good p xs h.0 h.2 c.difference.result c.difference-2.result c.difference.ensures c.difference-2.ensures;
    }

pub verdict_of-verdict-requires : goal.verdict_of-verdict-requires
verdict_of-verdict-requires c = let p = c.args.state in
    let xs = c.args.symbol.now in
    let h = passed_all p xs (c.in_ok-judge.ensures) in let all = product_good p xs h.0 h.2 c.difference.result c.difference-2.result c.difference.ensures c.difference-2.ensures c.dot.result c.dot.ensures in record { t = all.0; product_value = all.1 }

pub returns : goal.returns
returns c = let p = c.args.state in
    let xs = c.args.symbol.now in
    let z : 0 ≡ decide_answer p xs = c.in_ok-judge.ensures in
    let h = passed_all p xs z in
    all_good p xs h.0 h.2 c.difference.result c.difference-2.result c.difference.ensures c.difference-2.ensures c.dot.result c.verdict_of-verdict.result c.dot.ensures c.verdict_of-verdict.ensures
    ∙ is_taken p xs z
