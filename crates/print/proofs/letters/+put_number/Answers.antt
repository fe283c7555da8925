-- `print::letters::put_number`: the digits before the last, then that. Assumes nothing.
use mathlib.Core.Path.{ap, ◌∙◌}
use native.Mathlib.Omega.{arith}
use lib.ListN.{length}
use lib.Seq.{length-sets}
use borrow.Author.Rules.{rules}
use Rattle.print.specs.Letters.{number_text}
use Rattle.print.proofs.Numbers.{one_digit, longer, put_last, at_most_20}
use Prim.Native.Nat.{◌/◌, ◌^◌, ◌<◌}
use Rattle.print.proofs.letters.+put_number.Goals as goal

pub bounds-out-0 : goal.bounds-out-0
bounds-out-0 t c = omega (arith, ap length (one_digit c.args.n (omega arith)), c.requires)

pub returns-then-n-lt10-clause-length : goal.returns-then-n-lt10-clause-length
returns-then-n-lt10-clause-length t c = rw (one_digit c.args.n (omega arith))

pub returns-then-n-lt10-clause-output : goal.returns-then-n-lt10-clause-output
returns-then-n-lt10-clause-output t c = rw (one_digit c.args.n (omega arith))

pub put_number-k-requires : goal.put_number-k-requires
put_number-k-requires t c =
    let u : c.args.n < 2 ^ 64 = search rules in
    (omega (arith, c.decreases), omega (arith, longer c.args.n c.if-n-lt10.false u, c.requires))

pub bounds-out-k : goal.bounds-out-k
bounds-out-k t c =
    let a = c.args in
    let u : a.n < 2 ^ 64 = search rules in
    let l = longer a.n c.if-n-lt10.false u in
    let k = ap length c.put_number-k.ensures.output ∙ length-sets a.out.now 0 (number_text (a.n / 10)) in
    omega (arith, l, k, c.put_number-k.ensures.length, c.requires)

pub overflow_add-result : goal.overflow_add-result
overflow_add-result t c = omega (arith, c.put_number-k.ensures.length, at_most_20 (c.args.n / 10))

pub returns-clause-length : goal.returns-clause-length
returns-clause-length t c =
    let u : c.args.n < 2 ^ 64 = search rules in
    let l = longer c.args.n c.if-n-lt10.false u in
    omega (arith, l, c.put_number-k.ensures.length)

pub returns-clause-output : goal.returns-clause-output
returns-clause-output t c =
    let u : c.args.n < 2 ^ 64 = search rules in
    put_last c.args.n c.args.out.now c.put_number-k.new.out c.put_number-k.result c.if-n-lt10.false u c.put_number-k.ensures.length c.put_number-k.ensures.output
