-- `print::letters::number`: what its goals need. Assumes nothing.
use mathlib.Core.Path.{sym, ap, ◌∙◌}
use native.Mathlib.Omega.{arith}
use lib.ListN.{length}
use lib.Seq.{length-sets}
use Rattle.print.specs.Letters.{number_text}
use Rattle.print.proofs.Numbers.{at_most_20, no_number, number_room}
use Rattle.print.proofs.letters.number.Goals as goal

pub returns-then-out-lt20 : goal.returns-then-out-lt20
returns-then-out-lt20 c = let all = no_number c.args.n c.args.out.now (omega arith) in record { length = all.0; output = all.1 }

pub put_number-requires : goal.put_number-requires
put_number-requires c = omega (arith, at_most_20 c.args.n)

pub shape_of-out : goal.shape_of-out
shape_of-out c = ap length c.put_number.ensures.output ∙ length-sets c.args.out.now 0 (number_text c.args.n)

pub returns : goal.returns
returns c = let r = number_room c.args.n c.args.out.now (omega arith) in record {
  length = c.put_number.ensures.length ∙ sym r.0;
  output = c.put_number.ensures.output ∙ sym r.1;
}
