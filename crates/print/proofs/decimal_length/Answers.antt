-- `print::decimal_length`: what its goals need. Assumes nothing.
use mathlib.Core.Path.{sym}
use native.Mathlib.Omega.{arith}
use Rattle.print.proofs.Laws.{long_1, long_2, long_3}
use Rattle.print.proofs.decimal_length.Goals as goal

pub returns-in-0-to-9 : goal.returns-in-0-to-9
returns-in-0-to-9 c = (sym (long_1 _ (omega arith)), omega arith)

pub returns-in-10-to-99 : goal.returns-in-10-to-99
returns-in-10-to-99 c = (sym (long_2 _ (omega arith) (omega arith)), omega arith)

pub returns-in_default : goal.returns-in_default
returns-in_default c = (sym (long_3 c.args.n (omega arith) (omega arith)), omega arith)
