-- `print::records::put_spaced`: what its goals need. Assumes nothing.
use mathlib.Core.List.{[], ◌∷◌, ◌++◌}
use Rattle.print.specs.Lines.{decimal_of}
use lib.ListN.{length-append}
use Rattle.print.proofs.RecordLine.{part_keeps}
use native.Mathlib.Omega.{arith}
use lib.ListN.{length-drop}
use Rattle.laws.proofs.Parts.{part_is}
use Rattle.print.proofs.RecordLine.{spaced_length, space_behind}
use Rattle.print.proofs.records.put_spaced.Goals as goal

pub put_answer-requires : goal.put_answer-requires
put_answer-requires c = let a = c.args in
    rw (part_is a.out.now a.at) (omega (arith, length-drop a.at a.out.now, spaced_length a.n))

pub bounds-out-end : goal.bounds-out-end
bounds-out-end c = let a = c.args in
    omega (arith, spaced_length a.n, c.decimal_length-digits.ensures.0, part_keeps a.out.now (decimal_of a.n ++ (10 ∷ [])) c.put_answer.new.out a.at (omega (arith, spaced_length a.n, length-append (decimal_of a.n) (10 ∷ []))) c.put_answer.ensures)

pub returns : goal.returns
returns c = let a = c.args in
    (omega (arith, spaced_length a.n, c.decimal_length-digits.ensures.0), space_behind a.n a.at c.decimal_length-digits.result a.out.now c.put_answer.new.out c.requires c.decimal_length-digits.ensures.0 c.put_answer.ensures)
