-- `print::letters::name_of`: what its goals need. Assumes nothing.
use borrow.Author.Rules.{rules}
use Rattle.print.specs.Letters.{letter_text}
use Rattle.print.proofs.letters.name_of.Goals as goal

pub returns-in-A : goal.returns-in-A
unfolding letter_text
returns-in-A c = rw c.in-A.is (search rules)

pub returns-in-B : goal.returns-in-B
unfolding letter_text
returns-in-B c = rw c.in-B.is (search rules)

pub returns-in-C : goal.returns-in-C
unfolding letter_text
returns-in-C c = rw c.in-C.is (search rules)

pub returns-in-D : goal.returns-in-D
unfolding letter_text
returns-in-D c = rw c.in-D.is (search rules)

pub returns-in-CPrime : goal.returns-in-CPrime
unfolding letter_text
returns-in-CPrime c = rw c.in-CPrime.is (search rules)
