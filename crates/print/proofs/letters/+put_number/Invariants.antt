-- `print::letters::put_number` calls itself with the digits before the last: the measure is the number. Assumes nothing.
use Rattle.print.proofs.letters.+put_number.Given as goal

abbrev pub decreases-put_number : goal.decreases-put_number
decreases-put_number l = l.n
