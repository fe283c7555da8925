-- What the functions for C answer where it is not what ours answer: two records laid out as C does, a letter and a verdict as numbers.
use Rattle.std.specs.Prelude.{Option, Some, None, ℕ}
use Rattle.block.specs.declared.AnyLetter.{AnyLetter}
use Rattle.block.specs.declared.AnyLetter.TheVariants.{A, B, C, CPrime, D}
use Rattle.air.specs.OnAir.{Aired}
use Rattle.samples.specs.Symbol.{Decided}
use Rattle.samples.specs.declared.Verdict.{Verdict}
use Rattle.samples.specs.declared.Verdict.TheVariants.{Zero, One, Undecided}
use Rattle.samples.specs.Unrounded.{carried}
use Rattle.radio.specs.declared.Sent.{Sent}
use Rattle.radio.specs.declared.DecidedSymbol.{DecidedSymbol}

abbrev pub sent_as : Aired → Sent
sent_as a = record { answer = a.answer; frames = a.frames }

-- the letters in numbers (paper 02, K2)
abbrev pub letter_number : Option AnyLetter → ℕ
letter_number None = 0
letter_number (Some A) = 1
letter_number (Some B) = 2
letter_number (Some C) = 3
letter_number (Some CPrime) = 4
letter_number (Some D) = 5

-- the bit of a verdict, and 2 for none (paper 02, K12)
abbrev pub verdict_number : Verdict → ℕ
verdict_number (Zero _) = 0
verdict_number (One _) = 1
verdict_number (Undecided _) = 2

abbrev pub decided_as : Decided → DecidedSymbol
decided_as d = record { answer = d.answer; verdict = verdict_number d.verdict; product = carried d.verdict; state = d.state }
