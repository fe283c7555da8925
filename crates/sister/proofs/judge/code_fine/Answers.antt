-- `sister::judge::code_fine`: what its goals need. Assumes nothing.
use mathlib.Core.Path.{ap, ◌∙◌}
use native.Mathlib.Omega.{arith}
use Rattle.laws.specs.Bits.{bits}
use Rattle.laws.proofs.Cases.{if_yes}
use Rattle.format.proofs.Leaves.{reached}
use Rattle.refusal.specs.Refusal.{number_of}
use Rattle.refusal.specs.declared.Refusal.TheVariants.{ReservedBit, Digit}
use Rattle.refusal.proofs.Numbers.{same_number}
use Rattle.sister.proofs.Found as found
use Prim.Native.Nat.{◌+◌}
use Rattle.sister.proofs.judge.code_fine.Goals as goal

pub returns-in-ReservedBit : goal.returns-in-ReservedBit
returns-in-ReservedBit c = let a = c.args in
    c.ranged.ensures ∙ if_yes _ _ (reached a.p 1 4 (omega arith) (omega arith) (omega arith)) ∙ found.code_24 (number_of a.refusal) (bits a.b.now) a.p (ap number_of c.in-ReservedBit.is)

pub returns-in-Digit : goal.returns-in-Digit
returns-in-Digit c = let a = c.args in
    c.ranged-in-Digit.ensures ∙ if_yes _ _ (reached (a.p + 4) 23 4 (omega arith) (omega arith) (omega arith)) ∙ found.code_25 (number_of a.refusal) (bits a.b.now) a.p (ap number_of c.in-Digit.is)

pub returns-in_default : goal.returns-in_default
returns-in_default c = let a = c.args in
    found.code_else (number_of a.refusal) (bits a.b.now) a.p (λ h. c.in_default.not-ReservedBit (same_number a.refusal ReservedBit h)) (λ h. c.in_default.not-Digit (same_number a.refusal Digit h))
