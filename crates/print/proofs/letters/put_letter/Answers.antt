-- `print::letters::put_letter`: what its goals need. Assumes nothing.
use mathlib.Core.Path.{ap, ◌∙◌}
use Prim.Native.Nat.{ℕ, ◌+◌, ◌-◌, ◌≤◌}
use native.Mathlib.Omega.{arith}
use native.Mathlib.Numerals.{add-one}
use borrow.Author.Rules.{rules}
use lib.ListN.{length, set, length-set}
use lib.Seq.{sets}
use Rattle.std.specs.Prelude.{Some}
use Rattle.laws.proofs.Parts.{in_place}
use Rattle.print.proofs.LetterLine.{letter_short}
use Rattle.print.proofs.letters.put_letter.Goals as goal

pub slice_bounds-copy_from_slice-end : goal.slice_bounds-copy_from_slice-end
slice_bounds-copy_from_slice-end c = let a = c.args in
    let l : a.at + 1 + length c.name_of-name.result.now ≤ length (set a.out.now a.at 32) = omega (arith, letter_short (Some a.letter), ap length c.name_of-name.ensures, length-set a.out.now a.at 32) in
    search (rules, l)

pub returns-clause-output : goal.returns-clause-output
returns-clause-output c = let a = c.args in
    let name = c.name_of-name.result.now in
    let o = set a.out.now a.at 32 in
    in_place o name c.copy_from_slice.new.self (a.at + 1) (a.at + 1 + length name - (a.at + 1)) (omega arith) (omega (arith, letter_short (Some a.letter), ap length c.name_of-name.ensures, length-set a.out.now a.at 32)) c.copy_from_slice.ensures.after
    ∙ ap (λ (n : ℕ). sets o n name) (add-one a.at)
    ∙ ap (sets a.out.now a.at) c.name_of-name.ensures
