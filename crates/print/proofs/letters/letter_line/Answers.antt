-- `print::letters::letter_line`: what its goals need. Assumes nothing.
use mathlib.Core.Path.{sym, ap, ◌∙◌}
use Prim.Native.Nat.{◌+◌, ◌/◌}
use native.Mathlib.Omega.{arith}
use lib.ListN.{length}
use lib.Seq.{sets, length-sets}
use Rattle.std.specs.Prelude.{Option, Some}
use Rattle.block.specs.declared.AnyLetter.{AnyLetter}
use Rattle.block.specs.Letters.{place_of}
use Rattle.print.specs.Letters.{number_text, letter_text, info_text}
use Rattle.print.proofs.Numbers.{at_most_20}
use Rattle.print.proofs.LetterLine.{letter_short, some_place, within, short, none, whole}
use Rattle.print.proofs.letters.letter_line.Goals as goal

pub returns-then-out-lt29 : goal.returns-then-out-lt29
returns-then-out-lt29 c = let all = short _ _ _ (omega arith) in record { length = all.0; output = all.1 }

pub returns-in_default : goal.returns-in_default
returns-in_default c = let all = none _ _ _ (omega arith) (ap place_of (sym c.in_default.ensures)) in record { length = all.0; output = all.1 }

pub put_number-digits-requires : goal.put_number-digits-requires
put_number-digits-requires c = omega (arith, at_most_20 c.args.place)

pub put_letter-requires : goal.put_letter-requires
put_letter-requires c = omega (arith, at_most_20 c.args.place, c.put_number-digits.ensures.length, ap length c.put_number-digits.ensures.output ∙ length-sets c.args.out.now 0 (number_text c.args.place))

pub overflow_add-behind : goal.overflow_add-behind
overflow_add-behind c = omega (arith, at_most_20 c.args.place, c.put_number-digits.ensures.length, c.put_letter.ensures.length, letter_short (Some c.in-Some.letter))

pub overflow_cast-bits : goal.overflow_cast-bits
overflow_cast-bits c = omega (arith, within c.args.bits (λ e. some_place c.in-Some.letter (ap place_of c.in-Some.ensures ∙ e)))

pub put_info-requires : goal.put_info-requires
put_info-requires c = let k = ap length c.put_letter.ensures.output ∙ length-sets c.put_number-digits.new.out c.put_number-digits.result (letter_text (Some c.in-Some.letter)) ∙ ap length c.put_number-digits.ensures.output ∙ length-sets c.args.out.now 0 (number_text c.args.place) in
    omega (arith, k, at_most_20 c.args.place, c.put_number-digits.ensures.length, c.put_letter.ensures.length, letter_short (Some c.in-Some.letter))

pub overflow_add-result : goal.overflow_add-result
overflow_add-result c = omega (arith, at_most_20 c.args.place, c.put_number-digits.ensures.length, c.put_letter.ensures.length, letter_short (Some c.in-Some.letter))

pub shape_of-out : goal.shape_of-out
shape_of-out c = ap length c.put_info.ensures ∙ length-sets c.put_letter.new.out (c.put_number-digits.result + c.put_letter.result) (info_text (c.args.bits / 1024))
    ∙ ap length c.put_letter.ensures.output ∙ length-sets c.put_number-digits.new.out c.put_number-digits.result (letter_text (Some c.in-Some.letter)) ∙ ap length c.put_number-digits.ensures.output ∙ length-sets c.args.out.now 0 (number_text c.args.place)

pub returns : goal.returns
returns c = let l = c.in-Some.ensures in
    let n = c.put_number-digits in
    let p = c.put_letter in let all = whole c.args.place c.args.bits c.args.out.now (omega arith)
    (λ e. some_place c.in-Some.letter (ap place_of c.in-Some.ensures ∙ e))
    n.result p.result n.new.out p.new.out c.put_info.new.out
    n.ensures.length n.ensures.output
    (p.ensures.length ∙ ap (λ (x : Option AnyLetter). length (letter_text x)) l)
    (p.ensures.output ∙ ap (λ (x : Option AnyLetter). sets n.new.out n.result (letter_text x)) l)
    c.put_info.ensures in record { length = all.0; output = all.1 }
