-- `reader::text_answer`: what its goals need. Assumes nothing.
use mathlib.Core.Path.{sym, ap, ◌∙◌}
use Prim.Native.Nat.{ℕ}
use Rattle.std.proofs.lemmas.Result.{err_from_is_err_and}
use Rattle.refusal.proofs.Numbers.{some_number}
use Rattle.packet.specs.Reading.{type_in, read_answer}
use borrow.Author.Tests.{eq-eqb, ne_eqb}
use Rattle.reader.proofs.Whole as whole
use mathlib.Core.Bool.{Bool, not, cond}
use lib.Dec.{eqb}
use Rattle.reader.proofs.text_answer.Goals as goal

pub returns-in_err-answer : goal.returns-in_err-answer
returns-in_err-answer c = let b = c.args.packet.now in
    let e = c.in_err-answer.ensures in
    let p = err_from_is_err_and c.from_residual.result c.from_residual.ensures.1 in
    rw (p.1, p.2) (e ∙ sym (whole.text_later b ∙ whole.later_not (read_answer b) (not (eqb (type_in b) 15)) (λ h. some_number c.in_err-answer.field-0.0 (e ∙ h))))

pub returns-then-type_in-ne15 : goal.returns-then-type_in-ne15
returns-then-type_in-ne15 c = let b = c.args.packet.now in
    let e = sym c.in_ok-answer.ensures in
    sym (whole.text_later b ∙ ap (λ (a : ℕ). whole.later a (not (eqb (type_in b) 15))) e ∙ ap (λ (t : Bool). cond (not t) 27 0) (ne_eqb (type_in b) 15 (λ h. c.if-type_in-ne15.true (c.type_in.ensures ∙ h))))

pub returns : goal.returns
returns c = let b = c.args.packet.now in
    let e = sym c.in_ok-answer.ensures in
    sym (whole.text_later b ∙ ap (λ (a : ℕ). whole.later a (not (eqb (type_in b) 15))) e ∙ ap (λ (t : Bool). cond (not t) 27 0) (eq-eqb (type_in b) 15 (sym c.type_in.ensures ∙ c.if-type_in-ne15.false)))
