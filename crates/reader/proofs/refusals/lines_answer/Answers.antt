-- `reader::refusals::lines_answer`: what its goals need. Assumes nothing.
use mathlib.Core.Path.{sym, ap, ◌∙◌}
use Prim.Native.Nat.{min, ℕ}
use native.Mathlib.Omega.{arith}
use borrow.Author.Tests.{eq-eqb, ne_eqb}
use Rattle.laws.proofs.Cases.{if_yes, if_no}
use Rattle.reader.specs.Due.{answer_by}
use Rattle.reader.proofs.refusals.lines_answer.Goals as goal

pub refusal_of-requires : goal.refusal_of-requires
refusal_of-requires c = let a = c.args in
    let e = c.min-due.ensures ∙ ap (λ (x : ℕ). min x a.content) (c.min.ensures ∙ ap (min a.codes) c.digits_due.ensures) in
    rw e (c.requires (omega (arith, e, c.min-due, c.if-due.true)))

pub returns-then-due : goal.returns-then-due
returns-then-due c = let a = c.args in
    let e = c.min-due.ensures ∙ ap (λ (x : ℕ). min x a.content) (c.min.ensures ∙ ap (min a.codes) c.digits_due.ensures) in
    c.refusal_of.ensures ∙ sym (if_no _ _ (ne_eqb c.min-due.result 255 c.if-due.true)) ∙ ap (λ (d : ℕ). answer_by d a.day) e

pub returns-then-day : goal.returns-then-day
returns-then-day c = let a = c.args in
    let e = c.min-due.ensures ∙ ap (λ (x : ℕ). min x a.content) (c.min.ensures ∙ ap (min a.codes) c.digits_due.ensures) in
    sym (if_yes _ _ (eq-eqb c.min-due.result 255 c.if-due.false) ∙ if_yes _ _ c.if-day.true) ∙ ap (λ (d : ℕ). answer_by d a.day) e

pub returns : goal.returns
returns c = let a = c.args in
    let e = c.min-due.ensures ∙ ap (λ (x : ℕ). min x a.content) (c.min.ensures ∙ ap (min a.codes) c.digits_due.ensures) in
    sym (if_yes _ _ (eq-eqb c.min-due.result 255 c.if-due.false) ∙ if_no _ _ c.if-day.false) ∙ ap (λ (d : ℕ). answer_by d a.day) e
