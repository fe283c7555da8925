-- `sister::judge::lines_answer`: what its goals need. Assumes nothing.
use mathlib.Core.Path.{refl, sym, ap, ◌∙◌}
use native.Mathlib.Omega.{arith}
use borrow.Author.Tests.{not-true, not-false}
use Rattle.sister.specs.declared.parts.Layout.{Layout}
use Rattle.sister.specs.Reading as reading
use Rattle.sister.specs.Layout.{fields_fine}
use Rattle.sister.proofs.Found.{places_in}
use Rattle.sister.proofs.Rows.{first_24, first_25}
use Rattle.sister.proofs.Says as says
use mathlib.Core.Bool.{not}
use Rattle.sister.proofs.judge.lines_answer.Goals as goal

pub codes_fine-requires : goal.codes_fine-requires
codes_fine-requires c = let z = places_in c.args.b.now in let e = c.laid_in-l.ensures in (omega (arith, z.0, ap (λ (y : Layout). y.place) e), omega (arith, z.1, ap (λ (y : Layout). y.codes) e))

pub returns-then-not-codes_fine : goal.returns-then-not-codes_fine
returns-then-not-codes_fine c = let b = c.args.b.now in
    says.says_24 b (sym (says.judged 24 refl refl first_24 b c.laid_in-l.result c.laid_in-l.ensures) ∙ sym c.codes_fine.ensures ∙ not-true c.codes_fine.result (ap not c.if-not-codes_fine.true))

pub codes_fine-requires-2 : goal.codes_fine-requires-2
codes_fine-requires-2 c = let z = places_in c.args.b.now in let e = c.laid_in-l.ensures in (omega (arith, z.0, ap (λ (y : Layout). y.place) e), omega (arith, z.1, ap (λ (y : Layout). y.codes) e))

pub returns-then-not-codes_fine-2 : goal.returns-then-not-codes_fine-2
returns-then-not-codes_fine-2 c = let b = c.args.b.now in
    let l = c.laid_in-l in
    says.says_25 b (sym (says.judged 24 refl refl first_24 b l.result l.ensures) ∙ sym c.codes_fine.ensures ∙ not-false c.codes_fine.result (ap not c.if-not-codes_fine.false))
    (sym (says.judged 25 refl refl first_25 b l.result l.ensures) ∙ sym c.codes_fine-2.ensures ∙ not-true c.codes_fine-2.result (ap not c.if-not-codes_fine-2.true))

pub returns-then-not-fields_fine : goal.returns-then-not-fields_fine
returns-then-not-fields_fine c = let b = c.args.b.now in
    let l = c.laid_in-l in
    says.says_27 b (sym (says.judged 24 refl refl first_24 b l.result l.ensures) ∙ sym c.codes_fine.ensures ∙ not-false c.codes_fine.result (ap not c.if-not-codes_fine.false))
    (sym (says.judged 25 refl refl first_25 b l.result l.ensures) ∙ sym c.codes_fine-2.ensures ∙ not-false c.codes_fine-2.result (ap not c.if-not-codes_fine-2.false))
    (not-false (reading.field_bad b) (sym (says.fields_are b) ∙ sym (c.fields_fine.ensures ∙ ap fields_fine c.command.ensures) ∙ not-true c.fields_fine.result (ap not c.if-not-fields_fine.true)))

pub returns : goal.returns
returns c = let b = c.args.b.now in
    let l = c.laid_in-l in
    says.says_0 b (sym (says.judged 24 refl refl first_24 b l.result l.ensures) ∙ sym c.codes_fine.ensures ∙ not-false c.codes_fine.result (ap not c.if-not-codes_fine.false))
    (sym (says.judged 25 refl refl first_25 b l.result l.ensures) ∙ sym c.codes_fine-2.ensures ∙ not-false c.codes_fine-2.result (ap not c.if-not-codes_fine-2.false))
    (not-true (reading.field_bad b) (sym (says.fields_are b) ∙ sym (c.fields_fine.ensures ∙ ap fields_fine c.command.ensures) ∙ not-false c.fields_fine.result (ap not c.if-not-fields_fine.false)))
