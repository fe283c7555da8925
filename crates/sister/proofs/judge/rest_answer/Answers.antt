-- `sister::judge::rest_answer`: what its goals need. Assumes nothing.
use mathlib.Core.Path.{sym, ap, ◌∙◌}
use native.Mathlib.Omega.{arith}
use borrow.Author.Tests.{not-true, not-false}
use Rattle.sister.specs.declared.parts.Layout.{Layout}
use Rattle.sister.proofs.Put.{counted, reaches}
use Rattle.sister.proofs.Says as says
use mathlib.Core.Bool.{not}
use Rattle.sister.proofs.judge.rest_answer.Goals as goal

pub returns-then-not-digits_fine : goal.returns-then-not-digits_fine
returns-then-not-digits_fine c = let x = c.args in
    says.writes_25 x.c x.address.now x.codes.now x.room c.requires (sym c.digits_fine.ensures ∙ not-true c.digits_fine.result (ap not c.if-not-digits_fine.true))

pub returns-then-not-fields_fine : goal.returns-then-not-fields_fine
returns-then-not-fields_fine c = let x = c.args in
    says.writes_27 x.c x.address.now x.codes.now x.room c.requires (sym c.digits_fine.ensures ∙ not-false c.digits_fine.result (ap not c.if-not-digits_fine.false))
    (sym c.fields_fine.ensures ∙ not-true c.fields_fine.result (ap not c.if-not-fields_fine.true))

pub laid_for-requires : goal.laid_for-requires
laid_for-requires c = let x = c.args in (counted x.c x.address.now x.codes.now c.requires).few

pub overflow_add-laid_for : goal.overflow_add-laid_for
overflow_add-laid_for c = let x = c.args in
    omega (arith, (reaches x.c c.laid_for.result c.laid_for.ensures (counted x.c x.address.now x.codes.now c.requires).few).0)

pub returns-then-room-laid_for : goal.returns-then-room-laid_for
returns-then-room-laid_for c = let x = c.args in
    says.writes_10 x.c x.address.now x.codes.now x.room c.requires (sym c.digits_fine.ensures ∙ not-false c.digits_fine.result (ap not c.if-not-digits_fine.false))
    (sym c.fields_fine.ensures ∙ not-false c.fields_fine.result (ap not c.if-not-fields_fine.false)) (omega (arith, ap (λ (y : Layout). y.bytes) c.laid_for.ensures, c.if-room-laid_for.true))

pub returns : goal.returns
returns c = let x = c.args in
    says.writes_0 x.c x.address.now x.codes.now x.room c.requires (sym c.digits_fine.ensures ∙ not-false c.digits_fine.result (ap not c.if-not-digits_fine.false))
    (sym c.fields_fine.ensures ∙ not-false c.fields_fine.result (ap not c.if-not-fields_fine.false)) (omega (arith, ap (λ (y : Layout). y.bytes) c.laid_for.ensures))
