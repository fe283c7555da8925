-- `writer::columns::Column::fits`: what its goals need. Assumes nothing.
use mathlib.Core.Path.{sym}
use Prim.Native.Nat.{ℕ, ◌+◌, ◌*◌}
use lib.ListN.{drop}
use borrow.Author.Tests.{ne_eqb}
use Rattle.laws.proofs.Cases.{if_no}
use Rattle.format.specs.Format.{line_ok}
use Rattle.writer.specs.Puts.{value_of}
use Rattle.laws.proofs.Strips.{every_true}
use Rattle.writer.proofs.columns.Column.fits.Goals as goal

pub returns-else-self-a : goal.returns-else-self-a
returns-else-self-a c = let a = c.args in
    let t = a.self.line in
    sym (every_true a.self.rows (λ (m : ℕ). line_ok a.a t (value_of t (drop (a.self.first + m * a.self.numbers) a.xs.now))) (λ m l. if_no _ _ (ne_eqb t.answer a.a c.if-self-a.false)))
