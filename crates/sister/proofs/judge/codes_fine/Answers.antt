-- `sister::judge::codes_fine`: what its goals need. Assumes nothing.
use mathlib.Core.Path.{sym, ◌∙◌}
use mathlib.Core.Bool.{Bool}
use Prim.Native.Nat.{ℕ, ◌+◌, ◌*◌}
use native.Mathlib.Omega.{arith}
use borrow.Author.Tests.{tests}
use Rattle.std.proofs.Common.{rules}
use Rattle.std.proofs.lemmas.Iterator.{YieldsList-from_range}
use Rattle.std.proofs.lemmas.Iterator.Search.{all_from_yields_List}
use Rattle.laws.specs.Bits.{bits}
use Rattle.format.specs.Format.{size, fine, decode}
use Rattle.refusal.specs.Refusal.{number_of}
use Rattle.packet.specs.Table.{code}
use Rattle.packet.proofs.Columns.{every_range, fine_rows}
use Rattle.sister.proofs.judge.codes_fine.Goals as goal

pub returns : goal.returns
unfolding size
returns c = let a = c.args in
    let F : ℕ → Bool = λ j. fine (number_of a.refusal) code (decode code (bits a.b.now) (a.p + j * 96)) in
    all_from_yields_List F _ _ _ c.all.ensures.ran (YieldsList-from_range 0 a.n a.n (search rules) (omega arith)) (λ x r q k. search (rules, tests))
    ∙ sym (every_range a.n F)
    ∙ sym (fine_rows (number_of a.refusal) a.n code (bits a.b.now) a.p)
