-- `shelf::summary::note`: what its goals need. Assumes nothing.
use native.Mathlib.Omega.{arith}
use mathlib.Core.Path.{ap, sym, ◌∙◌}
use lib.ListN.{length}
use lib.Seq.{sets, length-sets}
use Prim.Native.Nat.{ℕ, ◌+◌, ◌*◌, ◌%◌, ◌^◌}
use mathlib.Core.List.{◌++◌}
use Rattle.laws.proofs.Writes.{join}
use Rattle.shelf.specs.Summary.{word, noted}
use Rattle.shelf.proofs.Entries.{word_length}
use Rattle.shelf.proofs.summary.note.Goals as goal

pub put_word-requires-2 : goal.put_word-requires-2
put_word-requires-2 c = let a = c.args in
    omega (arith, ap length c.put_word.ensures ∙ length-sets a.summary.now (8 * a.kind) (word ((c.word_at.result + 1) % 2 ^ 32)))

pub returns : goal.returns
unfolding noted
returns c = let a = c.args in
    let p = c.put_word in
    join a.summary.now p.new.summary _ (word ((c.word_at.result + 1) % 2 ^ 32)) (word a.number) (8 * a.kind) (8 * a.kind + 4) p.ensures c.put_word-2.ensures (ap (λ (n : ℕ). 8 * a.kind + n) (sym (word_length _)))
    ∙ ap (λ (x : ℕ). sets a.summary.now (8 * a.kind) (word ((x + 1) % 2 ^ 32) ++ word a.number)) c.word_at.ensures
