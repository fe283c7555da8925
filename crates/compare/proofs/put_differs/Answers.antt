-- `compare::put_differs`: what its goals need. Assumes nothing.
use mathlib.Core.Path.{ap, ◌∙◌}
use native.Mathlib.Omega.{arith}
use lib.ListN.{length}
use lib.Seq.{length-sets}
use Rattle.compare.specs.Texts.{record_word, byte_word, phrase}
use Rattle.compare.proofs.Lines.{first_half, differs_put}
use Rattle.compare.proofs.put_differs.Goals as goal

pub put_phrase-requires : goal.put_phrase-requires
put_phrase-requires c = let a = c.args in
    let p = c.put_phrase-from in
    omega (arith, c.requires, first_half a.n, p.ensures.0, ap length p.ensures.1 ∙ length-sets a.out.now a.at (phrase record_word a.n byte_word))

pub returns : goal.returns
returns c = let a = c.args in
    let p = c.put_phrase-from in
    differs_put a.n a.byte a.x a.y a.at a.out.now c.hex_of-a.result c.hex_of-b.result c.hex_of-a.ensures c.hex_of-b.ensures p.result c.put_phrase.result p.new.out c.put_phrase.new.out p.ensures.0 p.ensures.1 c.put_phrase.ensures.0 c.put_phrase.ensures.1
