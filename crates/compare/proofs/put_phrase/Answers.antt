-- `compare::put_phrase`: what its goals need. Assumes nothing.
use native.Mathlib.Omega.{arith}
use Rattle.compare.proofs.Lines.{still_long, fits, phrase_put}
use Rattle.compare.proofs.put_phrase.Goals as goal

pub overflow_add-from : goal.overflow_add-from
overflow_add-from c = let a = c.args in
    let w = c.put_words-from in
    omega (arith, fits a.words.now a.n a.ending.now a.at a.out.now c.requires w.result c.number-digits.result w.new.out c.number-digits.new.out w.ensures.0 w.ensures.1 c.number-digits.ensures.length c.number-digits.ensures.output)

pub put_words-requires : goal.put_words-requires
put_words-requires c = let a = c.args in
    let w = c.put_words-from in
    omega (arith, still_long a.words.now a.n a.ending.now a.at a.out.now c.requires w.result c.number-digits.result w.new.out c.number-digits.new.out w.ensures.0 w.ensures.1 c.number-digits.ensures.length c.number-digits.ensures.output, fits a.words.now a.n a.ending.now a.at a.out.now c.requires w.result c.number-digits.result w.new.out c.number-digits.new.out w.ensures.0 w.ensures.1 c.number-digits.ensures.length c.number-digits.ensures.output)

pub returns : goal.returns
returns c = let a = c.args in
    let w = c.put_words-from in
    phrase_put a.words.now a.n a.ending.now a.at a.out.now c.requires w.result c.number-digits.result w.new.out c.number-digits.new.out w.ensures.0 w.ensures.1 c.number-digits.ensures.length c.number-digits.ensures.output _ _ c.put_words.ensures.0 c.put_words.ensures.1
