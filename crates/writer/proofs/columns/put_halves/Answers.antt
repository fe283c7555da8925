-- `writer::columns::put_halves`: what its goals need. Assumes nothing.
use Rattle.laws.specs.Bits.{bits}
use Rattle.writer.proofs.Beside.{halves_two}
use Rattle.writer.proofs.columns.put_halves.Goals as goal

pub returns : goal.returns
returns c = let a = c.args in
    let h = c.requires in
    halves_two a.xs.now (bits a.out.now) _ _ a.p a.n a.i h.0 h.4 c.put_odd.ensures c.put_pairs.ensures
