use Rattle.receiver.proofs.Whole.{taken}
use Rattle.receiver.proofs.hear.Goals as goal

pub returns : goal.returns
returns c = let a = c.args in
    let p = c.requires in
    let s = c.search-read.ensures in let all = taken a.receiver a.delivery.now a.out.now a.counts.now p.0 p.1 p.2 p.3 c.fill.new.buffer c.search-read.new.out c.search-read.new.counts c.search-read.result c.rest-pending.result c.fill.ensures s.state s.out s.counts c.rest-pending.ensures in record { answer = all.0; out = all.1.0; counts = all.1.1 }
