-- `receiver::fill`: what its goals need: a word, the delivery, and the other word between them. Assumes nothing.
use mathlib.Core.Path.{refl}
use native.Mathlib.Omega.{arith}
use Rattle.receiver.proofs.Ends.{filled}
use Rattle.receiver.proofs.fill.Goals as goal

pub returns : goal.returns
returns c =
    let e = c.args in
    filled e.buffer.now c.store.new.out _ c.copy_from_slice.new.self c.store-2.new.out e.delivery.now e.receiver.high e.receiver.low (omega arith) c.requires.0 c.requires.1 c.store.ensures c.copy_from_slice.ensures.after refl c.store-2.ensures
