-- `shelf::put_packet`: what its goals need. Assumes nothing.
use Rattle.std.proofs.Common.{◌+◌, ◌-◌, length, arith}
use Rattle.laws.proofs.Parts.{in_place}
use Rattle.shelf.proofs.put_packet.Goals as goal

pub returns : goal.returns
returns c =
    let packet = c.args.packet.now in
    in_place c.args.out.now packet _ 4 (4 + length packet - 4) (omega arith) (omega arith) c.copy_from_slice.ensures.after
