-- `writer::packets::put_code`: what its goals need. Assumes nothing.
use mathlib.Core.Path.{refl}
use Prim.Native.Nat.{◌+◌, ◌%◌}
use lib.ListN.{get_or, set}
use Rattle.writer.proofs.Straight.{code_put}
use Rattle.writer.proofs.packets.put_code.Goals as goal

pub returns : goal.returns
returns c = let a = c.args in
    code_put a.out.now (set a.out.now a.k (240 + get_or a.codes.now a.i 0 % 16)) c.put_pairs.new.out a.codes.now a.k a.i c.requires.1 refl c.put_pairs.ensures
