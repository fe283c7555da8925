-- `air::put_blocks`: what its goals need: its stores, one by one, are the thirteen bytes. Assumes nothing.
use mathlib.Core.Path.{sym, ap}
use lib.Seq.{sets}
use Rattle.air.proofs.Packed.{packed_bytes}
use Rattle.air.proofs.put_blocks.Goals as goal

pub returns : goal.returns
returns c = ap (sets c.args.out.now 0) (sym (packed_bytes c.args.a c.args.b c.args.c c.args.d))
