-- `collector::whole::is_whole`: what its goals need. Assumes nothing.
use Rattle.std.proofs.Common.{arith}
use Rattle.size.proofs.Size.{size_most}
use Rattle.collector.proofs.whole.is_whole.Goals as goal

pub overflow_add-p : goal.overflow_add-p
overflow_add-p c = omega (arith, c.packet_size-p.ensures, size_most c.args.b.now)

pub overflow_add-p-2 : goal.overflow_add-p-2
overflow_add-p-2 c = omega (arith, c.packet_size-p.ensures, size_most c.args.b.now)
