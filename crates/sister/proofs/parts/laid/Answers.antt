-- `sister::parts::laid`: what its goals need. Assumes nothing.
use native.Mathlib.Omega.{arith}
use Rattle.format.specs.Format.{size}
use Rattle.packet.specs.Reading.{part_at}
use Rattle.sister.specs.declared.Kind.TheVariants.{Clock, Resource, Lock, Unknown}
use Rattle.sister.specs.Layout.{codes_at}
use Rattle.sister.proofs.Found.{laid_as}
use Rattle.sister.proofs.parts.laid.Goals as goal

pub returns-in-Clock : goal.returns-in-Clock
unfolding codes_at part_at size
returns-in-Clock c = laid_as Clock c.args.k _ _ _ _ c.args.f c.in-Clock.is (omega arith) (omega arith) (omega arith) (omega arith)

pub returns-in-Resource : goal.returns-in-Resource
unfolding codes_at part_at size
returns-in-Resource c = laid_as Resource c.args.k _ _ _ _ c.args.f c.in-Resource.is (omega arith) (omega arith) (omega arith) (omega arith)

pub returns-in-Lock : goal.returns-in-Lock
unfolding codes_at part_at size
returns-in-Lock c = laid_as Lock c.args.k _ _ _ _ c.args.f c.in-Lock.is (omega arith) (omega arith) (omega arith) (omega arith)

pub returns-in-Unknown : goal.returns-in-Unknown
unfolding codes_at part_at size
returns-in-Unknown c = laid_as Unknown c.args.k _ _ _ _ c.args.f c.in-Unknown.is (omega arith) (omega arith) (omega arith) (omega arith)
