-- `sister::parts::count`: what its goals need. Assumes nothing.
use mathlib.Core.Path.{sym, ◌∙◌}
use mathlib.Core.Logic.{⊎_elim}
use native.Mathlib.Omega.{arith}
use Rattle.laws.proofs.Bits.{at_small}
use Rattle.format.specs.Format.{size}
use Rattle.sister.specs.declared.Kind.TheVariants.{Clock, Resource, Lock, Unknown}
use Rattle.sister.proofs.Found as found
use Rattle.sister.proofs.parts.count.Goals as goal

pub returns-in-Resource : goal.returns-in-Resource
unfolding size
returns-in-Resource c = (c.from.ensures ∙ c.octet.ensures ∙ found.count_is c.args.b.now Resource (sym c.kind.ensures ∙ c.in-Resource.is), omega (arith, c.from.ensures, c.octet.ensures, at_small c.args.b.now 24 8 8 (omega arith)))

pub returns-in-Lock : goal.returns-in-Lock
unfolding size
returns-in-Lock c = (c.from-in-Lock.ensures ∙ c.octet-in-Lock.ensures ∙ found.count_is c.args.b.now Lock (sym c.kind.ensures ∙ c.in-Lock.is), omega (arith, c.from-in-Lock.ensures, c.octet-in-Lock.ensures, at_small c.args.b.now 56 8 8 (omega arith)))

pub returns-in-Clock : goal.returns-in-Clock
unfolding size
returns-in-Clock c = (
  ⊎_elim (λ e. found.count_is c.args.b.now Clock (sym c.kind.ensures ∙ e)) (λ e. found.count_is c.args.b.now Unknown (sym c.kind.ensures ∙ e)) c.in-Clock.is,
  omega arith,
)
