-- `sister::parts::command`: what its goals need. Assumes nothing.
use Rattle.laws.specs.Bits.{at, bits}
use mathlib.Core.Path.{sym, ap, ap₂, ◌∙◌}
use Prim.Native.Nat.{ℕ}
use native.Mathlib.Omega.{arith}
use Rattle.laws.proofs.Cases.{if_yes}
use Rattle.format.proofs.Leaves.{reached}
use Rattle.sister.specs.declared.Command.TheVariants as command
use Rattle.sister.specs.declared.Kind.TheVariants.{Clock, Resource, Lock, Unknown}
use Rattle.sister.specs.Reading.{count_of}
use Rattle.sister.proofs.Found as found
use Rattle.sister.proofs.parts.command.Goals as goal

pub returns-in-Clock : goal.returns-in-Clock
returns-in-Clock c = let b = c.args.b.now in c.clock.ensures ∙ found.clock_numbers b (count_of b) ∙ found.command_is b Clock (sym c.kind.ensures ∙ c.in-Clock.is)

pub returns-in-Resource : goal.returns-in-Resource
returns-in-Resource c = ap (λ (n : ℕ). command.Resource n) c.count.ensures.0 ∙ found.command_is c.args.b.now Resource (sym c.kind.ensures ∙ c.in-Resource.is)

pub returns-in-Lock : goal.returns-in-Lock
returns-in-Lock c = ap₂ (λ (k n : ℕ). command.Lock k n) (c.field.ensures ∙ if_yes (at (bits c.args.b.now) 24 32) 0 (reached 24 1 32 (omega arith) (omega arith) (omega arith))) c.count-in-Lock.ensures.0 ∙ found.lock_numbers c.args.b.now (count_of c.args.b.now) ∙ found.command_is c.args.b.now Lock (sym c.kind.ensures ∙ c.in-Lock.is)

pub returns-in-Unknown : goal.returns-in-Unknown
returns-in-Unknown c = found.command_is c.args.b.now Unknown (sym c.kind.ensures ∙ c.in-Unknown.is)
