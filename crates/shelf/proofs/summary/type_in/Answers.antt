-- `shelf::summary::type_in`: what its goals need. Assumes nothing.
use mathlib.Core.Path.{sym, subst}
use Prim.Native.Nat.{ℕ, ◌<◌}
use Rattle.shelf.proofs.Entries.{type_small}
use Rattle.shelf.proofs.summary.type_in.Goals as goal

pub returns : goal.returns
returns c = (c.field.ensures, subst (λ (n : ℕ). n < 32) (sym c.field.ensures) (type_small c.args.given.now))
