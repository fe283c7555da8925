-- `writer::refusals::all_most`: what its goals need. Assumes nothing.
use mathlib.Core.Path.{◌≡◌, ap, ◌∙◌}
use Prim.Native.Nat.{ℕ, max}
use borrow.Author.Rules.{rules}
use lib.Dec.{leb}
use Rattle.std.specs.List.{fold}
use Rattle.writer.proofs.Inside.{most}
use Rattle.writer.proofs.refusals.all_most.Goals as goal

pub returns : goal.returns
returns c = let e : c.fold.result ≡ fold max 0 c.args.xs.now = search rules in ap (λ (m : ℕ). leb m c.args.hi) e ∙ most c.args.xs.now c.args.hi
