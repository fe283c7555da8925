-- `shelf::summary::clear`: what its goals need. Assumes nothing.
use native.Mathlib.Omega.{arith}
use mathlib.Core.Path.{ap, sym, ◌∙◌}
use lib.ListN.{length}
use Prim.Native.Nat.{◌*◌}
use lib.Seq.{length-sets}
use Rattle.shelf.specs.Summary.{word}
use Rattle.shelf.proofs.Entries.{clearing_first, clearing_turn, clearing_last}
use Rattle.shelf.proofs.summary.clear.Goals as goal

pub loop-kind-init : goal.loop-kind-init
loop-kind-init c = clearing_first _ c.requires

pub put_word-requires : goal.put_word-requires
put_word-requires c = omega (arith, c.loop-kind.invariant.kept)

pub put_word-requires-in-loop-kind : goal.put_word-requires-in-loop-kind
put_word-requires-in-loop-kind c = omega (arith, c.loop-kind.invariant.kept, ap length c.put_word.ensures ∙ length-sets c.loop-kind.summary (8 * c.loop-kind.kind) (word 0))

pub loop-kind-preserved : goal.loop-kind-preserved
loop-kind-preserved c = clearing_turn _ c.loop-kind.summary c.put_word.new.summary _ c.loop-kind.kind c.loop-kind.invariant (omega arith) c.put_word.ensures c.put_word-in-loop-kind.ensures

pub shape_of-summary : goal.shape_of-summary
shape_of-summary c = c.loop-kind.invariant.kept ∙ sym c.requires

pub returns : goal.returns
returns c = clearing_last _ _ _ c.requires c.loop-kind.invariant (omega arith)
