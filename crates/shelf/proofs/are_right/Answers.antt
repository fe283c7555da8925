-- `shelf::are_right`: what its goals need. Assumes nothing.
use borrow.Author.Rules.{rules}
use Rattle.shelf.proofs.Records.{as_all_right}
use Rattle.shelf.proofs.are_right.Goals as goal

pub returns : goal.returns
returns c =
    as_all_right c.args.shelf.now c.chunks_exact.result _ _ c.chunks_exact.ensures.rest c.chunks_exact.ensures.size c.chunks_exact.ensures.runs
    (λ a r q h. search rules) (λ x b h. search rules) c.all.result c.all.ensures.runs
