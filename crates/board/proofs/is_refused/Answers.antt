-- `board::is_refused`: what its goals need. Assumes nothing.
use mathlib.Core.Path.{sym, ap, ◌∙◌}
use Rattle.std.specs.Prelude.{Result}
use Rattle.refusal.specs.declared.Refusal.{Refusal}
use Rattle.collector.specs.declared.Offered.{Offered}
use Rattle.board.specs.Board.{refused_for_this}
use Rattle.board.proofs.Hearing.{same_refusal}
use Rattle.board.proofs.is_refused.Goals as goal

pub returns-in-Err : goal.returns-in-Err
returns-in-Err c = c.eq.ensures ∙ same_refusal _ c.args.why ∙ ap (λ (r : Result Offered Refusal). refused_for_this r c.args.why) (sym c.in-Err.is)
