-- `sister::judge::fields_fine`: what its goals need. Assumes nothing.
use Rattle.sister.proofs.Found.{clock_fields}
use Rattle.sister.proofs.judge.fields_fine.Goals as goal

pub returns-in-Clock : goal.returns-in-Clock
returns-in-Clock c = rw c.no_such_day-no_day.ensures (clock_fields c.args.c _ _ _ _ _ _ c.in-Clock.is)
