-- `reader::refusals::size_bad`: what its goals need. Assumes nothing.
use mathlib.Core.Path.{sym, ◌∙◌}
use Rattle.size.specs.Size.{packet_size}
use Rattle.reader.proofs.Whole as whole
use Rattle.reader.proofs.refusals.size_bad.Goals.{then-p-lt77-via-then-p-lt77, then-p-lt77-via-else-p-lt77+then-p-gt250, then-p-lt77-via-else-p-lt77+else-p-gt250+then-p-packet_size}
use Rattle.reader.proofs.refusals.size_bad.Goals as goal

pub returns-then-p-lt77 : goal.returns-then-p-lt77
unfolding packet_size
returns-then-p-lt77 c = let b = c.args.b.now in
    elim c.then-p-lt77.branch [
      | then-p-lt77-via-then-p-lt77 w ↦ whole.short b w.if-p-lt77.true
      | then-p-lt77-via-else-p-lt77+then-p-gt250 w ↦ whole.long b w.if-p-lt77.false w.if-p-gt250.true
      | then-p-lt77-via-else-p-lt77+else-p-gt250+then-p-packet_size w ↦ whole.other b w.if-p-lt77.false w.if-p-gt250.false (λ e. w.if-p-packet_size.true (e ∙ sym w.packet_size.ensures))
    ]

pub returns : goal.returns
unfolding packet_size
returns c = let b = c.args.b.now in
    rw c.codes_count.ensures.0 (whole.few b c.if-p-lt77.false c.if-p-gt250.false (c.if-p-packet_size.false ∙ c.packet_size.ensures))
