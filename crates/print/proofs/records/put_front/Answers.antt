-- `print::records::put_front`: what its goals need. Assumes nothing.
use mathlib.Core.Path.{ap, ◌∙◌}
use native.Mathlib.Omega.{arith}
use lib.ListN.{length}
use lib.Seq.{length-sets}
use Rattle.print.specs.Records.{spaced}
use Rattle.print.proofs.RecordLine.{spaced_length, front_length, front_put}
use Rattle.print.proofs.records.put_front.Goals as goal

pub put_spaced-second-requires : goal.put_spaced-second-requires
put_spaced-second-requires c = omega (arith, front_length c.args.level c.args.version c.args.size, spaced_length c.args.level)

pub put_spaced-third-requires : goal.put_spaced-third-requires
put_spaced-third-requires c = let a = c.args in
    omega (arith, front_length a.level a.version a.size, spaced_length a.level, spaced_length a.version, c.put_spaced-second.ensures.0, ap length c.put_spaced-second.ensures.1 ∙ length-sets a.out.now 0 (spaced a.level))

pub put_spaced-requires : goal.put_spaced-requires
put_spaced-requires c = let a = c.args in
    let one = c.put_spaced-second in
    let two = c.put_spaced-third in
    omega (
      arith,
      front_length a.level a.version a.size,
      spaced_length a.level,
      spaced_length a.version,
      spaced_length a.size,
      one.ensures.0,
      two.ensures.0,
      ap length two.ensures.1 ∙ length-sets one.new.out one.result (spaced a.version) ∙ ap length one.ensures.1 ∙ length-sets a.out.now 0 (spaced a.level),
    )

pub returns : goal.returns
returns c = let a = c.args in
    let one = c.put_spaced-second in
    let two = c.put_spaced-third in
    let three = c.put_spaced in
    front_put a.level a.version a.size a.out.now one.new.out two.new.out three.new.out one.result two.result three.result
    one.ensures.1 one.ensures.0 two.ensures.1 two.ensures.0 three.ensures.1 three.ensures.0
