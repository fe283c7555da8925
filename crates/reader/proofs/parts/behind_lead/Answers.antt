-- `reader::parts::behind_lead`: what its goals need. Assumes nothing.
use mathlib.Core.Path.{◌≡◌, ap₂}
use Prim.Native.Nat.{ℕ, ◌+◌, ◌-◌, ◌*◌, ◌/◌}
use native.Mathlib.Omega.{arith}
use lib.ListN.{take, drop}
use Rattle.packet.specs.Table.{row_of}
use Rattle.packet.specs.Reading.{codes_in, kind_in, part_at}
use Rattle.reader.proofs.parts.behind_lead.Goals as goal

pub returns : goal.returns
returns c = let b = c.args.b.now in
    let from = 3 + 12 * c.codes_count.result + c.lead.result / 8 in
    let long : from + c.args.n - from ≡ c.args.n = omega arith in
    let place : from ≡ 3 + 12 * codes_in b + part_at (row_of (kind_in b)) / 8 = rw (c.codes_count.ensures.0, c.lead.ensures.0) in
    ap₂ (λ (m q : ℕ). take m (drop q b)) long place
