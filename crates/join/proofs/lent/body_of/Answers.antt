use Rattle.join.proofs.Bodies.{part_codes, field_is}
use Rattle.packet.specs.Reading.{codes_in}
use native.Mathlib.Omega.{arith}
use mathlib.Core.Path.{◌≡◌}
use Rattle.join.proofs.Bodies.{part_body}
use Rattle.laws.specs.Bits.{at, bits}
use lib.ListN.{take, drop}
use Prim.Native.Nat.{ℕ, ◌+◌, ◌*◌}
use mathlib.Core.Path.{sym, ap, ap₂, ◌∙◌}
use Rattle.join.proofs.lent.body_of.Goals as goal

pub returns : goal.returns
returns c = let b = c.args.b.now in
    let n = c.field-n.result in
    let e : n ≡ codes_in b = c.field-n.ensures in
    let few = part_codes b c.requires in
    let t = c.field-t.ensures ∙ field_is (bits b) (176 + 96 * n) 8 (omega arith) (omega arith) ∙ ap (λ (k : ℕ). at (bits b) (176 + 96 * k) 8) e in
    c.part.ensures ∙ ap₂ (λ (m k : ℕ). take m (drop (23 + 12 * k) b)) t e ∙ sym (part_body b c.requires)
