-- `join::found::digits_at`: what its goals need. Assumes nothing.
use mathlib.Core.Path.{◌≡◌, sym, ap, ◌∙◌}
use mathlib.Core.List.{List}
use Prim.Native.Nat.{ℕ, ◌+◌, ◌*◌}
use native.Mathlib.Omega.{arith}
use lib.ListN.{replicate}
use lib.Seq.{sets}
use Rattle.laws.specs.Bits.{run, bits}
use Rattle.format.specs.Reach.{fields_read}
use Rattle.packet.specs.Reading.{codes_in}
use Rattle.join.specs.Places.{piece_at}
use Rattle.join.proofs.Bodies.{part_codes, part_digits, fields_are}
use Rattle.join.proofs.found.digits_at.Goals as goal

pub returns : goal.returns
returns c = let x = c.args in
    let b = piece_at x.packets.now x.i in
    let p = c.piece-b.ensures in
    let n = c.field-n.result in
    let e : n ≡ codes_in b = c.field-n.ensures ∙ ap codes_in p in
    let few = part_codes b c.requires in
    c.fields.ensures
    ∙ ap (sets (replicate 35 0) 0) (ap (λ (l : List ℕ). fields_read (bits l) (36 + 96 * n) 35 4 0) p ∙ fields_are (bits b) (36 + 96 * n) (omega arith) ∙ ap (λ (k : ℕ). run (bits b) (36 + 96 * k) 35 4) e)
    ∙ sym (part_digits b c.requires)
