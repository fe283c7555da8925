-- `writer::packets::put_time`: what its goals need. Assumes nothing.
use mathlib.Core.Path.{◌≡◌, ap, ◌∙◌}
use mathlib.Core.List.{List}
use Prim.Native.Nat.{ℕ, ◌*◌}
use native.Mathlib.Omega.{arith}
use mir.Syntax.{w32}
use borrow.Author.Rules.{rules}
use Rattle.std.specs.Int.{to_be_bytes}
use lib.Seq.{sets}
use Rattle.laws.specs.Bits.{bits, spread}
use Rattle.writer.proofs.Straight.{time_bits}
use Rattle.writer.proofs.packets.put_time.Goals as goal

pub returns : goal.returns
returns c = let a = c.args in
    let e : c.to_be_bytes.result ≡ to_be_bytes w32 a.time = search rules in
    c.put_bytes.ensures ∙ ap (λ (d : List ℕ). sets (bits a.out.now) (a.k * 8) (spread 8 d)) e ∙ ap (sets (bits a.out.now) (a.k * 8)) (time_bits a.time (omega arith))
