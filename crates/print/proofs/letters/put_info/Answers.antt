-- `print::letters::put_info`: what its goals need. Assumes nothing.
use mathlib.Core.Path.{ap, ◌∙◌}
use mathlib.Core.List.{List}
use Prim.Native.Nat.{ℕ, ◌+◌, ◌-◌}
use native.Mathlib.Omega.{arith}
use lib.ListN.{length, set, take, drop}
use lib.Seq.{sets}
use Rattle.print.specs.Lines.{hex_of}
use Rattle.print.proofs.Numbers.{info_put}
use Rattle.print.proofs.letters.put_info.Goals as goal

pub returns : goal.returns
returns c = let a = c.args in
    let o = set a.out.now a.at 32 in
    info_put a.info a.out.now c.put_hex.new.out a.at (omega arith) c.requires
    (c.put_hex.ensures ∙ ap (λ (b : List ℕ). sets (take (length o - (a.at + 1)) (drop (a.at + 1) o)) 0 (hex_of b)) c.to_be_bytes.ensures)
