-- `size::packet_size`: what its goals need. Assumes nothing.
use mathlib.Core.Path.{◌≡◌, sym, ap, ap₂, ◌∙◌}
use Prim.Native.Nat.{ℕ, ◌+◌, ◌*◌, ◌%◌}
use native.Mathlib.Omega.{arith}
use lib.ListN.{get_or}
use Rattle.size.proofs.Size.{size_bytes}
use Rattle.size.proofs.packet_size.Goals as goal

pub returns : goal.returns
returns c = let b = c.args.b.now in
    let small : get_or b 1 0 ≡ get_or b 1 0 % 256 = omega (arith, (c.type_inv.b 1).fits) in
    ap₂ (λ (x y : ℕ). x * 256 + y + 2) (c.from.ensures ∙ ap (λ (x : ℕ). x % 8) c.byte-high.ensures) (c.from-2.ensures ∙ c.byte-low.ensures ∙ small) ∙ sym (size_bytes b)
