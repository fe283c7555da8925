-- `reader::parts::time`: what its goals need. Assumes nothing.
use mathlib.Core.Path.{◌≡◌, refl, ◌∙◌}
use mathlib.Core.List.{[], ◌∷◌}
use Prim.Native.Nat.{ℕ, ◌+◌, ◌-◌, ◌*◌}
use native.Mathlib.Omega.{arith}
use lib.ListN.{length, get_or}
use mir.Syntax.{w32}
use Rattle.std.specs.Int.{from_be_bytes}
use Rattle.reader.proofs.Leaves.{four_bytes}
use Rattle.reader.proofs.parts.time.Goals as goal

-- the highest byte first
in_order : (w x y z : ℕ) → from_be_bytes w32 (w ∷ (x ∷ (y ∷ (z ∷ [])))) ≡ w * 16777216 + x * 65536 + y * 256 + z
in_order w x y z = omega arith

pub returns : goal.returns
returns c = let b = c.args.b.now in
    let k = length b - 74 in
    let fits = λ (i : ℕ). (c.type_inv.b i).fits in
    c.from_be_bytes.ensures
    ∙ in_order (get_or b k 0) (get_or b (k + 1) 0) (get_or b (k + 2) 0) (get_or b (k + 3) 0)
    ∙ four_bytes b k (get_or b k 0) (get_or b (k + 1) 0) (get_or b (k + 2) 0) (get_or b (k + 3) 0) (fits k) (fits (k + 1)) (fits (k + 2)) (fits (k + 3)) refl refl refl refl
