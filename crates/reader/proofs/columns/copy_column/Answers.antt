-- `reader::columns::copy_column`: what its goals need. Assumes nothing.
use mathlib.Core.Path.{refl}
use mathlib.Core.List.{List, [], ◌∷◌}
use Prim.Native.Nat.{ℕ, ◌+◌, ◌*◌}
use lib.ListN.{get_or, set}
use Rattle.laws.specs.Bits.{bits, run}
use Rattle.laws.specs.Strips.{strips}
use Rattle.reader.proofs.Leaves.{strips_turn, octet_piece}
use Rattle.reader.proofs.columns.copy_column.Goals as goal

pub loop-j-init : goal.loop-j-init
unfolding strips
loop-j-init c = refl

pub loop-j-preserved : goal.loop-j-preserved
loop-j-preserved c = let a = c.args in
    let k = c.loop-j in
    let B = a.b.now in
    let to = a.i + k.j * a.s.places in
    let x = get_or B (a.k + k.j * a.s.bytes) 0 in
    let P : ℕ → List ℕ = λ r. run (bits B) (a.k * 8 + r * (a.s.bytes * 8)) 1 8 in
    strips_turn a.out.now k.out (set k.out to x) (x ∷ []) a.i a.s.places k.j to P k.invariant refl refl (octet_piece B a.k a.s.bytes k.j x (c.type_inv.b (a.k + k.j * a.s.bytes)).fits refl)
