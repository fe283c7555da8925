-- `reader::columns::tested_column`: what its goals need. Assumes nothing.
use mathlib.Core.Path.{◌≡◌, refl, sym, ap, ◌∙◌}
use mathlib.Core.Bool.{◌&&◌}
use mathlib.Core.List.{List, [], ◌∷◌}
use Prim.Native.Nat.{ℕ, ◌+◌, ◌*◌}
use lib.Dec.{leb}
use lib.ListN.{get_or, set}
use Rattle.laws.specs.Bits.{bits, run}
use Rattle.laws.specs.Strips.{strips, every}
use Rattle.format.specs.Format.{inside}
use Rattle.reader.proofs.Leaves.{within_yes, within_no, inside_one, strips_turn, every_turn, octet_piece}
use Rattle.reader.proofs.columns.tested_column.Goals.{then-lo-x, else-lo-x}
use Rattle.reader.proofs.columns.tested_column.Goals as goal

pub loop-j-init : goal.loop-j-init
unfolding strips every
loop-j-init c = (refl, refl)

pub loop-j-preserved : goal.loop-j-preserved
loop-j-preserved c = let a = c.args in
    let k = c.loop-j in
    let B = a.b.now in
    let to = a.i + k.j * a.s.places in
    let x = get_or B (a.k + k.j * a.s.bytes) 0 in
    let P : ℕ → List ℕ = λ r. run (bits B) (a.k * 8 + r * (a.s.bytes * 8)) 1 8 in
    let piece : x ∷ [] ≡ P k.j = octet_piece B a.k a.s.bytes k.j x (c.type_inv.b (a.k + k.j * a.s.bytes)).fits refl in
    let h : c.if-lo-x.good ≡ (leb a.lo x && leb x a.hi) = elim c.if-lo-x.branch [ then-lo-x w ↦ within_yes _ a.lo x a.hi w.if-lo-x.true w.good-is | else-lo-x w ↦ within_no _ a.lo x a.hi w.if-lo-x.false w.good-is ] in (
      strips_turn a.out.now k.out (set k.out to x) (x ∷ []) a.i a.s.places k.j to P k.invariant.0 refl refl piece,
      every_turn k.good (k.good && c.if-lo-x.good) k.j (λ (r : ℕ). inside a.lo a.hi (P r)) c.if-lo-x.good k.invariant.1 refl (h ∙ sym (inside_one a.lo a.hi x) ∙ ap (inside a.lo a.hi) piece),
    )
