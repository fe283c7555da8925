-- `reader::columns::digits_column`: what its goals need. Assumes nothing.
use mathlib.Core.Path.{◌≡◌, refl, ap, ◌∙◌}
use mathlib.Core.Logic.{inl, inr}
use mathlib.Core.Bool.{◌&&◌}
use mathlib.Core.List.{List}
use Prim.Native.Nat.{ℕ, ◌-◌, ◌+◌, ◌*◌}
use Rattle.laws.specs.Bits.{bits, run}
use Rattle.laws.specs.Strips.{strips, every}
use Rattle.format.specs.Format.{inside}
use Rattle.reader.proofs.Leaves.{flagged, strips_turn, every_turn, digits_place}
use Rattle.reader.proofs.columns.digits_column.Goals.{else-not-here, then-not-here}
use Rattle.reader.proofs.columns.digits_column.Goals as goal

pub loop-j-init : goal.loop-j-init
unfolding strips every
loop-j-init c = (refl, refl)

pub loop-j-preserved : goal.loop-j-preserved
loop-j-preserved c = let a = c.args in
    let k = c.loop-j in
    let to = a.i + k.j * a.s.places in
    let here = c.take_digits-here.result in
    let done = c.take_digits-here.ensures in
    let v = run (bits a.b.now) ((a.e + k.j * a.s.bytes) * 8 - a.c * 4) a.c 4 in
    let P : ℕ → List ℕ = λ r. run (bits a.b.now) (a.e * 8 - a.c * 4 + r * (a.s.bytes * 8)) a.c 4 in
    let piece : v ≡ P k.j = ap (λ (q : ℕ). run (bits a.b.now) q a.c 4) (digits_place a.e a.c a.s.bytes k.j c.requires.enough) in
    let flag : c.if-not-here.good ≡ (k.good && here) = flagged _ k.good _ (λ w. w) (λ w. w) (elim c.if-not-here.branch [ then-not-here w ↦ inl (w.if-not-here.true, w.good-is) | else-not-here w ↦ inr (w.if-not-here.false, w.good-is) ]) in (
      strips_turn a.out.now k.out c.take_digits-here.new.out v a.i a.s.places k.j to P k.invariant.0 refl done.0 piece,
      every_turn k.good c.if-not-here.good k.j (λ (r : ℕ). inside 0 9 (P r)) here k.invariant.1 flag (done.1 ∙ ap (inside 0 9) piece),
    )
