-- `reader::columns::take_number`: what its goals need. Assumes nothing.
use mathlib.Core.Path.{◌≡◌, refl, sym, ap, ◌∙◌}
use native.Mathlib.Omega.{arith}
use mathlib.Core.List.{List, [], ◌∷◌}
use mathlib.Core.Bool.{cond}
use Prim.Native.Nat.{ℕ}
use lib.Seq.{sets}
use Rattle.laws.specs.Bits.{at, run, bits}
use Rattle.laws.proofs.Cases.{if_yes}
use Rattle.format.specs.declared.Line.{Line}
use Rattle.format.specs.Format.{inside}
use Rattle.format.proofs.Leaves.{reached}
use Rattle.reader.proofs.Leaves.{within_yes, within_no, inside_one}
use Rattle.reader.proofs.columns.take_number.Goals as goal

number : (b : List ℕ) (p : ℕ) (t : Line) (x : ℕ) → t.count ≡ 1 → x ≡ at (bits b) p t.width → x ∷ [] ≡ run (bits b) p t.count t.width
unfolding run
number b p t x e f = rw (e, f)

pub returns-then-t-x : goal.returns-then-t-x
returns-then-t-x c = let a = c.args in
    let x = c.field-x.result in
    let e = number a.b.now a.p a.t x c.requires.0 (c.field-x.ensures ∙ if_yes _ _ (reached a.p 1 a.t.width c.requires.2 (omega arith) c.requires.1)) in
    (c.keep.ensures ∙ ap (λ (l : List ℕ). sets a.out.now a.i (cond a.t.given l [])) e, within_yes _ a.t.lo x a.t.hi c.if-t-x.true refl ∙ sym (inside_one a.t.lo a.t.hi x) ∙ ap (inside a.t.lo a.t.hi) e)

pub returns-else-t-x : goal.returns-else-t-x
returns-else-t-x c = let a = c.args in
    let x = c.field-x.result in
    let e = number a.b.now a.p a.t x c.requires.0 (c.field-x.ensures ∙ if_yes _ _ (reached a.p 1 a.t.width c.requires.2 (omega arith) c.requires.1)) in
    (c.keep.ensures ∙ ap (λ (l : List ℕ). sets a.out.now a.i (cond a.t.given l [])) e, within_no _ a.t.lo x a.t.hi c.if-t-x.false refl ∙ sym (inside_one a.t.lo a.t.hi x) ∙ ap (inside a.t.lo a.t.hi) e)
