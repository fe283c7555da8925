-- `reader::columns::take_column`: what its goals need. Assumes nothing.
use mathlib.Core.Path.{◌≡◌, refl, sym, ◌∙◌}
use native.Mathlib.Omega.{arith}
use mathlib.Core.Bool.{true}
use mathlib.Core.List.{List, []}
use Prim.Native.Nat.{ℕ, ◌+◌, ◌-◌, ◌*◌, ◌/◌}
use lib.ListN.{length}
use borrow.Author.Tests.{not-true, not-false}
use Rattle.laws.specs.Bits.{bits, run}
use Rattle.laws.proofs.Cases.{if_no}
use Rattle.format.proofs.Sound.{sound_is}
use Rattle.reader.specs.Taking.{own_at}
use Rattle.reader.proofs.Leaves.{strips_none, same_is, digits_is, octet_is, column_digits, column_octets, column_each, line_pieces, line_tests}
use Rattle.reader.proofs.columns.take_column.Goals as goal

pub same_column-requires : goal.same_column-requires
same_column-requires c = let a = c.args in
    (same_is a.t c.requires.fits (not-true a.t.given c.if-not-t.true), (sound_is a.t c.requires.good).narrow, omega (arith, c.requires.near))

pub returns-then-not-t : goal.returns-then-not-t
returns-then-not-t c = let a = c.args in
    let b = a.b.now in
    let f : ℕ → List ℕ = λ k. own_at a.t b (a.p + k * (a.s.bytes * 8)) in
    (sym (strips_none a.s.rows f a.out.now a.i a.s.places (λ k. if_no (run (bits b) (a.p + k * (a.s.bytes * 8)) a.t.count a.t.width) [] (not-true a.t.given c.if-not-t.true))), c.same_column.ensures)

pub digits_column-requires : goal.digits_column-requires
digits_column-requires c = let a = c.args in
    column_digits a.t (length a.b.now) a.p a.s.bytes a.s.rows (length a.out.now) a.i a.s.places c.requires (not-false a.t.given c.if-not-t.false) c.if-t-eq4.true c.if-p-t-eq0.true

pub returns-then-p-t-eq0 : goal.returns-then-p-t-eq0
returns-then-p-t-eq0 c = let a = c.args in
    let t = a.t in
    let l = bits a.b.now in
    let g : t.given ≡ true = not-false t.given c.if-not-t.false in
    let w = c.if-t-eq4.true in
    let d = digits_is t c.requires.fits g w in
    let q = (a.p + t.count * 4) / 8 * 8 - t.count * 4 in
    let e : q ≡ a.p = omega (arith, c.if-p-t-eq0.true) in (
      c.digits_column.ensures.0 ∙ line_pieces t l a.p q t.count 4 e refl (sym w) a.b.now a.out.now a.i a.s.places a.s.rows (a.s.bytes * 8) g refl,
      c.digits_column.ensures.1 ∙ line_tests t l a.p q t.count 4 e refl (sym w) 0 9 a.s.rows (a.s.bytes * 8) (sym d.0) (sym d.1),
    )

pub overflow_cast-t : goal.overflow_cast-t
overflow_cast-t c = let a = c.args in
    let d = octet_is a.t c.requires.fits (not-false a.t.given c.if-not-t.false) c.if-t-eq4.false in
    omega (arith, d.least)

pub overflow_cast-t-then-p-eq0 : goal.overflow_cast-t-then-p-eq0
overflow_cast-t-then-p-eq0 c = let a = c.args in
    let d = octet_is a.t c.requires.fits (not-false a.t.given c.if-not-t.false) c.if-t-eq4.false in
    omega (arith, d.most)

pub octet_column-requires : goal.octet_column-requires
octet_column-requires c = let a = c.args in
    column_octets a.t (length a.b.now) a.p a.s.bytes a.s.rows (length a.out.now) a.i a.s.places c.requires (not-false a.t.given c.if-not-t.false) c.if-t-eq4.false c.if-p-eq0.true

pub returns-then-p-eq0 : goal.returns-then-p-eq0
returns-then-p-eq0 c = let a = c.args in
    let t = a.t in
    let l = bits a.b.now in
    let g : t.given ≡ true = not-false t.given c.if-not-t.false in
    let d = octet_is t c.requires.fits g c.if-t-eq4.false in
    let q = a.p / 8 * 8 in
    let e : q ≡ a.p = omega (arith, c.if-p-eq0.true) in (
      c.octet_column.ensures.0 ∙ line_pieces t l a.p q 1 8 e (sym d.one) (sym d.wide) a.b.now a.out.now a.i a.s.places a.s.rows (a.s.bytes * 8) g refl,
      c.octet_column.ensures.1 ∙ line_tests t l a.p q 1 8 e (sym d.one) (sym d.wide) t.lo t.hi a.s.rows (a.s.bytes * 8) refl refl,
    )

pub each_column-requires : goal.each_column-requires
each_column-requires c = let a = c.args in column_each a.t (length a.b.now) a.p a.s.bytes a.s.rows (length a.out.now) a.i a.s.places c.requires (not-false a.t.given c.if-not-t.false)

pub returns : goal.returns
returns c = let a = c.args in
    let t = a.t in
    (c.each_column.ensures.0 ∙ line_pieces t (bits a.b.now) a.p a.p t.count t.width refl refl refl a.b.now a.out.now a.i a.s.places a.s.rows (a.s.bytes * 8) (not-false t.given c.if-not-t.false) refl, c.each_column.ensures.1)
