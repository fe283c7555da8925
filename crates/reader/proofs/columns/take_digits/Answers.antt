-- `reader::columns::take_digits`: what its goals need. Assumes nothing.
use mathlib.Core.Path.{◌≡◌, refl, ap, ◌∙◌}
use Prim.Native.Nat.{◌-◌, ◌/◌, ◌%◌}
use native.Mathlib.Omega.{arith}
use lib.ListN.{get_or}
use lib.Seq.{sets}
use borrow.Author.Tests.{lt-leb}
use Rattle.laws.specs.Bits.{bits}
use Rattle.format.specs.Format.{inside}
use Rattle.reader.proofs.Leaves.{digits_even, odd_stored, odd_over, odd_fine}
use Rattle.reader.proofs.columns.take_digits.Goals as goal

pub returns-then-c-eq0 : goal.returns-then-c-eq0
returns-then-c-eq0 c = let a = c.args in
    let e = digits_even (bits a.b.now) a.e a.c c.requires.0 c.if-c-eq0.true in
    (c.take_pairs.ensures.0 ∙ ap (sets a.out.now a.to) e, c.take_pairs.ensures.1 ∙ ap (inside 0 9) e)

pub returns-else-x-le9 : goal.returns-else-x-le9
returns-else-x-le9 c = let a = c.args in
    let x = get_or a.b.now (a.e - a.c / 2 - 1) 0 in
    let i : a.c % 2 ≡ 1 = omega (arith, c.if-c-eq0.false) in
    let h = c.requires.0 in
    (odd_stored a.b.now a.e a.c x h i refl a.out.now c.take_pairs-good.new.out a.to c.take_pairs-good.ensures.0, lt-leb (x % 16) 9 c.if-x-le9.false ∙ odd_over a.b.now a.e a.c x h i refl c.if-x-le9.false)

pub returns-then-x-le9 : goal.returns-then-x-le9
returns-then-x-le9 c = let a = c.args in
    let x = get_or a.b.now (a.e - a.c / 2 - 1) 0 in
    let i : a.c % 2 ≡ 1 = omega (arith, c.if-c-eq0.false) in
    let h = c.requires.0 in
    (odd_stored a.b.now a.e a.c x h i refl a.out.now c.take_pairs-good.new.out a.to c.take_pairs-good.ensures.0, odd_fine a.b.now a.e a.c x h i refl c.take_pairs-good.result c.if-x-le9.true c.take_pairs-good.ensures.1)
