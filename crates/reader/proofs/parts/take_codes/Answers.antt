-- `reader::parts::take_codes`: what its goals need. Assumes nothing.
use mathlib.Core.Path.{◌≡◌, refl, sym, ap, ◌∙◌}
use mathlib.Core.Bool.{◌&&◌}
use mathlib.Core.List.{List, [], ◌∷◌}
use Prim.Native.Nat.{ℕ, ◌<◌, ◌-◌, ◌+◌, ◌*◌, ◌/◌}
use native.Mathlib.Omega.{arith}
use lib.ListN.{get_or}
use borrow.Author.Tests.{le-leb, lt-leb, leb-true, leb-false}
use lib.Dec.{leb}
use Rattle.laws.proofs.Cases.{and_yes, and_no}
use Rattle.laws.specs.Bits.{at, bits, run}
use Rattle.laws.specs.Strips.{strips, every}
use Rattle.laws.proofs.Elements.{by_test}
use Rattle.format.specs.Format.{ones, digits, inside}
use Rattle.format.proofs.Halves.{high_half}
use Rattle.reader.proofs.Due.{line_fine, line_due}
use Rattle.reader.proofs.Leaves.{inside_one, strips_turn, every_turn}
use Rattle.reader.proofs.ByColumns.{codes_taken, codes_due}
use Rattle.reader.proofs.parts.take_codes.Goals as goal

-- the four high bits of a byte are all 1, or not
module _ (b : List ℕ) (j x : ℕ) (h : x < 256) (e : x ≡ get_or b (3 + 12 * j) 0) where
  half : x / 16 ∷ [] ≡ run (bits b) (24 + j * 96) 1 4
  unfolding run
  half = let p : (3 + 12 * j) * 8 ≡ 24 + j * 96 = omega arith in ap (λ (y : ℕ). y ∷ []) (high_half b (3 + 12 * j) x h e ∙ ap (λ (q : ℕ). at (bits b) q 4) p)

  reserved : leb 240 x ≡ inside 15 15 (run (bits b) (24 + j * 96) 1 4)
  reserved =
      by_test (leb 240 x)
      (λ t. let l = leb-true 240 x t in t ∙ sym (and_yes (leb (x / 16) 15) (le-leb 15 (x / 16) (omega arith)) ∙ le-leb (x / 16) 15 (omega arith)))
      (λ t. let l = leb-false 240 x t in t ∙ sym (and_no (leb (x / 16) 15) (lt-leb 15 (x / 16) (omega arith))))
      ∙ sym (inside_one 15 15 (x / 16))
      ∙ ap (inside 15 15) half

pub loop-j-init : goal.loop-j-init
unfolding strips every
loop-j-init c = (refl, refl, refl)

pub loop-j-preserved : goal.loop-j-preserved
loop-j-preserved c = let a = c.args in
    let k = c.loop-j in
    let B = a.b.now in
    let x = get_or B (3 + 12 * k.j) 0 in
    let P : ℕ → List ℕ = λ r. run (bits B) (28 + r * 96) 23 4 in
    let here = c.take_digits-good.result in
    let done = c.take_digits-good.ensures in
    let place : (15 + 12 * k.j) * 8 - 23 * 4 ≡ 28 + k.j * 96 = omega arith in
    let piece : run (bits B) ((15 + 12 * k.j) * 8 - 23 * 4) 23 4 ≡ P k.j = ap (λ (q : ℕ). run (bits B) q 23 4) place in (
      strips_turn a.out.now k.out c.take_digits-good.new.out (run (bits B) ((15 + 12 * k.j) * 8 - 23 * 4) 23 4) 0 23 k.j (23 * k.j) P k.invariant.0 (omega arith) done.0 piece,
      every_turn k.ones (k.ones && leb 240 x) k.j (λ (r : ℕ). inside 15 15 (run (bits B) (24 + r * 96) 1 4)) (leb 240 x) k.invariant.1 refl (reserved B k.j x (c.type_inv.b (3 + 12 * k.j)).fits refl),
      every_turn k.good (k.good && here) k.j (λ (r : ℕ). inside 0 9 (P r)) here k.invariant.2 refl (done.1 ∙ ap (inside 0 9) piece),
    )

pub returns-then-not-ones : goal.returns-then-not-ones
returns-then-not-ones c = let a = c.args in
    let k = c.loop-j in
    let B = a.b.now in
    let e : k.j ≡ a.n = omega arith in
    let d = line_due (ones 4) k.ones refl (λ z. omega arith) c.if-not-ones.true in
    (codes_taken B a.out.now k.out a.n (rw (← e) k.invariant.0), by_test k.good (λ z. codes_due (bits B) a.n k.ones k.good 24 255 24 (rw (← e) k.invariant.1) (rw (← e) k.invariant.2) d (line_fine (digits 23) k.good z) refl) (λ z. codes_due (bits B) a.n k.ones k.good 24 25 24 (rw (← e) k.invariant.1) (rw (← e) k.invariant.2) d (line_due (digits 23) k.good refl (λ y. omega arith) z) refl))

pub returns-then-not-good : goal.returns-then-not-good
returns-then-not-good c = let a = c.args in
    let k = c.loop-j in
    let B = a.b.now in
    let e : k.j ≡ a.n = omega arith in
    (codes_taken B a.out.now k.out a.n (rw (← e) k.invariant.0), codes_due (bits B) a.n k.ones k.good 255 25 25 (rw (← e) k.invariant.1) (rw (← e) k.invariant.2) (line_fine (ones 4) k.ones c.if-not-ones.false) (line_due (digits 23) k.good refl (λ z. omega arith) c.if-not-good.true) refl)

pub returns-else-not-good : goal.returns-else-not-good
returns-else-not-good c = let a = c.args in
    let k = c.loop-j in
    let B = a.b.now in
    let e : k.j ≡ a.n = omega arith in
    (codes_taken B a.out.now k.out a.n (rw (← e) k.invariant.0), codes_due (bits B) a.n k.ones k.good 255 255 255 (rw (← e) k.invariant.1) (rw (← e) k.invariant.2) (line_fine (ones 4) k.ones c.if-not-ones.false) (line_fine (digits 23) k.good c.if-not-good.false) refl)
