-- `sister::parts::codes`: what its goals need. Assumes nothing.
use mathlib.Core.Path.{◌≡◌, refl, ap, ap₂, ◌∙◌}
use mathlib.Core.List.{List}
use Prim.Native.Nat.{ℕ, ◌+◌, ◌*◌, ◌-◌, ◌≤◌}
use native.Mathlib.Omega.{arith}
use native.Mathlib.Nat.{sub-zero, add-zero}
use lib.Seq.{sets}
use Rattle.laws.specs.Bits.{run, bits}
use Rattle.laws.proofs.Bits.{length_run}
use Rattle.format.specs.Format.{times}
use Rattle.packet.specs.Table.{code}
use Rattle.packet.specs.Reading.{numbers_at, zeros}
use Rattle.sister.specs.declared.parts.Layout.{Layout}
use Rattle.sister.specs.Layout.{layout_of}
use Rattle.sister.specs.Reading.{kind_in, count_of}
use Rattle.sister.proofs.Found as found
use Rattle.sister.proofs.parts.codes.Goals as goal

pub loop-j-init : goal.loop-j-init
loop-j-init c = rw (sub-zero c.laid_in-l.result.codes, add-zero c.laid_in-l.result.place)

-- the codes are few, and stand near the beginning
bounds : (b : List ℕ) (l : Layout) → l ≡ layout_of (kind_in b) (count_of b) → (l.codes ≤ 255) × (l.place ≤ 2200)
bounds b l e = let z = found.places_in b in (omega (arith, ap (λ (y : Layout). y.codes) e, z.1), omega (arith, ap (λ (y : Layout). y.place) e, z.0))

pub overflow_mul-j : goal.overflow_mul-j
overflow_mul-j c = let l = bounds c.args.b.now c.laid_in-l.result c.laid_in-l.ensures in omega arith

pub overflow_add-l : goal.overflow_add-l
overflow_add-l c = let l = bounds c.args.b.now c.laid_in-l.result c.laid_in-l.ensures in omega arith

pub overflow_add-l-in-loop-j : goal.overflow_add-l-in-loop-j
overflow_add-l-in-loop-j c = let l = bounds c.args.b.now c.laid_in-l.result c.laid_in-l.ensures in omega arith

pub overflow_mul-j-in-loop-j : goal.overflow_mul-j-in-loop-j
overflow_mul-j-in-loop-j c = let l = bounds c.args.b.now c.laid_in-l.result c.laid_in-l.ensures in omega arith

pub loop-j-preserved : goal.loop-j-preserved
loop-j-preserved c = let b = c.args.b.now in
    let k = c.loop-j in
    let l = c.laid_in-l in
    let h = bounds b l.result l.ensures in
    let p = l.result.place + 96 * k.j in
    let i = 23 * k.j in
    let g = found.got k.out c.fields.new.out (bits b) (p + 4) i c.fields.ensures (omega arith) (omega arith) in
    found.codes_turn b k.out c.fields.new.out _ (run (bits b) (p + 4) 23 4) _ k.j p i (omega arith) refl (length_run (bits b) (p + 4) 23 4) k.invariant g
    ∙ ap₂ (λ (u v : ℕ). sets c.fields.new.out u (numbers_at (times (l.result.codes - (k.j + 1)) code) b v)) (omega arith) (omega arith)

pub returns : goal.returns
unfolding zeros
returns c = let b = c.args.b.now in
    let k = c.loop-j in
    found.codes_end b k.out _ _ k.j (c.laid_in-l.result.place + 96 * k.j) (23 * k.j) (omega arith) k.invariant
    ∙ found.codes_padded b c.laid_in-l.result _ c.laid_in-l.ensures refl
