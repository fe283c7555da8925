-- `sister::puts::put_codes`: what its goals need. Assumes nothing.
use mathlib.Core.List.{List}
use mathlib.Core.Path.{◌≡◌, refl, ap, ap₂, ◌∙◌}
use Prim.Native.Nat.{ℕ, ◌+◌, ◌*◌, ◌-◌}
use native.Mathlib.Omega.{arith}
use native.Mathlib.Nat.{sub-zero, add-zero}
use lib.ListN.{length, take, drop, length-drop}
use lib.Seq.{sets, length-take-le}
use Rattle.laws.specs.Bits.{bits, spread}
use Rattle.format.specs.Reach.{fields_bits}
use Rattle.sister.specs.Layout.{code_bits}
use Rattle.sister.proofs.Put.{number_put, numbers_put, code_turn, code_end}
use Rattle.sister.proofs.puts.put_codes.Goals as goal

pub loop-j-init : goal.loop-j-init
loop-j-init c = rw (sub-zero c.args.n, add-zero c.args.p)

pub loop-j-preserved : goal.loop-j-preserved
loop-j-preserved c = let a = c.args in
    let k = c.loop-j in
    let d = a.codes.now in
    let q = a.p + 96 * k.j in
    let i = 23 * k.j in
    let x = take 23 (drop i d) in
    let o1 = c.put_field.new.out in
    let o2 = c.put_fields.new.out in
    let n : length x ≡ 23 = length-take-le 23 (drop i d) (omega (arith, length-drop i d, c.requires.2)) in
    let e1 = number_put k.out o1 q 4 15 (omega (arith, c.requires.0, c.requires.1)) (omega arith) c.put_field.ensures in
    let e2 : bits o2 ≡ sets (bits o1) (q + 4) (spread 4 x) = numbers_put o1 o2 x (q + 4) 4 (omega (arith, c.requires.0, c.requires.1)) (omega arith) (omega (arith, n)) (c.put_fields.ensures ∙ ap (λ (z : List ℕ). sets (bits o1) (q + 4) (fields_bits (q + 4) 4 z)) c.part.ensures) in
    code_turn d k.out o1 o2 _ a.n k.j q i (omega arith) c.requires.2 refl k.invariant e1 e2
    ∙ ap₂ (λ (u v : ℕ). sets (bits o2) u (code_bits (a.n - (k.j + 1)) (drop v d))) (omega arith) (omega arith)

pub returns : goal.returns
returns c = let a = c.args in
    let k = c.loop-j in
    code_end a.codes.now k.out _ a.n k.j (a.p + 96 * k.j) (23 * k.j) (omega arith) k.invariant
