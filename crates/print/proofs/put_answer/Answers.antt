-- `print::put_answer`: what its goals need. Assumes nothing.
use mathlib.Core.Path.{◌≡◌, sym, ap, ap₂, ◌∙◌}
use mathlib.Core.List.{List, [], ◌∷◌}
use Prim.Native.Nat.{ℕ, ◌+◌}
use native.Mathlib.Omega.{arith}
use lib.ListN.{length, set}
use lib.Seq.{sets, length-sets}
use Rattle.laws.proofs.Writes.{sets_append}
use Rattle.print.specs.Lines.{decimal_of}
use Rattle.print.specs.Letters.{number_text}
use Rattle.print.proofs.Numbers.{decimal}
use Rattle.print.proofs.put_answer.Goals as goal

pub put_number-end-requires : goal.put_number-end-requires
put_number-end-requires c = let e : number_text c.from.result ≡ decimal_of c.args.answer = ap number_text c.from.ensures ∙ decimal c.args.answer (omega arith) in
    omega (arith, ap length e, c.requires)

pub bounds-out-end : goal.bounds-out-end
bounds-out-end c = let e : number_text c.from.result ≡ decimal_of c.args.answer = ap number_text c.from.ensures ∙ decimal c.args.answer (omega arith) in
    omega (arith, ap length e, c.requires, c.put_number-end.ensures.length, ap length c.put_number-end.ensures.output ∙ length-sets c.args.out.now 0 (number_text c.from.result))

pub returns : goal.returns
returns c = let a = c.args in
    let t = decimal_of a.answer in
    let e : number_text c.from.result ≡ t = ap number_text c.from.ensures ∙ decimal a.answer (omega arith) in
    let k : c.put_number-end.result ≡ 0 + length t = omega (arith, c.put_number-end.ensures.length, ap length e) in
    ap₂ (λ (l : List ℕ) (n : ℕ). set l n 10) (c.put_number-end.ensures.output ∙ ap (sets a.out.now 0) e) k
    ∙ sym (sets_append t (10 ∷ []) a.out.now 0)
