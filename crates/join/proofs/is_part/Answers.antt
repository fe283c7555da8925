-- `join::is_part`: what its goals need. Assumes nothing.
use mathlib.Core.Path.{◌≡◌, refl, sym, ap, ◌∙◌}
use mathlib.Core.Bool.{true, false}
use borrow.Author.Rules.{rules}
use Prim.Native.Nat.{ℕ, ◌+◌, ◌*◌}
use native.Mathlib.Omega.{arith}
use Rattle.laws.specs.Bits.{at, bits}
use Rattle.std.specs.Prelude.{Result, Ok, Err, is_err}
use Rattle.refusal.specs.declared.Refusal.{Refusal}
use Rattle.refusal.specs.Refusal.{answer_of}
use Rattle.refusal.proofs.Numbers.{some_number}
use Rattle.packet.specs.Reading.{codes_in}
use Rattle.join.proofs.Cuts.{part_no, part_by}
use Rattle.join.proofs.Bodies.{text_codes, part_set, field_is}
use Rattle.join.proofs.is_part.Goals as goal

-- a refusal is not told by 0, and a value is
refused_told : {A : Type 0} (r : Result A Refusal) → is_err r ≡ true → answer_of r ≡ 0 → ⊥
refused_told (Ok x) e z = search (rules, e)
refused_told (Err d) e z = some_number d z

value_told : {A : Type 0} (r : Result A Refusal) → is_err r ≡ false → answer_of r ≡ 0
value_told (Ok x) e = refl
value_told (Err d) e = search (rules, e)

pub returns-then-is_err : goal.returns-then-is_err
returns-then-is_err c = sym (part_no c.args.packet.now (λ e. refused_told c.text_answer.result (sym c.is_err.ensures.value ∙ c.if-is_err.true) (c.text_answer.ensures ∙ e)))

pub returns : goal.returns
returns c = let b = c.args.packet.now in
    let n = c.field-n.result in
    let e : n ≡ codes_in b = c.field-n.ensures in
    let t = sym c.text_answer.ensures ∙ value_told c.text_answer.result (sym c.is_err.ensures.value ∙ c.if-is_err.false) in
    part_by b c.field.result t (c.field.ensures ∙ field_is (bits b) (28 + 96 * n) 4 (omega (arith, text_codes b t)) (omega arith) ∙ ap (λ (k : ℕ). at (bits b) (28 + 96 * k) 4) e ∙ sym (part_set b t))
