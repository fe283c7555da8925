-- `sister::address`: what its goals need. Assumes nothing.
use mathlib.Core.Path.{◌≡◌, refl, sym, ap, ◌∙◌}
use mathlib.Core.Bool.{true, false, true≢false}
use Prim.Native.Nat.{ℕ}
use lib.ListN.{take, drop}
use Rattle.std.specs.Prelude.{Result, Ok, Err, is_ok}
use Rattle.refusal.specs.declared.Refusal.{Refusal}
use Rattle.refusal.specs.Refusal.{answer_of}
use Rattle.refusal.proofs.Numbers.{some_number}
use Rattle.packet.specs.Reading.{part_by}
use Rattle.packet.proofs.Refused.{no_part}
use Rattle.sister.specs.declared.parts.Layout.{Layout}
use Rattle.sister.specs.Table.{address_count}
use Rattle.sister.specs.Reading.{kind_in, count_of, read_answer, address_of}
use Rattle.sister.proofs.address.Goals as goal

-- 0 is told where nothing is wrong, and only there
module _ {A : Type 0} where
  passed : (r : Result A Refusal) → true ≡ is_ok r → answer_of r ≡ 0
  passed (Ok x) h = refl
  passed (Err e) h = absurd (true≢false h)

  stopped : (r : Result A Refusal) → false ≡ is_ok r → answer_of r ≡ 0 → ⊥
  stopped (Ok x) h z = true≢false (sym h)
  stopped (Err e) h z = some_number e z

pub returns-then-is_ok : goal.returns-then-is_ok
unfolding address_of
returns-then-is_ok c = let b = c.args.command.now in
    c.part.ensures ∙ ap (λ (l : Layout). take l.address (drop 4 b)) c.laid_in-l.ensures
    ∙ sym (ap (λ (n : ℕ). part_by n 4 (address_count (kind_in b) (count_of b)) b) (sym c.answer.ensures ∙ passed c.answer.result (sym c.if-is_ok.true ∙ c.is_ok.ensures.value)))

pub returns-else-is_ok : goal.returns-else-is_ok
unfolding address_of
returns-else-is_ok c = let b = c.args.command.now in
    sym (no_part (read_answer b) _ _ b (λ h. stopped c.answer.result (sym c.if-is_ok.false ∙ c.is_ok.ensures.value) (c.answer.ensures ∙ h)))
