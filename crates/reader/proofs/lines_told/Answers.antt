-- `reader::lines_told`: what its goals need. Assumes nothing.
use mathlib.Core.Path.{◌≡◌, refl, sym, ap, ◌∙◌}
use native.Mathlib.Omega.{arith}
use mathlib.Core.Bool.{cond}
use mathlib.Core.List.{List}
use Prim.Native.Nat.{min, ℕ, ◌+◌, ◌*◌}
use lib.Seq.{sets}
use Rattle.packet.specs.Content.{no_such_day}
use Rattle.format.specs.Format.{times}
use Rattle.packet.specs.Table.{code}
use Rattle.packet.specs.Reading.{numbers_at, read_answer}
use Rattle.std.proofs.lemmas.Result.{err_from_is_err_and}
use Rattle.refusal.specs.Refusal.{number_of}
use Rattle.refusal.proofs.Numbers.{some_number}
use Rattle.reader.proofs.Zeros.{length_zeros}
use Rattle.reader.proofs.Due.{min_left}
use Rattle.reader.proofs.Telling as telling
use Rattle.reader.proofs.lines_told.Goals as goal

pub take_codes-first-requires : goal.take_codes-first-requires
take_codes-first-requires c = let a = c.args in
    (telling.few_codes a.h.kind a.h.row a.h.sizes a.h.codes a.h.count a.b.now c.requires.0, omega (arith, telling.codes_there a.h.kind a.h.row a.h.sizes a.h.codes a.h.count a.b.now c.requires.0), length_zeros 322 a.codes.now c.requires.1.codes_none)

pub overflow_mul-h : goal.overflow_mul-h
overflow_mul-h c = let a = c.args in
    omega (arith, telling.few_codes a.h.kind a.h.row a.h.sizes a.h.codes a.h.count a.b.now c.requires.0)

pub overflow_add-h : goal.overflow_add-h
overflow_add-h c = let a = c.args in
    omega (arith, telling.few_codes a.h.kind a.h.row a.h.sizes a.h.codes a.h.count a.b.now c.requires.0)

pub take_content-c-requires : goal.take_content-c-requires
take_content-c-requires c = let a = c.args in
    telling.holding a.h.kind a.h.row a.h.sizes a.h.codes a.h.count a.b.now c.requires.0 a.digits.now a.entries.now c.requires.1.digits_none c.requires.1.entries_none

pub overflow_sub-b : goal.overflow_sub-b
overflow_sub-b c = let a = c.args in
    omega (arith, telling.codes_there a.h.kind a.h.row a.h.sizes a.h.codes a.h.count a.b.now c.requires.0)

pub slice_bounds-take_digits-end : goal.slice_bounds-take_digits-end
slice_bounds-take_digits-end c = sym (length_zeros 12 c.zeros-certificate.result c.zeros-certificate.ensures)

pub take_digits-good-requires : goal.take_digits-good-requires
take_digits-good-requires c = let a = c.args in
    (omega (arith, telling.codes_there a.h.kind a.h.row a.h.sizes a.h.codes a.h.count a.b.now c.requires.0), omega arith, omega (arith, length_zeros 12 c.zeros-certificate.result c.zeros-certificate.ensures), omega (arith, telling.most a.h.kind a.h.row a.h.sizes a.h.codes a.h.count a.b.now c.requires.0))

pub lines_answer-requires : goal.lines_answer-requires
lines_answer-requires c = let a = c.args in
    let h = c.requires.0 in
    let b = a.b.now in
    let t = c.take_content-c.ensures in
    let j = telling.packet_due a.h.kind a.h.row a.h.sizes a.h.codes a.h.count b h c.take_codes-first.result c.take_content-c.result.due _ c.take_digits-good.result c.take_digits-good.ensures.1 c.take_codes-first.ensures.1 t.1 refl in
    λ l. (j.due l).0

pub returns-in_err-lines_answer : goal.returns-in_err-lines_answer
returns-in_err-lines_answer c = let a = c.args in
    let h = c.requires.0 in
    let b = a.b.now in
    let t = c.take_content-c.ensures in
    let j = telling.packet_due a.h.kind a.h.row a.h.sizes a.h.codes a.h.count b h c.take_codes-first.result c.take_content-c.result.due _ c.take_digits-good.result c.take_digits-good.ensures.1 c.take_codes-first.ensures.1 t.1 refl in
    let content = telling.content_is a.h.kind a.h.row a.h.sizes a.h.codes a.h.count b h c.take_content-c.result.content t.0 in
    let answer : number_of c.in_err-lines_answer.field-0.0 ≡ read_answer b = telling.answer_is a.h.kind a.h.row a.h.sizes a.h.codes a.h.count b h _ (c.in_err-lines_answer.ensures ∙ telling.says b _ c.no_such_day.result j (omega (arith, c.take_codes-first, min_left (min c.take_codes-first.result (cond c.take_digits-good.result 255 25)) c.take_content-c.result.due, min_left c.take_codes-first.result (cond c.take_digits-good.result 255 25))) (c.no_such_day.ensures ∙ ap no_such_day content)) in
    let long = telling.long_all _ _ _ _ _ _ (numbers_at (times a.h.codes code) b 24) a.h.kind a.h.count (24 + 96 * a.h.codes) b c.requires.1 c.take_codes-first.ensures.0 c.take_content-c.ensures.2 in
    let p = err_from_is_err_and c.from_residual.result c.from_residual.ensures.1 in
    rw (p.1, p.2) record { due = answer; said = λ e. absurd (some_number c.in_err-lines_answer.field-0.0 e); nothing = λ e. refl; long = long }

pub accepted-requires : goal.accepted-requires
accepted-requires c = let a = c.args in
    (omega (arith, telling.codes_there a.h.kind a.h.row a.h.sizes a.h.codes a.h.count a.b.now c.requires.0), telling.most a.h.kind a.h.row a.h.sizes a.h.codes a.h.count a.b.now c.requires.0)

pub shape_of-codes : goal.shape_of-codes
shape_of-codes c = let a = c.args in
    let b = a.b.now in
    (telling.long_all _ _ _ _ _ _ (numbers_at (times a.h.codes code) b 24) a.h.kind a.h.count (24 + 96 * a.h.codes) b c.requires.1 c.take_codes-first.ensures.0 c.take_content-c.ensures.2).codes_long ∙ sym (length_zeros 322 a.codes.now c.requires.1.codes_none)

pub shape_of-entries : goal.shape_of-entries
shape_of-entries c = let a = c.args in
    let b = a.b.now in
    (telling.long_all _ _ _ _ _ _ (numbers_at (times a.h.codes code) b 24) a.h.kind a.h.count (24 + 96 * a.h.codes) b c.requires.1 c.take_codes-first.ensures.0 c.take_content-c.ensures.2).entries_long ∙ sym (length_zeros 272 a.entries.now c.requires.1.entries_none)

pub shape_of-digits : goal.shape_of-digits
shape_of-digits c = let a = c.args in
    let b = a.b.now in
    (telling.long_all _ _ _ _ _ _ (numbers_at (times a.h.codes code) b 24) a.h.kind a.h.count (24 + 96 * a.h.codes) b c.requires.1 c.take_codes-first.ensures.0 c.take_content-c.ensures.2).digits_long ∙ sym (length_zeros 35 a.digits.now c.requires.1.digits_none)

pub returns : goal.returns
returns c = let a = c.args in
    let h = c.requires.0 in
    let b = a.b.now in
    let t = c.take_content-c.ensures in
    let j = telling.packet_due a.h.kind a.h.row a.h.sizes a.h.codes a.h.count b h c.take_codes-first.result c.take_content-c.result.due _ c.take_digits-good.result c.take_digits-good.ensures.1 c.take_codes-first.ensures.1 t.1 refl in
    let content = telling.content_is a.h.kind a.h.row a.h.sizes a.h.codes a.h.count b h c.take_content-c.result.content t.0 in
    let answer : 0 ≡ read_answer b = telling.answer_is a.h.kind a.h.row a.h.sizes a.h.codes a.h.count b h _ (c.in_ok-lines_answer.ensures ∙ telling.says b _ c.no_such_day.result j (omega (arith, c.take_codes-first, min_left (min c.take_codes-first.result (cond c.take_digits-good.result 255 25)) c.take_content-c.result.due, min_left c.take_codes-first.result (cond c.take_digits-good.result 255 25))) (c.no_such_day.ensures ∙ ap no_such_day content)) in
    let long = telling.long_all _ _ _ _ _ _ (numbers_at (times a.h.codes code) b 24) a.h.kind a.h.count (24 + 96 * a.h.codes) b c.requires.1 c.take_codes-first.ensures.0 c.take_content-c.ensures.2 in
    record {
      due = answer;
      said =
          λ e. record {
            told_is = c.accepted.ensures ∙ telling.told_all b _ _ _ h.many content (telling.certificate_is a.h.kind a.h.row a.h.sizes a.h.codes a.h.count b h c.zeros-certificate.result _ c.zeros-certificate.ensures c.take_digits-good.ensures.0);
            codes_are = telling.codes_are a.h.kind a.h.row a.h.sizes a.h.codes a.h.count b h _ (c.take_codes-first.ensures.0 ∙ ap (λ (l : List ℕ). sets l 0 (numbers_at (times a.h.codes code) b 24)) c.requires.1.codes_none);
            entries_are = telling.entries_are a.h.kind a.h.row a.h.sizes a.h.codes a.h.count b h _ _ t.2;
            digits_are = telling.digits_told b _ (telling.digits_are a.h.kind a.h.row a.h.sizes a.h.codes a.h.count b h _ _ t.2);
          };
      nothing = λ e. absurd (e refl);
      long = long;
    }
