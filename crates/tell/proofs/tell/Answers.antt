use mathlib.Core.Path.{◌≡◌, refl, sym, ap, ◌∙◌}
use mathlib.Core.Bool.{false}
use Prim.Native.Nat.{◌+◌, ◌-◌, ◌*◌, ◌≤◌}
use native.Mathlib.Omega.{arith}
use lib.ListN.{length}
use Rattle.std.proofs.lemmas.Result.{err_from_is_err_and}
use Rattle.refusal.specs.Refusal.{number_of}
use Rattle.refusal.proofs.Numbers.{some_number}
use Rattle.laws.specs.Refusals.{first}
use Rattle.story.specs.Characters.{lone}
use Rattle.story.specs.Telling.{own_cases, part_count, last_four, bytes_of}
use Rattle.story.specs.Given.{Lengths}
use Rattle.story.proofs.Part.{few_codes}
use Rattle.tell.proofs.Answers.{own_zero, own_refused, refused_as, says_30, says_31, says_32, says_10, says_0, count_is, count_some, bytes_long, mul_small, text_small, done_as}
use borrow.Author.Rules.{rules}
use Rattle.tell.proofs.tell.Goals as goal

pub returns-in_err-own_answer : goal.returns-in_err-own_answer
returns-in_err-own_answer c = let x = c.args in
    let p = err_from_is_err_and c.from_residual.result c.from_residual.ensures.1 in
    let some : number_of c.in_err-own_answer.field-0.0 ≡ 0 → ⊥ = some_number c.in_err-own_answer.field-0.0 in
    let e = c.in_err-own_answer.ensures in
    let all = refused_as x.story x.codes.now x.text.now x.out.now _ _ refl (own_refused x.story x.codes.now x.text.now (length x.out.now) (λ z. some (e ∙ z)) ∙ sym e) some in rw (p.1, p.2) record { answer = all.0; output = all.1 }

pub returns-then-lone : goal.returns-then-lone
returns-then-lone c = let x = c.args in
    let s = x.story in
    let cs = x.codes.now in
    let t = x.text.now in
    let y : Lengths s = record { digits_long = search (rules, c.well_formed); certificate_long = search (rules, c.well_formed); signature_long = search (rules, c.well_formed) } in
    let own : first (own_cases s cs) ≡ 0 = own_zero s cs (sym c.in_ok-own_answer.ensures) in
    let few = few_codes s cs y own in let all = refused_as s cs t x.out.now _ 30 refl (says_30 s cs t own (length x.out.now) (sym c.lone.ensures ∙ c.if-lone.true)) (λ z. omega arith) in record { answer = all.0; output = all.1 }

pub overflow_mul-each : goal.overflow_mul-each
overflow_mul-each c = let x = c.args in
    let s = x.story in
    let cs = x.codes.now in
    let y : Lengths s = record { digits_long = search (rules, c.well_formed); certificate_long = search (rules, c.well_formed); signature_long = search (rules, c.well_formed) } in
    let own : first (own_cases s cs) ≡ 0 = own_zero s cs (sym c.in_ok-own_answer.ensures) in
    let few = few_codes s cs y own in
    omega arith

pub overflow_add-each : goal.overflow_add-each
overflow_add-each c = let x = c.args in
    let s = x.story in
    let cs = x.codes.now in
    let y : Lengths s = record { digits_long = search (rules, c.well_formed); certificate_long = search (rules, c.well_formed); signature_long = search (rules, c.well_formed) } in
    let own : first (own_cases s cs) ≡ 0 = own_zero s cs (sym c.in_ok-own_answer.ensures) in
    let few = few_codes s cs y own in
    omega arith

pub overflow_sub-room : goal.overflow_sub-room
overflow_sub-room c = let x = c.args in
    let s = x.story in
    let cs = x.codes.now in
    let y : Lengths s = record { digits_long = search (rules, c.well_formed); certificate_long = search (rules, c.well_formed); signature_long = search (rules, c.well_formed) } in
    let own : first (own_cases s cs) ≡ 0 = own_zero s cs (sym c.in_ok-own_answer.ensures) in
    let few = few_codes s cs y own in
    omega arith

pub count-n-requires : goal.count-n-requires
count-n-requires c = let x = c.args in
    let s = x.story in
    let cs = x.codes.now in
    let y : Lengths s = record { digits_long = search (rules, c.well_formed); certificate_long = search (rules, c.well_formed); signature_long = search (rules, c.well_formed) } in
    let own : first (own_cases s cs) ≡ 0 = own_zero s cs (sym c.in_ok-own_answer.ensures) in
    let few = few_codes s cs y own in
    omega arith

pub returns-then-n-gt9 : goal.returns-then-n-gt9
returns-then-n-gt9 c = let x = c.args in
    let s = x.story in
    let cs = x.codes.now in
    let t = x.text.now in
    let y : Lengths s = record { digits_long = search (rules, c.well_formed); certificate_long = search (rules, c.well_formed); signature_long = search (rules, c.well_formed) } in
    let own : first (own_cases s cs) ≡ 0 = own_zero s cs (sym c.in_ok-own_answer.ensures) in
    let few = few_codes s cs y own in
    let l : lone t ≡ false = sym c.lone.ensures ∙ c.if-lone.false in
    let n = c.count-n.result in
    let ne : n ≡ part_count s t = count_is s t (250 - (101 + 12 * s.codes)) n (omega arith) c.count-n.ensures in
    let ns = count_some s t in let all = refused_as s cs t x.out.now _ 31 refl (says_31 s cs t own (length x.out.now) l (omega (arith, c.if-n-gt9.true))) (λ z. omega arith) in record { answer = all.0; output = all.1 }

pub overflow_sub-n : goal.overflow_sub-n
overflow_sub-n c = let x = c.args in
    let s = x.story in
    let cs = x.codes.now in
    let t = x.text.now in
    let y : Lengths s = record { digits_long = search (rules, c.well_formed); certificate_long = search (rules, c.well_formed); signature_long = search (rules, c.well_formed) } in
    let own : first (own_cases s cs) ≡ 0 = own_zero s cs (sym c.in_ok-own_answer.ensures) in
    let few = few_codes s cs y own in
    let l : lone t ≡ false = sym c.lone.ensures ∙ c.if-lone.false in
    let n = c.count-n.result in
    let ne : n ≡ part_count s t = count_is s t (250 - (101 + 12 * s.codes)) n (omega arith) c.count-n.ensures in
    let ns = count_some s t in
    omega arith

pub overflow_add-last_four : goal.overflow_add-last_four
overflow_add-last_four c = omega (arith, c.if-n-gt9.false)

pub returns-then-last_four-n-gt9999 : goal.returns-then-last_four-n-gt9999
returns-then-last_four-n-gt9999 c = let x = c.args in
    let s = x.story in
    let cs = x.codes.now in
    let t = x.text.now in
    let y : Lengths s = record { digits_long = search (rules, c.well_formed); certificate_long = search (rules, c.well_formed); signature_long = search (rules, c.well_formed) } in
    let own : first (own_cases s cs) ≡ 0 = own_zero s cs (sym c.in_ok-own_answer.ensures) in
    let few = few_codes s cs y own in
    let l : lone t ≡ false = sym c.lone.ensures ∙ c.if-lone.false in
    let n = c.count-n.result in
    let ne : n ≡ part_count s t = count_is s t (250 - (101 + 12 * s.codes)) n (omega arith) c.count-n.ensures in
    let ns = count_some s t in
    let f : part_count s t ≤ 9 = omega (arith, c.if-n-gt9.false) in let all = refused_as s cs t x.out.now _ 32 refl (says_32 s cs t own (length x.out.now) l f (omega (arith, c.if-last_four-n-gt9999.true))) (λ z. omega arith) in record { answer = all.0; output = all.1 }

pub overflow_mul-length : goal.overflow_mul-length
overflow_mul-length c = let x = c.args in
    let s = x.story in
    let cs = x.codes.now in
    let t = x.text.now in
    let y : Lengths s = record { digits_long = search (rules, c.well_formed); certificate_long = search (rules, c.well_formed); signature_long = search (rules, c.well_formed) } in
    let own : first (own_cases s cs) ≡ 0 = own_zero s cs (sym c.in_ok-own_answer.ensures) in
    let few = few_codes s cs y own in
    let l : lone t ≡ false = sym c.lone.ensures ∙ c.if-lone.false in
    let n = c.count-n.result in
    let ne : n ≡ part_count s t = count_is s t (250 - (101 + 12 * s.codes)) n (omega arith) c.count-n.ensures in
    let ns = count_some s t in
    let f : part_count s t ≤ 9 = omega (arith, c.if-n-gt9.false) in
    omega (arith, mul_small n (101 + 12 * s.codes) 250 (omega arith) few)

pub overflow_add-length : goal.overflow_add-length
overflow_add-length c = let x = c.args in
    let s = x.story in
    let cs = x.codes.now in
    let t = x.text.now in
    let y : Lengths s = record { digits_long = search (rules, c.well_formed); certificate_long = search (rules, c.well_formed); signature_long = search (rules, c.well_formed) } in
    let own : first (own_cases s cs) ≡ 0 = own_zero s cs (sym c.in_ok-own_answer.ensures) in
    let few = few_codes s cs y own in
    let l : lone t ≡ false = sym c.lone.ensures ∙ c.if-lone.false in
    let n = c.count-n.result in
    let ne : n ≡ part_count s t = count_is s t (250 - (101 + 12 * s.codes)) n (omega arith) c.count-n.ensures in
    let ns = count_some s t in
    let f : part_count s t ≤ 9 = omega (arith, c.if-n-gt9.false) in
    omega (arith, mul_small n (101 + 12 * s.codes) 250 (omega arith) few, text_small s t l (omega arith) f)

pub returns-then-out-length : goal.returns-then-out-length
returns-then-out-length c = let x = c.args in
    let s = x.story in
    let cs = x.codes.now in
    let t = x.text.now in
    let y : Lengths s = record { digits_long = search (rules, c.well_formed); certificate_long = search (rules, c.well_formed); signature_long = search (rules, c.well_formed) } in
    let own : first (own_cases s cs) ≡ 0 = own_zero s cs (sym c.in_ok-own_answer.ensures) in
    let few = few_codes s cs y own in
    let l : lone t ≡ false = sym c.lone.ensures ∙ c.if-lone.false in
    let n = c.count-n.result in
    let ne : n ≡ part_count s t = count_is s t (250 - (101 + 12 * s.codes)) n (omega arith) c.count-n.ensures in
    let ns = count_some s t in
    let f : part_count s t ≤ 9 = omega (arith, c.if-n-gt9.false) in
    let d : last_four s.digits + (part_count s t - 1) ≤ 9999 = omega (arith, c.if-last_four-n-gt9999.false) in
    let bl : length (bytes_of s cs t) ≡ n * (101 + 12 * s.codes) + length t = bytes_long s cs y own (101 + 12 * s.codes) refl t l ∙ ap (λ k. k * (101 + 12 * s.codes) + length t) (sym ne) in let all = refused_as s cs t x.out.now _ 10 refl (says_10 s cs t own (length x.out.now) l f d (omega (arith, c.if-out-length.true))) (λ z. omega arith) in record { answer = all.0; output = all.1 }

pub put_all-requires : goal.put_all-requires
put_all-requires c = let x = c.args in
    let s = x.story in
    let cs = x.codes.now in
    let t = x.text.now in
    let y : Lengths s = record { digits_long = search (rules, c.well_formed); certificate_long = search (rules, c.well_formed); signature_long = search (rules, c.well_formed) } in
    let own : first (own_cases s cs) ≡ 0 = own_zero s cs (sym c.in_ok-own_answer.ensures) in
    let few = few_codes s cs y own in
    let l : lone t ≡ false = sym c.lone.ensures ∙ c.if-lone.false in
    let n = c.count-n.result in
    let ne : n ≡ part_count s t = count_is s t (250 - (101 + 12 * s.codes)) n (omega arith) c.count-n.ensures in
    let ns = count_some s t in
    let f : part_count s t ≤ 9 = omega (arith, c.if-n-gt9.false) in
    let d : last_four s.digits + (part_count s t - 1) ≤ 9999 = omega (arith, c.if-last_four-n-gt9999.false) in
    let bl : length (bytes_of s cs t) ≡ n * (101 + 12 * s.codes) + length t = bytes_long s cs y own (101 + 12 * s.codes) refl t l ∙ ap (λ k. k * (101 + 12 * s.codes) + length t) (sym ne) in
    record { own = own; parts = ne; few = omega arith; small = omega arith; rest = omega arith; size = refl; enough = omega (arith, c.if-out-length.false) }

pub returns : goal.returns
returns c = let x = c.args in
    let s = x.story in
    let cs = x.codes.now in
    let t = x.text.now in
    let y : Lengths s = record { digits_long = search (rules, c.well_formed); certificate_long = search (rules, c.well_formed); signature_long = search (rules, c.well_formed) } in
    let own : first (own_cases s cs) ≡ 0 = own_zero s cs (sym c.in_ok-own_answer.ensures) in
    let few = few_codes s cs y own in
    let l : lone t ≡ false = sym c.lone.ensures ∙ c.if-lone.false in
    let n = c.count-n.result in
    let ne : n ≡ part_count s t = count_is s t (250 - (101 + 12 * s.codes)) n (omega arith) c.count-n.ensures in
    let ns = count_some s t in
    let f : part_count s t ≤ 9 = omega (arith, c.if-n-gt9.false) in
    let d : last_four s.digits + (part_count s t - 1) ≤ 9999 = omega (arith, c.if-last_four-n-gt9999.false) in
    let bl : length (bytes_of s cs t) ≡ n * (101 + 12 * s.codes) + length t = bytes_long s cs y own (101 + 12 * s.codes) refl t l ∙ ap (λ k. k * (101 + 12 * s.codes) + length t) (sym ne) in let all = done_as s cs t x.out.now _ _ n (n * (101 + 12 * s.codes) + length t) refl ne (sym bl) (says_0 s cs t own (length x.out.now) l f d (omega (arith, c.if-out-length.false))) (omega (arith, c.if-out-length.false)) c.put_all.ensures in record { answer = all.0; output = all.1 }
