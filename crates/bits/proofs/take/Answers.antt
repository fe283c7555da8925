-- A symbol a turn: what is still to come gives what was to come. Assumes nothing.
use Rattle.std.proofs.Common.{◌+◌, ◌-◌, ◌*◌, ◌/◌, ℕ, length, ap, refl, sym, ◌≡◌, ◌∙◌, arith, rules}
use Rattle.refusal.specs.Refusal.{number_of}
use Rattle.refusal.proofs.Numbers.{some_number}
use Rattle.samples.specs.Symbol.{Decided, refusal, decided}
use Rattle.bits.specs.Packed.{numbers_from, symbols_from, symbols_in}
use Rattle.bits.proofs.Packed.{begins, at_symbol, stops, goes_on, ends}
use Rattle.bits.proofs.take.Goals as goal

pub loop-k-init : goal.loop-k-init
loop-k-init c = (omega arith, omega arith, begins c.args.state c.args.out.now c.args.bytes.now (length c.args.bytes.now / 256))

pub returns-in-Err : goal.returns-in-Err
returns-in-Err c = let l = c.loop-k in
    let a = c.args in
    let b = a.bytes.now in
    let n = length b / 256 in
    let all = stops l.so_far (numbers_from b (l.k * 256) 32) (symbols_from b (l.k + 1) (n - (l.k + 1))) (refusal (number_of c.in-Err.refusal) l.so_far)
    (c.in-Err.ensures ∙ ap (decided l.so_far) c.symbol_at.ensures)
    a.state l.k a.out.now l.out (symbols_in b)
    (at_symbol a.state l.so_far l.k n a.out.now l.out b (symbols_in b) l.invariant.2 (omega arith)) (some_number c.in-Err.refusal) in record { answer = all.0; out = all.1 }

pub loop-k-preserved : goal.loop-k-preserved
loop-k-preserved c = let l = c.loop-k in
    let a = c.args in
    let b = a.bytes.now in
    let n = length b / 256 in
    let d : Decided = record { answer = 0; verdict = c.in-Ok.decided.verdict; state = c.in-Ok.decided.state } in (
      omega arith,
      search rules,
      goes_on l.so_far (numbers_from b (l.k * 256) 32) (symbols_from b (l.k + 1) (n - (l.k + 1))) d
          (c.in-Ok.ensures ∙ ap (decided l.so_far) c.symbol_at.ensures)
          a.state l.k a.out.now l.out c.put_field.new.out (symbols_in b) c.bit_of.result
          (at_symbol a.state l.so_far l.k n a.out.now l.out b (symbols_in b) l.invariant.2 (omega arith)) refl (omega arith) c.bit_of.ensures c.put_field.ensures,
    )

pub returns : goal.returns
returns c = let l = c.loop-k in
    let a = c.args in
    let b = a.bytes.now in
    let n = length b / 256 in
    let h : l.k ≡ n = omega arith in
    let all = ends a.state l.so_far l.k n a.out.now l.out b (symbols_in b) l.invariant.2 (omega arith) in record {
      answer = ap (λ (k : ℕ). record { state = l.so_far; symbols = k; answer = 0 }) (sym h) ∙ all.0;
      out = all.1;
    }
