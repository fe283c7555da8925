-- `writer::write`: what its goals need. Assumes nothing.
use native.Mathlib.Omega.{arith}
use mathlib.Core.Path.{refl}
use Rattle.std.proofs.lemmas.Result.{err_from_is_err_and}
use Rattle.refusal.proofs.Numbers.{some_number}
use Rattle.writer.proofs.Written.{refused, ready, done}
use borrow.Author.Rules.{rules}
use Rattle.writer.proofs.write.Goals as goal

pub returns-in_err-size : goal.returns-in_err-size
returns-in_err-size c = let x = c.args in
    let p = err_from_is_err_and c.from_residual.result c.from_residual.ensures.1 in rw (p.1, p.2) record {
      answer = c.in_err-size.ensures;
      output = refused x.fields x.codes.now x.body.now x.out.now _ c.in_err-size.ensures (some_number c.in_err-size.field-0.0);
    }

pub put_packet-requires : goal.put_packet-requires
put_packet-requires c = let x = c.args in
    ready x.fields x.codes.now x.body.now x.out.now _ c.in_ok-size.ensures refl

pub returns : goal.returns
returns c = let g = c.well_formed in
    let x = c.args in record {
      answer = c.in_ok-size.ensures;
      output = done x.fields x.codes.now x.body.now x.out.now _ c.in_ok-size.ensures refl (search (rules, g)) (search (rules, g)) (search (rules, g)) _ (λ i. omega (arith, c.slice_known-2-1.given i)) (λ i. omega (arith, c.slice_known-1.given i)) c.put_packet.ensures;
    }
