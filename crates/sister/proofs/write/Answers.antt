-- `sister::write`: what its goals need. Assumes nothing.
use mathlib.Core.Path.{sym}
use native.Mathlib.Omega.{arith}
use lib.ListN.{length}
use Rattle.std.proofs.lemmas.Result.{err_from_is_err_and}
use Rattle.refusal.proofs.Numbers.{some_number}
use Rattle.sister.proofs.Says as says
use Rattle.sister.proofs.write.Goals as goal

pub returns-in_err-written_answer : goal.returns-in_err-written_answer
returns-in_err-written_answer c = let x = c.args in
    let p = err_from_is_err_and c.from_residual.result c.from_residual.ensures.1 in
    let all = says.refused x.command _ _ x.out.now _ c.in_err-written_answer.ensures (some_number c.in_err-written_answer.field-0.0) in rw (p.1, p.2) record { answer = all.0; output = all.1 }

pub put_command-requires : goal.put_command-requires
put_command-requires c = let x = c.args in (says.passed x.command x.address.now x.codes.now (length x.out.now) (sym c.in_ok-written_answer.ensures)).0

pub returns : goal.returns
returns c = let x = c.args in let all = says.done x.command x.address.now x.codes.now x.out.now _ _ (sym c.in_ok-written_answer.ensures) (λ i. omega (arith, c.slice_known-2-1.given i)) (λ i. omega (arith, c.slice_known-1.given i))
    c.put_command.ensures.size c.put_command.ensures.bits in record { answer = all.0; output = all.1 }
