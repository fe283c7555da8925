-- `writer::columns::put_line`: what its goals need. Assumes nothing.
use mathlib.Core.Path.{refl, subst}
use native.Mathlib.Omega.{arith}
use lib.ListN.{length, get_or}
use Rattle.laws.proofs.Cases.{if_yes}
use Rattle.writer.specs.declared.columns.Form.TheVariants as form
use Rattle.writer.specs.Forms.{Put}
use Rattle.writer.proofs.Beside.{octet_put}
use Rattle.writer.proofs.columns.put_line.Goals as goal

pub returns-in-Octet : goal.returns-in-Octet
returns-in-Octet c = let a = c.args in
    let h = c.requires in
    let f : Put form.Octet a.t a.p (length a.out.now) = subst (λ w. Put w a.t a.p (length a.out.now)) c.in-Octet.is h.0 in
    octet_put a.out.now a.xs.now a.t a.p a.i (get_or a.xs.now a.i 0) f.0 f.1 f.2 f.3 (omega (arith, h.3, f.2, if_yes a.t.count 0 f.0)) refl (omega (arith, c.type_inv.xs a.i))
