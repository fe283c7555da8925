-- `writer::refusals::size_of`: what its goals need. Assumes nothing.
use mathlib.Core.Path.{sym, ap, ◌∙◌}
use Prim.Native.Nat.{ℕ, ◌+◌, ◌*◌}
use native.Mathlib.Omega.{arith}
use lib.Dec.{ltb}
use borrow.Author.Tests.{le-ltb}
use Rattle.laws.proofs.Cases.{if_no}
use Rattle.packet.specs.Reading.{sizes_of}
use Rattle.writer.proofs.Sizes.{bytes_for, bits_most}
use Rattle.writer.proofs.refusals.size_of.Goals as goal

pub overflow_mul-result-2 : goal.overflow_mul-result-2
overflow_mul-result-2 c = omega (arith, bits_most c.args.f.content _ (c.sizes_of-z.ensures ∙ ap sizes_of c.kind_for.ensures) _ _ c.count_for-k.ensures c.if-k-gt1000.false)

pub overflow_add-result-2 : goal.overflow_add-result-2
overflow_add-result-2 c = omega (arith, bits_most c.args.f.content _ (c.sizes_of-z.ensures ∙ ap sizes_of c.kind_for.ensures) _ _ c.count_for-k.ensures c.if-k-gt1000.false)

pub overflow_add-result-3 : goal.overflow_add-result-3
overflow_add-result-3 c = omega (arith, bits_most c.args.f.content _ (c.sizes_of-z.ensures ∙ ap sizes_of c.kind_for.ensures) _ _ c.count_for-k.ensures c.if-k-gt1000.false)

pub overflow_add-result-4 : goal.overflow_add-result-4
overflow_add-result-4 c = omega (arith, bits_most c.args.f.content _ (c.sizes_of-z.ensures ∙ ap sizes_of c.kind_for.ensures) _ _ c.count_for-k.ensures c.if-k-gt1000.false)

pub returns : goal.returns
returns c = let x = c.args in
    ap (λ (n : ℕ). 77 + 12 * x.f.codes + n) (bytes_for x.f.content _ (c.sizes_of-z.ensures ∙ ap sizes_of c.kind_for.ensures) _ x.lent c.count_for-k.ensures)
    ∙ sym (if_no _ _ (ap (ltb 1000) (sym c.count_for-k.ensures) ∙ le-ltb _ _ c.if-k-gt1000.false))
