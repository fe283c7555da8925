-- `writer::content::digits_used`: what its goals need. Assumes nothing.
use mathlib.Core.Path.{ap, ◌∙◌}
use native.Mathlib.Omega.{arith}
use Rattle.packet.specs.declared.Laid.{Laid}
use Rattle.packet.specs.Reading.{sizes_of}
use Rattle.writer.proofs.Sizes.{used_is}
use Rattle.writer.proofs.content.digits_used.Goals as goal

pub overflow_sub-result : goal.overflow_sub-result
overflow_sub-result c = (used_is c.args.c _ (c.sizes_of-z.ensures ∙ ap (λ (l : Laid). sizes_of l.kind) c.lay-l.ensures) _ (ap (λ (l : Laid). l.n) c.lay-l.ensures)).0

pub overflow_add-result : goal.overflow_add-result
overflow_add-result c = let u = used_is c.args.c _ (c.sizes_of-z.ensures ∙ ap (λ (l : Laid). sizes_of l.kind) c.lay-l.ensures) _ (ap (λ (l : Laid). l.n) c.lay-l.ensures) in
    omega (arith, u.2)

pub returns : goal.returns
returns c = let u = used_is c.args.c _ (c.sizes_of-z.ensures ∙ ap (λ (l : Laid). sizes_of l.kind) c.lay-l.ensures) _ (ap (λ (l : Laid). l.n) c.lay-l.ensures) in
    (u.1, u.2)
