-- `writer::content::put_content`: what its goals need. Assumes nothing.
use mathlib.Core.Path.{◌≡◌, ap, ◌∙◌, subst}
use Prim.Native.Nat.{ℕ}
use native.Mathlib.Omega.{arith}
use Rattle.packet.specs.declared.Laid.{Laid}
use Rattle.packet.specs.Content.{kind_for, count_for}
use Rattle.packet.specs.InCode.{row_at}
use Rattle.writer.specs.Puts.{After}
use Rattle.writer.specs.Parts.{front_bits, front_size}
use Rattle.writer.proofs.Whole.{content_put, bodied, front_small, body_small}
use Rattle.writer.proofs.content.put_content.Goals as goal

pub put_body-e-requires : goal.put_body-e-requires
put_body-e-requires c = let r : c.row_of-s.result ≡ row_at (kind_for c.args.c) = c.row_of-s.ensures ∙ ap (λ (l : Laid). row_at l.kind) c.lay-l.ensures in
    (r, c.count_for-k.ensures, c.requires.0, omega (arith, c.put_front-q.ensures.place, front_small c.args.c c.count_for-k.result, c.requires.1))

pub put_back-requires : goal.put_back-requires
put_back-requires c = let x = c.args in
    let r : c.row_of-s.result ≡ row_at (kind_for x.c) = c.row_of-s.ensures ∙ ap (λ (l : Laid). row_at l.kind) c.lay-l.ensures in
    (r, omega (arith, c.put_body-e.ensures.place, c.put_front-q.ensures.place, front_small x.c c.count_for-k.result, body_small x.c x.body.now c.requires.0, c.requires.1), c.requires.2)

pub returns : goal.returns
returns c = let x = c.args in
    let e : c.count_for-k.result ≡ count_for x.c x.body.now = c.count_for-k.ensures in
    let a : After x.out.now c.put_front-q.new.out x.p (front_bits x.c x.digits.now (count_for x.c x.body.now)) c.put_front-q.result (front_size x.c (count_for x.c x.body.now)) =
    subst (λ (k : ℕ). After x.out.now c.put_front-q.new.out x.p (front_bits x.c x.digits.now k) c.put_front-q.result (front_size x.c k)) e c.put_front-q.ensures in
    content_put x.c x.digits.now x.body.now c.requires.2 (bodied x.c x.body.now c.requires.0) _ _ _ _ _ _ _ _ a c.put_body-e.ensures c.put_back.ensures
