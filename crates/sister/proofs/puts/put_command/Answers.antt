-- `sister::puts::put_command`: what its goals need. Assumes nothing.
use mathlib.Core.Path.{sym, ap, ◌∙◌}
use Prim.Native.Nat.{◌+◌, ◌*◌}
use native.Mathlib.Omega.{arith}
use Rattle.sister.specs.Table.{tag_of}
use Rattle.sister.specs.declared.parts.Layout.{Layout}
use Rattle.sister.proofs.Put.{counted, reaches, together}
use Rattle.sister.proofs.puts.put_command.Goals as goal

pub laid_for-l-requires : goal.laid_for-l-requires
laid_for-l-requires c = let x = c.args in (counted x.c x.address.now x.codes.now c.requires).few

pub put_head-requires : goal.put_head-requires
put_head-requires c = let x = c.args in
    (reaches x.c c.laid_for-l.result c.laid_for-l.ensures (counted x.c x.address.now x.codes.now c.requires).few).0

pub put_numbers-requires : goal.put_numbers-requires
put_numbers-requires c = let x = c.args in (counted x.c x.address.now x.codes.now c.requires).few

pub overflow_mul-l : goal.overflow_mul-l
overflow_mul-l c = let x = c.args in
    omega (arith, (reaches x.c c.laid_for-l.result c.laid_for-l.ensures (counted x.c x.address.now x.codes.now c.requires).few).4)

pub overflow_sub-l : goal.overflow_sub-l
overflow_sub-l c = let x = c.args in
    (reaches x.c c.laid_for-l.result c.laid_for-l.ensures (counted x.c x.address.now x.codes.now c.requires).few).1

pub put_codes-requires : goal.put_codes-requires
put_codes-requires c = let x = c.args in
    let h = counted x.c x.address.now x.codes.now c.requires in
    let z = reaches x.c c.laid_for-l.result c.laid_for-l.ensures h.few in
    (omega (arith, z.2), z.3, h.codes_long ∙ ap (λ (l : Layout). 23 * l.codes) (sym c.laid_for-l.ensures))

pub overflow_add-result : goal.overflow_add-result
overflow_add-result c = let x = c.args in
    omega (arith, (reaches x.c c.laid_for-l.result c.laid_for-l.ensures (counted x.c x.address.now x.codes.now c.requires).few).0)

pub returns : goal.returns
returns c = let x = c.args in
    let l = c.laid_for-l.ensures in
    let h = counted x.c x.address.now x.codes.now c.requires in
    let t = c.tag_of.ensures ∙ ap tag_of c.kind_for.ensures in record {
      size = ap (λ (y : Layout). 3 + y.bytes) l;
      bits = together x.c x.address.now x.codes.now x.out.now c.put_head.new.out c.put_numbers.new.out c.put_fields.new.out c.put_codes.new.out c.laid_for-l.result c.tag_of.result h l t c.put_head.ensures c.put_numbers.ensures c.put_fields.ensures c.put_codes.ensures;
    }
