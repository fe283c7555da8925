-- `print::records::record_line`: what its goals need. Assumes nothing.
use Rattle.print.specs.Lines.{hex_of}
use Rattle.print.proofs.Laws.{length_hex}
use Rattle.print.proofs.RecordLine.{part_keeps}
use mathlib.Core.Path.{ap, ◌∙◌}
use native.Mathlib.Omega.{arith}
use lib.ListN.{length, length-drop}
use lib.Seq.{length-sets}
use Prim.Native.Nat.{◌≤◌}
use Rattle.laws.proofs.Parts.{part_is}
use Rattle.print.specs.Records.{front, record_line}
use Rattle.print.proofs.RecordLine.{front_length, record_length, too_long, no_room, put_record, all_put}
use Rattle.print.proofs.records.record_line.Goals as goal

pub returns-then-packet-gt255 : goal.returns-then-packet-gt255
returns-then-packet-gt255 c = let all = too_long c.args.level c.args.version c.args.packet.now c.args.out.now (omega arith) in record { length = all.0; output = all.1 }

pub returns-then-out-digits : goal.returns-then-out-digits
returns-then-out-digits c = let a = c.args in let all = no_room a.level a.version a.packet.now a.out.now (omega arith) (omega (arith, record_length a.level a.version a.packet.now, c.decimal_length.ensures.0, c.decimal_length-2.ensures.0, c.decimal_length-3.ensures.0)) in record { length = all.0; output = all.1 }

pub put_front-from-requires : goal.put_front-from-requires
put_front-from-requires c = let a = c.args in
    omega (arith, front_length a.level a.version (length a.packet.now), c.decimal_length.ensures.0, c.decimal_length-2.ensures.0, c.decimal_length-3.ensures.0)

pub slice_bounds-put_hex-count : goal.slice_bounds-put_hex-count
slice_bounds-put_hex-count c = let a = c.args in
    let p = c.put_front-from in
    omega (arith, front_length a.level a.version (length a.packet.now), p.ensures.0, ap length p.ensures.1 ∙ length-sets a.out.now 0 (front a.level a.version (length a.packet.now)), c.decimal_length.ensures.0, c.decimal_length-2.ensures.0, c.decimal_length-3.ensures.0)

pub slice_bounds-put_hex-start : goal.slice_bounds-put_hex-start
slice_bounds-put_hex-start c = let a = c.args in
    let p = c.put_front-from in
    omega (arith, front_length a.level a.version (length a.packet.now), p.ensures.0, ap length p.ensures.1 ∙ length-sets a.out.now 0 (front a.level a.version (length a.packet.now)), c.decimal_length.ensures.0, c.decimal_length-2.ensures.0, c.decimal_length-3.ensures.0)

pub put_hex-requires : goal.put_hex-requires
put_hex-requires c = let a = c.args in
    let p = c.put_front-from in
    let o = p.new.out in
    rw (part_is o p.result) (omega (arith, length-drop p.result o, front_length a.level a.version (length a.packet.now), p.ensures.0, ap length p.ensures.1 ∙ length-sets a.out.now 0 (front a.level a.version (length a.packet.now)), c.decimal_length.ensures.0, c.decimal_length-2.ensures.0, c.decimal_length-3.ensures.0))

pub overflow_add-end : goal.overflow_add-end
overflow_add-end c = let a = c.args in
    omega (arith, front_length a.level a.version (length a.packet.now), c.put_front-from.ensures.0, c.decimal_length.ensures.0, c.decimal_length-2.ensures.0, c.decimal_length-3.ensures.0)

pub bounds-out-end : goal.bounds-out-end
bounds-out-end c = let a = c.args in
    let p = c.put_front-from in
    let f = front_length a.level a.version (length a.packet.now) in
    let k = ap length p.ensures.1 ∙ length-sets a.out.now 0 (front a.level a.version (length a.packet.now)) in
    omega (arith, f, p.ensures.0, k, c.decimal_length.ensures.0, c.decimal_length-2.ensures.0, c.decimal_length-3.ensures.0, part_keeps p.new.out (hex_of a.packet.now) c.put_hex.new.out p.result (omega (arith, f, p.ensures.0, k, c.decimal_length.ensures.0, c.decimal_length-2.ensures.0, c.decimal_length-3.ensures.0, length_hex a.packet.now)) c.put_hex.ensures)

pub overflow_add-result : goal.overflow_add-result
overflow_add-result c = let a = c.args in
    omega (arith, front_length a.level a.version (length a.packet.now), c.put_front-from.ensures.0, c.decimal_length.ensures.0, c.decimal_length-2.ensures.0, c.decimal_length-3.ensures.0)

pub shape_of-out : goal.shape_of-out
shape_of-out c = let a = c.args in
    let p = c.put_front-from in
    let room : length (record_line a.level a.version a.packet.now) ≤ length a.out.now = omega (arith, record_length a.level a.version a.packet.now, c.decimal_length.ensures.0, c.decimal_length-2.ensures.0, c.decimal_length-3.ensures.0) in
    ap length (put_record a.level a.version a.packet.now a.out.now p.result p.new.out c.put_hex.new.out room p.ensures.0 p.ensures.1 c.put_hex.ensures)
    ∙ length-sets a.out.now 0 (record_line a.level a.version a.packet.now)

pub returns : goal.returns
returns c = let a = c.args in
    let p = c.put_front-from in
    let n = record_length a.level a.version a.packet.now in
    let room : length (record_line a.level a.version a.packet.now) ≤ length a.out.now = omega (arith, n, c.decimal_length.ensures.0, c.decimal_length-2.ensures.0, c.decimal_length-3.ensures.0) in let all = all_put a.level a.version a.packet.now a.out.now (omega arith) room _ (omega (arith, n, front_length a.level a.version (length a.packet.now), p.ensures.0)) _
    (put_record a.level a.version a.packet.now a.out.now p.result p.new.out c.put_hex.new.out room p.ensures.0 p.ensures.1 c.put_hex.ensures) in record { length = all.0; output = all.1 }
