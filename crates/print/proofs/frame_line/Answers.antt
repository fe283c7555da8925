-- `print::frame_line`: what its goals need. Assumes nothing.
use Rattle.print.specs.Lines.{line_of, hex_of}
use mathlib.Core.Path.{◌≡◌, ap, ◌∙◌}
use native.Mathlib.Omega.{arith}
use Prim.Native.Nat.{◌+◌, ◌*◌}
use lib.ListN.{length, set, length-set, length-drop}
use lib.Seq.{length-sets}
use Rattle.laws.proofs.Parts.{part_is}
use Rattle.print.proofs.Whole.{nothing, all, together}
use Rattle.print.proofs.frame_line.Goals as goal

pub returns-then-room-digits : goal.returns-then-room-digits
returns-then-room-digits c = let all = nothing _ _ _ (omega (arith, c.decimal_length-digits.ensures.0)) in record { length = all.0; output = all.1 }

pub returns-then-room-digits-2 : goal.returns-then-room-digits-2
returns-then-room-digits-2 c = let all = nothing _ _ _ (omega (arith, c.decimal_length-digits.ensures.0)) in record { length = all.0; output = all.1 }

pub slice_bounds-put_answer-count : goal.slice_bounds-put_answer-count
slice_bounds-put_answer-count c = simp length-set (omega (arith, c.decimal_length-digits.ensures.0, ap length c.put_hex.ensures ∙ length-sets c.args.out.now 0 (hex_of c.args.frame.now)))

pub slice_bounds-put_answer-start : goal.slice_bounds-put_answer-start
slice_bounds-put_answer-start c = simp length-set (omega (arith, c.decimal_length-digits.ensures.0, ap length c.put_hex.ensures ∙ length-sets c.args.out.now 0 (hex_of c.args.frame.now)))

pub put_answer-requires : goal.put_answer-requires
put_answer-requires c = let at = 2 * length c.args.frame.now in
    let o = set c.put_hex.new.out at 32 in
    let k : length o ≡ length c.args.out.now = length-set c.put_hex.new.out at 32 ∙ ap length c.put_hex.ensures ∙ length-sets c.args.out.now 0 (hex_of c.args.frame.now) in
    rw (part_is o (at + 1)) (omega (arith, length-drop (at + 1) o, c.decimal_length-digits.ensures.0))

pub shape_of-out : goal.shape_of-out
shape_of-out c = ap length (together c.args.frame.now c.args.answer c.args.out.now c.put_hex.new.out c.put_answer.new.out (omega (arith, c.decimal_length-digits.ensures.0)) c.put_hex.ensures c.put_answer.ensures)
    ∙ length-sets c.args.out.now 0 (line_of c.args.frame.now c.args.answer)

pub returns : goal.returns
returns c = let all = all _ _ c.args.out.now (omega (arith, c.decimal_length-digits.ensures.0)) _ (omega (arith, c.decimal_length-digits.ensures.0)) _
    (together _ _ c.args.out.now c.put_hex.new.out _ (omega (arith, c.decimal_length-digits.ensures.0)) c.put_hex.ensures c.put_answer.ensures) in record { length = all.0; output = all.1 }
