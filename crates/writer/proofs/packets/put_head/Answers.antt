-- `writer::packets::put_head`: what its goals need. Assumes nothing.
use native.Mathlib.Omega.{arith}
use Rattle.writer.proofs.Count.{field_put}
use Rattle.writer.proofs.Whole.{head_put}
use Rattle.writer.proofs.packets.put_head.Goals as goal

pub returns : goal.returns
returns c = (head_put _ c.put_field.new.out c.put_field-2.new.out _ _ _ _
    (field_put _ _ 0 5 _ (omega arith) (omega arith) c.put_field.ensures)
    (field_put _ _ 5 11 _ (omega arith) (omega arith) c.put_field-2.ensures)
    (field_put _ _ 16 8 _ (omega arith) (omega arith) c.put_field-3.ensures)).put
