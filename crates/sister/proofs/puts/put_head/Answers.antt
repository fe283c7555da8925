-- `sister::puts::put_head`: what its goals need. Assumes nothing.
use native.Mathlib.Omega.{arith}
use Rattle.laws.specs.Bits.{bits, bits_of}
use Rattle.laws.proofs.Bits.{length_bits_of}
use Rattle.laws.proofs.Writes.{join}
use Rattle.sister.proofs.Put.{number_put}
use Rattle.sister.proofs.puts.put_head.Goals as goal

pub returns : goal.returns
returns c = let x = c.args in
    join (bits x.out.now) (bits c.put_field.new.out) _ (bits_of 8 x.tag) (bits_of 16 x.bytes) 0 8
    (number_put _ _ 0 8 x.tag (omega arith) (omega arith) (rw c.from.ensures at c.put_field.ensures))
    (number_put c.put_field.new.out _ 8 16 x.bytes (omega arith) (omega arith) c.put_field-2.ensures) (omega (arith, length_bits_of 8 x.tag))
