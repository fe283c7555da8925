-- `sister::puts::put_numbers`: what its goals need. Assumes nothing.
use mathlib.Core.List.{[], ◌∷◌}
use Rattle.sister.specs.declared.Command.{Command}
use lib.Seq.{sets}
use Rattle.format.specs.Format.{encode}
use Rattle.sister.specs.Table.{count_for}
use Rattle.sister.specs.Layout.{number_bits}
use mathlib.Core.Path.{sym, ap, ◌∙◌}
use native.Mathlib.Omega.{arith}
use Rattle.laws.specs.Bits.{bits, bits_of, spread}
use Rattle.laws.proofs.Bits.{length_bits_of}
use Rattle.laws.proofs.Writes.{join}
use Rattle.sister.proofs.Put.{number_put, numbers_put, clock_bits, resource_bits, lock_bits}
use Rattle.sister.proofs.puts.put_numbers.Goals as goal

pub overflow_cast-length : goal.overflow_cast-length
overflow_cast-length c = let q = ap count_for c.in-Resource.is in omega (arith, q, c.requires)

pub overflow_cast-count : goal.overflow_cast-count
overflow_cast-count c = let q = ap count_for c.in-Lock.is in omega (arith, q, c.requires)

pub returns-in-Clock : goal.returns-in-Clock
returns-in-Clock c = let o = c.args.out.now in
    join (bits o) (bits c.put_field.new.out) _ (bits_of 16 c.in-Clock.year) (spread 8 (c.in-Clock.month ∷ c.in-Clock.day ∷ c.in-Clock.hour ∷ c.in-Clock.minute ∷ c.in-Clock.second ∷ [])) 24 40
    (number_put o _ 24 16 c.in-Clock.year (omega arith) (omega arith) (rw c.from.ensures at c.put_field.ensures))
    (numbers_put c.put_field.new.out _ (c.in-Clock.month ∷ c.in-Clock.day ∷ c.in-Clock.hour ∷ c.in-Clock.minute ∷ c.in-Clock.second ∷ []) 40 8 (omega arith) (omega arith) (omega arith) c.put_fields.ensures)
    (omega (arith, length_bits_of 16 c.in-Clock.year))
    ∙ ap (sets (bits o) 24) (clock_bits c.in-Clock.year c.in-Clock.month c.in-Clock.day c.in-Clock.hour c.in-Clock.minute c.in-Clock.second)
    ∙ ap (λ (d : Command). sets (bits o) 24 (number_bits d)) (sym c.in-Clock.is)

pub returns-in-Resource : goal.returns-in-Resource
returns-in-Resource c = let o = c.args.out.now in
    number_put o _ 24 8 c.in-Resource.length (omega arith) (omega arith) c.put_field-in-Resource.ensures
    ∙ ap (sets (bits o) 24) (resource_bits c.in-Resource.length)
    ∙ ap (λ (d : Command). sets (bits o) 24 (number_bits d)) (sym c.in-Resource.is)

pub returns-in-Lock : goal.returns-in-Lock
returns-in-Lock c = let o = c.args.out.now in
    join (bits o) (bits c.put_field-in-Lock.new.out) _ (bits_of 32 c.in-Lock.khz) (bits_of 8 c.in-Lock.count) 24 56
    (number_put o _ 24 32 c.in-Lock.khz (omega arith) (omega arith) c.put_field-in-Lock.ensures)
    (number_put c.put_field-in-Lock.new.out _ 56 8 c.in-Lock.count (omega arith) (omega arith) c.put_field-in-Lock-2.ensures)
    (omega (arith, length_bits_of 32 c.in-Lock.khz))
    ∙ ap (sets (bits o) 24) (lock_bits c.in-Lock.khz c.in-Lock.count)
    ∙ ap (λ (d : Command). sets (bits o) 24 (number_bits d)) (sym c.in-Lock.is)

pub returns-in-Unknown : goal.returns-in-Unknown
unfolding number_bits encode
returns-in-Unknown c = rw c.in-Unknown.is
