-- Every pier example marked P holds, by computation, whatever is lent and whatever the frames carry. Assumes nothing.
use mathlib.Core.Path.{◌≡◌, refl}
use mathlib.Core.Bool.{true}
use Prim.Native.Nat.{ℕ}
use Rattle.laws.specs.Bits.{at, bits_of, run, spread}
use Rattle.laws.specs.Poly.{reduce, remainder}
use Rattle.laws.specs.Refusals.{first}
use Rattle.laws.specs.Scan.{all}
use Rattle.block.specs.Block.{syndrome, check_word}
use Rattle.frame.specs.Heading.{fixed, reserved, outside, refusals, heading_fields, heading_of, heading_bits, heading_words, heading_bytes}
use Rattle.air.specs.OnAir.{frames_for}
use Rattle.format.specs.Format.{times, size, need, encode, fill, inside, fine}
use Rattle.packet.specs.Table.{kind_of, content_lines, packet}
use Rattle.days.specs.Days.{leap, days_in}
use Rattle.packet.specs.Writing.{front_for, back_for, body_for, size_for, table_for, numbers_for, bytes_for, count_bad, digit_bad, not_taken, written_answer, written, packet_output}
use Rattle.promises.specs.Pier.{holds, examples}

pub pier : (lent a b c d : ℕ) → all (holds lent a b c d) examples ≡ true
unfolding holds examples check_word syndrome remainder reduce at bits_of run spread first fixed reserved outside refusals heading_fields heading_of heading_bits heading_words heading_bytes frames_for times size need encode fill inside fine kind_of content_lines packet leap days_in front_for back_for body_for size_for table_for numbers_for bytes_for count_bad digit_bad not_taken written_answer written packet_output
pier lent a b c d = refl
