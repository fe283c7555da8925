-- Worked examples, computed on the definitions: a packet of eight bytes in three frames, of level 5 and version 3.
use Rattle.std.specs.Prelude.{◌≡◌, refl, List, [], ◌∷◌, ℕ}
use Rattle.laws.specs.Poly.{reduce, remainder}
use Rattle.laws.specs.Bits.{at, bits_of, spread}
use Rattle.laws.specs.Below.{below}
use Rattle.laws.specs.Scan.{all, index_of}
use Rattle.laws.specs.Refusals.{first}
use Rattle.crc.specs.Crc16.{times_byte, taken, taken_all, crc16}
use Rattle.frame.specs.Heading.{fixed, reserved, outside, refusals, heading_fields, heading_of, accepted}
use Rattle.size.specs.Size.{packet_size}
use Rattle.collector.specs.Whole.{sized, checked, filled, passes}
use Rattle.collector.specs.Places.{astray, marks_below, complete, fair, contradicts, again, taken_for, stored, whole, spoiled, copy_cases, copy_bytes}
use Rattle.collector.specs.Collector.{nothing, good, index_of_pair, index_of_free, spot, after, take_cases, keeps, offer_cases, offered, copied_cases, copied}
use Rattle.order.specs.Held.{offer_all}
use Rattle.order.specs.Given.{pieces, first_of, same, came, full, joined_to, declare_cases, due_cases, due}

abbrev pub frame : ℕ → ℕ → ℕ → ℕ → ℕ → List ℕ
frame n a b c d = 0xA3 ∷ 0x0C ∷ 0xB0 ∷ n ∷ a ∷ b ∷ c ∷ d ∷ []

abbrev pub zeroth : List ℕ
zeroth = frame 0 0xA8 0x06 0x01 0x02

abbrev pub second : List ℕ
second = frame 1 0x03 0x04 0x05 0x06

abbrev pub third : List ℕ
third = frame 2 0xD1 0x24 0xFF 0xFF

-- the last missing number makes the packet whole, whichever it is, and is due from the frames alone
pub whole_last : (offered (offer_all nothing (third ∷ zeroth ∷ third ∷ [])) second).answer ≡ 1
unfolding below index_of first at bits_of spread reduce remainder times_byte taken crc16 fixed reserved outside refusals heading_fields packet_size sized checked filled passes astray marks_below complete fair contradicts again taken_for stored whole spoiled good index_of_pair index_of_free spot after take_cases keeps offer_cases offered offer_all
whole_last = refl

pub due_last : due (third ∷ zeroth ∷ third ∷ []) second ≡ 1
unfolding below first at bits_of spread reduce remainder times_byte taken crc16 fixed reserved outside refusals heading_fields heading_of accepted packet_size sized checked filled passes pieces first_of same came full joined_to declare_cases due_cases due
due_last = refl

pub due_again : due (third ∷ zeroth ∷ third ∷ []) zeroth ≡ 2
unfolding below first at bits_of spread reduce remainder times_byte taken crc16 fixed reserved outside refusals heading_fields heading_of accepted packet_size sized checked filled passes pieces first_of same came full joined_to declare_cases due_cases due
due_again = refl

-- one byte of the fill is not 0xFF
pub due_spoiled : due (frame 2 0xD1 0x24 0xFF 0xFE ∷ zeroth ∷ []) second ≡ 17
unfolding below first at bits_of spread reduce remainder times_byte taken crc16 fixed reserved outside refusals heading_fields heading_of accepted packet_size sized checked filled passes pieces first_of same came full joined_to declare_cases due_cases due
due_spoiled = refl

-- the same number with other bytes: a pair with a number missing begins again, and a whole one stays
pub missing_begins : (offered (offer_all nothing (zeroth ∷ [])) (frame 0 0xA8 0x06 0x01 0x03)).answer ≡ 3
unfolding below index_of first at bits_of spread reduce remainder times_byte taken crc16 fixed reserved outside refusals heading_fields packet_size sized checked filled passes astray marks_below complete fair contradicts again taken_for stored whole spoiled good index_of_pair index_of_free spot after take_cases keeps offer_cases offered offer_all
missing_begins = refl

pub whole_contradicted : (offered (offer_all nothing (zeroth ∷ second ∷ third ∷ [])) (frame 0 0xA8 0x06 0x01 0x03)).answer ≡ 15
unfolding below index_of first at bits_of spread reduce remainder times_byte taken crc16 fixed reserved outside refusals heading_fields packet_size sized checked filled passes astray marks_below complete fair contradicts again taken_for stored whole spoiled good index_of_pair index_of_free spot after take_cases keeps offer_cases offered offer_all
whole_contradicted = refl

-- the packet's eight bytes, and the rest of what was lent
pub copied_out : copied (offer_all nothing (third ∷ zeroth ∷ second ∷ [])) 5 3 (7 ∷ 7 ∷ 7 ∷ 7 ∷ 7 ∷ 7 ∷ 7 ∷ 7 ∷ 9 ∷ [])
    ≡ 0xA8 ∷ 0x06 ∷ 0x01 ∷ 0x02 ∷ 0x03 ∷ 0x04 ∷ 0x05 ∷ 0x06 ∷ 9 ∷ []
unfolding below index_of first at bits_of spread reduce remainder times_byte taken crc16 fixed reserved outside refusals heading_fields packet_size sized checked filled passes astray marks_below complete fair contradicts again taken_for stored whole spoiled good index_of_pair index_of_free spot after take_cases keeps offer_cases offered offer_all copy_cases copy_bytes copied_cases copied
copied_out = refl

-- ---- the version comes round again (paper 02, K5)

-- the message above but for its middle frame, which differs by the check's own polynomial
abbrev pub alike : List ℕ
alike = frame 1 0x03 0x05 0x15 0x27

-- held as an old half, it makes another whole packet with the message's other frames, and stays: twice through is not enough without the bound
pub bound_needed : copied (offer_all nothing (alike ∷ zeroth ∷ third ∷ second ∷ zeroth ∷ third ∷ second ∷ [])) 5 3 (7 ∷ 7 ∷ 7 ∷ 7 ∷ 7 ∷ 7 ∷ 7 ∷ 7 ∷ [])
    ≡ 0xA8 ∷ 0x06 ∷ 0x01 ∷ 0x02 ∷ 0x03 ∷ 0x05 ∷ 0x15 ∷ 0x27 ∷ []
unfolding below index_of first at bits_of spread reduce remainder times_byte taken crc16 fixed reserved outside refusals heading_fields packet_size sized checked filled passes astray marks_below complete fair contradicts again taken_for stored whole spoiled good index_of_pair index_of_free spot after take_cases keeps offer_cases offered offer_all copy_cases copy_bytes copied_cases copied
bound_needed = refl

-- another old half: once through it gives way too late, and a copy finds nothing whole
abbrev pub unlike : List ℕ
unlike = frame 1 0 0 0 0

pub once_is_short : copied (offer_all nothing (unlike ∷ zeroth ∷ third ∷ second ∷ [])) 5 3 (7 ∷ 7 ∷ 7 ∷ 7 ∷ 7 ∷ 7 ∷ 7 ∷ 7 ∷ []) ≡ 7 ∷ 7 ∷ 7 ∷ 7 ∷ 7 ∷ 7 ∷ 7 ∷ 7 ∷ []
unfolding below index_of first at bits_of spread reduce remainder times_byte taken crc16 fixed reserved outside refusals heading_fields packet_size sized checked filled passes astray marks_below complete fair contradicts again taken_for stored whole spoiled good index_of_pair index_of_free spot after take_cases keeps offer_cases offered offer_all copy_cases copy_bytes copied_cases copied
once_is_short = refl

-- twice through it is the message
pub twice_is_enough : copied (offer_all nothing (unlike ∷ zeroth ∷ third ∷ second ∷ zeroth ∷ third ∷ second ∷ [])) 5 3 (7 ∷ 7 ∷ 7 ∷ 7 ∷ 7 ∷ 7 ∷ 7 ∷ 7 ∷ [])
    ≡ 0xA8 ∷ 0x06 ∷ 0x01 ∷ 0x02 ∷ 0x03 ∷ 0x04 ∷ 0x05 ∷ 0x06 ∷ []
unfolding below index_of first at bits_of spread reduce remainder times_byte taken crc16 fixed reserved outside refusals heading_fields packet_size sized checked filled passes astray marks_below complete fair contradicts again taken_for stored whole spoiled good index_of_pair index_of_free spot after take_cases keeps offer_cases offered offer_all copy_cases copy_bytes copied_cases copied
twice_is_enough = refl
