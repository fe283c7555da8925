-- Worked examples of records and summaries, computed on the definitions.
use Rattle.std.specs.Prelude.{◌≡◌, refl, true, false, List, [], ◌∷◌, ◌++◌, ℕ, replicate, drop, set}
use Rattle.laws.specs.Bits.{at, bits_of, spread}
use Rattle.laws.specs.Refusals.{first}
use Rattle.frame.specs.Heading.{reserved}
use Rattle.air.specs.OnAir.{sized}
use Rattle.size.specs.Size.{packet_size}
use Rattle.print.specs.Lines.{hex_of, decimal_of}
use Rattle.print.specs.Records.{spaced, front, record_line}
use Rattle.shelf.specs.Record.{right, record_of}
use Rattle.shelf.specs.Summary.{word, word_at, count_of, last_of, entry_of, noted}
use Rattle.shelf.specs.Shelf.{whole, add_cases, add_answer, make_cases, make_answer, line_in}

-- a packet of type 15 with the length field 1, at level 5, version 3
abbrev pub heard : List ℕ
heard = record_of 5 3 (0x78 ∷ 0x01 ∷ 0xAF ∷ [])

abbrev pub kept : List ℕ
kept = heard ++ record_of 6 31 (0xA8 ∷ 0x00 ∷ [])

-- it keeps the rules; with another level, P, length field, fill or closing byte it doesn't
pub heard_right : right heard ≡ true
unfolding record_of right reserved packet_size at bits_of spread
heard_right = refl

pub level_wrong : right (set heard 0 7) ≡ false
unfolding record_of right reserved packet_size at bits_of spread
level_wrong = refl

pub size_wrong : right (set heard 3 4) ≡ false
unfolding record_of right reserved packet_size at bits_of spread
size_wrong = refl

pub field_wrong : right (set heard 5 2) ≡ false
unfolding record_of right reserved packet_size at bits_of spread
field_wrong = refl

pub fill_wrong : right (set heard 253 0) ≡ false
unfolding record_of right reserved packet_size at bits_of spread
fill_wrong = refl

pub closing_wrong : right (set heard 255 1) ≡ false
unfolding record_of right reserved packet_size at bits_of spread
closing_wrong = refl

-- "5 3 3 7801AF"
pub heard_line : line_in heard ≡ 53 ∷ 32 ∷ 51 ∷ 32 ∷ 51 ∷ 32 ∷ 55 ∷ 56 ∷ 48 ∷ 49 ∷ 65 ∷ 70 ∷ 10 ∷ []
unfolding line_in record_line front spaced decimal_of hex_of record_of
heard_line = refl

-- of two records, one of type 15 and one of type 21 (0xA8): each counted once, the second's number being 1; of type 0 there is none
pub entry_15 : entry_of kept 2 15 ≡ 0 ∷ 0 ∷ 0 ∷ 1 ∷ 0 ∷ 0 ∷ 0 ∷ 0 ∷ []
unfolding entry_of count_of last_of word record_of at bits_of spread
entry_15 = refl

pub entry_21 : entry_of kept 2 21 ≡ 0 ∷ 0 ∷ 0 ∷ 1 ∷ 0 ∷ 0 ∷ 0 ∷ 1 ∷ []
unfolding entry_of count_of last_of word record_of at bits_of spread
entry_21 = refl

pub entry_0 : entry_of kept 2 0 ≡ 0 ∷ 0 ∷ 0 ∷ 0 ∷ 0xFF ∷ 0xFF ∷ 0xFF ∷ 0xFF ∷ []
unfolding entry_of count_of last_of word record_of at bits_of spread
entry_0 = refl

-- the count goes round from 2^32 - 1 to 0
pub goes_round : noted (0xFF ∷ 0xFF ∷ 0xFF ∷ 0xFF ∷ 1 ∷ 2 ∷ 3 ∷ 4 ∷ 9 ∷ []) 0 4095 ≡ 0 ∷ 0 ∷ 0 ∷ 0 ∷ 0 ∷ 0 ∷ 0x0F ∷ 0xFF ∷ 9 ∷ []
unfolding noted word_at word
goes_round = refl

-- a shelf that a byte is missing of
pub torn : add_answer (drop 1 kept) heard (replicate 256 0) ≡ 34
unfolding add_answer add_cases first whole record_of
torn = refl

-- the on-air writer's numbers in its order, then 34: an empty packet, a reserved level, version 32, memory of 255 bytes, and none of them
pub made_answers : make_answer 0 32 [] [] ∷ make_answer 0 32 (0xA8 ∷ 0 ∷ []) [] ∷ make_answer 6 32 (0xA8 ∷ 0 ∷ []) [] ∷ make_answer 6 31 (0xA8 ∷ 0 ∷ []) (replicate 255 0) ∷ make_answer 6 31 (0xA8 ∷ 0 ∷ []) (replicate 256 0) ∷ []
    ≡ 20 ∷ 13 ∷ 27 ∷ 34 ∷ 0 ∷ []
unfolding make_answer make_cases first sized reserved packet_size at bits_of spread
made_answers = refl
