-- Worked examples of a comparison, computed on the definitions.
use Rattle.std.specs.Prelude.{◌≡◌, refl, true, false, List, [], ◌∷◌, ◌++◌, ℕ, replicate}
use Rattle.laws.specs.Bits.{at, bits_of, spread}
use Rattle.laws.specs.Below as every
use Rattle.laws.specs.Refusals.{first}
use Rattle.frame.specs.Heading.{reserved}
use Rattle.size.specs.Size.{packet_size}
use Rattle.print.specs.Lines.{hex_of}
use Rattle.print.specs.Letters.{digits_of, number_text}
use Rattle.shelf.specs.Record.{right, record_of}
use Rattle.shelf.specs.Shelf.{whole, all_right, shelf_cases, shelf_answer}
use Rattle.compare.specs.Differences.{differs, only, unlike, first_from, first_byte, of_both, of_record, below, longer, differences}
use Rattle.compare.specs.Texts.{phrase, pair_text, text_of, texts_of, report}
use Rattle.compare.specs.Compare.{compare_answer, right_refused}

-- the paper's example: record 0 is equal, record 1 differs first at byte 4 with 78 against A8, and left has a third record
abbrev pub ours : List ℕ
ours = record_of 5 3 (0x78 ∷ 0x01 ∷ 0xAF ∷ []) ++ (record_of 5 4 (0x78 ∷ 0x01 ∷ 0xB0 ∷ []) ++ record_of 6 31 (0xA8 ∷ 0x00 ∷ []))

abbrev pub theirs : List ℕ
theirs = record_of 5 3 (0x78 ∷ 0x01 ∷ 0xAF ∷ []) ++ record_of 5 4 (0xA8 ∷ 0x01 ∷ 0xB0 ∷ [])

pub example : differences ours theirs ≡ differs 1 4 0x78 0xA8 ∷ only false 2 ∷ []
unfolding differences longer below of_record of_both first_byte first_from unlike record_of
example = refl

pub turned_round : differences theirs ours ≡ differs 1 4 0xA8 0x78 ∷ only true 2 ∷ []
unfolding differences longer below of_record of_both first_byte first_from unlike record_of
turned_round = refl

-- "record 1 byte 4 78 A8"
pub both_line : text_of (differs 1 4 0x78 0xA8)
    ≡ 114 ∷ 101 ∷ 99 ∷ 111 ∷ 114 ∷ 100 ∷ 32 ∷ 49 ∷ 32 ∷ 98 ∷ 121 ∷ 116 ∷ 101 ∷ 32 ∷ 52 ∷ 32 ∷ 55 ∷ 56 ∷ 32 ∷ 65 ∷ 56 ∷ 10 ∷ []
unfolding text_of phrase pair_text number_text digits_of hex_of
both_line = refl

-- "record 4095 only right"
pub right_line : text_of (only true 4095)
    ≡ 114 ∷ 101 ∷ 99 ∷ 111 ∷ 114 ∷ 100 ∷ 32 ∷ 52 ∷ 48 ∷ 57 ∷ 53 ∷ 32 ∷ 111 ∷ 110 ∷ 108 ∷ 121 ∷ 32 ∷ 114 ∷ 105 ∷ 103 ∷ 104 ∷ 116 ∷ 10 ∷ []
unfolding text_of phrase number_text digits_of
right_line = refl

-- "differences 0"
pub nothing : report [] [] ≡ 100 ∷ 105 ∷ 102 ∷ 102 ∷ 101 ∷ 114 ∷ 101 ∷ 110 ∷ 99 ∷ 101 ∷ 115 ∷ 32 ∷ 48 ∷ 10 ∷ []
unfolding report differences longer below texts_of phrase number_text digits_of
nothing = refl

-- a wrong record of left comes before a torn right shelf; then that; then memory of no byte
pub answers : compare_answer (replicate 256 0) (0 ∷ []) [] ∷ compare_answer ours (0 ∷ []) [] ∷ compare_answer ours theirs [] ∷ [] ≡ 35 ∷ 34 ∷ 10 ∷ []
unfolding compare_answer shelf_answer shelf_cases first whole all_right every.below right reserved packet_size at bits_of spread record_of
answers = refl

pub sides : right_refused (replicate 256 0) (0 ∷ []) ∷ right_refused ours (0 ∷ []) ∷ [] ≡ false ∷ true ∷ []
unfolding right_refused shelf_answer shelf_cases first whole all_right every.below right reserved packet_size at bits_of spread record_of
sides = refl
