-- How differences are said (paper 02, K9): a line for each, and a last one with their number.
use Rattle.std.specs.Prelude.{◌≡◌, true, false, List, [], ◌∷◌, ◌++◌, ℕ, ◌+◌, length}
use Rattle.std.proofs.lemmas.List.Edits.{sets}
use Rattle.print.specs.Lines.{hex_of}
use Rattle.print.specs.Letters.{number_text}
use Rattle.compare.specs.Differences.{Difference, differs, only, differences}

-- "record "
abbrev pub record_word : List ℕ
record_word = 114 ∷ 101 ∷ 99 ∷ 111 ∷ 114 ∷ 100 ∷ 32 ∷ []

-- " byte "
abbrev pub byte_word : List ℕ
byte_word = 32 ∷ 98 ∷ 121 ∷ 116 ∷ 101 ∷ 32 ∷ []

-- " only left" and " only right", each with the line's end
abbrev pub left_words : List ℕ
left_words = 32 ∷ 111 ∷ 110 ∷ 108 ∷ 121 ∷ 32 ∷ 108 ∷ 101 ∷ 102 ∷ 116 ∷ 10 ∷ []

abbrev pub right_words : List ℕ
right_words = 32 ∷ 111 ∷ 110 ∷ 108 ∷ 121 ∷ 32 ∷ 114 ∷ 105 ∷ 103 ∷ 104 ∷ 116 ∷ 10 ∷ []

-- "differences "
abbrev pub last_word : List ℕ
last_word = 100 ∷ 105 ∷ 102 ∷ 102 ∷ 101 ∷ 114 ∷ 101 ∷ 110 ∷ 99 ∷ 101 ∷ 115 ∷ 32 ∷ []

-- words, a number in decimal, words
unfoldable pub phrase : List ℕ → ℕ → List ℕ → List ℕ
phrase before n behind = before ++ (number_text n ++ behind)

-- two bytes in upper-case hex, a space before each, and the line's end
unfoldable pub pair_text : ℕ → ℕ → List ℕ
pair_text x y = (32 ∷ hex_of (x ∷ [])) ++ ((32 ∷ hex_of (y ∷ [])) ++ (10 ∷ []))

-- a difference's line
unfoldable pub text_of : Difference → List ℕ
text_of (differs n byte x y) = phrase record_word n byte_word ++ phrase [] byte (pair_text x y)
text_of (only false n) = phrase record_word n left_words
text_of (only true n) = phrase record_word n right_words

unfoldable pub texts_of : List Difference → List ℕ
texts_of [] = []
texts_of (d ∷ ds) = text_of d ++ texts_of ds

-- a listing that had so many bytes and lines has these differences behind them now (ours, between functions)
abbrev pub Further : ℕ → ℕ → List ℕ → List Difference → ℕ → ℕ → List ℕ → Type 0
Further at lines out ds end count after =
    (end ≡ at + length (texts_of ds)) × (count ≡ lines + length ds) × (after ≡ sets out at (texts_of ds))

-- all that is printed of two shelves
unfoldable pub report : List ℕ → List ℕ → List ℕ
report left right = texts_of (differences left right) ++ phrase last_word (length (differences left right)) (10 ∷ [])
