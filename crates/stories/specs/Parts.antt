-- What a packet is to a board: a part of a story, or a text by itself (the pier board; paper 02, K1).
use Rattle.std.specs.Prelude.{ℕ, ◌+◌, ◌-◌, List, ◌++◌, Bool, cond, ◌&&◌, take, drop, get_or, leb}
use Rattle.packet.specs.Reading.{body_of}
use Rattle.story.specs.Telling.{head_of, last_four, four_of}
use Rattle.story.specs.Joining.{headed, digits_of}
use Rattle.stories.specs.declared.Part.{Part}

-- ---- the head: part digit, '/', total digit, space
-- the digit that a byte of the body is; 0 where it is none below it
abbrev pub digit_in : List ℕ → ℕ → ℕ
digit_in b i = get_or (body_of b) i 0 - 48

-- the part's own digit
abbrev pub part_in : List ℕ → ℕ
part_in b = digit_in b 0

-- that of the total
abbrev pub total_in : List ℕ → ℕ
total_in b = digit_in b 2

-- the body begins with the head of one of one to nine parts
unfoldable pub right_head : List ℕ → Bool
right_head b =
    headed (head_of (part_in b) (total_in b)) b && (leb 1 (part_in b) && (leb (part_in b) (total_in b) && leb (total_in b) 9))

-- ---- the message number: that of part k of n leaves room for those of the parts before and behind it
unfoldable pub in_reach : List ℕ → ℕ → ℕ → Bool
in_reach d k n = leb k (last_four d + 1) && leb (last_four d + (n - k)) 9999

-- the number of part 1, where d is that of part k: the first 31 digits stay
unfoldable pub first_number : List ℕ → ℕ → List ℕ
first_number d k = take 31 d ++ four_of (last_four d + 1 - k)

-- ---- a part of a story
unfoldable pub belongs : List ℕ → Bool
belongs b = right_head b && in_reach (digits_of b) (part_in b) (total_in b)

-- what it is a part of, and how many parts are before it; a text by itself is all of its own
unfoldable pub part_of : List ℕ → Part
part_of b =
    record {
      belongs = belongs b;
      number = cond (belongs b) (first_number (digits_of b) (part_in b)) (digits_of b);
      total = cond (belongs b) (total_in b) 1;
      place = cond (belongs b) (part_in b - 1) 0;
    }

-- its text, behind the head
abbrev pub text_of : List ℕ → List ℕ
text_of b = drop 4 (body_of b)
