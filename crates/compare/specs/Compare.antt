-- What comparing answers and leaves (paper 02, K9): 34 and 35 for left, then for right, then 10.
use Rattle.std.specs.Prelude.{Result, Ok, Err, Bool, false, true, cond, not, ◌&&◌, List, ◌++◌, ℕ, length, drop, eqb, ltb, codes, decimal}
use Rattle.shelf.specs.Shelf.{shelf_answer}
use Rattle.refusal.specs.Refusal.{number_of}
use Rattle.compare.specs.declared.Unlisted.{Unlisted}
use Rattle.compare.specs.declared.Unlisted.TheVariants as unlisted
use Rattle.compare.specs.Texts.{report}

-- room for the longest report: 4,097 lines, none longer than 60
abbrev pub room : ℕ
room = 262144

unfoldable pub compare_answer : List ℕ → List ℕ → List ℕ → ℕ
compare_answer left right out =
    cond (eqb (shelf_answer left) 0)
    (cond (eqb (shelf_answer right) 0) (cond (ltb (length out) room) 10 0) (shelf_answer right))
    (shelf_answer left)

-- it is the right shelf that is refused
unfoldable pub right_refused : List ℕ → List ℕ → Bool
right_refused left right = eqb (shelf_answer left) 0 && not (eqb (shelf_answer right) 0)

-- neither shelf is refused, and the output is too short
unfoldable pub room_refused : List ℕ → List ℕ → List ℕ → Bool
room_refused left right out = eqb (shelf_answer left) 0 && (eqb (shelf_answer right) 0 && ltb (length out) room)

-- a number given back, whether it is the right shelf that is refused, and how many bytes were written
pub record Compared : Type 0 where
  pub answer : ℕ
  pub right : Bool
  pub length : ℕ

-- the three that a result tells: beside a refusal nothing was written
abbrev pub told : Result ℕ Unlisted → Compared
told (Ok n) = record { answer = 0; right = false; length = n }
told (Err (unlisted.Left e)) = record { answer = number_of e; right = false; length = 0 }
told (Err (unlisted.Right e)) = record { answer = number_of e; right = true; length = 0 }
told (Err unlisted.Room) = record { answer = 10; right = false; length = 0 }

-- whether the output is what is refused, and no shelf
abbrev pub no_room : Result ℕ Unlisted → Bool
no_room (Ok n) = false
no_room (Err (unlisted.Left e)) = false
no_room (Err (unlisted.Right e)) = false
no_room (Err unlisted.Room) = true

-- what is printed of it: the number, a space and the file's name (K9); of too short an output, left's name
abbrev pub unlisted_text : Unlisted → List ℕ
unlisted_text (unlisted.Left e) = decimal (number_of e) ++ codes " left"
unlisted_text (unlisted.Right e) = decimal (number_of e) ++ codes " right"
unlisted_text unlisted.Room = decimal 10 ++ codes " left"

unfoldable pub compared : List ℕ → List ℕ → List ℕ → Compared
compared left right out = record {
  answer = compare_answer left right out;
  right = right_refused left right;
  length = cond (eqb (compare_answer left right out) 0) (length (report left right)) 0;
}

-- the report from the output's first byte, the rest as it was; a refusal writes nothing
unfoldable pub compared_into : List ℕ → List ℕ → List ℕ → List ℕ
compared_into left right out =
    cond (eqb (compare_answer left right out) 0) (report left right ++ drop (length (report left right)) out) out
