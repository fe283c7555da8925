-- Telling as the code does it: a character, and a part, at a time. What each is stands in `story`.
use Rattle.std.specs.Prelude.{◌≡◌, List, [], ◌∷◌, cond, ℕ, ◌+◌, ◌-◌, ◌*◌, ◌≤◌, ◌<◌, length, get_or}
use Rattle.laws.specs.Refusals.{first}
use Rattle.story.specs.declared.Story.{Story}
use Rattle.story.specs.Characters.{wide, characters, deal}
use Rattle.story.specs.Telling.{room_with, last_four, own_cases, part_count, bytes_of}

-- how many bytes the first character has
unfoldable pub width_of : List ℕ → ℕ
width_of [] = 1
width_of (x ∷ []) = 1
width_of (x ∷ y ∷ l) = cond (wide x) 2 1

-- how many parts the text makes, where the first has room for k more bytes
unfoldable pub parts_from : ℕ → ℕ → List ℕ → ℕ
parts_from r k l = length (deal r k (characters l))

-- how many bytes of it the first takes
unfoldable pub first_size : ℕ → ℕ → List ℕ → ℕ
first_size r k l = length (get_or (deal r k (characters l)) 0 [])

-- a part that can be written, to an output of so many bytes
pub record Sendable (s : Story) (codes : List ℕ) (n k : ℕ) (piece : List ℕ) (room : ℕ) : Type 0 where
  pub own : first (own_cases s codes) ≡ 0
  pub fits : length piece ≤ room_with s.codes
  pub before : k < 9
  pub total : n ≤ 9
  pub small : last_four s.digits + k ≤ 9999
  pub room_left : 101 + 12 * s.codes + length piece ≤ room

-- a story that can be written
pub record AllSendable (s : Story) (codes text : List ℕ) (n r each room : ℕ) : Type 0 where
  pub own : first (own_cases s codes) ≡ 0
  pub parts : n ≡ part_count s text
  pub few : n ≤ 9
  pub small : last_four s.digits + (n - 1) ≤ 9999
  pub rest : r ≡ room_with s.codes
  pub size : each ≡ 101 + 12 * s.codes
  pub enough : length (bytes_of s codes text) ≤ room
