-- What packets give to a board, from the packets alone: the text of each part, by story (the pier board). A history has its latest packet first.
use Rattle.std.specs.Prelude.{ℕ, zero, suc, ◌+◌, ◌≤◌, ◌≡◌, Bool, true, false, cond, not, ◌&&◌, ◌||◌, eqb}
use mathlib.Core.List.{List, [], ◌∷◌, ◌++◌, Memᴰ}
use Rattle.std.proofs.Math.Option.{Option, none, some}
use Rattle.laws.specs.Below.{below}
use Rattle.laws.specs.Refusals.{Case, first}
use Rattle.story.specs.Joining.{is_part}
use Rattle.laws.specs.Lists.{same}
use Rattle.stories.specs.declared.Part.{Part}
use Rattle.stories.specs.declared.Stories.{Stories}
use Rattle.stories.specs.Parts.{belongs, part_of, text_of}
use Rattle.stories.specs.Stories.{no_stories, taken_in}
use Rattle.order.specs.Given.{is_some}

-- ---- which story, which part
-- parts of one story: the same number of part 1, the same total
abbrev pub same_story : Part → Part → Bool
same_story x y = same x.number y.number && eqb x.total y.total

-- the packet is the part of the story of x that has k before it
abbrev pub is_place : Part → ℕ → List ℕ → Bool
is_place x k b = same_story (part_of b) x && eqb (part_of b).place k

-- a part of that story came
unfoldable pub came : Part → List (List ℕ) → Bool
came x [] = false
came x (b ∷ bs) = same_story (part_of b) x || came x bs

-- how many stories they are of
unfoldable pub story_count : List (List ℕ) → ℕ
story_count [] = 0
story_count (b ∷ bs) = cond (came (part_of b) bs) (story_count bs) (story_count bs + 1)

-- ---- what they give
-- the text of a part, where it came
unfoldable pub given : List (List ℕ) → Part → ℕ → Option (List ℕ)
given [] x k = none
given (b ∷ bs) x k = cond (is_place x k b) (some (text_of b)) (given bs x k)

-- every part of the story came
unfoldable pub full : Part → (ℕ → Option (List ℕ)) → Bool
full x g = below x.total (λ k. is_some (g k))

-- the text, or no byte
abbrev pub text_in : Option (List ℕ) → List ℕ
text_in none = []
text_in (some t) = t

-- the texts of m parts from the one with k before it on, joined
unfoldable pub texts_given : (ℕ → Option (List ℕ)) → ℕ → ℕ → List ℕ
texts_given g k zero = []
texts_given g k (suc m) = text_in (g k) ++ texts_given g (k + 1) m

-- ---- the bounds: parts of at most four stories, no two of one story and place with different texts
pub record Bounded (bs : List (List ℕ)) : Type 0 where
  pub few : story_count bs ≤ 4
  pub parts : (b : List ℕ) → Memᴰ b bs → (is_part b ≡ true) × (belongs b ≡ true)
  pub clear : (b c : List ℕ) → Memᴰ b bs → Memᴰ c bs → is_place (part_of c) (part_of c).place b ≡ true → text_of b ≡ text_of c

-- ---- the answer due to a packet, from those before it: 5 for a part that came, 4 where one is still missing, else 1
unfoldable pub due_cases : List (List ℕ) → List ℕ → List Case
due_cases before b =
    (is_some (given before (part_of b) (part_of b).place), 5)
    ∷ (not (full (part_of b) (given (b ∷ before) (part_of b))), 4)
    ∷ (true, 1)
    ∷ []

-- its number
unfoldable pub due : List (List ℕ) → List ℕ → ℕ
due before b = first (due_cases before b)

-- ---- stories that took a history in, with so much room lent each time
unfoldable pub taken_all : ℕ → List (List ℕ) → Stories
taken_all room [] = no_stories
taken_all room (b ∷ before) = (taken_in (taken_all room before) b room).stories

-- how often a story was shown
unfoldable pub times_shown : ℕ → Part → List (List ℕ) → ℕ
times_shown room x [] = 0
times_shown room x (b ∷ before) =
    cond (eqb (taken_in (taken_all room before) b room).answer 1 && same_story (part_of b) x) 1 0 + times_shown room x before
