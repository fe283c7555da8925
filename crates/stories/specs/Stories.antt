-- The stories that a board waits for, and what taking a packet in answers (the pier board).
use Rattle.std.specs.Prelude.{ℕ, ◌+◌, List, [], ◌∷◌, ◌++◌, Bool, true, cond, not, ◌&&◌, ◌||◌, length, get_or, take, drop, replicate, ltb, eqb}
use Rattle.std.proofs.lemmas.List.Edits.{sets}
use Rattle.laws.specs.Scan.{all, index_of}
use Rattle.laws.specs.Refusals.{Case, first}
use Rattle.packet.specs.Reading.{body_of}
use Rattle.story.specs.Joining.{is_part}
use Rattle.stories.specs.declared.Part.{Part}
use Rattle.stories.specs.declared.Tale.{Tale}
use Rattle.stories.specs.declared.Stories.{Stories}
use Rattle.stories.specs.declared.Shown.{Shown}
use Rattle.stories.specs.Parts.{belongs, part_of, text_of}
use Rattle.stories.specs.Tales.{zeros, untold, blank, is_story, fair, holds_text, is_whole, whole_text, with_text, opened}

-- no story is waited for
abbrev pub no_stories : Stories
no_stories = record { tales = replicate 4 untold }

-- ---- which place
abbrev pub index_of_story : Part → List Tale → ℕ
index_of_story x ps = index_of (is_story x) ps

-- the place that is held for the story of x
abbrev pub tale_of : Part → List Tale → Tale
tale_of x ps = get_or ps (index_of_story x ps) blank

-- ---- a part is kept: its story comes last; one that is new takes the place of the first, which has waited longest for a part
abbrev pub moved_last : List Tale → ℕ → Tale → List Tale
moved_last ps j q = take j ps ++ (drop (j + 1) ps ++ (q ∷ []))

-- the place that is left
abbrev pub leaves : List Tale → Part → ℕ
leaves ps x = cond (tale_of x ps).held (index_of_story x ps) 0

-- the story with the part kept
unfoldable pub after : List Tale → Part → List ℕ → Tale
after ps x t = with_text (opened (tale_of x ps) x t) x.place t

-- all stories then
unfoldable pub kept : List Tale → Part → List ℕ → List Tale
kept ps x t = moved_last ps (leaves ps x) (after ps x t)

-- the part was heard before
unfoldable pub repeated : List Tale → Part → List ℕ → Bool
repeated ps x t = (tale_of x ps).held && holds_text (tale_of x ps) x.place t

-- ---- the answer: 28; 10, where not every text has room; 6, a packet for others; 5, a part heard before; 4, parts are missing; 1, a text is shown
abbrev pub take_cases : Stories → List ℕ → ℕ → List Case
take_cases s b room =
    (not (all fair s.tales), 28)
    ∷ (ltb room 1341, 10)
    ∷ (not (is_part b), 6)
    ∷ (belongs b && repeated s.tales (part_of b) (text_of b), 5)
    ∷ (belongs b && not (is_whole (after s.tales (part_of b) (text_of b))), 4)
    ∷ (true, 1)
    ∷ []

-- its number
unfoldable pub take_answer : Stories → List ℕ → ℕ → ℕ
take_answer s b room = first (take_cases s b room)

-- ---- what is shown: the text of all parts, or of a packet that is no part all of its body
unfoldable pub shown_text : Stories → List ℕ → List ℕ
shown_text s b = cond (belongs b) (whole_text (after s.tales (part_of b) (text_of b))) (body_of b)

-- beside 1 its length, parts and number; beside any other answer zeros. 1 and 4 keep their part
unfoldable pub taken_by : ℕ → Stories → List ℕ → Shown
taken_by a s b =
    record {
      answer = a;
      length = cond (eqb a 1) (length (shown_text s b)) 0;
      parts = cond (eqb a 1) (part_of b).total 0;
      number = cond (eqb a 1) (part_of b).number (zeros 35);
      stories =
          record {
            tales = cond ((eqb a 1 || eqb a 4) && belongs b) (kept s.tales (part_of b) (text_of b)) s.tales;
          };
    }

-- what `take_in` gives
unfoldable pub taken_in : Stories → List ℕ → ℕ → Shown
taken_in s b room = taken_by (take_answer s b room) s b

-- what it leaves in the lent output
unfoldable pub taken_output : Stories → List ℕ → List ℕ → List ℕ
taken_output s b out = cond (eqb (take_answer s b (length out)) 1) (sets out 0 (shown_text s b)) out
