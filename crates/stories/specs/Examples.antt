-- Small examples that the checker computes: a story of two parts, "A" and "B", heard in the order 2, 1.
use Rattle.std.specs.Prelude.{◌≡◌, refl, List, [], ◌∷◌, true, false, ℕ, replicate}
use Rattle.laws.specs.Scan.{all, index_of}
use Rattle.laws.specs.Below.{below}
use Rattle.stories.specs.declared.Part.{Part}
use Rattle.stories.specs.declared.Tale.{Tale}
use Rattle.stories.specs.Tales.{zeros, is_story, fair, is_heard, text_at, holds_text, contradicts, is_whole, texts_from, whole_text, opened}
use Rattle.stories.specs.Stories.{no_stories, index_of_story, after, kept, repeated}

-- the part with k before it, of two
abbrev of_two : ℕ → Part
of_two k = record { belongs = true; number = replicate 35 7; total = 2; place = k }

-- part 2 was heard
abbrev second : List Tale
second = kept no_stories.tales (of_two 1) (0x42 ∷ [])

-- and part 1 behind it
abbrev both : List Tale
both = kept second (of_two 0) (0x41 ∷ [])

-- half a story is not whole; it waits in the last place
pub half_waits : (is_whole (after no_stories.tales (of_two 1) (0x42 ∷ [])) ≡ false) × (index_of_story (of_two 0) second ≡ 3)
unfolding kept after opened contradicts is_whole is_heard below is_story index_of zeros
half_waits = (refl, refl)

-- with its other part it is, and its text is in order
pub both_shown : (is_whole (after second (of_two 0) (0x41 ∷ [])) ≡ true) × (whole_text (after second (of_two 0) (0x41 ∷ [])) ≡ 0x41 ∷ 0x42 ∷ [])
unfolding kept after opened contradicts is_whole is_heard below texts_from text_at is_story index_of zeros
both_shown = (refl, refl)

-- each part is a repeat then, and another text in its place is none
pub repeats_known : (repeated both (of_two 0) (0x41 ∷ []) ≡ true) × (repeated both (of_two 1) (0x42 ∷ []) ≡ true) × (repeated both (of_two 1) (0x43 ∷ []) ≡ false)
unfolding kept after opened contradicts holds_text is_heard text_at is_story index_of zeros repeated
repeats_known = (refl, refl, refl)

-- another text begins the story afresh: nothing of the old one is left
pub afresh : (is_heard (after both (of_two 1) (0x43 ∷ [])) 0 ≡ false) × (text_at (after both (of_two 1) (0x43 ∷ [])) 1 ≡ 0x43 ∷ [])
unfolding kept after opened contradicts is_heard text_at is_story index_of zeros
afresh = (refl, refl)

-- what is kept stays fair
pub both_fair : all fair both ≡ true
unfolding kept after opened contradicts is_heard text_at is_story index_of zeros fair
both_fair = refl
