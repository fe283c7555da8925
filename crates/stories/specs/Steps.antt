-- What the functions of `stories` ask and give on the way (ours).
use Rattle.std.specs.Prelude.{ℕ, ◌<◌, ◌≤◌, ◌≡◌, List, Bool, true, cond, ◌&&◌, length, take, leb}
use Rattle.std.proofs.lemmas.List.Edits.{sets}
use Rattle.laws.specs.Scan.{all}
use Rattle.story.specs.Telling.{head_of}
use Rattle.laws.specs.Lists.{same}
use Rattle.stories.specs.declared.Part.{Part}
use Rattle.stories.specs.declared.Tale.{Tale}
use Rattle.stories.specs.declared.Stories.{Stories}
use Rattle.stories.specs.declared.Shown.{Shown}
use Rattle.stories.specs.Tales.{zeros, untold, fair, is_whole, whole_text}
use Rattle.stories.specs.Stories.{tale_of, after, kept, repeated}

-- a body that begins with the head of part k of n, one of one to nine
unfoldable pub head_in : List ℕ → ℕ → ℕ → Bool
head_in t k n = same (head_of k n) (take 4 t) && (leb 1 k && (leb k n && leb n 9))

-- no body is longer than a packet's can be
abbrev pub all_short : List ℕ → Bool
all_short lengths = all (λ (n : ℕ). leb n 153) lengths

-- a place of which every text can be found
pub record Steady (p : Tale) : Type 0 where
  pub few : p.total ≤ 9
  pub short : all_short p.lengths ≡ true

-- the place of the story of x, or one that is not held
abbrev pub found_for : Part → List Tale → Tale
found_for x ps = cond (tale_of x ps).held (tale_of x ps) untold

-- a part with its text, and room for any story
pub record Keepable (ps : List Tale) (x : Part) (t : List ℕ) (room : ℕ) : Type 0 where
  pub every : all fair ps ≡ true
  pub place_small : x.place < 9
  pub total_some : 1 ≤ x.total
  pub total_few : x.total ≤ 9
  pub brief : length t ≤ 149
  pub wide : 1341 ≤ room

-- an answer with nothing shown
abbrev pub unshown_with : ℕ → Stories → Shown
unshown_with a s = record { answer = a; length = 0; parts = 0; number = zeros 35; stories = s }

-- a text of n bytes is shown
abbrev pub shown_with : Part → ℕ → Stories → Shown
shown_with x n s = record { answer = 1; length = n; parts = x.total; number = x.number; stories = s }

-- a part is taken in
unfoldable pub kept_shown : Stories → Part → List ℕ → Shown
kept_shown s x t =
    cond (repeated s.tales x t) (unshown_with 5 s)
    (cond (is_whole (after s.tales x t))
    (shown_with x (length (whole_text (after s.tales x t))) (record { tales = kept s.tales x t }))
    (unshown_with 4 (record { tales = kept s.tales x t })))

-- what that leaves in the lent output
unfoldable pub kept_output : Stories → Part → List ℕ → List ℕ → List ℕ
kept_output s x t out =
    cond (repeated s.tales x t) out
    (cond (is_whole (after s.tales x t)) (sets out 0 (whole_text (after s.tales x t))) out)
