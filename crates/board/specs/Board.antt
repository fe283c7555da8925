-- A pier board: frames in, texts out (the pier board).
use Rattle.std.specs.Prelude.{Result, Ok, Err, false, ℕ, List, [], ◌∷◌, ◌++◌, Bool, cond, not, ◌&&◌, length, get_or, take, drop, ltb, eqb}
use Rattle.laws.specs.Scan.{all}
use Rattle.laws.specs.Refusals.{first}
use Rattle.frame.specs.Heading.{heading_fields}
use Rattle.refusal.specs.declared.Refusal.{Refusal}
use Rattle.refusal.specs.Refusal.{number_of}
use Rattle.collector.specs.declared.Holdings.{Holdings}
use Rattle.collector.specs.declared.Offered.{Offered}
use Rattle.collector.specs.Layout.{no_holdings, blank_holding, made_free, sound, offer_gives, release_gives, copy_gives, copy_leaves, Outcome}
use Rattle.stories.specs.declared.Shown.{Shown}
use Rattle.stories.specs.Tales.{fair, zeros}
use Rattle.stories.specs.Stories.{no_stories, taken_in, taken_output}
use Rattle.board.specs.declared.Board.{Board}
use Rattle.board.specs.declared.Heard.{Heard}

-- nothing was heard
abbrev pub quiet_board : Board
quiet_board = record { collector = no_holdings; stories = no_stories }

-- not 28: collector and stories are records that hearing can leave
unfoldable pub good_board : Board → Bool
good_board b = sound b.collector && all fair b.stories.tales

-- ---- room: where other pairs hold all four places, the first place is made free and goes last, so that each gives way in turn
unfoldable pub room_made : Holdings → Holdings
room_made c = record { places = drop 1 c.places ++ (made_free (get_or c.places 0 blank_holding) ∷ []) }

-- the collector that the frame is offered to
unfoldable pub ready_for : Holdings → List ℕ → Holdings
ready_for c f = cond (eqb (offer_gives c f).answer 16) (room_made c) c

-- an offer was refused, and for this (ours, between functions)
abbrev pub refused_for_this : Result Offered Refusal → Refusal → Bool
refused_for_this (Ok o) why = false
refused_for_this (Err e) why = eqb (number_of e) (number_of why)

-- what it answers and leaves
abbrev pub offered_at : Holdings → List ℕ → Outcome
offered_at c f = offer_gives (ready_for c f) f

-- ---- a packet became whole
-- its bytes, as a copy gives them
unfoldable pub packet_in : Holdings → ℕ → ℕ → List ℕ
packet_in c l v = take (copy_gives c l v 250).length (copy_leaves c l v (zeros 250))

-- the packet that frame f made whole
abbrev pub packet_of : Board → List ℕ → List ℕ
packet_of b f = packet_in (offered_at b.collector f).collector (heading_fields f).level (heading_fields f).version

-- what the stories say to it
abbrev pub shown_of : Board → List ℕ → ℕ → Shown
shown_of b f room = taken_in b.stories (packet_of b f) room

-- ---- what is given back
-- an answer with nothing shown
abbrev pub unheard : ℕ → Board → Heard
unheard a b = record { answer = a; length = 0; level = 0; parts = 0; number = zeros 35; board = b }

-- the stories' answer, the pair released
unfoldable pub whole_heard : Board → List ℕ → ℕ → Heard
whole_heard b f room =
    record {
      answer = (shown_of b f room).answer;
      length = (shown_of b f room).length;
      level = cond (eqb (shown_of b f room).answer 1) (heading_fields f).level 0;
      parts = (shown_of b f room).parts;
      number = (shown_of b f room).number;
      board =
          record {
            collector = (release_gives (offered_at b.collector f).collector (heading_fields f).level (heading_fields f).version).collector;
            stories = (shown_of b f room).stories;
          };
    }

-- 28, 10; then the collector's answer, and the stories' in place of its 1
unfoldable pub refused_for : Board → ℕ → ℕ
refused_for b room = first ((not (good_board b), 28) ∷ (ltb room 1341, 10) ∷ [])

-- the frame is offered
unfoldable pub offered_to : Board → List ℕ → ℕ → Heard
offered_to b f room =
    cond (eqb (offered_at b.collector f).answer 1) (whole_heard b f room)
    (unheard (offered_at b.collector f).answer (record { collector = (offered_at b.collector f).collector; stories = b.stories }))

-- what `hear` gives
unfoldable pub heard_of : Board → List ℕ → ℕ → Heard
heard_of b f room = cond (eqb (refused_for b room) 0) (offered_to b f room) (unheard (refused_for b room) b)

-- what it leaves in the lent output
unfoldable pub heard_output : Board → List ℕ → List ℕ → List ℕ
heard_output b f out =
    cond (eqb (refused_for b (length out)) 0 && eqb (offered_at b.collector f).answer 1)
    (taken_output b.stories (packet_of b f) out)
    out
