-- The collector (paper 01, "Collector" and "Numbers given back"): four places, each for one pair.
use Rattle.std.specs.Prelude.{Bool, true, cond, not, ◌&&◌, ◌||◌, List, [], ◌∷◌, ◌++◌, ℕ, length, get_or, set, replicate, eqb}
use Rattle.laws.specs.Scan.{all, index_of}
use Rattle.laws.specs.Refusals.{Case, first}
use Rattle.frame.specs.declared.Heading.{Heading}
use Rattle.frame.specs.Heading.{refusals, heading_fields}
use Rattle.collector.specs.declared.Place.{Place}
use Rattle.collector.specs.declared.Collector.{Collector}
use Rattle.collector.specs.declared.Piece.{Piece}
use Rattle.collector.specs.Places.{free, blank, is_pair, pairs_apart, fair, contradicts, again, taken_for, stored, freed, whole, spoiled, state, copy_cases, copy_answer, copy_bytes, Copied}

-- nothing is held (01, Collector)
abbrev pub nothing : Collector
nothing = record { places = replicate 4 free }

-- not 28: each held place is fair, and no two hold one pair (01, Numbers given back)
unfoldable pub good : List Place → Bool
good [] = true
good (p ∷ ps) = fair p && (all (pairs_apart p) ps && good ps)

-- ---- which place

-- the index of the place that is held for the pair, 4 where none is (01, Collector)
unfoldable pub index_of_pair : ℕ → ℕ → List Place → ℕ
index_of_pair l v ps = index_of (is_pair l v) ps

-- the place that is held for the pair
abbrev pub place_of : ℕ → ℕ → List Place → Place
place_of l v ps = get_or ps (index_of_pair l v ps) blank

-- the place is in use
abbrev pub is_held : Place → Bool
is_held p = p.held

-- it is not
abbrev pub is_free : Place → Bool
is_free p = not p.held

-- the first free place
unfoldable pub index_of_free : List Place → ℕ
index_of_free ps = index_of is_free ps

-- the collector with another place at an index
abbrev pub put : Collector → ℕ → Place → Collector
put c i p = record { places = set c.places i p }

-- ---- offer

-- a number given back, and the collector then
pub record Offered : Type 0 where
  pub answer : ℕ
  pub collector : Collector

-- a heading, and the four bytes of packet behind it (01, Frame heading)
abbrev pub piece_with : Heading → List ℕ → Piece
piece_with h f = record { heading = h; a = get_or f 4 0; b = get_or f 5 0; c = get_or f 6 0; d = get_or f 7 0 }

-- what a frame says: its heading, and the four bytes of blocks 3 and 4 (01, Collector)
abbrev pub piece_of : List ℕ → Piece
piece_of f = piece_with (heading_fields f) f

-- the place that is held for the frame's pair
abbrev pub its_place : Collector → Piece → Place
its_place c x = place_of x.heading.level x.heading.version c.places

-- the frame contradicts what is held for its pair (01, Collector)
abbrev pub contradicted : Collector → Piece → Bool
contradicted c x = (its_place c x).held && contradicts (its_place c x) x

-- where a frame is kept: in its pair's place, or in the first free one, taken for it
unfoldable pub spot : Collector → Piece → ℕ
spot c x =
    cond (its_place c x).held (index_of_pair x.heading.level x.heading.version c.places) (index_of_free c.places)

-- that place with the frame kept in it; zeroed first where it is newly taken, or contradicted (02, K5)
unfoldable pub after : Collector → Piece → Place
after c x = stored (cond ((its_place c x).held && not (contradicts (its_place c x) x)) (its_place c x) (taken_for x)) x

-- 15 for a whole pair, 2, 16; then by what the pair is with the frame kept: 17, 1, 3 where it was begun again, or 0 where some number is
-- missing (01, Numbers given back; 02, K5)
unfoldable pub take_cases : Collector → Piece → List Case
take_cases c x =
    (contradicted c x && whole (its_place c x), 15)
    ∷ ((its_place c x).held && again (its_place c x) x, 2)
    ∷ (not (its_place c x).held && all is_held c.places, 16)
    ∷ (spoiled (after c x), 17)
    ∷ (whole (after c x), 1)
    ∷ (contradicted c x, 3)
    ∷ []

-- 0, 1, 3 and 17 keep their frame
unfoldable pub keeps : ℕ → Bool
keeps n = eqb n 0 || (eqb n 1 || (eqb n 3 || eqb n 17))

-- an offer of what the heading lets in, to a good record
unfoldable pub taken_in : Collector → Piece → Offered
taken_in c x =
    record {
      answer = first (take_cases c x);
      collector = cond (keeps (first (take_cases c x))) (put c (spot c x) (after c x)) c;
    }

-- a frame kept in place i, which was p: the answer by what the pair is then
unfoldable pub kept : Collector → ℕ → Place → Piece → Offered
kept c i p x = record { answer = state (stored p x); collector = put c i (stored p x) }

-- a frame kept in place i, which is cleared and taken afresh: 3 in place of 0 (02, K5)
unfoldable pub begun : Collector → ℕ → Piece → Offered
begun c i x =
    record {
      answer = cond (eqb (state (stored (taken_for x) x)) 0) 3 (state (stored (taken_for x) x));
      collector = put c i (stored (taken_for x) x);
    }

-- 28, then 26, 12, 13, 14 by the heading alone, then what the collector holds
unfoldable pub offer_cases : Collector → List ℕ → List Case
offer_cases c f = (not (good c.places), 28) ∷ (refusals f ++ take_cases c (piece_of f))

-- the whole offer; what is not kept leaves the collector as it was
unfoldable pub offered : Collector → List ℕ → Offered
offered c f =
    record {
      answer = first (offer_cases c f);
      collector = cond (keeps (first (offer_cases c f))) (put c (spot c (piece_of f)) (after c (piece_of f))) c;
    }

-- ---- release: 28, 18

-- 28 for a bad record, 18 where the pair is not held (01, Numbers given back)
unfoldable pub release_cases : Collector → ℕ → ℕ → List Case
release_cases c l v = (not (good c.places), 28) ∷ (not (place_of l v c.places).held, 18) ∷ []

-- the place free, bytes and marks as they were (01, Collector)
unfoldable pub released : Collector → ℕ → ℕ → Offered
released c l v =
    record {
      answer = first (release_cases c l v);
      collector =
          cond (eqb (first (release_cases c l v)) 0)
          (put c (index_of_pair l v c.places) (freed (place_of l v c.places)))
          c;
    }

-- ---- copy: 28, 18, 10

-- 28 for a bad record, then those of the place (01, Numbers given back)
unfoldable pub copied_cases : Collector → ℕ → ℕ → ℕ → List Case
copied_cases c l v n = (not (good c.places), 28) ∷ copy_cases (place_of l v c.places) n

-- the answer for n bytes lent, and the packet's size; beside a refusal 0
unfoldable pub answered : Collector → ℕ → ℕ → ℕ → Copied
answered c l v n = copy_answer (first (copied_cases c l v n)) (place_of l v c.places)

-- what is lent, with the packet's bytes at its start; as it was beside a refusal
unfoldable pub copied : Collector → ℕ → ℕ → List ℕ → List ℕ
copied c l v out = copy_bytes (first (copied_cases c l v (length out))) (place_of l v c.places) out
