-- What a collector holds, by pair and number, and what becomes of it in a run.
use Rattle.std.specs.Prelude.{◌≡◌, Bool, true, cond, not, ◌&&◌, ◌||◌, List, [], ◌∷◌, ℕ, ◌+◌, ◌*◌, length, get_or, eqb}
use Rattle.std.proofs.Math.Option.{Option, none, some}
use Rattle.frame.specs.declared.Total.{Total}
use Rattle.frame.specs.declared.Number.{Number}
use Rattle.collector.specs.declared.Place.{Place}
use Rattle.collector.specs.declared.Collector.{Collector}
use Rattle.collector.specs.declared.Piece.{Piece}
use Rattle.laws.specs.Scan.{all}
use Rattle.frame.specs.Heading.{accepted}
use Rattle.collector.specs.Places.{blank, is_pair, marked, shaped, whole}
use Rattle.collector.specs.Collector.{good, its_place, contradicted, piece_of, taken_in, offered, released, Offered}

-- a record as the types give it, and that 28 lets by
pub record Good (c : Collector) : Type 0 where
  pub count : length c.places ≡ 4
  pub shape : all shaped c.places ≡ true
  pub order : good c.places ≡ true

-- place i of a collector (01, Collector)
abbrev pub place_at : Collector → ℕ → Place
place_at c i = get_or c.places i blank

-- four bytes of packet (01, Frame heading)
abbrev pub Four : Type 0
Four = ℕ × ℕ × ℕ × ℕ

-- the four bytes that stand at a number, marked or not (demand 3)
abbrev pub bytes_at : Place → Number → Four
bytes_at p n =
    (get_or p.bytes (n.0 * 4) 0, get_or p.bytes (n.0 * 4 + 1) 0, get_or p.bytes (n.0 * 4 + 2) 0, get_or p.bytes (n.0 * 4 + 3) 0)

-- the four bytes that a place holds at a number
unfoldable pub four_at : Place → Number → Option Four
four_at p n = cond (marked p n) (some (bytes_at p n)) none

-- the place that is held for a pair
unfoldable pub held_place : ℕ → ℕ → List Place → Option Place
held_place l v [] = none
held_place l v (p ∷ ps) = cond (is_pair l v p) (some p) (held_place l v ps)

-- what a place holds at a number, where there is one
abbrev pub holds_in : Option Place → Number → Option Four
holds_in none n = none
holds_in (some p) n = four_at p n

-- and its total
abbrev pub total_in : Option Place → Option Total
total_in none = none
total_in (some p) = some p.total

-- the four bytes held for a pair's number
unfoldable pub holds : Collector → ℕ → ℕ → Number → Option Four
holds c l v n = holds_in (held_place l v c.places) n

-- the total held for a pair
unfoldable pub total_held : Collector → ℕ → ℕ → Option Total
total_held c l v = total_in (held_place l v c.places)

-- what the one holds for a pair the other holds too: the same four bytes for a number, and the same total
pub record Stays (l v : ℕ) (c d : Collector) : Type 0 where
  pub bytes : (n : Number) (b : Four) → holds c l v n ≡ some b → holds d l v n ≡ some b
  pub total : (t : Total) → total_held c l v ≡ some t → total_held d l v ≡ some t

-- the frames offered one after the other
unfoldable pub offer_all : Collector → List (List ℕ) → Collector
offer_all c [] = c
offer_all c (f ∷ fs) = offer_all (offered c f).collector fs

-- what is left of it where the headings are accepted
unfoldable pub take_all : Collector → List Piece → Collector
take_all c [] = c
take_all c (x ∷ xs) = take_all (taken_in c x).collector xs

-- the frame contradicts what is held for its pair, which is not whole (02, K5)
abbrev pub starts_over : Collector → Piece → Bool
starts_over c x = contradicted c x && not (whole (its_place c x))

-- a frame of this pair with an accepted heading clears its place (02, K5)
unfoldable pub clears : ℕ → ℕ → Collector → List ℕ → Bool
clears l v c f =
    (eqb (piece_of f).heading.level l && eqb (piece_of f).heading.version v) && (accepted f && starts_over c (piece_of f))

-- no frame of the run does
unfoldable pub uncleared : ℕ → ℕ → Collector → List (List ℕ) → Bool
uncleared l v c [] = true
uncleared l v c (f ∷ fs) = not (clears l v c f) && uncleared l v (offered c f).collector fs

-- offers and releases, one after the other
pub data Act : Type 0 where
  offering : List ℕ → Act
  releasing : ℕ → ℕ → Act

-- what one of them answers and leaves (01, Collector)
abbrev pub done : Collector → Act → Offered
done c (offering f) = offered c f
done c (releasing l v) = released c l v

-- all of them in turn (demand 3)
unfoldable pub run : Collector → List Act → Collector
run c [] = c
run c (a ∷ acts) = run (done c a).collector acts

-- a frame of this pair is answered 1 or 17
unfoldable pub declares : ℕ → ℕ → Collector → List ℕ → Bool
declares l v c f =
    (eqb (piece_of f).heading.level l && eqb (piece_of f).heading.version v)
    && (eqb (offered c f).answer 1 || eqb (offered c f).answer 17)

-- how often the pair is declared in a run
unfoldable pub declarations : ℕ → ℕ → Collector → List (List ℕ) → ℕ
declarations l v c [] = 0
declarations l v c (f ∷ fs) = cond (declares l v c f) 1 0 + declarations l v (offered c f).collector fs
