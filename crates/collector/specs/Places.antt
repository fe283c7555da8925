-- One place (paper 01, "Collector"), over the declared records. An array is the list of its elements.
use Rattle.std.specs.Prelude.{Result, Ok, Err, Bool, true, false, cond, not, ◌&&◌, ◌||◌, List, [], ◌∷◌, ◌++◌, ℕ, ◌+◌, ◌*◌, ◌<◌, length, get_or, set, take, drop, replicate, leb, ltb, eqb}
use Rattle.laws.specs.Below.{below}
use Rattle.laws.specs.Refusals.{Case, first}
use Rattle.frame.specs.declared.Number.{Number}
use Rattle.collector.specs.declared.Place.{Place}
use Rattle.collector.specs.declared.Piece.{Piece}
use Rattle.collector.specs.declared.Kept.{Kept}
use Rattle.collector.specs.declared.Kept.TheVariants as pair
use Rattle.collector.specs.declared.places.Against.{Against}
use Rattle.collector.specs.declared.places.Against.TheVariants as has
use Rattle.refusal.specs.declared.Refusal.{Refusal}
use Rattle.refusal.specs.Refusal.{number_of, answer_of, value_or}
use Rattle.size.specs.Size.{packet_size}
use Rattle.collector.specs.Whole.{passes}

-- ---- marks: all that is said of them goes through these three

-- no number is held
abbrev pub no_marks : List Bool
no_marks = replicate 63 false

-- the number is held
abbrev pub marked : Place → Number → Bool
marked p n = get_or p.marks n.0 false

-- the marks with one more
abbrev pub with_mark : List Bool → Number → List Bool
with_mark ms n = set ms n.0 true

-- ---- which pair a place is held for

-- a place that was never taken (01, Collector)
abbrev pub free : Place
free = record { held = false; level = 0; version = 0; total = record { 0 = 0 }; marks = no_marks; bytes = replicate 252 0 }

-- what stands for the place of a pair that no place is held for
abbrev pub blank : Place
blank = record { held = false; level = 0; version = 0; total = record { 0 = 0 }; marks = []; bytes = [] }

-- held for this level and version
abbrev pub is_pair : ℕ → ℕ → Place → Bool
is_pair l v p = p.held && (eqb p.level l && eqb p.version v)

-- both are held, for one pair
abbrev pub same_pair : Place → Place → Bool
same_pair p q = p.held && is_pair p.level p.version q

-- not both held for one pair (01, Numbers given back, 28)
abbrev pub pairs_apart : Place → Place → Bool
pairs_apart p q = not (same_pair p q)

-- ---- whether its numbers are those below its total

-- a number that is held and not below the total (01, Collector)
unfoldable pub astray : Place → Number → Bool
astray p n = not (ltb n.0 p.total.0) && marked p n

-- there is none
unfoldable pub marks_below : Place → Bool
marks_below p = below 63 (λ n. not (astray p (record { 0 = n })))

-- all numbers below the total are held
unfoldable pub complete : Place → Bool
complete p = below p.total.0 (λ n. marked p (record { 0 = n }))

-- what the types give: a place has 63 marks and 252 bytes
abbrev pub shaped : Place → Bool
shaped p = eqb (length p.marks) 63 && eqb (length p.bytes) 252

-- 28 asks this of a held place: level, version and total in range, no mark at a number not below the total (01, Numbers given back)
unfoldable pub fair : Place → Bool
fair p =
    not p.held
    || (leb 1 p.level
    && (leb p.level 6 && (leb p.version 31 && (leb 1 p.total.0 && (leb p.total.0 63 && marks_below p)))))

-- ---- a frame against a place of its pair

-- the number of an accepted frame is one that a place has room for (01, Collector)
abbrev pub Small : Piece → Type 0
Small x = x.heading.number.0 < 63

-- the four bytes at the frame's number are the frame's
abbrev pub same_four : Place → Piece → Bool
same_four p x =
    eqb (get_or p.bytes (x.heading.number.0 * 4) 0) x.a
    && (eqb (get_or p.bytes (x.heading.number.0 * 4 + 1) 0) x.b
    && (eqb (get_or p.bytes (x.heading.number.0 * 4 + 2) 0) x.c
    && eqb (get_or p.bytes (x.heading.number.0 * 4 + 3) 0) x.d))

-- another total, or the same number with other bytes (01, Collector)
unfoldable pub contradicts : Place → Piece → Bool
contradicts p x =
    not (eqb p.total.0 x.heading.total.0) || (marked p x.heading.number && not (same_four p x))

-- 2: the same frame is held already
unfoldable pub again : Place → Piece → Bool
again p x = eqb p.total.0 x.heading.total.0 && (marked p x.heading.number && same_four p x)

-- ---- a place changes

-- a place is cleared: zeroed, no mark, the frame's total (01, Collector; 02, K5)
abbrev pub cleared : Place → Piece → Place
cleared p x =
    record {
      held = p.held;
      level = p.level;
      version = p.version;
      total = x.heading.total;
      marks = no_marks;
      bytes = replicate 252 0;
    }

-- a place is taken for the frame's pair: cleared, whatever it was
unfoldable pub taken_for : Piece → Place
taken_for x =
    cleared
    (record { held = true; level = x.heading.level; version = x.heading.version; total = x.heading.total; marks = no_marks; bytes = [] })
    x

-- a frame is kept: its mark, and its four bytes at four times its number
unfoldable pub stored : Place → Piece → Place
stored p x =
    record {
      held = p.held;
      level = p.level;
      version = p.version;
      total = p.total;
      marks = with_mark p.marks x.heading.number;
      bytes =
          set
          (set
          (set (set p.bytes (x.heading.number.0 * 4) x.a) (x.heading.number.0 * 4 + 1) x.b)
          (x.heading.number.0 * 4 + 2)
          x.c)
          (x.heading.number.0 * 4 + 3)
          x.d;
    }

-- a place is released: free, bytes and marks as they were
unfoldable pub freed : Place → Place
freed p =
    record { held = false; level = p.level; version = p.version; total = p.total; marks = p.marks; bytes = p.bytes }

-- ---- whole or spoiled, from the marks and bytes alone

-- the 4N bytes joined (01, Collector)
abbrev pub joined : Place → List ℕ
joined p = take (p.total.0 * 4) p.bytes

-- all numbers held, and the joined bytes pass
unfoldable pub whole : Place → Bool
whole p = complete p && passes (joined p)

-- all numbers held, and they do not pass
unfoldable pub spoiled : Place → Bool
spoiled p = complete p && not (passes (joined p))

-- 17, 1, or 0 where some number is missing (01, Numbers given back)
unfoldable pub state : Place → ℕ
state p = first ((spoiled p, 17) ∷ (whole p, 1) ∷ [])

-- the number of what an accepted frame makes of its pair (01, Numbers given back; 02, K5)
abbrev pub kept_number : Kept → ℕ
kept_number pair.Missing = 0
kept_number pair.Whole = 1
kept_number pair.Same = 2
kept_number pair.BegunAgain = 3
kept_number pair.Spoiled = 17

-- what a place has against a frame of its pair: 15 where a whole one is contradicted, 2 where it holds the frame already, 3 where
-- another is contradicted (02, K5); else 0
unfoldable pub against : Place → Piece → ℕ
against p x = first ((contradicts p x && whole p, 15) ∷ (again p x, 2) ∷ (contradicts p x, 3) ∷ [])

-- the number that the code's result tells of it
abbrev pub against_told : Result Against Refusal → ℕ
against_told (Ok has.Nothing) = 0
against_told (Ok has.Same) = 2
against_told (Ok has.Contradicted) = 3
against_told (Err e) = number_of e

-- ---- copy from a place: 18, 10, else 0, the packet's size and its bytes at the start of what is lent

-- 18 where no whole packet is held, 10 where it does not fit (01, Numbers given back)
unfoldable pub copy_cases : Place → ℕ → List Case
copy_cases p n = (not (p.held && whole p), 18) ∷ (ltb n (packet_size (joined p)), 10) ∷ []

-- a number given back and a count of bytes
pub record Copied : Type 0 where
  pub answer : ℕ
  pub length : ℕ

-- the two that a result tells: beside a refusal the count is 0 (01, Numbers given back)
abbrev pub copy_told : Result ℕ Refusal → Copied
copy_told r = record { answer = answer_of r; length = value_or 0 r }

-- the number, and P beside 0
unfoldable pub copy_answer : ℕ → Place → Copied
copy_answer a p = record { answer = a; length = cond (eqb a 0) (packet_size (joined p)) 0 }

-- the P bytes at the start beside 0, else all as it was (01, Collector)
unfoldable pub copy_bytes : ℕ → Place → List ℕ → List ℕ
copy_bytes a p out = cond (eqb a 0) (take (packet_size (joined p)) (joined p) ++ drop (packet_size (joined p)) out) out
