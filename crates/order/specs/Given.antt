-- What frames give, from the frames alone: the four bytes of each number, by pair; and the answer due to a frame.
use Rattle.std.specs.Prelude.{Bool, true, false, cond, not, ◌&&◌, ◌||◌, ◌≡◌, ℕ, zero, suc, ◌≤◌, ◌<◌, length, get_or, eqb}
use mathlib.Core.List.{List, [], ◌∷◌, ◌++◌, Memᴰ}
use Rattle.std.proofs.Math.Option.{Option, none, some}
use Rattle.laws.specs.Below.{below}
use Rattle.laws.specs.Refusals.{Case, first}
use Rattle.frame.specs.declared.Total.{Total}
use Rattle.frame.specs.declared.Number.{Number}
use Rattle.frame.specs.Heading.{refusals, accepted}
use Rattle.collector.specs.declared.Piece.{Piece}
use Rattle.collector.specs.Whole.{passes}
use Rattle.collector.specs.declared.Collector.{Collector}
use Rattle.collector.specs.Places.{marked}
use Rattle.collector.specs.Collector.{piece_of, keeps, offered, released}
use Rattle.order.specs.Held.{Four, place_at, bytes_at, held_place, holds, total_held, starts_over, clears, Act, offering, releasing}

-- ---- frames with accepted headings

-- what those of a list say, in their order (demand 3)
unfoldable pub pieces : List (List ℕ) → List Piece
pieces [] = []
pieces (f ∷ fs) = cond (accepted f) (piece_of f ∷ pieces fs) (pieces fs)

-- its four bytes (01, Frame heading)
abbrev pub four : Piece → Four
four x = (x.a, x.b, x.c, x.d)

-- of this pair (01, Collector)
abbrev pub of_pair : ℕ → ℕ → Piece → Bool
of_pair l v x = eqb x.heading.level l && eqb x.heading.version v

-- of this pair and this number
abbrev pub of_number : ℕ → ℕ → Number → Piece → Bool
of_number l v n x = of_pair l v x && eqb x.heading.number.0 n.0

-- the same four bytes
abbrev pub same_bytes : Piece → Piece → Bool
same_bytes x y = eqb x.a y.a && (eqb x.b y.b && (eqb x.c y.c && eqb x.d y.d))

-- two frames contradict: the same pair, and different totals or the same number with different bytes (demand 3)
unfoldable pub contradict : Piece → Piece → Bool
contradict x y =
    of_pair y.heading.level y.heading.version x
    && (not (eqb x.heading.total.0 y.heading.total.0)
    || (eqb x.heading.number.0 y.heading.number.0 && not (same_bytes x y)))

-- ---- pairs

-- a level and a version (01, Collector)
abbrev pub Pair : Type 0
Pair = ℕ × ℕ

-- it is this pair
abbrev pub pair_is : ℕ → ℕ → Pair → Bool
pair_is l v a = eqb a.0 l && eqb a.1 v

-- the pair is among those of the list (demand 3)
unfoldable pub pair_among : ℕ → ℕ → List Pair → Bool
pair_among l v [] = false
pair_among l v (a ∷ qs) = pair_is l v a || pair_among l v qs

-- ---- the bounds of demand 3: accepted headings name four pairs at most, and no two accepted frames contradict
pub record Bounded (qs : List Pair) (fs : List (List ℕ)) : Type 0 where
  pub few : length qs ≤ 4
  pub listed : (f : List ℕ) → Memᴰ f fs → accepted f ≡ true → pair_among (piece_of f).heading.level (piece_of f).heading.version qs ≡ true
  pub clear : (f g : List ℕ) → Memᴰ f fs → Memᴰ g fs → accepted f ≡ true → accepted g ≡ true → contradict (piece_of f) (piece_of g) ≡ false

-- each element of a frame is a byte
abbrev pub Bytes : List ℕ → Type 0
Bytes f = (i : ℕ) → get_or f i 0 < 256

-- the same frames in another order (demand 3)
pub data Rearranged : List (List ℕ) → List (List ℕ) → Type 0 where
  none_left : Rearranged [] []
  one_kept : {f : List ℕ} {fs gs : List (List ℕ)} → Rearranged fs gs → Rearranged (f ∷ fs) (f ∷ gs)
  two_swapped : {f g : List ℕ} {fs : List (List ℕ)} → Rearranged (f ∷ g ∷ fs) (g ∷ f ∷ fs)
  and_then : {fs gs hs : List (List ℕ)} → Rearranged fs gs → Rearranged gs hs → Rearranged fs hs

-- ---- what they give

-- what the first frame says that passes a test (demand 3)
unfoldable pub first_of : {B : Type 0} → (Piece → Bool) → (Piece → B) → List Piece → Option B
first_of is val [] = none
first_of is val (x ∷ xs) = cond (is x) (some (val x)) (first_of is val xs)

-- a frame of the list with an accepted heading that passes the test says b
abbrev pub Said : {B : Type 0} → (Piece → Bool) → (Piece → B) → List (List ℕ) → B → Type 0
Said is val fs b = (f : List ℕ) × Memᴰ f fs × (accepted f ≡ true) × (is (piece_of f) ≡ true) × (val (piece_of f) ≡ b)

-- what the one says, or else what the other says; of no paper
abbrev pub or_else : {B : Type 0} → Option B → Option B → Option B
or_else none o = o
or_else (some b) o = some b

-- the four bytes of a pair's number
abbrev pub given : List Piece → ℕ → ℕ → Number → Option Four
given xs l v n = first_of (of_number l v n) four xs

-- the total of a pair
abbrev pub total_given : List Piece → ℕ → ℕ → Option Total
total_given xs l v = first_of (of_pair l v) (λ x. x.heading.total) xs

-- ---- the answer due

-- the same frame: heading and four bytes (demand 3)
unfoldable pub same : Piece → Piece → Bool
same x y =
    of_number y.heading.level y.heading.version y.heading.number x
    && (eqb x.heading.total.0 y.heading.total.0 && same_bytes x y)

-- the same frame is among these (01, Numbers given back, 2)
unfoldable pub came : List Piece → Piece → Bool
came [] y = false
came (x ∷ xs) y = same x y || came xs y

-- there is one; of no paper
abbrev pub is_some : {A : Type 0} → Option A → Bool
is_some none = false
is_some (some a) = true

-- every number below the total has its bytes (demand 3)
unfoldable pub full : Total → (Number → Option Four) → Bool
full t g = below t.0 (λ n. is_some (g (record { 0 = n })))

-- the four bytes as a list, none where none are given
abbrev pub bytes_of : Option Four → List ℕ
bytes_of none = []
bytes_of (some w) = w.0 ∷ w.1 ∷ w.2 ∷ w.3 ∷ []

-- the bytes joined, number by number
unfoldable pub joined_to : ℕ → (Number → Option Four) → List ℕ
joined_to zero g = []
joined_to (suc n) g = joined_to n g ++ bytes_of (g (record { 0 = n }))

-- those of all numbers below the total (01, Collector)
abbrev pub joined_by : Total → (Number → Option Four) → List ℕ
joined_by t g = joined_to t.0 g

-- 17 or 1 where every number has its bytes, by the rule of a whole packet; else 0 (demand 3)
unfoldable pub declare_cases : Total → (Number → Option Four) → List Case
declare_cases t g = (full t g && not (passes (joined_by t g)), 17) ∷ (full t g && passes (joined_by t g), 1) ∷ []

-- what is given once the frame has come too
abbrev pub given_with : List Piece → Piece → Number → Option Four
given_with xs y n = given (xs ++ (y ∷ [])) y.heading.level y.heading.version n

-- 2 for the same frame again; else the pair is declared where this was its last missing number
unfoldable pub due_cases : List Piece → Piece → List Case
due_cases xs y = (came xs y, 2) ∷ declare_cases y.heading.total (given_with xs y)

-- the answer due to a frame, from the frames before it: its heading's refusal first
unfoldable pub due : List (List ℕ) → List ℕ → ℕ
due before f = first (refusals f ++ due_cases (pieces before) (piece_of f))

-- every number of a pair has come: as many as its total says
abbrev pub complete_by : Option Total → (Number → Option Four) → Bool
complete_by none g = false
complete_by (some t) g = full t g

-- by the total and the bytes that these frames give
abbrev pub completed : List Piece → ℕ → ℕ → Bool
completed xs l v = complete_by (total_given xs l v) (given xs l v)

-- ---- what a collector has of the frames

-- every held place is of a pair that was given, with its total; every mark of a number that was given, with its bytes; and no pair is held twice
pub record Accounted (fs : List (List ℕ)) (c : Collector) : Type 0 where
  pub pair : (i : ℕ) → i < length c.places → (place_at c i).held ≡ true
      → Said (of_pair (place_at c i).level (place_at c i).version) (λ x. x.heading.total) fs (place_at c i).total
  pub mark : (i : ℕ) (n : Number) → i < length c.places → (place_at c i).held ≡ true → marked (place_at c i) n ≡ true
      → Said (of_number (place_at c i).level (place_at c i).version n) four fs (bytes_at (place_at c i) n)
  pub once : (i j : ℕ) → i < length c.places → j < length c.places → (place_at c i).held ≡ true → (place_at c j).held ≡ true
      → (place_at c i).level ≡ (place_at c j).level → (place_at c i).version ≡ (place_at c j).version → i ≡ j

-- ---- outside the bounds

-- the frame is held then and was not before, its pair had no other total, and all else of every pair is as it was
pub record Added (c : Collector) (x : Piece) (d : Collector) : Type 0 where
  pub new : holds c x.heading.level x.heading.version x.heading.number ≡ none
  pub agrees : (t : Total) → total_held c x.heading.level x.heading.version ≡ some t → t ≡ x.heading.total
  pub bytes : (l v : ℕ) (n : Number) → holds d l v n ≡ cond (of_number l v n x) (some (four x)) (holds c l v n)
  pub total : (l v : ℕ) → total_held d l v ≡ cond (of_pair l v x) (some x.heading.total) (total_held c l v)

-- the frame's pair holds the frame and nothing else: its four bytes at its number, its total; and every other pair is as it was (02, K5)
pub record Afresh (c : Collector) (x : Piece) (d : Collector) : Type 0 where
  pub bytes : (l v : ℕ) (n : Number)
      → holds d l v n ≡ cond (of_pair l v x) (cond (eqb x.heading.number.0 n.0) (some (four x)) none) (holds c l v n)
  pub total : (l v : ℕ) → total_held d l v ≡ cond (of_pair l v x) (some x.heading.total) (total_held c l v)
  pub others : (l v : ℕ) → of_pair l v x ≡ false → held_place l v d.places ≡ held_place l v c.places

-- a frame was kept: beside what was held; or, where it starts over, in place of what was held for its pair
abbrev pub Kept : Collector → Piece → Collector → Type 0
Kept c x d = (starts_over c x ≡ false → Added c x d) × (starts_over c x ≡ true → Afresh c x d)

-- the frames of a pair that were offered and kept since its place was taken, behind those that were before: a release of the pair begins
-- anew, and so does a frame that clears its place
unfoldable pub kept_since : ℕ → ℕ → Collector → List Act → List (List ℕ) → List (List ℕ)
kept_since l v c [] gs = gs
kept_since l v c (offering f ∷ acts) gs =
    kept_since l v (offered c f).collector acts (cond (of_pair l v (piece_of f) && keeps (offered c f).answer) (f ∷ cond (clears l v c f) [] gs) gs)
kept_since l v c (releasing i j ∷ acts) gs = kept_since l v (released c i j).collector acts (cond (eqb i l && eqb j v) [] gs)
