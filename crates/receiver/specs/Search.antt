-- What the small functions under `receive` cite: the rule on the bits of a buffer from a place on, up to an end.
use Rattle.std.specs.Prelude.{Option, Some, None, ◌≡◌, Bool, true, false, List, ℕ, zero, suc, ◌+◌, ◌*◌, ◌/◌, ◌%◌, ◌-◌, ◌^◌, ◌≤◌, ◌<◌, length, take, drop}
use Rattle.std.specs.Int.Count.{count_leading_zeros}
use Rattle.laws.specs.Bits.{at, bits, bits_of, bytes}
use Rattle.laws.specs.Poly.{◌⊕◌}
use Rattle.block.specs.Block.{offset_of, syndrome, is_valid}
use Rattle.block.specs.declared.Letter.{Letter}
use Rattle.block.specs.declared.Letter.TheVariants.{A}
use Rattle.receiver.specs.declared.searching.Found.{Found as Frame}
use Rattle.receiver.specs.declared.searching.Read.{Read}
use Rattle.receiver.specs.Rule.{Heard, is_taken, taken_bytes, taken_count, heard}

-- the bits from a place on, up to an end
abbrev pub ahead : List ℕ → ℕ → ℕ → List ℕ
ahead b end from = drop from (take end (bits b))

unfoldable pub heard_from : List ℕ → ℕ → Bool → ℕ → Heard
heard_from b end follows from = heard follows (ahead b end from)

-- what a reader of the buffer may count on: 104 bits from a place below the end, and what is read with them, stand in it
pub record Holds (b : List ℕ) (end : ℕ) : Type 0 where
  pub padded : end + 64 ≤ length b * 8
  pub short : end ≤ 4224

-- m has a one at each place of u where a block A begins, counted from the lowest bit
abbrev pub Marks : ℕ → ℕ → Type 0
Marks u m = (j : ℕ) → is_valid (u / 2 ^ j % 2 ^ 26) A ≡ true → m / 2 ^ j % 2 ≡ 1

-- no block A begins at any of n places
abbrev pub NoneOf : List ℕ → ℕ → ℕ → Type 0
NoneOf l from n = (k : ℕ) → k < n → is_valid (at l (from + k) 26) A ≡ false

-- marks of 39 places, in the low 39 bits of a number: no block A begins at as many places as zeros stand above the first mark
pub record ClearUpTo (l : List ℕ) (from m : ℕ) : Type 0 where
  pub least : 25 ≤ count_leading_zeros 64 m
  pub most : count_leading_zeros 64 m ≤ 64
  pub none : NoneOf l from (count_leading_zeros 64 m - 25)

-- of four, that of number k, or the last
unfoldable pub which : {X : Type 0} → X → X → X → X → ℕ → X
which a b c d zero = a
which a b c d (suc zero) = b
which a b c d (suc (suc zero)) = c
which a b c d (suc (suc (suc k))) = d

-- what bits leave on division less the letter's offset word
abbrev pub rest_of : ℕ → Letter → ℕ
rest_of bits letter = syndrome bits ⊕ offset_of letter

-- whether a frame stands at a place, its information as one number, and the count of its mended blocks
pub record Found : Type 0 where
  pub frame : Bool
  pub words : ℕ
  pub mended : ℕ

-- what the code gives back for it
abbrev pub told : Option Frame → Found
told None = record { frame = false; words = 0; mended = 0 }
told (Some f) = record { frame = true; words = f.words; mended = f.mended }

-- a frame is handed out from a start that follows or does not, with its information as one number and the count of its mended blocks; or none is
pub record Takes (follows : Bool) (l : List ℕ) (r : Found) : Type 0 where
  pub same : r.frame ≡ is_taken follows l
  pub words : r.frame ≡ true → bytes (bits_of 64 r.words) ≡ taken_bytes follows l
  pub count : r.frame ≡ true → r.mended ≡ taken_count follows l

-- the search has come to a place behind no frame, and goes on there as it would have before
pub record Further (b : List ℕ) (end from last to : ℕ) : Type 0 where
  pub later : from ≤ to
  pub inside : to ≤ last
  pub on : heard_from b end false to ≡ heard_from b end false from

-- all was searched: so many frames, the place where what is pending begins, and whether it follows a frame
pub record Searched (b : List ℕ) (end : ℕ) (follows : Bool) (from : ℕ) (r : Read) : Type 0 where
  pub frames : r.frames ≡ length (heard_from b end follows from).frames
  pub pending : ahead b end r.from ≡ (heard_from b end follows from).pending
  pub behind : r.follows ≡ (heard_from b end follows from).follows
  pub inside : r.from ≤ end
  pub few : end < r.from + 104
