-- The version comes round again (paper 02, K5): a message of a pair that an old half is held for, and how often the pair is declared whole.
use Rattle.std.specs.Prelude.{◌≡◌, Bool, true, false, cond, ◌&&◌, ℕ, ◌+◌, ◌≤◌, eqb}
use mathlib.Core.List.{List, [], ◌∷◌, Memᴰ}
use Rattle.std.proofs.Math.Option.{Option, some}
use Rattle.frame.specs.declared.Total.{Total}
use Rattle.frame.specs.declared.Number.{Number}
use Rattle.frame.specs.Heading.{accepted}
use Rattle.collector.specs.declared.Place.{Place}
use Rattle.collector.specs.declared.Collector.{Collector}
use Rattle.collector.specs.Whole.{passes}
use Rattle.collector.specs.Places.{joined, whole}
use Rattle.collector.specs.Collector.{piece_of, offered}
use Rattle.order.specs.Held.{Four, held_place, holds, total_held, clears}
use Rattle.order.specs.Given.{pieces, of_pair, contradict, or_else, given, full, joined_by}

-- one message of a pair: frames with accepted headings, of the pair and of one total, which do not contradict and make a whole packet
pub record Message (l v : ℕ) (t : Total) (ms : List (List ℕ)) : Type 0 where
  pub accept : (f : List ℕ) → Memᴰ f ms → accepted f ≡ true
  pub own : (f : List ℕ) → Memᴰ f ms → of_pair l v (piece_of f) ≡ true
  pub total : (f : List ℕ) → Memᴰ f ms → (piece_of f).heading.total ≡ t
  pub clear : (f g : List ℕ) → Memᴰ f ms → Memᴰ g ms → contradict (piece_of f) (piece_of g) ≡ false
  pub counts : 1 ≤ t.0
  pub every : full t (given (pieces ms) l v) ≡ true
  pub pass : passes (joined_by t (given (pieces ms) l v)) ≡ true

-- all its frames and no other: in any order, each as often as one likes
pub record Through (ms fs : List (List ℕ)) : Type 0 where
  pub only : (f : List ℕ) → Memᴰ f fs → Memᴰ f ms
  pub each : (f : List ℕ) → Memᴰ f ms → Memᴰ f fs

-- the old half, filled up with the message's bytes where it has none
abbrev pub mixed : Collector → ℕ → ℕ → List (List ℕ) → Number → Option Four
mixed c l v ms n = or_else (holds c l v n) (given (pieces ms) l v n)

-- that is no whole packet, unless all that is held is the message's
abbrev pub Unmixed : Collector → ℕ → ℕ → Total → List (List ℕ) → Type 0
Unmixed c l v t ms =
    total_held c l v ≡ some t → passes (joined_by t (mixed c l v ms)) ≡ true
    → (n : Number) (b : Four) → holds c l v n ≡ some b → given (pieces ms) l v n ≡ some b

-- a frame of this pair is answered 1
unfoldable pub says_whole : ℕ → ℕ → Collector → List ℕ → Bool
says_whole l v c f = (eqb (piece_of f).heading.level l && eqb (piece_of f).heading.version v) && eqb (offered c f).answer 1

-- how often the pair is declared whole from its last clearing on, with k before the run
unfoldable pub whole_since : ℕ → ℕ → Collector → List (List ℕ) → ℕ → ℕ
whole_since l v c [] k = k
whole_since l v c (f ∷ fs) k =
    whole_since l v (offered c f).collector fs (cond (clears l v c f) 0 k + cond (says_whole l v c f) 1 0)

-- the pair is whole, with these bytes
pub record WholeWith (l v : ℕ) (t : Total) (bytes : List ℕ) (c : Collector) : Type 0 where
  pub place : Place
  pub held : held_place l v c.places ≡ some place
  pub is : whole place ≡ true
  pub total : place.total ≡ t
  pub join : joined place ≡ bytes
