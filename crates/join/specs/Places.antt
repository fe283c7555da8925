-- Where the parts stand among the bytes that are lent, as the code keeps it. What is joined stands in `story`.
use Rattle.std.specs.Prelude.{◌≡◌, List, true, ℕ, ◌+◌, ◌≤◌, ◌<◌, take, drop, get_or}
use Rattle.size.specs.Size.{packet_size}
use Rattle.story.specs.Telling.{head_of}
use Rattle.story.specs.Joining.{lent, is_part, with_head}

-- the packet that begins at byte i, by its length field; none at the end
abbrev pub piece_at : List ℕ → ℕ → List ℕ
piece_at b i = take (packet_size (drop i b)) (drop i b)

-- at place k the packet begins that has the head of part k + 1 of n
abbrev pub Placed : ℕ → List ℕ → List ℕ → ℕ → Type 0
Placed n b places m = (k : ℕ) → k < m → piece_at b (get_or places k 0) ≡ with_head (head_of (k + 1) n) (lent b)

-- n places, at each of which a part begins
pub record Ready (n : ℕ) (b places : List ℕ) : Type 0 where
  pub few : n ≤ 9
  pub placed : Placed n b places n
  pub parts : (k : ℕ) → k < n → is_part (piece_at b (get_or places k 0)) ≡ true
