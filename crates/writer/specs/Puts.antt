-- What the functions under the packet writer ask of each other and give (ours, between functions).
use Rattle.std.specs.Prelude.{◌≡◌, true, cond, List, ℕ, ◌+◌, ◌*◌, ◌%◌, ◌<◌, ◌≤◌, length, replicate, take}
use Rattle.std.proofs.lemmas.List.Edits.{sets}
use Rattle.laws.specs.Bits.{bits}
use Rattle.format.specs.declared.Line.{Line}
use Rattle.format.specs.Format.{need, size, own, sound}
use Rattle.packet.specs.declared.Lines.{Lines}
use Rattle.packet.specs.declared.Content.{Content}
use Rattle.packet.specs.declared.Laid.{Laid}
use Rattle.packet.specs.declared.RowLines.{RowLines}
use Rattle.packet.specs.Table.{row_of, count_by}
use Rattle.packet.specs.InCode.{lines_in, Stands, laid_of, row_at}
use Rattle.packet.specs.Content.{parts_of, kind_for}
use Rattle.packet.specs.Columns.{single}
use Rattle.laws.specs.Scan.{all}

-- the numbers of a line, where xs are those at hand
abbrev pub value_of : Line → List ℕ → List ℕ
value_of t xs = cond t.given (take t.count xs) (replicate t.count t.lo)

-- the bits v put from bit p on, and the place behind them
pub record After (before after : List ℕ) (p : ℕ) (v : List ℕ) (r : ℕ) (s : ℕ) : Type 0 where
  pub put : bits after ≡ sets (bits before) p v
  pub place : r ≡ p + s

-- lines of one number each that can be put from bit p on, and enough numbers xs for them
pub record Puttable (ts : Lines) (xs : List ℕ) (p : ℕ) : Type 0 where
  pub few : Stands ts
  pub ones : all single (lines_in ts) ≡ true
  pub numbers : need (lines_in ts) ≤ length xs
  pub brief : length xs ≤ 1000
  pub place : p < 30000

-- n rows of lines, each of w numbers and at most 160 bits, from bit p on, and the numbers xs of all of them
pub record Rows (ts : Lines) (n w : ℕ) (xs : List ℕ) (p : ℕ) : Type 0 where
  pub few : Stands ts
  pub each : need (lines_in ts) ≡ w
  pub narrow : w ≤ 40
  pub short : size (lines_in ts) ≤ 160
  pub count : n ≤ 255
  pub numbers : length xs ≡ n * w
  pub place : p + 160 * n < 48000

-- a line of which n rows of w numbers each have the numbers from the row's i-th on
pub record Filled (t : Line) (n w : ℕ) (xs : List ℕ) (i : ℕ) : Type 0 where
  pub good : sound t ≡ true
  pub inside : i + own t ≤ w
  pub narrow : w ≤ 40
  pub count : n ≤ 255
  pub numbers : length xs ≡ n * w

-- its numbers are half bytes that end at a byte's edge in each of n rows of s bits, all within so many bytes
pub record Halves (t : Line) (p s n len : ℕ) : Type 0 where
  pub own : t.given ≡ true
  pub half : t.width ≡ 4
  pub edge : (p + 4 * t.count) % 8 ≡ 0
  pub whole : s % 8 ≡ 0
  pub short : 4 * t.count ≤ s
  pub small : (p + 160 * n < 49000) × (s ≤ 160)
  pub room : p + n * s ≤ 8 * len

-- it is a byte in each
pub record Octets (t : Line) (p s n len : ℕ) : Type 0 where
  pub own : t.given ≡ true
  pub octet : (t.width ≡ 8) × (t.count ≡ 1)
  pub edge : p % 8 ≡ 0
  pub whole : s % 8 ≡ 0
  pub some : 8 ≤ s
  pub small : (p + 160 * n < 49000) × (s ≤ 160)
  pub room : p + n * s ≤ 8 * len

-- a content laid out as numbers, and its row in code
pub record Known (c : Content) (l : Laid) (s : RowLines) : Type 0 where
  pub laid : l ≡ laid_of c
  pub row : s ≡ row_at (kind_for c)

-- the count of a content, where so many bytes are lent
abbrev pub count_lent : Content → ℕ → ℕ
count_lent c lent = count_by (row_of (kind_for c)).counting (parts_of c).count lent
