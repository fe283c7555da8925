-- Two numbers of 26 bits that differ in a few places only (paper 02, K4; 000, 7.1.3, its claims a and b), place by place.
use Rattle.std.specs.Prelude.{◌≡◌, ◌⊎◌, ℕ, ◌+◌, ◌/◌, ◌%◌, ◌^◌, ◌≤◌, ◌<◌}

-- the bit at a place; places are counted from the lowest bit, 0 to 25
abbrev pub bit_at : ℕ → ℕ → ℕ
bit_at n place = n / 2 ^ place % 2

-- two numbers differ at a place
abbrev pub DifferAt : ℕ → ℕ → ℕ → Type 0
DifferAt m n place = bit_at m place ≡ bit_at n place → ⊥

-- altered in one or two bits: they differ at each of two places, which may be the same, and at no other
pub record OneOrTwo (m n : ℕ) : Type 0 where
  pub one : ℕ
  pub other : ℕ
  pub one_within : one < 26
  pub other_within : other < 26
  pub at_one : DifferAt m n one
  pub at_other : DifferAt m n other
  pub elsewhere : (place : ℕ) → place < 26 → (place ≡ one → ⊥) → (place ≡ other → ⊥) → bit_at m place ≡ bit_at n place

-- altered only within ten neighbouring bits, from one on, and in at least one
pub record WithinTen (m n : ℕ) : Type 0 where
  pub from : ℕ
  pub some : ℕ
  pub some_within : some < 26
  pub at_some : DifferAt m n some
  pub before : (place : ℕ) → place < 26 → place < from → bit_at m place ≡ bit_at n place
  pub behind : (place : ℕ) → place < 26 → from + 10 ≤ place → bit_at m place ≡ bit_at n place

-- what claims a and b speak of
abbrev pub Altered : ℕ → ℕ → Type 0
Altered m n = OneOrTwo m n ⊎ WithinTen m n
