-- What a computed test finds of every kind's row: lines that the loops take, few bits and few numbers. Assumes nothing.
use mathlib.Core.Path.{◌≡◌, refl}
use mathlib.Core.Bool.{Bool, true, false, not, ◌&&◌, ◌||◌}
use mathlib.Core.List.{List, [], ◌∷◌}
use Prim.Native.Nat.{ℕ, ◌+◌, ◌-◌, ◌≤◌, ◌<◌}
use native.Mathlib.Omega.{arith}
use lib.ListN.{get_or}
use lib.Dec.{leb, eqb}
use borrow.Author.Tests.{leb-true}
use Rattle.laws.specs.Scan.{all}
use Rattle.laws.proofs.Elements.{all_at}
use Rattle.format.specs.Format.{size, need, sound, unmet}
use Rattle.packet.specs.declared.Kind.{Kind}
use Rattle.packet.specs.declared.Counting.{Counting}
use Rattle.packet.specs.declared.Counting.TheVariants as counting
use Rattle.packet.specs.Table.{kinds, row_of}
use Rattle.packet.specs.Content.{numbers_in}
use Rattle.packet.specs.Reading.{part_at, has_entries}
use Rattle.packet.proofs.Each.{each_kind}

-- a raw content, and one with nothing repeated
abbrev pub raw_by : Counting → Bool
raw_by counting.Fixed = false
raw_by counting.Counted = false
raw_by counting.Raw = true
raw_by counting.Unknown = false

abbrev pub none_by : Counting → Bool
none_by counting.Fixed = true
none_by counting.Counted = false
none_by counting.Raw = false
none_by counting.Unknown = true

-- the tests, one by one
abbrev tests : Kind → List Bool
tests f =
    all sound (row_of f).before
    ∷ all sound (row_of f).each
    ∷ all sound (row_of f).after
    ∷ leb (part_at (row_of f)) 160
    ∷ leb (size (row_of f).before) 152
    ∷ leb (size (row_of f).each) 40
    ∷ leb (size (row_of f).after) 96
    ∷ leb (numbers_in f) (need (row_of f).before)
    ∷ leb (need (row_of f).before) (numbers_in f + 35)
    ∷ leb (numbers_in f) 6
    ∷ leb (need (row_of f).each) 8
    ∷ leb (need (row_of f).before - numbers_in f + need (row_of f).after) 35
    ∷ (eqb (need (row_of f).before) (numbers_in f) || eqb (need (row_of f).after) 0)
    ∷ (has_entries f || (all (unmet 25) (row_of f).each && all (unmet 27) (row_of f).each))
    ∷ (not (raw_by (row_of f).counting) || eqb (need (row_of f).each) 1)
    ∷ (none_by (row_of f).counting || leb 8 (size (row_of f).each))
    ∷ []

abbrev passed : Kind → Bool
passed f = all (λ (b : Bool). b) (tests f)

all_pass : all passed kinds ≡ true
unfolding size need part_at
all_pass = refl

pub record Good (f : Kind) : Type 0 where
  pub before : all sound (row_of f).before ≡ true
  pub each : all sound (row_of f).each ≡ true
  pub after : all sound (row_of f).after ≡ true
  pub lead : part_at (row_of f) ≤ 160
  pub first : size (row_of f).before ≤ 152
  pub row : size (row_of f).each ≤ 40
  pub rest : size (row_of f).after ≤ 96
  pub numbered : numbers_in f ≤ need (row_of f).before
  pub digits : need (row_of f).before ≤ numbers_in f + 35
  pub few : numbers_in f ≤ 6
  pub entry : need (row_of f).each ≤ 8
  pub last : need (row_of f).before - numbers_in f + need (row_of f).after ≤ 35
  pub one_place : (eqb (need (row_of f).before) (numbers_in f) || eqb (need (row_of f).after) 0) ≡ true
  pub octets_pass : (has_entries f || (all (unmet 25) (row_of f).each && all (unmet 27) (row_of f).each)) ≡ true
  pub raw_one : (not (raw_by (row_of f).counting) || eqb (need (row_of f).each) 1) ≡ true
  pub least : (none_by (row_of f).counting || leb 8 (size (row_of f).each)) ≡ true

pub good : (f : Kind) → Good f
good f =
    record {
      before = at 0 (omega arith);
      each = at 1 (omega arith);
      after = at 2 (omega arith);
      lead = leb-true _ _ (at 3 (omega arith));
      first = leb-true _ _ (at 4 (omega arith));
      row = leb-true _ _ (at 5 (omega arith));
      rest = leb-true _ _ (at 6 (omega arith));
      numbered = leb-true _ _ (at 7 (omega arith));
      digits = leb-true _ _ (at 8 (omega arith));
      few = leb-true _ _ (at 9 (omega arith));
      entry = leb-true _ _ (at 10 (omega arith));
      last = leb-true _ _ (at 11 (omega arith));
      one_place = at 12 (omega arith);
      octets_pass = at 13 (omega arith);
      raw_one = at 14 (omega arith);
      least = at 15 (omega arith);
    }
  where
    at : (i : ℕ) → i < 16 → get_or (tests f) i true ≡ true
    at i l = all_at (λ (b : Bool). b) (tests f) i true (each_kind passed all_pass f) l
