-- What holds of each kind of content, a clause a kind. Assumes nothing.
use mathlib.Core.Path.{◌≡◌, refl, sym, ap, ◌∙◌}
use mathlib.Core.List.{List, [], ◌∷◌}
use mathlib.Core.Bool.{Bool, true, not, cond, ◌&&◌, ◌||◌}
use Prim.Native.Nat.{ℕ, ◌+◌, ◌-◌, ◌*◌, ◌%◌, ◌≤◌, ◌<◌}
use native.Mathlib.Omega.{arith}
use lib.ListN.{length, get_or}
use lib.Dec.{leb, eqb}
use Rattle.laws.specs.Scan.{all}
use Rattle.laws.specs.Bits.{at, run}
use Rattle.laws.proofs.Cases.{and_left, and_both}
use borrow.Author.Tests.{leb-true, eqb-true}
use Rattle.laws.proofs.Elements.{all_at}
use native.Mathlib.Nat.{le_antisymm}
use Rattle.format.specs.Format.{just, own, size, decode, inside, fine, unmet}
use Rattle.format.specs.declared.Line.{Line}
use Rattle.format.proofs.Tables.{given, settled}
use Rattle.packet.specs.declared.Kind.{Kind}
use Rattle.packet.specs.declared.Kind.TheVariants.{Raw}
use Rattle.packet.specs.declared.Content.{Content}
use Rattle.packet.specs.declared.Counting.{Counting}
use Rattle.packet.specs.declared.Counting.TheVariants as counting
use Rattle.packet.specs.Table.{kinds, row_of, count_line, count_by, count_in, content_lines}
use Rattle.packet.proofs.Column.{content_size_lem}
use Rattle.packet.specs.Content.{parts_of, kind_for, numbers_in, count_for}
use Rattle.packet.specs.Reading.{part_at}
use Rattle.packet.specs.Writing.{row_for, digits_before, digits_after}
use Rattle.packet.proofs.Each.{each_kind}
use Rattle.packet.proofs.Good.{good}
use Rattle.packet.proofs.Contents.{numbers_long, content_known, raw_only}
use Rattle.trips.proofs.Fitting.{tight}

-- a line that answer 0 is about has bytes
abbrev pub byte_line : Line → Bool
byte_line t = not (eqb t.answer 0) || (eqb t.lo 0 && (eqb t.hi 255 && t.given))

-- a line whose own numbers are digits
abbrev pub digit_line : Line → Bool
digit_line t = not t.given || (eqb t.answer 25 && (eqb t.lo 0 && eqb t.hi 9))

-- every line that needs more than the first n numbers, and those behind it, pass
unfoldable pub behind : (Line → Bool) → ℕ → List Line → Bool
behind P n [] = true
behind P n (t ∷ ts) = cond (leb (own t) n) (behind P (n - own t) ts) (P t && all P ts)

-- the lines of a row: each has a width for its numbers, those of 24 and 26 are the table's, a line that is not free is settled, and no other is due 26
pub record Fair (f : Kind) : Type 0 where
  pub tight1 : all tight (row_of f).before ≡ true
  pub tight2 : all tight (row_of f).each ≡ true
  pub tight3 : all tight (row_of f).after ≡ true
  pub given1 : all (given 24) (row_of f).before ≡ true
  pub given2 : all (given 24) (row_of f).each ≡ true
  pub given3 : all (given 24) (row_of f).after ≡ true
  pub count1 : all (given 26) (row_of f).before ≡ true
  pub count2 : all (given 26) (row_of f).each ≡ true
  pub count3 : all (given 26) (row_of f).after ≡ true
  pub settled1 : all settled (row_of f).before ≡ true
  pub settled2 : all settled (row_of f).each ≡ true
  pub settled3 : all settled (row_of f).after ≡ true
  pub even1 : part_at (row_of f) % 8 ≡ 0
  pub even2 : size (row_of f).each % 8 ≡ 0
  pub even3 : size (row_of f).after % 8 ≡ 0
  pub unmet1 : all (unmet 26) (row_of f).before ≡ true
  pub unmet2 : all (unmet 26) (row_of f).each ≡ true
  pub unmet3 : all (unmet 26) (row_of f).after ≡ true
  pub bytes : all byte_line (row_of f).each ≡ true
  pub after : all (unmet 0) (row_of f).after ≡ true
  pub untested : behind (unmet 0) (numbers_in f) (row_of f).before ≡ true
  pub front : behind digit_line (numbers_in f) (row_of f).before ≡ true
  pub back : all digit_line (row_of f).after ≡ true

-- the tests, one by one
abbrev tests : Kind → List Bool
tests f =
    all tight (row_of f).before ∷ all tight (row_of f).each ∷ all tight (row_of f).after
    ∷ all (given 24) (row_of f).before ∷ all (given 24) (row_of f).each ∷ all (given 24) (row_of f).after
    ∷ all (given 26) (row_of f).before ∷ all (given 26) (row_of f).each ∷ all (given 26) (row_of f).after
    ∷ all settled (row_of f).before ∷ all settled (row_of f).each ∷ all settled (row_of f).after
    ∷ eqb (part_at (row_of f) % 8) 0 ∷ eqb (size (row_of f).each % 8) 0 ∷ eqb (size (row_of f).after % 8) 0
    ∷ all (unmet 26) (row_of f).before ∷ all (unmet 26) (row_of f).each ∷ all (unmet 26) (row_of f).after
    ∷ all byte_line (row_of f).each ∷ all (unmet 0) (row_of f).after ∷ behind (unmet 0) (numbers_in f) (row_of f).before
    ∷ behind digit_line (numbers_in f) (row_of f).before ∷ all digit_line (row_of f).after
    ∷ []

abbrev passed : Kind → Bool
passed f = all (λ (b : Bool). b) (tests f)

all_pass : all passed kinds ≡ true
unfolding size part_at behind
all_pass = refl

pub fair : (f : Kind) → Fair f
fair f =
    record {
      tight1 = at 0 (omega arith);
      tight2 = at 1 (omega arith);
      tight3 = at 2 (omega arith);
      given1 = at 3 (omega arith);
      given2 = at 4 (omega arith);
      given3 = at 5 (omega arith);
      count1 = at 6 (omega arith);
      count2 = at 7 (omega arith);
      count3 = at 8 (omega arith);
      settled1 = at 9 (omega arith);
      settled2 = at 10 (omega arith);
      settled3 = at 11 (omega arith);
      even1 = eqb-true _ _ (at 12 (omega arith));
      even2 = eqb-true _ _ (at 13 (omega arith));
      even3 = eqb-true _ _ (at 14 (omega arith));
      unmet1 = at 15 (omega arith);
      unmet2 = at 16 (omega arith);
      unmet3 = at 17 (omega arith);
      bytes = at 18 (omega arith);
      after = at 19 (omega arith);
      untested = at 20 (omega arith);
      front = at 21 (omega arith);
      back = at 22 (omega arith);
    }
  where
    at : (i : ℕ) → i < 23 → get_or (tests f) i true ≡ true
    at i l = all_at (λ (b : Bool). b) (tests f) i true (each_kind passed all_pass f) l

pub few_digits : (c : Content) → digits_before c + digits_after c ≤ 35
few_digits c = omega (arith, numbers_long c, (good (kind_for c)).last)

raw_size : (f : Kind) (k m : ℕ) → f ≡ Raw → size (content_lines (row_of f) k) ≡ 8 * m → m ≡ k
unfolding size part_at
raw_size f k m h e = omega (arith, content_size_lem (row_of Raw) k, sym (ap (λ (g : Kind). size (content_lines (row_of g) k)) h) ∙ e)

-- a count line without a fault of 26 holds its count
just_is : (k : ℕ) (l : List ℕ) (p : ℕ) → fine 26 (just 8 k ∷ []) (decode (just 8 k ∷ []) l p) ≡ true → at l p 8 ≡ k
unfolding fine decode run inside
just_is k l p h =
    let a = and_left ((leb k (at l p 8) && leb (at l p 8) k) && true) true h in
    let b = and_left (leb k (at l p 8) && leb (at l p 8) k) true a in
    let c = and_both (leb k (at l p 8)) (leb (at l p 8) k) b in
    le_antisymm (leb-true (at l p 8) k c.1) (leb-true k (at l p 8) c.0)

-- the count that is read is the content's
pub count_back : (c : Content) (body l : List ℕ) (q m : ℕ)
    → fine 26 (count_line (row_for c).counting (count_for c body)) (decode (count_line (row_for c).counting (count_for c body)) l (q + size (row_for c).before)) ≡ true
    → size (content_lines (row_for c) (count_for c body)) ≡ 8 * m
    → count_in (row_for c) l q m ≡ count_for c body
count_back c body l q m = by (row_for c).counting refl
  where
    count : Counting → ℕ
    count s = count_by s (parts_of c).count (length body)

    by : (s : Counting) → (row_for c).counting ≡ s → fine 26 (count_line s (count s)) (decode (count_line s (count s)) l (q + size (row_for c).before)) ≡ true
        → size (content_lines (row_for c) (count s)) ≡ 8 * m → count_by s (at l (q + size (row_for c).before) 8) m ≡ count s
    by counting.Fixed e h z = refl
    by counting.Counted e h z = just_is (parts_of c).count l (q + size (row_for c).before) h
    by counting.Raw e h z = raw_size (kind_for c) (length body) m (raw_only (kind_for c) e) z
    by counting.Unknown e h z = absurd (content_known c e)
