-- What a computed test finds of every kind's lines, for columns; and rows of lines, row by row. Assumes nothing.
use mathlib.Core.Path.{◌≡◌, refl, sym, ap, ap₂, ◌∙◌}
use mathlib.Core.Bool.{Bool, true, not, ◌&&◌, ◌||◌, and-true}
use mathlib.Core.List.{List, [], ◌∷◌, ◌++◌}
use Prim.Native.Nat.{ℕ, zero, suc, ◌+◌, ◌*◌, ◌%◌, ◌≤◌, ◌<◌}
use native.Mathlib.Nat.{suc-mul, zero-mul}
use native.Mathlib.Omega.{arith}
use lib.ListN.{length, get_or}
use lib.Dec.{leb, eqb}
use borrow.Author.Tests.{leb-true, eqb-true}
use Rattle.std.specs.List.{list_all, range_with_len}
use Rattle.std.proofs.lemmas.List.Folds.{list_all-append}
use Rattle.laws.specs.Bits.{bits}
use Rattle.laws.specs.Scan.{all}
use Rattle.laws.specs.Strips.{joined, every}
use Rattle.laws.proofs.Elements.{all_at}
use Rattle.laws.proofs.Strips.{joined_first, joined_same, every_first, every_same}
use Rattle.format.specs.declared.Line.{Line}
use Rattle.format.specs.Format.{times, size, need, decode, flat, fine}
use Rattle.format.proofs.Tables.{flat_append, fine_append}
use Rattle.packet.specs.declared.Kind.{Kind}
use Rattle.packet.specs.Table.{kinds, row_of}
use Rattle.packet.specs.Content.{numbers_in}
use Rattle.packet.specs.Reading.{has_entries, numbers_at}
use Rattle.packet.specs.InCode.{lines_for, own_lines, own_of, beside_of}
use Rattle.packet.specs.Columns.{columns, single}
use Rattle.packet.proofs.Each.{each_kind}

-- ---- the tests, one by one
abbrev tests : Kind → List Bool
tests f =
    all single (own_of f)
    ∷ eqb (need (own_of f)) (numbers_in f)
    ∷ eqb (size (own_of f) % 8) 0
    ∷ columns 0 (beside_of f)
    ∷ columns 0 (row_of f).each
    ∷ columns 0 (row_of f).after
    ∷ (not (has_entries f) || leb 40 (size (row_of f).each))
    ∷ leb (own_lines f) (length (row_of f).before)
    ∷ []

abbrev passed : Kind → Bool
passed f = all (λ (b : Bool). b) (tests f)

all_pass : all passed kinds ≡ true
unfolding size need columns own_lines lines_for
all_pass = refl

pub record Columned (f : Kind) : Type 0 where
  pub ones : all single (own_of f) ≡ true
  pub numbers : need (own_of f) ≡ numbers_in f
  pub edge : size (own_of f) % 8 ≡ 0
  pub beside : columns 0 (beside_of f) ≡ true
  pub each : columns 0 (row_of f).each ≡ true
  pub after : columns 0 (row_of f).after ≡ true
  pub entry : (not (has_entries f) || leb 40 (size (row_of f).each)) ≡ true
  pub few : own_lines f ≤ length (row_of f).before

pub columned : (f : Kind) → Columned f
columned f =
    record {
      ones = at 0 (omega arith);
      numbers = eqb-true _ _ (at 1 (omega arith));
      edge = eqb-true _ _ (at 2 (omega arith));
      beside = at 3 (omega arith);
      each = at 4 (omega arith);
      after = at 5 (omega arith);
      entry = at 6 (omega arith);
      few = leb-true _ _ (at 7 (omega arith));
    }
  where
    at : (i : ℕ) → i < 8 → get_or (tests f) i true ≡ true
    at i l = all_at (λ (b : Bool). b) (tests f) i true (each_kind passed all_pass f) l

-- ---- rows of lines, row by row: the numbers of bits and what is due of them
place : (p r s : ℕ) → p + s + r * s ≡ p + suc r * s
place p r s = omega (arith, suc-mul r s)

pub numbers_rows : (n : ℕ) (row : List Line) (b : List ℕ) (p : ℕ) → numbers_at (times n row) b p ≡ joined n (λ r. numbers_at row b (p + r * size row))
unfolding times joined flat
numbers_rows zero row b p = refl
numbers_rows (suc n) row b p =
    flat_append row (times n row) (bits b) p
    ∙ ap₂ (λ (x : ℕ) (y : List ℕ). numbers_at row b x ++ y) (omega (arith, zero-mul (size row)))
    (numbers_rows n row b (p + size row) ∙ joined_same n _ _ (λ r k. ap (numbers_at row b) (place p r (size row))))
    ∙ sym (joined_first n (λ r. numbers_at row b (p + r * size row)))

-- a test of every number is one of a range
pub every_range : (n : ℕ) (f : ℕ → Bool) → every n f ≡ list_all f (range_with_len 0 n)
unfolding every
every_range zero f = refl
every_range (suc n) f =
    ap (λ (y : Bool). y && f n) (every_range n f)
    ∙ ap (λ (y : Bool). list_all f (range_with_len 0 n) && y) (sym (and-true (f n)))
    ∙ sym (list_all-append f (range_with_len 0 n) (n ∷ []))
    ∙ ap (λ (m : ℕ). list_all f (range_with_len 0 n ++ (m ∷ []))) (omega arith)
    ∙ ap (list_all f) (sym (range_more 0 n))
  where
    range_more : (a m : ℕ) → range_with_len a (suc m) ≡ range_with_len a m ++ ((a + m) ∷ [])
    range_more a zero = let e : a + 0 ≡ a = omega arith in rw e
    range_more a (suc m) = let e : a + 1 + m ≡ a + suc m = omega arith in ap (λ (r : List ℕ). a ∷ r) (range_more (a + 1) m ∙ rw e)

pub fine_rows : (k n : ℕ) (row : List Line) (l : List ℕ) (p : ℕ) → fine k (times n row) (decode (times n row) l p) ≡ every n (λ r. fine k row (decode row l (p + r * size row)))
unfolding times every fine
fine_rows k zero row l p = refl
fine_rows k (suc n) row l p =
    fine_append k row (times n row) l p
    ∙ ap₂ (λ (x : ℕ) (y : Bool). fine k row (decode row l x) && y) (omega (arith, zero-mul (size row)))
    (fine_rows k n row l (p + size row) ∙ every_same n _ _ (λ r h. ap (λ (x : ℕ). fine k row (decode row l x)) (place p r (size row))))
    ∙ sym (every_first n (λ r. fine k row (decode row l (p + r * size row))))
