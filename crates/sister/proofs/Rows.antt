-- What a computed test finds of every command, and what follows of its whole table. Assumes nothing.
use mathlib.Core.Path.{◌≡◌, refl, sym, ap, ap₂, ◌∙◌}
use mathlib.Core.Bool.{Bool, true, ◌||◌}
use mathlib.Core.List.{List, [], ◌∷◌, ◌++◌}
use Prim.Native.Nat.{ℕ, ◌+◌, ◌*◌, ◌≤◌, ◌<◌}
use native.Mathlib.Nat.{add-mul, mul_assoc, mul-le-mul_left}
use native.Mathlib.Omega.{arith}
use borrow.Author.Tests.{lt-ltb, eq-eqb, eqb-true, leb-true}
use lib.Dec.{ltb, leb, eqb}
use lib.ListN.{get_or}
use Rattle.laws.specs.Scan.{all}
use Rattle.laws.proofs.Elements.{all_at}
use Rattle.laws.proofs.Cases.{and_yes}
use Rattle.format.specs.declared.Line.{Line}
use Rattle.format.specs.Format.{just, times, size, need, unmet}
use Rattle.format.proofs.Tables.{given, settled}
use Rattle.packet.specs.Table.{count_line, code, content_lines, count_by}
use Rattle.packet.specs.Reading.{part_at}
use Rattle.trips.proofs.Fitting.{tight}
use Rattle.sister.specs.declared.Kind.{Kind}
use Rattle.sister.specs.declared.Kind.TheVariants.{Clock, Resource, Lock, Unknown}
use Rattle.sister.specs.Table.{tagged, kind_of, tag_of, row_for, amounts_of, content_bytes, address_count, code_count, command_lines, command_of, parts_of}
use Rattle.sister.specs.Layout.{codes_at}
use Rattle.sister.proofs.Shape.{octet, free, firsts, shaped, rows_apart, shaped_size, shaped_need, shaped_all}

-- what is found of all holds of each
each_kind : (P : Kind → Type 0) → P Clock × P Resource × P Lock × P Unknown → (f : Kind) → P f
each_kind P h Clock = h.0
each_kind P h Resource = h.1
each_kind P h Lock = h.2
each_kind P h Unknown = h.3

-- ---- found by computing
-- what is repeated is bytes of address or codes, and behind it stand codes
each_is : (f : Kind) → (row_for f).each ≡ times (amounts_of f).address_each octet ++ times (amounts_of f).codes_each code
unfolding times
each_is = each_kind (λ (f : Kind). (row_for f).each ≡ times (amounts_of f).address_each octet ++ times (amounts_of f).codes_each code) (refl, refl, refl, refl)

after_is : (f : Kind) → (row_for f).after ≡ times (amounts_of f).codes code
unfolding times
after_is = each_kind (λ (f : Kind). (row_for f).after ≡ times (amounts_of f).codes code) (refl, refl, refl, refl)

pub kind_back : (f : Kind) → kind_of (tag_of f) ≡ f
unfolding kind_of tagged
kind_back = each_kind (λ (f : Kind). kind_of (tag_of f) ≡ f) (refl, refl, refl, refl)

-- the parts of the command of some numbers are these numbers
pub parts_back : (f : Kind) (xs : List ℕ) (k : ℕ) → parts_of (command_of f xs k) ≡ record { kind = f; numbers = firsts 0 (need (row_for f).before) xs; count = count_by (row_for f).counting k 0 }
unfolding need firsts
parts_back =
    each_kind (λ (f : Kind). (xs : List ℕ) (k : ℕ) → parts_of (command_of f xs k) ≡ record { kind = f; numbers = firsts 0 (need (row_for f).before) xs; count = count_by (row_for f).counting k 0 })
    (λ xs k. refl, λ xs k. refl, λ xs k. refl, λ xs k. refl)

-- the first lines: their numbers are of their bits, they are free, and no concern of 24, 25 and 26; small amounts, and those of the lines
abbrev tests : Kind → List Bool
tests f =
    all tight (row_for f).before
    ∷ all (given 24) (row_for f).before
    ∷ all (given 26) (row_for f).before
    ∷ all settled (row_for f).before
    ∷ all (unmet 24) (row_for f).before
    ∷ all (unmet 25) (row_for f).before
    ∷ all (unmet 26) (row_for f).before
    ∷ all free (row_for f).before
    ∷ ltb (tag_of f) 256
    ∷ eqb ((amounts_of f).address_each * (amounts_of f).codes_each) 0
    ∷ eqb (part_at (row_for f) + 96 * (amounts_of f).codes) (8 * (amounts_of f).bytes)
    ∷ eqb ((amounts_of f).address_each + 12 * (amounts_of f).codes_each) (amounts_of f).bytes_each
    ∷ leb ((amounts_of f).bytes + (amounts_of f).bytes_each * 255) 3065
    ∷ leb ((amounts_of f).codes + (amounts_of f).codes_each * 255) 255
    ∷ leb (amounts_of f).address_each 1
    ∷ leb (part_at (row_for f)) 56
    ∷ (eqb (amounts_of f).address_each 0 || eqb (part_at (row_for f)) 8)
    ∷ []

passed : (f : Kind) → all (λ (b : Bool). b) (tests f) ≡ true
unfolding size part_at
passed = each_kind (λ (f : Kind). all (λ (b : Bool). b) (tests f) ≡ true) (refl, refl, refl, refl)

at : (f : Kind) (i : ℕ) → i < 17 → get_or (tests f) i true ≡ true
at f i l = all_at (λ (b : Bool). b) (tests f) i true (passed f) l

pub first_24 : (f : Kind) → all (unmet 24) (row_for f).before ≡ true
first_24 f = at f 4 (omega arith)

pub first_25 : (f : Kind) → all (unmet 25) (row_for f).before ≡ true
first_25 f = at f 5 (omega arith)

pub first_free : (f : Kind) → all free (row_for f).before ≡ true
first_free f = at f 7 (omega arith)

-- where there is an address, it is behind the count alone
pub address_place : (f : Kind) → (eqb (amounts_of f).address_each 0 || eqb (part_at (row_for f)) 8) ≡ true
address_place f = at f 16 (omega arith)

-- ---- of the whole table
module _ (f : Kind) (k : ℕ) where
  abbrev S : List Line
  S = shaped (row_for f) k (address_count f k) (code_count f k)

  pub whole : command_lines f k ≡ just 8 (tag_of f) ∷ just 16 (content_bytes f k) ∷ S
  unfolding command_lines content_lines
  whole =
      let r = row_for f in
      let a = amounts_of f in
      ap (λ (ts : List Line). just 8 (tag_of f) ∷ just 16 (content_bytes f k) ∷ (r.before ++ (count_line r.counting k ++ ts)))
      (ap₂ (λ (row rest : List Line). times k row ++ rest) (each_is f) (after_is f)
      ∙ rows_apart a.address_each a.codes_each a.codes k octet code (eqb-true _ _ (at f 9 (omega arith))))

  -- the bytes that the tables of 003 say
  pub content_size_lem : part_at (row_for f) + 8 * address_count f k + 96 * code_count f k ≡ 8 * content_bytes f k
  content_size_lem =
      let a = amounts_of f in
      let e : part_at (row_for f) + 96 * a.codes ≡ 8 * a.bytes = eqb-true _ _ (at f 10 (omega arith)) in
      let g : a.address_each + 12 * a.codes_each ≡ a.bytes_each = eqb-true _ _ (at f 11 (omega arith)) in
      let h = ap (λ (n : ℕ). n * k) (sym g) ∙ add-mul a.address_each (12 * a.codes_each) k ∙ ap (λ (n : ℕ). a.address_each * k + n) (mul_assoc 12 a.codes_each k) in
      omega (arith, e, h)

  pub whole_size : size (command_lines f k) ≡ 8 * (3 + content_bytes f k)
  unfolding size
  whole_size = ap size whole ∙ omega (arith, shaped_size (row_for f) k (address_count f k) (code_count f k), content_size_lem)

  -- and the numbers: those of the first lines, the address, 23 a code
  pub whole_need : need (command_lines f k) ≡ need (row_for f).before + (address_count f k + 23 * code_count f k)
  unfolding need
  whole_need = ap need whole ∙ omega (arith, shaped_need (row_for f) k (address_count f k) (code_count f k))

  every : (g : Line → Bool) → g (just 8 (tag_of f)) ≡ true → g (just 16 (content_bytes f k)) ≡ true → g (just 8 k) ≡ true → all g (row_for f).before ≡ true → all g octet ≡ true → all g code ≡ true
      → all g (command_lines f k) ≡ true
  every g h1 h2 h3 hb ho hc = ap (all g) whole ∙ and_yes _ h1 ∙ and_yes _ h2 ∙ shaped_all (row_for f) k (address_count f k) (code_count f k) g h3 hb ho hc

  pub few_bytes : k ≤ 255 → content_bytes f k < 65536
  few_bytes h =
      let e : (amounts_of f).bytes + (amounts_of f).bytes_each * 255 ≤ 3065 = leb-true _ _ (at f 12 (omega arith)) in
      omega (arith, e, mul-le-mul_left (amounts_of f).bytes_each h)

  -- how far address and codes go
  pub places : k ≤ 255 → (codes_at f k ≤ 2200) × (code_count f k ≤ 255) × (address_count f k ≤ 255)
  unfolding codes_at
  places h =
      let c : (amounts_of f).codes + (amounts_of f).codes_each * 255 ≤ 255 = leb-true _ _ (at f 13 (omega arith)) in
      let a : (amounts_of f).address_each ≤ 1 = leb-true _ _ (at f 14 (omega arith)) in
      let p : part_at (row_for f) ≤ 56 = leb-true _ _ (at f 15 (omega arith)) in
      let m = mul-le-mul_left (amounts_of f).address_each h in
      (omega (arith, a, p, m), omega (arith, c, mul-le-mul_left (amounts_of f).codes_each h), omega (arith, a, m))

  pub all_tight : k ≤ 255 → all tight (command_lines f k) ≡ true
  all_tight h = every tight (and_yes _ (at f 8 (omega arith))) (and_yes _ (lt-ltb _ _ (few_bytes h))) (and_yes _ (lt-ltb k 256 (omega arith))) (at f 0 (omega arith)) refl refl

  pub all_24 : all (given 24) (command_lines f k) ≡ true
  all_24 = every (given 24) refl refl refl (at f 1 (omega arith)) refl refl

  pub all_26 : all (given 26) (command_lines f k) ≡ true
  all_26 = every (given 26) (eq-eqb (tag_of f) (tag_of f) refl) (eq-eqb (content_bytes f k) (content_bytes f k) refl) (eq-eqb k k refl) (at f 2 (omega arith)) refl refl

  pub all_settled : all settled (command_lines f k) ≡ true
  all_settled = every settled (and_yes _ (eq-eqb (tag_of f) (tag_of f) refl)) (and_yes _ (eq-eqb (content_bytes f k) (content_bytes f k) refl)) (and_yes _ (eq-eqb k k refl)) (at f 3 (omega arith)) refl refl

pub first_26 : (f : Kind) → all (unmet 26) (row_for f).before ≡ true
first_26 f = at f 6 (omega arith)
