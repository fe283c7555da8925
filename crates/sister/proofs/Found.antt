-- Where the parts of a command stand among its bits: its own numbers, its codes, and the lines that an answer is about. Assumes nothing.
use mathlib.Core.Path.{◌≡◌, refl, sym, ap, ◌∙◌}
use mathlib.Core.List.{List, [], ◌++◌, append-nil}
use mathlib.Core.Bool.{Bool, true, false, not, ◌&&◌, and-true, and_assoc}
use Prim.Native.Nat.{ℕ, suc, ◌+◌, ◌*◌, ◌-◌, ◌≤◌, ◌<◌}
use native.Mathlib.Omega.{arith}
use lib.ListN.{length, take, drop, get_or, length-replicate}
use lib.Seq.{sets, length-sets, take_at, drop_at, drop-drop}
use lib.Dec.{leb, ltb, eqb}
use borrow.Author.Tests.{lt-ltb, le-leb, ne_eqb}
use Rattle.laws.specs.Bits.{at, run, bits}
use Rattle.laws.specs.Scan.{all}
use Rattle.laws.proofs.ByteFields.{at_byte}
use Rattle.laws.proofs.Cases.{if_yes, if_no, and_yes}
use Rattle.laws.proofs.Writes.{sets_append}
use Rattle.format.specs.declared.Line.{Line}
use Rattle.format.specs.Format.{times, size, need, decode, fill, flat, inside, fine, unmet}
use Rattle.format.specs.Reach.{fields_read}
use Rattle.format.proofs.Leaves.{reached}
use Rattle.format.proofs.Tables.{flat_append, length_flat}
use Rattle.packet.specs.declared.Content.TheVariants as content
use Rattle.packet.specs.Table.{code, content_lines, count_in}
use Rattle.packet.specs.Content.{no_such_day}
use Rattle.packet.specs.Reading.{numbers_at, zeros, padded, part_at}
use Rattle.sister.specs.declared.Kind.{Kind}
use Rattle.sister.specs.declared.Kind.TheVariants.{Clock, Lock, Unknown}
use Rattle.sister.specs.declared.Command.{Command}
use Rattle.sister.specs.declared.Command.TheVariants as command
use Rattle.sister.specs.declared.parts.Layout.{Layout}
use Rattle.sister.specs.Table.{tagged, kind_of, row_for, content_bytes, command_lines, address_count, code_count, command_of, Parts, parts_of}
use Rattle.sister.specs.Reading.{kind_in, count_of, table_of, values_in, numbers_in, command_in, codes_in}
use Rattle.sister.specs.Layout.{codes_at, layout_of, clock_at, fields_fine}
use Rattle.sister.proofs.Shape.{octet, octets_need, firsts, firsts_are, fill_free, fine_codes, fine_first}
use Rattle.sister.proofs.Rows as rows
use Rattle.sister.proofs.There.{numbers_of}
use Rattle.sister.proofs.Back.{count_small}

-- ---- the lines that an answer is about
module _ (a : ℕ) (e0 : eqb 0 a ≡ false) (e26 : eqb 26 a ≡ false) where
  octets_unmet : all (unmet a) octet ≡ true
  octets_unmet = rw e0

  -- only those of the codes
  pub codes_only : (f : Kind) (k : ℕ) → all (unmet a) (row_for f).before ≡ true → (l : List ℕ) → fine a (command_lines f k) (decode (command_lines f k) l 0) ≡ fine a (times (code_count f k) code) (decode (times (code_count f k) code) l (codes_at f k))
  unfolding fine decode codes_at
  codes_only f k h l =
      ap (λ (ts : List Line). fine a ts (decode ts l 0)) (rows.whole f k) ∙ and_yes _ (if_no _ true e26) ∙ and_yes _ (if_no _ true e26)
      ∙ fine_codes (row_for f) k (address_count f k) (code_count f k) a (ap not e26) octets_unmet h l 24

-- 27 is about the command's own numbers
abbrev found : Kind → ℕ → List ℕ → Command
found f k l = command_of f (flat (command_lines f k) (decode (command_lines f k) l 0)) k

abbrev ranged_by : Parts → Bool
ranged_by p = fine 27 (row_for p.kind).before (fill (row_for p.kind).before p.numbers)

numbers_only : (f : Kind) (k : ℕ) (l : List ℕ) → fine 27 (command_lines f k) (decode (command_lines f k) l 0) ≡ ranged_by (parts_of (found f k l))
unfolding fine decode
numbers_only f k l =
    let B = (row_for f).before in
    let n = need B in
    let ts = command_lines f k in
    let xs = flat ts (decode ts l 0) in
    let v = flat B (decode B l 24) in
    let e : firsts 0 n xs ≡ v = firsts_are 0 n xs (omega (arith, length_flat ts l 0, rows.whole_need f k)) ∙ ap (take n) (numbers_of f k l) ∙ take_at v _ n (length_flat B l 24) in
    ap (λ (us : List Line). fine 27 us (decode us l 0)) (rows.whole f k)
    ∙ fine_first (row_for f) k (address_count f k) (code_count f k) 27 refl refl refl l 24
    ∙ ap (fine 27 B) (sym (ap (fill B) e ∙ fill_free B l 24 (rows.first_free f)))
    ∙ sym (ap ranged_by (rows.parts_back f xs k))

pub fine_27 : (b : List ℕ) → fine 27 (table_of b) (values_in b) ≡ ranged_by (parts_of (command_in b))
unfolding table_of command_in numbers_in
fine_27 b = numbers_only (kind_in b) (count_of b) (bits b)

-- and the day
pub clock_fields : (c : Command) (year month day hour minute second : ℕ) → c ≡ command.Clock year month day hour minute second
    → (((((((leb 1 month && leb month 12) && leb 1 day) && leb day 31) && leb hour 23) && leb minute 59) && leb second 59) && not (no_such_day (content.Clock year month day hour minute second))) ≡ fields_fine c
unfolding fields_fine fine fill inside
clock_fields c year month day hour minute second e = rw (e, le-leb 0 hour (omega arith), le-leb 0 minute (omega arith), le-leb 0 second (omega arith)) (simp (and-true, and_assoc))

-- ---- a byte among the bits
pub byte_is : (b : List ℕ) (i : ℕ) → get_or b i 0 < 256 → get_or b i 0 ≡ at (bits b) (8 * i) 8
byte_is b i h =
    let e : 8 * i ≡ i * 8 + 0 = omega arith in
    sym (ap (λ (n : ℕ). at (bits b) n 8) e ∙ at_byte b i 0 8 (omega arith) ∙ omega (arith, h))

-- ---- count and command of a kind
module _ (b : List ℕ) (f : Kind) (e : kind_in b ≡ f) where
  pub count_is : count_in (row_for f) (bits b) 24 0 ≡ count_of b
  unfolding count_of
  count_is = sym (ap (λ (g : Kind). count_in (row_for g) (bits b) 24 0) e)

  pub command_is : found f (count_of b) (bits b) ≡ command_in b
  unfolding command_in numbers_in table_of
  command_is = sym (ap (λ (g : Kind). found g (count_of b) (bits b)) e)

pub clock_numbers : (b : List ℕ) (k : ℕ) → clock_at b ≡ found Clock k (bits b)
unfolding command_lines content_lines decode times flat run clock_at
clock_numbers b k = refl

pub lock_numbers : (b : List ℕ) (k : ℕ) → command.Lock (at (bits b) 24 32) k ≡ found Lock k (bits b)
unfolding command_lines content_lines decode times flat run
lock_numbers b k = refl

-- the digits of the codes
pub codes_are : (b : List ℕ) → codes_in b ≡ numbers_at (times (code_count (kind_in b) (count_of b)) code) b (codes_at (kind_in b) (count_of b))
unfolding codes_in numbers_in table_of codes_at
codes_are b =
    let f = kind_in b in
    let k = count_of b in
    let n = need (row_for f).before in
    let m = address_count f k in
    let B = (row_for f).before in
    let O = times m octet in
    let p = 24 + part_at (row_for f) in
    sym (drop-drop m n (flat (command_lines f k) (decode (command_lines f k) (bits b) 0)))
    ∙ ap (λ (l : List ℕ). drop m (drop n l)) (numbers_of f k (bits b))
    ∙ ap (drop m) (drop_at (flat B (decode B (bits b) 24)) _ n (length_flat B (bits b) 24))
    ∙ drop_at (flat O (decode O (bits b) p)) _ m (length_flat O (bits b) p ∙ octets_need m)

-- ---- codes read one after the other: what is to be stored, all of it, is what is left to store
code_at : (b : List ℕ) (p : ℕ) → numbers_at code b p ≡ run (bits b) (p + 4) 23 4
unfolding decode flat
code_at b p = simp append-nil

pub codes_turn : (b o o'' all xs : List ℕ) (n j p i : ℕ) → j < n → xs ≡ run (bits b) (p + 4) 23 4 → length xs ≡ 23
    → all ≡ sets o i (numbers_at (times (n - j) code) b p) → o'' ≡ sets o i xs → all ≡ sets o'' (i + 23) (numbers_at (times (n - (j + 1)) code) b (p + 96))
unfolding times size
codes_turn b o o'' all xs n j p i h f m g k =
    let r : n - j ≡ suc (n - (j + 1)) = omega arith in
    let rest = times (n - (j + 1)) code in
    let z : numbers_at (times (n - j) code) b p ≡ xs ++ numbers_at rest b (p + 96) = ap (λ (c : ℕ). numbers_at (times c code) b p) r ∙ flat_append code rest (bits b) p ∙ rw (f, code_at b p) in
    g ∙ ap (sets o i) z ∙ sets_append xs (numbers_at rest b (p + 96)) o i ∙ rw (m, k)

pub codes_end : (b o all : List ℕ) (n j p i : ℕ) → n ≤ j → all ≡ sets o i (numbers_at (times (n - j) code) b p) → o ≡ all
unfolding times flat
codes_end b o all n j p i h g = let r : n - j ≡ 0 = omega arith in sym (g ∙ rw r)

-- digits read to an array, as far as the function goes
pub got : (z o l : List ℕ) (p to : ℕ) → o ≡ sets z to (fields_read l p 23 4 to) → p < 65536 → to < 65536 → o ≡ sets z to (run l p 23 4)
got z o l p to e h i = e ∙ ap (sets z to) (if_yes (run l p 23 4) [] (and_yes (leb 4 8 && ltb to 65536) (reached p 23 4 h (omega arith) (omega arith)) ∙ lt-ltb to 65536 i))

pub length_zeros : (m : ℕ) (z : List ℕ) → z ≡ zeros m → length z ≡ m
unfolding zeros
length_zeros m z e = ap length e ∙ length-replicate m 0

pub kept : (m : ℕ) (z o xs : List ℕ) (i : ℕ) → length z ≡ m → o ≡ sets z i xs → length o ≡ m
kept m z o xs i n e = ap length e ∙ length-sets z i xs ∙ n

-- ---- one code
module _ (a : ℕ) (l : List ℕ) (p : ℕ) where
  pub code_24 : a ≡ 24 → inside 15 15 (run l p 1 4) ≡ fine a code (decode code l p)
  unfolding fine decode
  code_24 e = rw e (sym (and-true (inside 15 15 (run l p 1 4))))

  pub code_25 : a ≡ 25 → inside 0 9 (run l (p + 4) 23 4) ≡ fine a code (decode code l p)
  unfolding fine decode
  code_25 e = rw e (sym (and-true (inside 0 9 (run l (p + 4) 23 4))))

  pub code_else : (a ≡ 24 → ⊥) → (a ≡ 25 → ⊥) → true ≡ fine a code (decode code l p)
  unfolding fine decode
  code_else h k = rw (ne_eqb 24 a (λ e. h (sym e)), ne_eqb 25 a (λ e. k (sym e)))

pub places_in : (b : List ℕ) → (codes_at (kind_in b) (count_of b) ≤ 2200) × (code_count (kind_in b) (count_of b) ≤ 255) × (address_count (kind_in b) (count_of b) ≤ 255)
places_in b = rows.places (kind_in b) (count_of b) (omega (arith, count_is b (kind_in b) refl, count_small (kind_in b) b))

pub codes_padded : (b : List ℕ) (l : Layout) (z : List ℕ) → l ≡ layout_of (kind_in b) (count_of b) → z ≡ zeros 5865 → sets z 0 (numbers_at (times l.codes code) b l.place) ≡ padded 5865 (codes_in b)
codes_padded b l z e f = rw (e, f, codes_are b)

-- the parts of a layout, one by one
pub laid_as : (f : Kind) (k bytes address place codes : ℕ) (g : Kind) → g ≡ f → bytes ≡ content_bytes f k → address ≡ address_count f k → place ≡ codes_at f k → codes ≡ code_count f k
    → record { bytes = bytes; address = address; place = place; codes = codes } ≡ layout_of g k
laid_as f k bytes address place codes g h a b c d = rw (h, a, b, c, d)

-- a tag that names none of the three
pub other_tag : (t : ℕ) → (t ≡ 1 → ⊥) → (t ≡ 2 → ⊥) → (t ≡ 3 → ⊥) → Unknown ≡ kind_of t
unfolding kind_of tagged
other_tag t a b d = rw (ne_eqb t 1 a, ne_eqb t 2 b, ne_eqb t 3 d)
