-- A command, its address and its codes that a writer takes come back from what it writes. Assumes nothing.
use mathlib.Core.Path.{◌≡◌, refl, sym, ap, ap₂, subst, ◌∙◌}
use mathlib.Core.List.{List, [], ◌++◌}
use mathlib.Core.Bool.{true, false, not, ◌&&◌}
use Prim.Native.Nat.{ℕ, zero, suc, ◌+◌, ◌*◌, ◌/◌, ◌≤◌}
use native.Mathlib.Nat.{zero-mul}
use native.Mathlib.Omega.{arith}
use lib.ListN.{length, take, drop, get_or, length-append}
use lib.Seq.{take_at, drop_at, drop-drop}
use lib.Dec.{leb, eqb}
use borrow.Author.Tests.{leb-true, eqb-true, not-false, le-ltb, eq-eqb}
use Rattle.laws.specs.Bits.{at, run, bits, bytes}
use Rattle.laws.proofs.Bits.{Under, length_run, under_run}
use Rattle.laws.proofs.Cases.{and_both, and_left, and_right, and_yes, or_both, or_no}
use Rattle.laws.proofs.Elements.{by_test}
use Rattle.laws.proofs.Refusals.{not_due, pass, none_left}
use Rattle.format.specs.declared.Line.{Line}
use Rattle.format.specs.Format.{just, times, size, need, encode, decode, fill, flat, inside, line_ok, fine, unmet}
use Rattle.format.proofs.Tables.{flat_fill, fine_append, length_flat, given_fine, unmet_fine, all_times}
use Rattle.format.proofs.Round.{Fits, encode_long, under_encode, read_write}
use Rattle.packet.specs.declared.Counting.{Counting}
use Rattle.packet.specs.declared.Counting.TheVariants as counting
use Rattle.packet.specs.Table.{code, count_line, content_lines, count_by, count_in}
use Rattle.packet.specs.Reading.{padded, part_at, part_by}
use Rattle.packet.specs.Writing.{written_by}
use Rattle.trips.proofs.Fitting.{fits_fill, nil_of, cut}
use Rattle.trips.proofs.Octets.{octets_at, run_bytes}
use Rattle.trips.proofs.Parts.{all_count}
use Rattle.trips.proofs.Taken.{code_unmet}
use Rattle.sister.specs.declared.Kind.{Kind}
use Rattle.sister.specs.declared.Command.{Command}
use Rattle.sister.specs.declared.Command.TheVariants.{Clock, Resource, Lock, Unknown}
use Rattle.sister.specs.Table.{kind_of, tag_of, is_unknown_kind, row_for, amounts_of, content_bytes, command_lines, address_count, code_count, command_of, Parts, parts_of, kind_for, count_for, no_day}
use Rattle.sister.specs.Reading as reading
use Rattle.sister.specs.Reading.{kind_in, length_in, count_of, table_of, values_in, numbers_in, command_in, codes_in, length_bad, read_answer, opened_by, opened, address_of}
use Rattle.sister.specs.Writing.{size_for, table_for, numbers_for, values_for, bytes_for, count_bad, digit_bad, field_bad, written_answer, written, command_output}
use Rattle.sister.specs.Given.{Typed, bytes_of, GivesBack}
use Rattle.sister.proofs.Shape.{octet, octets_need, octets_fine, firsts, firsts_long, shaped_fine, shaped_flat}
use Rattle.sister.proofs.Rows as rows

-- ---- what a writer's 0 says
pub record Taken (c : Command) (address codes : List ℕ) : Type 0 where
  pub known : is_unknown_kind (kind_for c) ≡ false
  pub few : count_for c ≤ 255
  pub address_long : length address ≡ address_count (kind_for c) (count_for c)
  pub codes_long : length codes ≡ 23 * code_count (kind_for c) (count_for c)
  pub c25 : fine 25 (table_for c) (values_for c address codes) ≡ true
  pub c27 : fine 27 (table_for c) (values_for c address codes) ≡ true
  pub day : no_day c ≡ false

pub taken : (c : Command) (address codes : List ℕ) (room : ℕ) → written_answer c address codes room ≡ 0 → Taken c address codes
unfolding written_answer count_bad digit_bad field_bad
taken c address codes room e =
    let a = not_due (is_unknown_kind (kind_for c)) 39 _ (λ h. omega arith) e in
    let b = not_due _ 26 _ (λ h. omega arith) a.1 in
    let d = not_due _ 25 _ (λ h. omega arith) b.1 in
    let g = not_due _ 27 _ (λ h. omega arith) d.1 in
    let b1 = and_both (leb (count_for c) 255) _ (not-false _ b.0) in
    let b2 = and_both (eqb (length address) (address_count (kind_for c) (count_for c))) _ b1.1 in
    let g1 = or_both (not (fine 27 (table_for c) (values_for c address codes))) (no_day c) g.0 in
    record {
      known = a.0;
      few = leb-true (count_for c) 255 b1.0;
      address_long = eqb-true _ _ b2.0;
      codes_long = eqb-true _ _ b2.1;
      c25 = not-false _ d.0;
      c27 = not-false _ g1.0;
      day = g1.1;
    }

-- ---- names, with a clause a command: the command of its numbers
command_back : (c : Command) (xs : List ℕ) → command_of (kind_for c) ((parts_of c).numbers ++ xs) (count_for c) ≡ c
command_back (Clock year month day hour minute second) xs = refl
command_back (Resource m) xs = refl
command_back (Lock khz n) xs = refl
command_back Unknown xs = refl

parts_are : (c : Command) → parts_of c ≡ record { kind = kind_for c; numbers = firsts 0 (need (row_for (kind_for c)).before) ((parts_of c).numbers ++ []); count = count_by (row_for (kind_for c)).counting (count_for c) 0 }
parts_are c = ap parts_of (sym (command_back c [])) ∙ rows.parts_back (kind_for c) ((parts_of c).numbers ++ []) (count_for c)

-- so many numbers stand first
pub numbers_long : (c : Command) → length (parts_of c).numbers ≡ need (row_for (kind_for c)).before
numbers_long c = ap (λ (p : Parts). length p.numbers) (parts_are c) ∙ firsts_long 0 (need (row_for (kind_for c)).before) ((parts_of c).numbers ++ [])

-- a count is 0 where there is none
count_own : (c : Command) → count_by (row_for (kind_for c)).counting (count_for c) 0 ≡ count_for c
count_own c = sym (ap (λ (p : Parts). p.count) (parts_are c))

-- ---- numbers and lines
-- as many numbers as the lines have
pub numbers_all : (c : Command) (address codes : List ℕ) → length address ≡ address_count (kind_for c) (count_for c) → length codes ≡ 23 * code_count (kind_for c) (count_for c)
    → length ((parts_of c).numbers ++ (address ++ codes)) ≡ need (command_lines (kind_for c) (count_for c))
numbers_all c address codes h k = length-append (parts_of c).numbers (address ++ codes) ∙ omega (arith, length-append address codes, h, k, numbers_long c, rows.whole_need (kind_for c) (count_for c))

-- the numbers that no answer is about have their bits
bits_held : (c : Command) (address codes : List ℕ) → Typed c address → length address ≡ address_count (kind_for c) (count_for c) → fine 0 (table_for c) (values_for c address codes) ≡ true
unfolding table_for numbers_for fine fill
bits_held c address codes t n =
    let f = kind_for c in
    let k = count_for c in
    let m = address_count f k in
    ap (λ (ts : List Line). fine 0 ts (fill ts ((parts_of c).numbers ++ (address ++ codes)))) (rows.whole f k)
    ∙ shaped_fine (row_for f) k m (code_count f k) (parts_of c).numbers address codes (numbers_long c) n 0
    ∙ and_yes _ t.numbers_held ∙ and_yes _ (unmet_fine 0 (count_line (row_for f).counting k) _ (all_count (unmet 0) (row_for f).counting k refl))
    ∙ and_yes _ (octets_fine m address t.address_held) ∙ unmet_fine 0 (times (code_count f k) code) _ (all_times (unmet 0) (code_count f k) code code_unmet)

-- the count stands in its line
count_stands : (s : Counting) (k : ℕ) (l : List ℕ) (p : ℕ) → count_by s k 0 ≡ k → fine 26 (count_line s k) (decode (count_line s k) l p) ≡ true → count_by s (at l p 8) 0 ≡ k
unfolding fine decode run inside
count_stands counting.Fixed k l p e h = e
count_stands counting.Counted k l p e h =
    let a = and_left ((leb k (at l p 8) && leb (at l p 8) k) && true) true h in
    let b = and_both (leb k (at l p 8)) (leb (at l p 8) k) (and_left (leb k (at l p 8) && leb (at l p 8) k) true a) in
    omega (arith, leb-true (at l p 8) k b.1, leb-true k (at l p 8) b.0)
count_stands counting.Raw k l p e h = e
count_stands counting.Unknown k l p e h = e

count_at : (f : Kind) (k : ℕ) (l : List ℕ) → count_by (row_for f).counting k 0 ≡ k → fine 26 (command_lines f k) (decode (command_lines f k) l 0) ≡ true → count_in (row_for f) l 24 0 ≡ k
unfolding command_lines content_lines fine decode
count_at f k l e h =
    let B = (row_for f).before in
    let L = count_line (row_for f).counting k in
    let R = times k (row_for f).each ++ (row_for f).after in
    let x = and_right (line_ok 26 (just 8 (tag_of f)) (run l 0 1 8)) _ h in
    let y = and_right (line_ok 26 (just 16 (content_bytes f k)) (run l 8 1 16)) (fine 26 (B ++ (L ++ R)) (decode (B ++ (L ++ R)) l 24)) x in
    let z = and_right (fine 26 B (decode B l 24)) _ (sym (fine_append 26 B (L ++ R) l 24) ∙ y) in
    count_stands (row_for f).counting k l (24 + size B) e (and_left (fine 26 L (decode L l (24 + size B))) _ (sym (fine_append 26 L R l (24 + size B)) ∙ z))

-- all numbers of a command's bits, part by part
pub numbers_of : (f : Kind) (k : ℕ) (l : List ℕ)
    → flat (command_lines f k) (decode (command_lines f k) l 0)
    ≡ flat (row_for f).before (decode (row_for f).before l 24)
    ++ (flat (times (address_count f k) octet) (decode (times (address_count f k) octet) l (24 + part_at (row_for f)))
    ++ flat (times (code_count f k) code) (decode (times (code_count f k) code) l (24 + part_at (row_for f) + 8 * address_count f k)))
unfolding flat decode
numbers_of f k l = ap (λ (ts : List Line). flat ts (decode ts l 0)) (rows.whole f k) ∙ shaped_flat (row_for f) k (address_count f k) (code_count f k) l 24

-- where there is an address, its bytes stand behind the count
pub address_at : (f : Kind) (k : ℕ) (v : List ℕ) → Under 256 v → length v ≡ 3 + content_bytes f k → (x : List ℕ) (y : List ℕ) → length x ≡ need (row_for f).before → length y ≡ address_count f k → (z : List ℕ)
    → flat (command_lines f k) (decode (command_lines f k) (bits v) 0) ≡ x ++ (y ++ z) → take (address_count f k) (drop 4 v) ≡ y
address_at f k v u n x y p q z e = by_test (eqb (amounts_of f).address_each 0) none some
  where
    none : eqb (amounts_of f).address_each 0 ≡ true → take (address_count f k) (drop 4 v) ≡ y
    none h =
        let m : address_count f k ≡ 0 = ap (λ (a : ℕ). a * k) (eqb-true (amounts_of f).address_each 0 h) ∙ zero-mul k in
        ap (λ (i : ℕ). take i (drop 4 v)) m ∙ sym (nil_of y (q ∙ m))

    some : eqb (amounts_of f).address_each 0 ≡ false → take (address_count f k) (drop 4 v) ≡ y
    some h =
        let m = address_count f k in
        let B = (row_for f).before in
        let O = times m octet in
        let g : part_at (row_for f) ≡ 8 = eqb-true (part_at (row_for f)) 8 (sym (or_no _ h) ∙ rows.address_place f) in
        let w : 24 + part_at (row_for f) ≡ 8 * 4 = omega (arith, g) in
        let i = (cut (flat B (decode B (bits v) 24)) x _ (y ++ z) (length_flat B (bits v) 24 ∙ sym p) (sym (numbers_of f k (bits v)) ∙ e)).1 in
        let j = (cut (flat O (decode O (bits v) (24 + part_at (row_for f)))) y _ z (length_flat O (bits v) (24 + part_at (row_for f)) ∙ octets_need m ∙ sym q) i).0 in
        sym (run_bytes v 4 m u (omega (arith, n, g, rows.content_size_lem f k))) ∙ sym (octets_at v m (8 * 4)) ∙ ap (λ (c : ℕ). flat O (decode O (bits v) c)) (sym w) ∙ j

module _ (c : Command) (address codes : List ℕ) (a : Taken c address codes) (t : Typed c address) where
  abbrev f : Kind
  f = kind_for c

  abbrev k : ℕ
  k = count_for c

  abbrev ts : List Line
  ts = command_lines f k

  abbrev xs : List ℕ
  xs = (parts_of c).numbers ++ (address ++ codes)

  abbrev b : List ℕ
  b = bytes (encode ts (fill ts xs))

  xs_long : length xs ≡ need ts
  xs_long = numbers_all c address codes a.address_long a.codes_long

  fits : Fits ts (fill ts xs)
  unfolding table_for numbers_for
  fits =
      fits_fill ts xs xs_long (rows.all_tight f k a.few)
      record { c0 = bits_held c address codes t a.address_long; c24 = given_fine 24 ts xs (rows.all_24 f k); c25 = a.c25; c26 = given_fine 26 ts xs (rows.all_26 f k); c27 = a.c27 }

  bits_long : length (encode ts (fill ts xs)) ≡ 8 * size_for c
  bits_long = encode_long ts (fill ts xs) fits ∙ rows.whole_size f k

  pub long : length b ≡ size_for c
  long = length_run (encode ts (fill ts xs)) 0 (length (encode ts (fill ts xs)) / 8) 8 ∙ omega (arith, bits_long)

  pub under : Under 256 b
  under = under_run (encode ts (fill ts xs)) 0 (length (encode ts (fill ts xs)) / 8) 8 (under_encode ts (fill ts xs))

  back : decode ts (bits b) 0 ≡ fill ts xs
  back = read_write ts (fill ts xs) fits (omega (arith, rows.whole_size f k))

  tag_is : at (bits b) 0 8 ≡ tag_of f
  unfolding command_lines decode fill run
  tag_is = ap (λ (vs : List (List ℕ)). get_or (get_or vs 0 []) 0 0) back

  length_is : length_in b ≡ content_bytes f k
  unfolding command_lines decode fill run
  length_is = ap (λ (vs : List (List ℕ)). get_or (get_or vs 1 []) 0 0) back

  kind_is : kind_in b ≡ f
  kind_is = ap kind_of tag_is ∙ rows.kind_back f

  count_is : count_of b ≡ k
  unfolding count_of
  count_is =
      ap (λ (g : Kind). count_in (row_for g) (bits b) 24 0) kind_is
      ∙ count_at f k (bits b) (count_own c) (ap (fine 26 ts) back ∙ given_fine 26 ts xs (rows.all_26 f k))

  table_is : table_of b ≡ ts
  unfolding table_of
  table_is = ap₂ command_lines kind_is count_is

  values_are : values_in b ≡ fill ts xs
  values_are = ap (λ (l : List Line). decode l (bits b) 0) table_is ∙ back

  same_fine : (n : ℕ) → fine n ts (fill ts xs) ≡ true → not (fine n (table_of b) (values_in b)) ≡ false
  same_fine n h = ap not (ap₂ (fine n) table_is values_are ∙ h)

  numbers_are : numbers_in b ≡ xs
  unfolding numbers_in
  numbers_are = ap₂ flat table_is values_are ∙ flat_fill ts xs xs_long

  command_is : command_in b ≡ c
  unfolding command_in
  command_is = ap₂ (λ (g : Kind) (n : ℕ). command_of g (numbers_in b) n) kind_is count_is ∙ ap (λ (l : List ℕ). command_of f l k) numbers_are ∙ command_back c (address ++ codes)

  codes_are : codes_in b ≡ codes
  unfolding codes_in
  codes_are =
      ap₂ (λ (g : Kind) (n : ℕ). drop (need (row_for g).before + address_count g n) (numbers_in b)) kind_is count_is
      ∙ ap (drop (need (row_for f).before + address_count f k)) numbers_are
      ∙ sym (drop-drop (address_count f k) (need (row_for f).before) xs)
      ∙ ap (drop (address_count f k)) (drop_at (parts_of c).numbers (address ++ codes) (need (row_for f).before) (numbers_long c))
      ∙ drop_at address codes (address_count f k) a.address_long

  pub answer_is : read_answer b ≡ 0
  unfolding read_answer length_bad reading.field_bad table_for numbers_for
  answer_is =
      pass 26 _ (le-ltb (length b) 3 (omega (arith, long)))
      ∙ pass 39 _ (ap is_unknown_kind kind_is ∙ a.known)
      ∙ pass 26 _ (ap not (and_yes _ (eq-eqb _ _ (long ∙ ap (λ (n : ℕ). 3 + n) (sym length_is))) ∙ eq-eqb _ _ (length_is ∙ sym (ap₂ content_bytes kind_is count_is))))
      ∙ pass 24 _ (same_fine 24 (given_fine 24 ts xs (rows.all_24 f k)))
      ∙ pass 25 _ (same_fine 25 a.c25)
      ∙ pass 27 _ (or_no _ (same_fine 27 a.c27) ∙ ap (λ (d : Command). no_day d) command_is ∙ a.day)
      ∙ none_left

  pub gives_back : GivesBack c address codes b
  unfolding opened address_of
  gives_back =
      record {
        all_read = ap (λ (n : ℕ). opened_by n b) answer_is ∙ ap₂ (λ (d : Command) (l : List ℕ). record { answer = 0; command = d; codes = padded 5865 l }) command_is codes_are;
        address_part =
            ap (λ (n : ℕ). part_by n 4 (address_count (kind_in b) (count_of b)) b) answer_is
            ∙ ap₂ (λ (g : Kind) (n : ℕ). take (address_count g n) (drop 4 b)) kind_is count_is
            ∙ address_at f k b under long (parts_of c).numbers address (numbers_long c) a.address_long codes (ap (flat ts) back ∙ flat_fill ts xs xs_long);
      }

pub write_answer : (c : Command) (address codes : List ℕ) (room : ℕ) → (written c address codes room).answer ≡ written_answer c address codes room
unfolding written
write_answer c address codes room = go (written_answer c address codes room)
  where
    go : (a : ℕ) → (written_by a (size_for c)).answer ≡ a
    go zero = refl
    go (suc a) = refl

-- ---- the theorem
-- Whatever command, address and codes the writer takes: of the bytes that it writes the reader gives the same back.
pub commands_come_back : (c : Command) (address codes out : List ℕ) → Typed c address → (written c address codes (length out)).answer ≡ 0
    → GivesBack c address codes (bytes_of c address codes out)
unfolding written command_output bytes_for table_for numbers_for
commands_come_back c address codes out t e =
    let h : written_answer c address codes (length out) ≡ 0 = sym (write_answer c address codes (length out)) ∙ e in
    let a = taken c address codes (length out) h in
    let b = bytes_for c address codes in
    let w : bytes_of c address codes out ≡ b = rw h (take_at b (drop (length b) out) (size_for c) (long c address codes a t)) in
    subst (λ (x : List ℕ). GivesBack c address codes x) (sym w) (gives_back c address codes a t)
