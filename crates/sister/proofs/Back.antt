-- A command's bytes that a reader accepts are written back from what was read. Assumes nothing.
use mathlib.Core.Path.{◌≡◌, refl, sym, ap, ap₂, ◌∙◌}
use mathlib.Core.List.{List, [], ◌∷◌, ◌++◌, append-nil}
use mathlib.Core.Bool.{true, false, not, true≢false}
use Prim.Native.Nat.{ℕ, zero, suc, ◌+◌, ◌*◌, ◌≤◌, ◌<◌}
use native.Mathlib.Omega.{arith}
use lib.ListN.{length, take, drop, length-drop, take-append-drop}
use lib.Seq.{length-take-le, drop-drop}
use lib.Dec.{ltb, eqb}
use borrow.Author.Tests.{eqb-true, not-false, le-leb, le-ltb, eq-eqb}
use Rattle.laws.specs.Bits.{at, run, bits, bytes}
use Rattle.laws.proofs.Bits.{Under, at_small}
use Rattle.laws.proofs.Cases.{and_both, and_yes, or_both, or_no}
use Rattle.laws.proofs.Elements.{by_test}
use Rattle.laws.proofs.Refusals.{not_due, pass, none_left}
use Rattle.format.specs.declared.Line.{Line}
use Rattle.format.specs.Format.{just, times, size, need, encode, decode, fill, flat, inside, line_ok, fine, unmet}
use Rattle.format.proofs.Tables.{fine_append, fill_flat, length_flat, unmet_fine, all_append, all_times}
use Rattle.format.proofs.Round.{write_read}
use Rattle.packet.specs.declared.Counting.{Counting}
use Rattle.packet.specs.declared.Counting.TheVariants as counting
use Rattle.packet.specs.Table.{code, count_line, count_by, count_in}
use Rattle.packet.specs.Reading.{padded, part_by}
use Rattle.trips.proofs.Accepted.{count_26}
use Rattle.trips.proofs.Padded.{take_padded}
use Rattle.sister.specs.declared.Kind.{Kind}
use Rattle.sister.specs.declared.Command.{Command}
use Rattle.sister.specs.Table.{commands, tagged, kind_of, tag_of, is_unknown_kind, row_for, content_bytes, command_lines, address_count, code_count, Parts, parts_of, kind_for, count_for, no_day}
use Rattle.sister.specs.Reading as reading
use Rattle.sister.specs.Reading.{kind_in, tag_in, length_in, count_of, table_of, values_in, numbers_in, command_in, codes_in, length_bad, read_answer, opened_by, opened, address_of}
use Rattle.sister.specs.Writing.{size_for, table_for, numbers_for, values_for, bytes_for, count_bad, digit_bad, field_bad, written_answer, written, command_output}
use Rattle.sister.specs.Given.{lent_codes}
use Rattle.sister.proofs.Shape.{octet, firsts_are}
use Rattle.sister.proofs.Rows as rows
use Rattle.sister.proofs.There.{address_at}

-- ---- what a reader's 0 says
pub record Accepted (b : List ℕ) : Type 0 where
  pub known : is_unknown_kind (kind_in b) ≡ false
  pub whole : length b ≡ 3 + length_in b
  pub right : length_in b ≡ content_bytes (kind_in b) (count_of b)
  pub c24 : fine 24 (table_of b) (values_in b) ≡ true
  pub c25 : fine 25 (table_of b) (values_in b) ≡ true
  pub c27 : fine 27 (table_of b) (values_in b) ≡ true
  pub day : no_day (command_in b) ≡ false

pub accepted : (b : List ℕ) → read_answer b ≡ 0 → Accepted b
unfolding read_answer length_bad reading.field_bad
accepted b e =
    let a = not_due (ltb (length b) 3) 26 _ (λ h. omega arith) e in
    let k = not_due (is_unknown_kind (kind_in b)) 39 _ (λ h. omega arith) a.1 in
    let l = not_due _ 26 _ (λ h. omega arith) k.1 in
    let p = not_due _ 24 _ (λ h. omega arith) l.1 in
    let q = not_due _ 25 _ (λ h. omega arith) p.1 in
    let r = not_due _ 27 _ (λ h. omega arith) q.1 in
    let l1 = and_both (eqb (length b) (3 + length_in b)) _ (not-false _ l.0) in
    let r1 = or_both (not (fine 27 (table_of b) (values_in b))) (no_day (command_in b)) r.0 in
    record {
      known = k.0;
      whole = eqb-true _ _ l1.0;
      right = eqb-true _ _ l1.1;
      c24 = not-false _ p.0;
      c25 = not-false _ q.0;
      c27 = not-false _ r1.0;
      day = r1.1;
    }

-- ---- counts and tags
-- what is no count is 0, and stays it
count_twice : (s : Counting) (x : ℕ) → count_by s (count_by s x 0) 0 ≡ count_by s x 0
count_twice counting.Fixed x = refl
count_twice counting.Counted x = refl
count_twice counting.Raw x = refl
count_twice counting.Unknown x = refl

count_few : (s : Counting) (x : ℕ) → x < 256 → count_by s x 0 ≤ 255
count_few counting.Fixed x h = omega arith
count_few counting.Counted x h = omega arith
count_few counting.Raw x h = omega arith
count_few counting.Unknown x h = omega arith

pub count_small : (f : Kind) (b : List ℕ) → count_in (row_for f) (bits b) 24 0 ≤ 255
count_small f b = count_few (row_for f).counting _ (at_small b (24 + size (row_for f).before) 8 8 (omega arith))

tag_back : (t : ℕ) (fs : List Kind) → is_unknown_kind (tagged t fs) ≡ false → t ≡ tag_of (tagged t fs)
unfolding tagged
tag_back t [] h = absurd (true≢false h)
tag_back t (f ∷ fs) h = by_test (eqb t (tag_of f)) (λ a. rw a (eqb-true t (tag_of f) a)) (λ a. rw a (tag_back t fs (rw a at h)))

same_26 : (w x y : ℕ) → y ≡ x → line_ok 26 (just w x) (y ∷ []) ≡ true
unfolding inside
same_26 w x y e = rw (e, le-leb x x (omega arith))

lines_26 : (f : Kind) (k : ℕ) (l : List ℕ) → at l 0 8 ≡ tag_of f → at l 8 16 ≡ content_bytes f k → k ≡ count_in (row_for f) l 24 0 → fine 26 (command_lines f k) (decode (command_lines f k) l 0) ≡ true
unfolding fine decode run
lines_26 f k l t n c =
    let r = row_for f in
    let L = count_line r.counting k in
    let O = times (address_count f k) octet in
    let C = times (code_count f k) code in
    ap (λ (ts : List Line). fine 26 ts (decode ts l 0)) (rows.whole f k)
    ∙ and_yes _ (same_26 8 (tag_of f) (at l 0 8) t) ∙ and_yes _ (same_26 16 (content_bytes f k) (at l 8 16) n)
    ∙ fine_append 26 r.before (L ++ (O ++ C)) l 24 ∙ and_yes _ (unmet_fine 26 r.before _ (rows.first_26 f))
    ∙ fine_append 26 L (O ++ C) l (24 + size r.before) ∙ and_yes _ (count_26 r l 24 0 k c)
    ∙ unmet_fine 26 (O ++ C) _ (all_append (unmet 26) O C ∙ and_yes _ (all_times (unmet 26) (address_count f k) octet refl) ∙ all_times (unmet 26) (code_count f k) code refl)

module _ (b : List ℕ) (z : Accepted b) where
  abbrev f : Kind
  f = kind_in b

  abbrev k : ℕ
  k = count_of b

  abbrev ts : List Line
  ts = command_lines f k

  abbrev xs : List ℕ
  xs = numbers_in b

  abbrev n : ℕ
  n = need (row_for f).before

  abbrev m : ℕ
  m = address_count f k

  k_is : k ≡ count_in (row_for f) (bits b) 24 0
  unfolding count_of
  k_is = refl

  k_small : k ≤ 255
  k_small = omega (arith, k_is, count_small f b)

  xs_is : xs ≡ flat ts (decode ts (bits b) 0)
  unfolding numbers_in table_of
  xs_is = refl

  xs_long : length xs ≡ n + (m + 23 * code_count f k)
  xs_long = ap length xs_is ∙ length_flat ts (bits b) 0 ∙ rows.whole_need f k

  long : length b ≡ 3 + content_bytes f k
  long = z.whole ∙ ap (λ (x : ℕ). 3 + x) z.right

  kind_is : kind_for (command_in b) ≡ f
  unfolding command_in
  kind_is = ap (λ (p : Parts). p.kind) (rows.parts_back f xs k)

  count_is : count_for (command_in b) ≡ k
  unfolding command_in
  count_is = ap (λ (p : Parts). p.count) (rows.parts_back f xs k) ∙ ap (λ (x : ℕ). count_by (row_for f).counting x 0) k_is ∙ count_twice (row_for f).counting (at (bits b) (24 + size (row_for f).before) 8) ∙ sym k_is

  size_is : size_for (command_in b) ≡ length b
  size_is = ap₂ (λ (g : Kind) (x : ℕ). 3 + content_bytes g x) kind_is count_is ∙ sym long

  table_is : table_for (command_in b) ≡ ts
  unfolding table_for
  table_is = ap₂ command_lines kind_is count_is

  numbers_are : (parts_of (command_in b)).numbers ≡ take n xs
  unfolding command_in
  numbers_are = ap (λ (p : Parts). p.numbers) (rows.parts_back f xs k) ∙ firsts_are 0 n xs (omega (arith, xs_long))

  codes_long : length (codes_in b) ≡ 23 * code_count f k
  unfolding codes_in
  codes_long = length-drop (n + m) xs ∙ omega (arith, xs_long)

  codes_are : codes_in b ≡ drop m (drop n xs)
  unfolding codes_in
  codes_are = sym (drop-drop m n xs)

  address_is : Under 256 b → read_answer b ≡ 0 → address_of b ≡ take m (drop n xs)
  unfolding address_of
  address_is under e =
      let x = take n xs in
      let y = take m (drop n xs) in
      let x_long : length x ≡ n = length-take-le n xs (omega (arith, xs_long)) in
      let y_long : length y ≡ m = length-take-le m (drop n xs) (omega (arith, xs_long, length-drop n xs)) in
      ap (λ (a : ℕ). part_by a 4 m b) e
      ∙ address_at f k b under long x y x_long y_long (drop m (drop n xs))
      (sym xs_is ∙ sym (ap (λ (l : List ℕ). x ++ l) (take-append-drop m (drop n xs)) ∙ take-append-drop n xs))

  lent_are : take (23 * code_count (kind_for (command_in b)) (count_for (command_in b))) (padded 5865 (codes_in b)) ≡ codes_in b
  lent_are =
      ap₂ (λ (g : Kind) (x : ℕ). take (23 * code_count g x) (padded 5865 (codes_in b))) kind_is count_is
      ∙ ap₂ (λ (x : ℕ) (l : List ℕ). take x (padded 5865 l)) (sym codes_long) (sym (append-nil (codes_in b)))
      ∙ take_padded 5865 (codes_in b) [] (omega (arith, codes_long, (rows.places f k k_small).1))

  module _ (under : Under 256 b) (e : read_answer b ≡ 0) where
    abbrev c : Command
    c = command_in b

    all_numbers : numbers_for c (address_of b) (codes_in b) ≡ xs
    unfolding numbers_for
    all_numbers =
        ap₂ ◌++◌ numbers_are (ap₂ ◌++◌ (address_is under e) codes_are ∙ take-append-drop m (drop n xs)) ∙ take-append-drop n xs

    tag_is : is_unknown_kind (kind_in b) ≡ false → tag_in b ≡ tag_of (kind_in b)
    unfolding kind_of
    tag_is = tag_back (tag_in b) commands

    lines : fine 26 ts (decode ts (bits b) 0) ≡ true
    lines = lines_26 f k (bits b) (tag_is z.known) z.right k_is

    filled : fill ts xs ≡ decode ts (bits b) 0
    unfolding table_of
    filled = ap (fill ts) xs_is ∙ fill_flat ts (bits b) 0 (rows.all_settled f k) z.c24 lines z.c27

    values_are : values_for c (address_of b) (codes_in b) ≡ decode ts (bits b) 0
    values_are = ap₂ fill table_is all_numbers ∙ filled

    pub bytes_are : bytes_for c (address_of b) (codes_in b) ≡ b
    unfolding bytes_for
    bytes_are = ap₂ (λ (l : List Line) (vs : List (List ℕ)). bytes (encode l vs)) table_is values_are ∙ write_read ts b under (omega (arith, rows.whole_size f k, long))

    same_fine : (a : ℕ) → fine a ts (decode ts (bits b) 0) ≡ true → not (fine a (table_for c) (values_for c (address_of b) (codes_in b))) ≡ false
    same_fine a h = ap not (ap₂ (fine a) table_is values_are ∙ h)

    address_long : length (address_of b) ≡ address_count (kind_for c) (count_for c)
    address_long =
        ap length (address_is under e) ∙ length-take-le m (drop n xs) (omega (arith, xs_long, length-drop n xs)) ∙ sym (ap₂ address_count kind_is count_is)

    pub answer_is : (room : ℕ) → length b ≤ room → written_answer c (address_of b) (codes_in b) room ≡ 0
    unfolding written_answer count_bad digit_bad field_bad table_of
    answer_is room h =
        pass 39 _ (ap is_unknown_kind kind_is ∙ z.known)
        ∙ pass 26 _ (ap not (and_yes _ (le-leb (count_for c) 255 (omega (arith, count_is, k_small))) ∙ and_yes _ (eq-eqb _ _ address_long) ∙ eq-eqb _ _ (codes_long ∙ sym (ap₂ (λ (g : Kind) (x : ℕ). 23 * code_count g x) kind_is count_is))))
        ∙ pass 25 _ (same_fine 25 z.c25)
        ∙ pass 27 _ (or_no _ (same_fine 27 z.c27) ∙ z.day)
        ∙ pass 10 _ (le-ltb room (size_for c) (omega (arith, size_is, h)))
        ∙ none_left

opened_answer : (b : List ℕ) → (opened b).answer ≡ 0 → read_answer b ≡ 0
unfolding opened
opened_answer b h = sym (go (read_answer b)) ∙ h
  where
    go : (a : ℕ) → (opened_by a b).answer ≡ a
    go zero = refl
    go (suc a) = refl

-- the codes that were read are as many digits as the command has
pub lent_long : (b : List ℕ) → (opened b).answer ≡ 0 → length (lent_codes (opened b)) ≡ 23 * code_count (kind_for (opened b).command) (count_for (opened b).command)
unfolding opened
lent_long b h =
    let e = opened_answer b h in
    let z = accepted b e in
    rw e (ap length (lent_are b z) ∙ codes_long b z ∙ sym (ap₂ (λ (g : Kind) (x : ℕ). 23 * code_count g x) (kind_is b z) (count_is b z)))

-- ---- the theorem
-- Whatever bytes the reader accepts: of the command, the address and the codes that were read the writer writes them again, and nothing behind them.
pub command_bytes_come_back : (b out : List ℕ) → Under 256 b → (opened b).answer ≡ 0 → length b ≤ length out
    → (written (opened b).command (address_of b) (lent_codes (opened b)) (length out) ≡ record { answer = 0; length = length b })
    × (command_output (opened b).command (address_of b) (lent_codes (opened b)) out ≡ b ++ drop (length b) out)
unfolding opened written command_output
command_bytes_come_back b out u h r =
    let e = opened_answer b h in
    let z = accepted b e in
    let a = answer_is b z u e (length out) r in
    rw (e, lent_are b z, a, size_is b z, bytes_are b z u e) (refl, refl)
