-- A packet that a reader accepts is written back from what was read. Assumes nothing.
use mathlib.Core.Path.{◌≡◌, refl, sym, ap, ap₂, ◌∙◌}
use mathlib.Core.Logic.{◌⊎◌, inl, inr}
use mathlib.Core.List.{List, [], ◌∷◌, ◌++◌, append-nil, append_assoc}
use mathlib.Core.Bool.{Bool, true, false, not, ◌&&◌, ◌||◌, cond, true≢false}
use Prim.Native.Nat.{ℕ, ◌+◌, ◌*◌, ◌-◌, ◌/◌, ◌≤◌}
use native.Mathlib.Nat.{zero-mul}
use native.Mathlib.Omega.{arith}
use lib.ListN.{length, take, drop, length-append, length-drop, take-append-drop}
use lib.Seq.{length-take-le, take_all, drop_at}
use borrow.Author.Tests.{le-leb, le-ltb, eq-eqb, ne_eqb}
use Rattle.laws.specs.Bits.{at, run, bits, bytes}
use Rattle.laws.specs.Scan.{all}
use Rattle.laws.proofs.Bits.{Under, at_small}
use Rattle.laws.proofs.Cases.{if_yes, if_no, and_yes, or_no}
use Rattle.laws.proofs.Refusals.{pass, stop, none_left}
use Rattle.format.specs.declared.Line.{Line}
use Rattle.format.specs.Format.{times, octets, size, encode, decode, need, fill, flat, inside, fine, unmet}
use Rattle.format.proofs.Tables.{unmet_fine, all_times, settled, fill_flat, length_flat, need_times, fine_append}
use Rattle.format.proofs.Round.{write_read}
use Rattle.packet.specs.declared.Kind.{Kind}
use Rattle.packet.specs.declared.Fields.{Fields}
use Rattle.packet.specs.Table.{type_of, content_bytes, row_of, count_line, content_lines, code, ending, packet}
use Rattle.packet.specs.Content.{kind_for, numbers_of, numbers_in, count_for, no_such_day}
use Rattle.packet.specs.Reading.{Opened, type_in, codes_in, kind_in, content_at, content_size, count_of, part_at, table_of, values_in, numbers_at, front_in, body_in, back_in, content_in, digits_in, zeros, padded, codes_of, has_entries, fields_of, read_answer, opened_by, opened, part_by, body_of}
use Rattle.packet.specs.Writing.{row_for, digits_before, digits_after, front_for, back_for, body_for, size_for, table_for, numbers_for, values_for, bytes_for, lent_bad, not_written, count_bad, digit_bad, other_type, body_lost, digits_lost, not_taken, written_answer, written_by, written, output_by, packet_output}
use Rattle.packet.proofs.Accepted.{Accepted, accepted}
use Rattle.packet.proofs.Column.{content_size_lem}
use Rattle.trips.proofs.Parts as parts
use Rattle.trips.proofs.Contents as contents
use Rattle.trips.proofs.Octets.{octets_at, run_bytes}
use Rattle.trips.proofs.Taken.{octet_size}
use Rattle.trips.proofs.Padded.{padded_is, take_padded, rest_zeros, inside_append, wider}
use Rattle.trips.proofs.EachKind.{count_for_lem, places, front_digits, back_digits}
use Rattle.packet.proofs.Good.{good}
use Rattle.packet.proofs.Contents.{kind_back, numbers_back, Repeated, entries, octet, nothing, repeated, entries_only}
use Rattle.trips.proofs.Accepted.{of_count, code_26, ending_26, heading, count_26, settled_table, table_25, digits_of, later_true, only_none, lent_right, body_right, entries_few, entries_count}
use Rattle.trips.proofs.Fitting.{nil_of}
use Rattle.trips.proofs.Answers.{read_answer_lem, write_answer}
use Rattle.trips.specs.Given.{lent_codes, lent_body}

module _ (b : List ℕ) (z : Accepted b) where
  kind_is : kind_for (content_in b) ≡ kind_in b
  kind_is = kind_back (kind_in b) (front_in b) (count_of b) z.known

  front_long : length (front_in b) ≡ need (row_of (kind_in b)).before
  unfolding front_in
  front_long = length_flat (row_of (kind_in b)).before (bits b) (content_at b)

  body_long : length (body_in b) ≡ count_of b * need (row_of (kind_in b)).each
  unfolding body_in
  body_long = length_flat (times (count_of b) (row_of (kind_in b)).each) (bits b) (content_at b + part_at (row_of (kind_in b))) ∙ need_times (count_of b) (row_of (kind_in b)).each

  back_long : length (back_in b) ≡ need (row_of (kind_in b)).after
  unfolding back_in
  back_long = length_flat (row_of (kind_in b)).after (bits b) _

  codes_long : length (codes_of b) ≡ codes_in b * 23
  unfolding codes_of
  codes_long = length_flat (times (codes_in b) code) (bits b) 24 ∙ parts.need_code (codes_in b)

  count_is : count_for (content_in b) (body_in b) ≡ count_of b
  count_is = count_for_lem (kind_in b) (front_in b) (body_in b) (bits b) (content_at b) (content_size b) (count_of b) z.known (of_count b) body_long

  size_is : size_for (fields_of b) (body_in b) ≡ length b
  unfolding size_for fields_of
  size_is =
      let e : content_bytes (kind_for (content_in b)) (count_for (content_in b) (body_in b)) ≡ content_size b = ap₂ content_bytes kind_is count_is ∙ z.bytes in
      omega (arith, e, z.least)

  table_is : table_for (fields_of b) (body_in b) ≡ table_of b
  unfolding table_for table_of fields_of
  table_is = ap₂ (λ (g : Kind) (k : ℕ). packet (row_of g) (type_in b) (size_for (fields_of b) (body_in b)) (codes_in b) k) kind_is count_is ∙ ap (λ (p : ℕ). packet (row_of (kind_in b)) (type_in b) p (codes_in b) (count_of b)) size_is

  -- ---- the digits beside the content
  spare_long : length (drop (numbers_in (kind_in b)) (front_in b)) ≡ need (row_of (kind_in b)).before - numbers_in (kind_in b)
  spare_long = length-drop (numbers_in (kind_in b)) (front_in b) ∙ ap (λ (n : ℕ). n - numbers_in (kind_in b)) front_long

  numbers_are : numbers_of (content_in b) ≡ take (numbers_in (kind_in b)) (front_in b)
  numbers_are = numbers_back (kind_in b) (front_in b) (count_of b) z.known (omega (arith, (good (kind_in b)).numbered, front_long))

  before_is : digits_before (content_in b) ≡ need (row_of (kind_in b)).before - numbers_in (kind_in b)
  before_is =
      ap₂ (λ (g : Kind) (xs : List ℕ). need (row_of g).before - length xs) kind_is numbers_are
      ∙ ap (λ (n : ℕ). need (row_of (kind_in b)).before - n) (length-take-le (numbers_in (kind_in b)) (front_in b) (omega (arith, (good (kind_in b)).numbered, front_long)))

  after_is : digits_after (content_in b) ≡ need (row_of (kind_in b)).after
  after_is = ap (λ (g : Kind). need (row_of g).after) kind_is

  front_is : front_for (content_in b) (padded 35 (digits_in b)) ≡ front_in b
  unfolding front_for
  front_is =
      let u = drop (numbers_in (kind_in b)) (front_in b) in
      let e : take (digits_before (content_in b)) (padded 35 (digits_in b)) ≡ u = ap (λ (n : ℕ). take n (padded 35 (digits_in b))) (before_is ∙ sym spare_long) ∙ take_padded 35 u (back_in b) (omega (arith, spare_long, back_long, (places (kind_in b)).1)) in
      ap₂ ◌++◌ numbers_are e ∙ take-append-drop (numbers_in (kind_in b)) (front_in b)

  back_is : back_for (content_in b) (padded 35 (digits_in b)) ≡ back_in b
  unfolding back_for
  back_is = ap (λ (n : ℕ). take n (padded 35 (digits_in b))) after_is ∙ by (places (kind_in b)).0
    where
      by : (need (row_of (kind_in b)).before ≡ numbers_in (kind_in b)) ⊎ (need (row_of (kind_in b)).after ≡ 0) → take (need (row_of (kind_in b)).after) (padded 35 (digits_in b)) ≡ back_in b
      by (inl e) =
          let n : drop (numbers_in (kind_in b)) (front_in b) ≡ [] = nil_of (drop (numbers_in (kind_in b)) (front_in b)) (omega (arith, spare_long, e)) in
          ap₂ (λ (m : ℕ) (xs : List ℕ). take m (padded 35 xs)) (sym back_long) (ap (λ (xs : List ℕ). xs ++ back_in b) n ∙ sym (append-nil (back_in b)))
          ∙ take_padded 35 (back_in b) [] (omega (arith, back_long, (places (kind_in b)).1))
      by (inr e) = ap (λ (m : ℕ). take m (padded 35 (digits_in b))) e ∙ sym (nil_of (back_in b) (omega (arith, back_long, e)))

  digits_long : length (digits_in b) ≡ digits_before (content_in b) + digits_after (content_in b)
  digits_long = length-append (drop (numbers_in (kind_in b)) (front_in b)) (back_in b) ∙ omega (arith, spare_long, back_long, before_is, after_is)

  digits_split : padded 35 (digits_in b) ≡ digits_in b ++ drop (length (digits_in b)) (zeros 35)
  digits_split = padded_is 35 (digits_in b) (omega (arith, digits_long, before_is, after_is, (places (kind_in b)).1))

  digits_over : inside 0 0 (drop (digits_before (content_in b) + digits_after (content_in b)) (padded 35 (digits_in b))) ≡ true
  digits_over =
      ap (λ (xs : List ℕ). inside 0 0 (drop (digits_before (content_in b) + digits_after (content_in b)) xs)) digits_split
      ∙ ap (inside 0 0) (drop_at (digits_in b) (drop (length (digits_in b)) (zeros 35)) (digits_before (content_in b) + digits_after (content_in b)) digits_long)
      ∙ rest_zeros 35 (length (digits_in b))

  -- ---- what follows the content
  end_at : 24 + 96 * codes_in b + size (content_lines (row_of (kind_in b)) (count_of b)) ≡ 8 * (length b - 74)
  end_at = omega (arith, z.right, z.least)

  ending_is : numbers_at ending b (24 + 96 * codes_in b + size (content_lines (row_of (kind_in b)) (count_of b)))
      ≡ at (bits b) (8 * (length b - 74)) 32 ∷ (run (bits b) (8 * (length b - 70)) 12 4 ++ run (bits b) (8 * (length b - 64)) 64 8)
  ending_is =
      let m = length b in
      let p1 : 8 * (m - 74) + 32 ≡ 8 * (m - 70) = omega (arith, z.least) in
      let p2 : 8 * (m - 74) + 80 ≡ 8 * (m - 64) = omega (arith, z.least) in
      ap (λ (x : ℕ). numbers_at ending b x) end_at ∙ parts.ending_flat (bits b) (8 * (m - 74))
      ∙ ap₂ (λ (x w : ℕ). at (bits b) (8 * (m - 74)) 32 ∷ (run (bits b) x 12 4 ++ run (bits b) w 64 8)) p1 p2

  -- ---- the numbers to be written are those that were read
  body_whole : body_for (content_in b) (body_in b) ≡ body_in b
  unfolding body_for
  body_whole =
      let e : count_for (content_in b) (body_in b) * need (row_for (content_in b)).each ≡ length (body_in b) = ap₂ (λ (k : ℕ) (g : Kind). k * need (row_of g).each) count_is kind_is ∙ sym body_long in
      take_all (count_for (content_in b) (body_in b) * need (row_for (content_in b)).each) (body_in b) (omega (arith, e))

  numbers_read : flat (table_of b) (values_in b) ≡ codes_of b ++ (front_in b ++ (body_in b ++ (back_in b ++ (at (bits b) (8 * (length b - 74)) 32 ∷ (run (bits b) (8 * (length b - 70)) 12 4 ++ run (bits b) (8 * (length b - 64)) 64 8)))))
  unfolding table_of codes_of front_in body_in back_in
  numbers_read =
      let g = row_of (kind_in b) in
      let k = count_of b in
      let l = bits b in
      let A = numbers_at g.before b (content_at b) in
      let B = numbers_at (times k g.each) b (content_at b + part_at g) in
      let D = numbers_at g.after b (content_at b + (part_at g + k * size g.each)) in
      let E = numbers_at ending b (content_at b + size (content_lines g k)) in
      parts.packet_flat g (type_in b) (length b) (codes_in b) k l
      ∙ ap (λ (x : List ℕ). numbers_at (times (codes_in b) code) b 24 ++ (x ++ E)) (parts.content_flat g k l (content_at b))
      ∙ ap (λ (x : List ℕ). numbers_at (times (codes_in b) code) b 24 ++ x) (append_assoc A (B ++ D) E ∙ ap (λ (x : List ℕ). A ++ x) (append_assoc B D E ∙ ap (λ (x : List ℕ). B ++ (D ++ x)) ending_is))

  numbers_is : numbers_for (fields_of b) (codes_of b) (body_in b) ≡ flat (table_of b) (values_in b)
  unfolding numbers_for fields_of
  numbers_is = rw (front_is, body_whole, back_is) (sym numbers_read)

  -- ---- no line is due 26
  fine_26 : fine 26 (table_of b) (values_in b) ≡ true
  unfolding table_of packet content_lines
  fine_26 =
      let g = row_of (kind_in b) in
      let k = count_of b in
      let l = bits b in
      let n = codes_in b in
      let f26 = contents.fair (kind_in b) in
      let L = count_line g.counting k in
      let M = times k g.each in
      let K = g.before ++ (L ++ (M ++ g.after)) in
      let p0 = 24 + size (times n code) in
      let c : fine 26 L (decode L l (p0 + size g.before)) ≡ true = ap (λ (x : ℕ). fine 26 L (decode L l (24 + x + size g.before))) (parts.size_code n) ∙ count_26 g l (content_at b) (content_size b) k (of_count b) in
      heading (type_in b) (length b - 2) n l (times n code ++ (K ++ ending)) refl (omega (arith, z.field)) refl
      (fine_append 26 (times n code) (K ++ ending) l 24 ∙ and_yes _ (unmet_fine 26 (times n code) _ (all_times (unmet 26) n code code_26))
      ∙ fine_append 26 K ending l p0
      ∙ ap₂ ◌&&◌
      (fine_append 26 g.before (L ++ (M ++ g.after)) l p0 ∙ and_yes _ (unmet_fine 26 g.before _ f26.unmet1)
      ∙ fine_append 26 L (M ++ g.after) l (p0 + size g.before) ∙ and_yes _ c
      ∙ fine_append 26 M g.after l (p0 + size g.before + size L) ∙ and_yes _ (unmet_fine 26 M _ (all_times (unmet 26) k g.each f26.unmet2)) ∙ unmet_fine 26 g.after _ f26.unmet3)
      (unmet_fine 26 ending _ ending_26))

  -- ---- the values and the bytes
  values_is : values_for (fields_of b) (codes_of b) (body_in b) ≡ values_in b
  values_is =
      ap₂ fill table_is numbers_is ∙ fill_flat (table_of b) (bits b) 0 all_settled z.c24 fine_26 z.c27
    where
      all_settled : all settled (table_of b) ≡ true
      all_settled = settled_table b

  bytes_is : Under 256 b → bytes_for (fields_of b) (codes_of b) (body_in b) ≡ b
  unfolding bytes_for table_of
  bytes_is u =
      ap bytes (ap₂ encode table_is values_is) ∙ write_read (table_of b) b u (omega (arith, parts.size_packet (row_of (kind_in b)) (type_in b) (length b) (codes_in b) (count_of b), z.right, z.least))

  -- ---- the writer's cases
  part_25 : (fine 25 (row_of (kind_in b)).before (decode (row_of (kind_in b)).before (bits b) (content_at b)) ≡ true)
      × (fine 25 (row_of (kind_in b)).after (decode (row_of (kind_in b)).after (bits b) (content_at b + (part_at (row_of (kind_in b)) + count_of b * size (row_of (kind_in b)).each))) ≡ true)
  part_25 = parts.ends_fine 25 (row_of (kind_in b)) (type_in b) (length b) (codes_in b) (count_of b) (bits b) (table_25 b z.c25)

  digits_small : inside 0 9 (padded 35 (digits_in b)) ≡ true
  unfolding front_in back_in
  digits_small =
      ap (inside 0 9) digits_split
      ∙ inside_append 0 9 (digits_in b) (drop (length (digits_in b)) (zeros 35))
      (inside_append 0 9 (drop (numbers_in (kind_in b)) (front_in b)) (back_in b) (front_digits (kind_in b) (bits b) (content_at b) part_25.0) (back_digits (kind_in b) (bits b) _ part_25.1))
      (wider (drop (length (digits_in b)) (zeros 35)) (rest_zeros 35 (length (digits_in b))))

  no_23 : (type_in b ≡ 16 → ⊥) → not_written (fields_of b).typenumber ≡ false
  unfolding fields_of
  no_23 h = or_no _ (ne_eqb (type_in b) 16 h) ∙ z.known

  no_26 : count_bad (fields_of b) (codes_of b) (body_in b) ≡ false
  unfolding count_bad fields_of
  no_26 =
      let n : codes_in b ≤ 255 = omega (arith, at_small b 16 8 8 (omega arith)) in
      ap₂ ◌||◌ (ap not (ap₂ ◌&&◌ (le-leb (codes_in b) 255 n) (eq-eqb (length (codes_of b)) (codes_in b * 23) codes_long)))
      (ap₂ (λ (g : Kind) (k : ℕ). lent_bad (row_of g).counting k (need (row_of g).each) (length (body_in b))) kind_is count_is ∙ lent_right (row_of (kind_in b)) b (count_of b) (body_in b) (content_at b) (content_size b) (of_count b) body_long)

  no_25 : digit_bad (fields_of b) (codes_of b) (body_in b) ≡ false
  unfolding digit_bad
  no_25 = ap₂ ◌||◌ (ap not (ap₂ (fine 25) table_is values_is ∙ z.c25)) (ap not digits_right)
    where
      digits_right : inside 0 9 (fields_of b).digits ≡ true
      digits_right = digits_of b digits_small

  no_27 : (type_in b ≡ 1 → codes_in b ≡ 0) → not_taken (fields_of b) (codes_of b) (body_in b) ≡ false
  unfolding not_taken fields_of
  no_27 h =
      ap₂ ◌||◌ (ap not (eq-eqb (type_of (kind_in b)) (type_of (kind_for (content_in b))) (ap type_of (sym kind_is))))
      (ap₂ ◌||◌ (ap (λ (g : Kind). body_lost (row_of g).counting (length (body_in b))) kind_is ∙ body_right (row_of (kind_in b)) b (count_of b) (body_in b) (content_at b) (content_size b) (of_count b) body_long)
      (ap₂ ◌||◌ (ap not digits_over)
      (ap₂ ◌||◌ (only_none (type_in b) (codes_in b) h)
      (ap₂ ◌||◌ (ap not (ap₂ (fine 27) table_is values_is ∙ z.c27)) z.day))))

  answer_is : (room : ℕ) → length b ≤ room → (type_in b ≡ 1 → codes_in b ≡ 0) → (type_in b ≡ 16 → ⊥) → written_answer (fields_of b) (codes_of b) (body_in b) room ≡ 0
  unfolding written_answer
  answer_is room r h k =
      pass 23 _ (no_23 k) ∙ pass 26 _ no_26 ∙ pass 25 _ no_25 ∙ pass 27 _ (no_27 h)
      ∙ pass 20 _ (le-ltb 250 (size_for (fields_of b) (body_in b)) (omega (arith, size_is, z.most)))
      ∙ pass 10 [] (le-ltb room (size_for (fields_of b) (body_in b)) (omega (arith, size_is))) ∙ none_left

  refused_is : (room : ℕ) → type_in b ≡ 1 → (codes_in b ≡ 0 → ⊥) → written_answer (fields_of b) (codes_of b) (body_in b) room ≡ 27
  unfolding written_answer not_taken fields_of
  refused_is room k n =
      pass 23 _ (no_23 (λ h. omega arith)) ∙ pass 26 _ no_26 ∙ pass 25 _ no_25
      ∙ stop 27 _ (later_true (other_type (fields_of b)) _ (later_true (body_lost (row_for (content_in b)).counting (length (body_in b))) _ (later_true (digits_lost (content_in b) (padded 35 (digits_in b))) _ (ap₂ (λ (x y : Bool). (x && not y) || (not (fine 27 (table_for (fields_of b) (body_in b)) (values_for (fields_of b) (codes_of b) (body_in b))) || no_such_day (content_in b))) (eq-eqb (type_in b) 1 k) (ne_eqb (codes_in b) 0 n)))))

  -- ---- what is lent for what was read
  codes_lent : take (codes_in b * 23) (padded 322 (codes_of b)) ≡ codes_of b
  codes_lent =
      ap₂ (λ (n : ℕ) (xs : List ℕ). take n (padded 322 xs)) (sym codes_long) (sym (append-nil (codes_of b)))
      ∙ take_padded 322 (codes_of b) [] (omega (arith, codes_long, z.least, z.most))

  entries_lent : has_entries (kind_in b) ≡ true → take (length (body_in b)) (padded 272 (body_in b)) ≡ body_in b
  entries_lent h =
      ap (λ (xs : List ℕ). take (length (body_in b)) (padded 272 xs)) (sym (append-nil (body_in b)))
      ∙ take_padded 272 (body_in b) [] (entries_few (kind_in b) (count_of b) (body_in b) (content_size b) (entries_only (kind_in b) h) z.right body_long (omega (arith, z.most)))

  part_lent : Under 256 b → has_entries (kind_in b) ≡ false → take (count_of b) (drop (3 + 12 * codes_in b + part_at (row_of (kind_in b)) / 8) b) ≡ body_in b
  unfolding body_in
  part_lent u h = by (repeated (kind_for (content_in b)))
    where
      by : Repeated (kind_for (content_in b)) → take (count_of b) (drop (3 + 12 * codes_in b + part_at (row_of (kind_in b)) / 8) b) ≡ numbers_at (times (count_of b) (row_of (kind_in b)).each) b (content_at b + part_at (row_of (kind_in b)))
      by (entries e s) = absurd (true≢false (sym (ap has_entries (sym kind_is) ∙ e) ∙ h))
      by (nothing e r c) =
          let k0 : count_of b ≡ 0 = sym count_is ∙ c _ (length (body_in b)) in
          ap (λ (k : ℕ). take k (drop (3 + 12 * codes_in b + part_at (row_of (kind_in b)) / 8) b)) k0
          ∙ sym (nil_of _ (length_flat (times (count_of b) (row_of (kind_in b)).each) (bits b) (content_at b + part_at (row_of (kind_in b))) ∙ need_times (count_of b) (row_of (kind_in b)).each ∙ ap (λ (k : ℕ). k * need (row_of (kind_in b)).each) k0 ∙ zero-mul (need (row_of (kind_in b)).each)))
      by (octet e r) =
          let k = count_of b in
          let s = 3 + 12 * codes_in b + part_at (row_of (kind_in b)) / 8 in
          let g = contents.fair (kind_in b) in
          let r1 : (row_of (kind_in b)).each ≡ octets 1 ∷ [] = ap (λ (f : Kind). (row_of f).each) (sym kind_is) ∙ r in
          let p : content_at b + part_at (row_of (kind_in b)) ≡ 8 * s = omega (arith, g.even1) in
          let m : k * size (row_of (kind_in b)).each ≡ k * 8 = ap (λ (x : ℕ). k * x) (ap size r1 ∙ octet_size) in
          let i : s + k ≤ length b = omega (arith, z.right, z.least, content_size_lem (row_of (kind_in b)) k, g.even1, m) in
          sym (ap₂ (λ (T : List Line) (x : ℕ). numbers_at (times k T) b x) r1 p ∙ octets_at b k (8 * s) ∙ run_bytes b s k u i)

-- ---- the theorem
module _ (b : List ℕ) (u : Under 256 b) (e : read_answer b ≡ 0) where
  acc : Accepted b
  acc = accepted b e

  open_is : opened b ≡ opened_by 0 b
  unfolding opened
  open_is = ap (λ (a : ℕ). opened_by a b) e

  fields_are : (opened b).fields ≡ fields_of b
  fields_are = ap (λ (o : Opened). o.fields) open_is

  lent_codes_lem : lent_codes (opened b) ≡ codes_of b
  unfolding fields_of
  lent_codes_lem = ap lent_codes open_is ∙ codes_lent b acc

  lent_body_lem : lent_body (opened b) (body_of b) ≡ body_in b
  unfolding fields_of body_of
  lent_body_lem = ap (λ (o : Opened). lent_body o (body_of b)) open_is ∙ ap (λ (a : ℕ). lent_body (opened_by 0 b) (part_by a (3 + 12 * codes_in b + part_at (row_of (kind_in b)) / 8) (cond (has_entries (kind_in b)) 0 (count_of b)) b)) e ∙ by (has_entries (kind_in b)) refl
    where
      by : (t : Bool) → has_entries (kind_in b) ≡ t → lent_body (opened_by 0 b) (part_by 0 (3 + 12 * codes_in b + part_at (row_of (kind_in b)) / 8) (cond (has_entries (kind_in b)) 0 (count_of b)) b) ≡ body_in b
      by true h =
          let c1 : has_entries (kind_for (content_in b)) ≡ true = ap has_entries (kind_is b acc) ∙ h in
          if_yes (take (count_for (content_in b) [] * 8) (padded 272 (cond (has_entries (kind_in b)) (body_in b) []))) _ c1
          ∙ ap (λ (xs : List ℕ). take (count_for (content_in b) [] * 8) (padded 272 xs)) (if_yes (body_in b) [] h)
          ∙ ap (λ (n : ℕ). take n (padded 272 (body_in b))) (entries_count (kind_in b) (front_in b) (count_of b) (body_in b) (entries_only (kind_in b) h) (body_long b acc))
          ∙ entries_lent b acc h
      by false h =
          let c1 : has_entries (kind_for (content_in b)) ≡ false = ap has_entries (kind_is b acc) ∙ h in
          if_no (take (count_for (content_in b) [] * 8) (padded 272 (cond (has_entries (kind_in b)) (body_in b) []))) _ c1
          ∙ ap (λ (n : ℕ). take n (drop (3 + 12 * codes_in b + part_at (row_of (kind_in b)) / 8) b)) (if_no 0 (count_of b) h) ∙ part_lent b acc u h

-- Every packet that a reader accepts, but type 1 with codes and type 16, is written back byte for byte from what was read, its length handed back; the
-- rest of the output stays.
pub bytes_come_back : (b out : List ℕ) → Under 256 b → (opened b).answer ≡ 0 → length b ≤ length out → ((opened b).fields.typenumber ≡ 1 → (opened b).fields.codes ≡ 0) → ((opened b).fields.typenumber ≡ 16 → ⊥)
    → (written (opened b).fields (lent_codes (opened b)) (lent_body (opened b) (body_of b)) (length out) ≡ record { answer = 0; length = length b })
    × (packet_output (opened b).fields (lent_codes (opened b)) (lent_body (opened b) (body_of b)) out ≡ b ++ drop (length b) out)
unfolding written packet_output fields_of
bytes_come_back b out u e r h c =
    let a = sym (read_answer_lem b) ∙ e in
    let z = acc b u a in
    let g : type_in b ≡ 1 → codes_in b ≡ 0 = λ k. sym (ap (λ (f : Fields). f.codes) (fields_are b u a)) ∙ h (ap (λ (f : Fields). f.typenumber) (fields_are b u a) ∙ k) in
    let w = ap₂ (λ (f : Fields) (c : List ℕ). written_answer f c (lent_body (opened b) (body_of b)) (length out)) (fields_are b u a) (lent_codes_lem b u a) ∙ ap (λ (y : List ℕ). written_answer (fields_of b) (codes_of b) y (length out)) (lent_body_lem b u a) ∙ answer_is b z (length out) r g (λ k. c (ap (λ (f : Fields). f.typenumber) (fields_are b u a) ∙ k)) in
    let n = ap₂ size_for (fields_are b u a) (lent_body_lem b u a) ∙ size_is b z in
    let v = ap₂ (λ (f : Fields) (c : List ℕ). bytes_for f c (lent_body (opened b) (body_of b))) (fields_are b u a) (lent_codes_lem b u a) ∙ ap (λ (y : List ℕ). bytes_for (fields_of b) (codes_of b) y) (lent_body_lem b u a) ∙ bytes_is b z u in
    (ap₂ written_by w n, ap₂ (λ (m : ℕ) (xs : List ℕ). output_by m xs out) w v)

-- The first exception of demand 2: type 1 with codes is read, and the writer answers 27.
pub codes_refused : (b : List ℕ) (room : ℕ) → Under 256 b → (opened b).answer ≡ 0 → (opened b).fields.typenumber ≡ 1 → ((opened b).fields.codes ≡ 0 → ⊥)
    → (written (opened b).fields (lent_codes (opened b)) (lent_body (opened b) (body_of b)) room).answer ≡ 27
unfolding fields_of
codes_refused b room u e k n =
    let a = sym (read_answer_lem b) ∙ e in
    let f = fields_are b u a in
    write_answer (opened b).fields (lent_codes (opened b)) (lent_body (opened b) (body_of b)) room
    ∙ ap₂ (λ (f : Fields) (c : List ℕ). written_answer f c (lent_body (opened b) (body_of b)) room) f (lent_codes_lem b u a) ∙ ap (λ (y : List ℕ). written_answer (fields_of b) (codes_of b) y room) (lent_body_lem b u a)
    ∙ refused_is b (acc b u a) room (sym (ap (λ (f : Fields). f.typenumber) f) ∙ k) (λ z. n (ap (λ (f : Fields). f.codes) f ∙ z))
