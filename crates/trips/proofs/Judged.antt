-- Time and signature are never judged: packets that differ in nothing else have the same answer, and the rest of what is read is the same. Assumes nothing.
use mathlib.Core.Path.{◌≡◌, refl, sym, ap, ap₂, ◌∙◌}
use mathlib.Core.List.{List, [], ◌∷◌, ◌++◌, append_assoc}
use mathlib.Core.Logic.{◌⊎◌, inl, inr}
use mathlib.Core.Bool.{Bool, true, false, not, ◌&&◌, ◌||◌, cond}
use Prim.Native.Nat.{ℕ, zero, suc, ◌+◌, ◌*◌, ◌-◌, ◌/◌, ◌≤◌, ◌<◌}
use native.Mathlib.Omega.{arith}
use lib.ListN.{length, take, drop, length-append, length-drop, take-append-drop}
use lib.Seq.{length-take-le, take_at, drop_at, take-append-le, drop-append-le}
use lib.Dec.{leb, ltb, eqb}
use borrow.Author.Tests.{leb-true, leb-false, eqb-true, ne_eqb, not-false}
use Rattle.laws.specs.Bits.{at, run, bits}
use Rattle.laws.specs.Refusals.{first}
use Rattle.laws.proofs.Bits.{at_left, run_left, run_right, length_spread, spread_append}
use Rattle.laws.proofs.Cases.{and_both, or_both, and_no}
use Rattle.laws.proofs.Elements.{by_test}
use Rattle.laws.proofs.Refusals.{stop, pass}
use Rattle.format.specs.declared.Line.{Line}
use Rattle.format.specs.Format.{just, size, times, decode, flat, need, fill, inside, fine}
use Rattle.format.proofs.Tables.{size_append, size_times, need_append, fine_append, fine_join, fill_join, length_fill}
use Rattle.packet.specs.declared.Kind.{Kind}
use Rattle.packet.specs.Table.{Row, kind_of, content_bytes, row_of, count_in, content_lines, code, ending, packet}
use Rattle.packet.specs.declared.Fields.{Fields}
use Rattle.packet.specs.declared.Content.{Content}
use Rattle.packet.specs.Content.{content_of, numbers_in, count_for, no_such_day}
use Rattle.packet.specs.Reading.{type_in, length_in, codes_in, kind_in, content_at, content_size, count_of, count_size, part_at, table_of, values_in, numbers_at, front_in, body_in, back_in, content_in, digits_in, zeros, padded, codes_of, has_entries, fields_of, size_bad, length_bad, is_unknown, field_bad, read_cases, read_answer, opened_by, opened, part_by, body_of, text_answer, text_of}
use Rattle.packet.specs.Writing.{row_for, front_for, back_for, body_for, size_for, table_for, numbers_for, values_for, lent_bad, not_written, count_bad, digit_bad, other_type, body_lost, digits_lost, not_taken, written_answer, written_by, written}
use Rattle.packet.proofs.Column.{count_size_lem, content_size_lem, column}
use Rattle.packet.proofs.Accepted.{Accepted, accepted, right_size, body_inside, later, later_not, text_later, text_there}
use Rattle.packet.proofs.Refused.{no_part}
use Rattle.trips.proofs.Text.{is_body}
use Rattle.trips.specs.Given.{Alike, signed, unsigned}
use Rattle.trips.proofs.Parts.{size_code, need_code, content_need}
use Rattle.packet.specs.declared.Counting.{Counting}
use Rattle.packet.specs.declared.Counting.TheVariants as counting
use Rattle.packet.specs.Table.{count_by}
use Rattle.packet.specs.Content.{parts_of, kind_for}
use Rattle.packet.proofs.Lent.{one_each, bodied_by}
use Rattle.trips.proofs.Taken.{front_long, back_long}

-- ---- lines that end before the bits u do are read from u alone
decode_left : (ts : List Line) (u l : List ℕ) (p : ℕ) → p + size ts ≤ length u → decode ts (u ++ l) p ≡ decode ts u p
unfolding decode size
decode_left [] u l p h = refl
decode_left (t ∷ ts) u l p h =
    ap₂ (λ (v : List ℕ) (vs : List (List ℕ)). v ∷ vs) (run_left u l p t.count t.width (omega arith)) (decode_left ts u l (p + t.count * t.width) (omega arith))

-- ---- a count is read from the content, or there is none
counted : (f : Kind) → (count_size (row_of f).counting ≡ 8) ⊎ ((l m : List ℕ) (q n : ℕ) → count_in (row_of f) l q n ≡ count_in (row_of f) m q n)
counted f = by (row_of f).counting (λ l q. at l (q + size (row_of f).before) 8)
  where
    by : (s : Counting) (k : List ℕ → ℕ → ℕ) → (count_size s ≡ 8) ⊎ ((l m : List ℕ) (q n : ℕ) → count_by s (k l q) n ≡ count_by s (k m q) n)
    by counting.Fixed k = inr (λ l m q n. refl)
    by counting.Counted k = inl refl
    by counting.Raw k = inr (λ l m q n. refl)
    by counting.Unknown k = inr (λ l m q n. refl)

same_count : (f : Kind) (l m : List ℕ) (q n : ℕ) → at l (q + size (row_of f).before) 8 ≡ at m (q + size (row_of f).before) 8 → count_in (row_of f) l q n ≡ count_in (row_of f) m q n
same_count f l m q n e = ap (λ (k : ℕ). count_by (row_of f).counting k n) e

-- the content's lines are no fewer bits than what stands before its count, and the count
at_least : (r : Row) (k : ℕ) → size r.before + count_size r.counting ≤ size (content_lines r k)
unfolding part_at
at_least r k = omega (arith, content_size_lem r k, count_size_lem r.counting 0)

-- ---- the packet's last lines: time and signature are asked nothing
ends_alike : (a : ℕ) (x y z v w : List ℕ) → eqb 0 a ≡ false → fine a ending (x ∷ v ∷ y ∷ []) ≡ fine a ending (z ∷ v ∷ w ∷ [])
unfolding fine
ends_alike a x y z v w e = rw (e) refl

-- all lines of a packet but the last three
abbrev above : Row → ℕ → ℕ → ℕ → ℕ → List Line
above r t p n k = just 5 t ∷ just 11 (p - 2) ∷ just 8 n ∷ (times n code ++ content_lines r k)

above_ending : (r : Row) (t p n k : ℕ) → packet r t p n k ≡ above r t p n k ++ ending
unfolding packet
above_ending r t p n k = ap (λ (l : List Line). just 5 t ∷ just 11 (p - 2) ∷ just 8 n ∷ l) (sym (append_assoc (times n code) (content_lines r k) ending))

above_size : (r : Row) (t p n k : ℕ) → size (above r t p n k) ≡ 24 + 96 * n + size (content_lines r k)
unfolding size
above_size r t p n k = omega (arith, size_append (times n code) (content_lines r k), size_times n code)

-- ---- two packets of one length that are alike in all but time and signature
module _ (b c : List ℕ) (long : length b ≡ length c)
    (front : take (length b - 74) b ≡ take (length b - 74) c)
    (certificate : take 6 (drop (length b - 70) b) ≡ take 6 (drop (length b - 70) c)) where
  abbrev k : ℕ
  k = length b - 74

  -- the bits that come first
  abbrev u : List ℕ
  u = bits (take k b)

  u_long : length u ≡ 8 * k
  u_long = omega (arith, length_spread 8 (take k b), length-take-le k b (omega arith))

  in_b : bits b ≡ u ++ bits (drop k b)
  in_b = ap bits (sym (take-append-drop k b)) ∙ spread_append 8 (take k b) (drop k b)

  in_c : bits c ≡ u ++ bits (drop k c)
  in_c = ap bits (sym (take-append-drop k c)) ∙ spread_append 8 (take k c) (drop k c) ∙ ap (λ (l : List ℕ). bits l ++ bits (drop k c)) (sym front)

  same_at : (p w : ℕ) → p + w ≤ 8 * k → at (bits b) p w ≡ at (bits c) p w
  same_at p w h =
      let e = u_long in
      ap (λ (l : List ℕ). at l p w) in_b
      ∙ at_left u (bits (drop k b)) p w (omega arith)
      ∙ sym (at_left u (bits (drop k c)) p w (omega arith))
      ∙ ap (λ (l : List ℕ). at l p w) (sym in_c)

  same_lines : (ts : List Line) (p : ℕ) → p + size ts ≤ 8 * k → decode ts (bits b) p ≡ decode ts (bits c) p
  same_lines ts p h =
      let e = u_long in
      ap (λ (l : List ℕ). decode ts l p) in_b
      ∙ decode_left ts u (bits (drop k b)) p (omega arith)
      ∙ sym (decode_left ts u (bits (drop k c)) p (omega arith))
      ∙ ap (λ (l : List ℕ). decode ts l p) (sym in_c)

  module _ (h : 77 ≤ length b) where
    -- the certificate's digits, of a packet x of that length
    digits_in_lem : (x : List ℕ) → length x ≡ length b → run (bits x) (8 * k + 32) 12 4 ≡ run (bits (take 6 (drop (length b - 70) x))) 0 12 4
    digits_in_lem x e =
        let j = length b - 70 in
        let lu : length (bits (take j x)) ≡ 8 * j = omega (arith, length_spread 8 (take j x), length-take-le j x (omega arith)) in
        let v = drop j x in
        let lv : length (bits (take 6 v)) ≡ 48 = omega (arith, length_spread 8 (take 6 v), length-take-le 6 v (omega (arith, length-drop j x))) in
        let place : 8 * k + 32 ≡ length (bits (take j x)) + 0 = omega arith in
        ap (λ (p : ℕ). run (bits x) p 12 4) place
        ∙ ap (λ (l : List ℕ). run l (length (bits (take j x)) + 0) 12 4) (ap bits (sym (take-append-drop j x)) ∙ spread_append 8 (take j x) v)
        ∙ run_right (bits (take j x)) (bits v) 0 12 4
        ∙ ap (λ (l : List ℕ). run l 0 12 4) (ap bits (sym (take-append-drop 6 v)) ∙ spread_append 8 (take 6 v) (drop 6 v))
        ∙ run_left (bits (take 6 v)) (bits (drop 6 v)) 0 12 4 (omega arith)

    same_digits : run (bits b) (8 * k + 32) 12 4 ≡ run (bits c) (8 * k + 32) 12 4
    same_digits = digits_in_lem b refl ∙ ap (λ (l : List ℕ). run (bits l) 0 12 4) certificate ∙ sym (digits_in_lem c (sym long))

    type_same : type_in b ≡ type_in c
    type_same = same_at 0 5 (omega arith)

    codes : codes_in b ≡ codes_in c
    codes = same_at 16 8 (omega arith)

    kind : kind_in b ≡ kind_in c
    kind = ap kind_of type_same

    same_size : size_bad b ≡ size_bad c
    unfolding size_bad
    same_size =
        ap₂ (λ (l n : ℕ). not ((leb 77 (length b) && leb (length b) 250) && (eqb (length b) (l + 2) && leb (77 + 12 * n) (length b)))) (same_at 5 11 (omega arith)) codes
        ∙ ap (λ (p : ℕ). not ((leb 77 p && leb p 250) && (eqb p (length_in c + 2) && leb (77 + 12 * codes_in c) p))) long

    module _ (s : size_bad b ≡ false) where
      -- the content ends where the time begins
      room : content_at b + 8 * content_size b ≡ 8 * k
      unfolding size_bad
      room =
          let fits = (and_both (eqb (length b) (length_in b + 2)) (leb (77 + 12 * codes_in b) (length b))
          (and_both (leb 77 (length b) && leb (length b) 250) (eqb (length b) (length_in b + 2) && leb (77 + 12 * codes_in b) (length b)) (not-false _ s)).1).1 in
          omega (arith, leb-true (77 + 12 * codes_in b) (length b) fits)

      content_alike : content_size b ≡ content_size c
      content_alike = ap₂ (λ (p n : ℕ). p - 77 - 12 * n) long codes

      -- the count is the same once it is read from the same place
      count_from : count_in (row_of (kind_in b)) (bits b) (content_at b) (content_size b) ≡ count_in (row_of (kind_in b)) (bits c) (content_at b) (content_size b) → count_of b ≡ count_of c
      unfolding count_of
      count_from e =
          e
          ∙ ap (λ (f : Kind). count_in (row_of f) (bits c) (content_at b) (content_size b)) kind
          ∙ ap₂ (λ (n m : ℕ). count_in (row_of (kind_in c)) (bits c) (24 + 96 * n) m) codes content_alike

      -- a content too short for its count is too short whatever is read for it
      too_short : (x : List ℕ) → kind_in x ≡ kind_in b → content_size x ≡ content_size b → count_size (row_of (kind_in b)).counting ≡ 8
          → 8 * content_size b < size (row_of (kind_in b)).before + 8 → length_bad x ≡ true
      unfolding length_bad
      too_short x f m e less =
          let n = at_least (row_of (kind_in x)) (count_of x) in
          let w : size (row_of (kind_in x)).before ≡ size (row_of (kind_in b)).before = ap (λ (g : Kind). size (row_of g).before) f in
          let y : count_size (row_of (kind_in x)).counting ≡ 8 = ap (λ (g : Kind). count_size (row_of g).counting) f ∙ e in
          ap not (ne_eqb (content_bytes (kind_in x) (count_of x)) (content_size x) (λ (z : content_bytes (kind_in x) (count_of x) ≡ content_size x). omega (arith, column (kind_in x) (count_of x))))

      -- so the counts are the same, or both lengths are wrong
      counts : (count_of b ≡ count_of c) ⊎ ((length_bad b ≡ true) × (length_bad c ≡ true))
      counts = by_kind (counted (kind_in b))
        where
          by_kind : (count_size (row_of (kind_in b)).counting ≡ 8) ⊎ ((l m : List ℕ) (q n : ℕ) → count_in (row_of (kind_in b)) l q n ≡ count_in (row_of (kind_in b)) m q n)
              → (count_of b ≡ count_of c) ⊎ ((length_bad b ≡ true) × (length_bad c ≡ true))
          by_kind (inr g) = inl (count_from (g (bits b) (bits c) (content_at b) (content_size b)))
          by_kind (inl e) =
              by_test (leb (content_at b + size (row_of (kind_in b)).before + 8) (8 * k))
              (λ t. inl (count_from (same_count (kind_in b) (bits b) (bits c) (content_at b) (content_size b) (same_at (content_at b + size (row_of (kind_in b)).before) 8 (leb-true _ _ t)))))
              (λ t.
              let z = leb-false (content_at b + size (row_of (kind_in b)).before + 8) (8 * k) t in
              let r = room in
              inr (too_short b refl refl e (omega arith), too_short c (sym kind) (sym content_alike) e (omega arith)))

      module _ (count : count_of b ≡ count_of c) where
        same_length : length_bad b ≡ length_bad c
        unfolding length_bad
        same_length =
            ap₂ (λ (f : Kind) (n : ℕ). not (eqb (content_bytes f n) (content_size b))) kind count ∙ ap (λ (m : ℕ). not (eqb (content_bytes (kind_in c) (count_of c)) m)) content_alike

        same_table : table_of b ≡ table_of c
        unfolding table_of
        same_table =
            ap₂ (λ (t p : ℕ). packet (row_of (kind_of t)) t p (codes_in b) (count_of b)) type_same long
            ∙ ap₂ (λ (n m : ℕ). packet (row_of (kind_in c)) (type_in c) (length c) n m) codes count

        module _ (l : length_bad b ≡ false) where
          content_long : size (content_lines (row_of (kind_in b)) (count_of b)) ≡ 8 * content_size b
          content_long = right_size b l

          -- no line that is due a number is other
          same_fine : (a : ℕ) → eqb 0 a ≡ false → fine a (table_of b) (values_in b) ≡ fine a (table_of c) (values_in c)
          unfolding table_of decode
          same_fine a z =
              let H = above (row_of (kind_in b)) (type_in b) (length b) (codes_in b) (count_of b) in
              let n = above_size (row_of (kind_in b)) (type_in b) (length b) (codes_in b) (count_of b) in
              let r = room in
              let m = content_long in
              let q : 0 + size H ≡ 8 * k = omega arith in
              let split : (x : List ℕ) → fine a (table_of b) (decode (table_of b) (bits x) 0) ≡ (fine a H (decode H (bits x) 0) && fine a ending (decode ending (bits x) (8 * k))) =
              λ x. ap (λ (T : List Line). fine a T (decode T (bits x) 0)) (above_ending (row_of (kind_in b)) (type_in b) (length b) (codes_in b) (count_of b))
              ∙ fine_append a H ending (bits x) 0
              ∙ ap (λ (p : ℕ). fine a H (decode H (bits x) 0) && fine a ending (decode ending (bits x) p)) q in
              split b
              ∙ ap₂ ◌&&◌ (ap (fine a H) (same_lines H 0 (omega arith)))
              (ends_alike a (run (bits b) (8 * k) 1 32) (run (bits b) (8 * k + 32 + 48) 64 8) (run (bits c) (8 * k) 1 32) (run (bits b) (8 * k + 32) 12 4) (run (bits c) (8 * k + 32 + 48) 64 8) z
              ∙ ap (λ (v : List ℕ). fine a ending (run (bits c) (8 * k) 1 32 ∷ v ∷ run (bits c) (8 * k + 32 + 48) 64 8 ∷ [])) same_digits)
              ∙ sym (split c)
              ∙ ap (λ (T : List Line). fine a T (decode T (bits c) 0)) same_table

          same_front : front_in b ≡ front_in c
          unfolding front_in
          same_front =
              let r = room in
              let m = content_long in
              let n = at_least (row_of (kind_in b)) (count_of b) in
              ap (flat (row_of (kind_in b)).before) (same_lines (row_of (kind_in b)).before (content_at b) (omega arith))
              ∙ ap₂ (λ (f : Kind) (n : ℕ). flat (row_of f).before (decode (row_of f).before (bits c) (24 + 96 * n))) kind codes

          same_field : field_bad b ≡ field_bad c
          same_field =
              ap₂ (λ (x : Bool) (d : Bool). not x || d) (same_fine 27 refl)
              (ap no_such_day
              (ap₂ (λ (f : Kind) (xs : List ℕ). content_of f xs (count_of b)) kind same_front ∙ ap (content_of (kind_in c) (front_in c)) count))

          same_cases : read_cases b ≡ read_cases c
          same_cases =
              ap₂ (λ (x y : Bool). (x, 20) ∷ (y, 23) ∷ (length_bad b, 26) ∷ (not (fine 24 (table_of b) (values_in b)), 24) ∷ (not (fine 25 (table_of b) (values_in b)), 25) ∷ (field_bad b, 27) ∷ []) same_size (ap is_unknown kind)
              ∙ ap₂ (λ (x y : Bool). (size_bad c, 20) ∷ (is_unknown (kind_in c), 23) ∷ (x, 26) ∷ (not y, 24) ∷ (not (fine 25 (table_of b) (values_in b)), 25) ∷ (field_bad b, 27) ∷ []) same_length (same_fine 24 refl)
              ∙ ap₂ (λ (x y : Bool). (size_bad c, 20) ∷ (is_unknown (kind_in c), 23) ∷ (length_bad c, 26) ∷ (not (fine 24 (table_of c) (values_in c)), 24) ∷ (not x, 25) ∷ (y, 27) ∷ []) (same_fine 25 refl) same_field

      -- both lengths are wrong: 23 or 26
      both_wrong : length_bad b ≡ true → length_bad c ≡ true → read_answer b ≡ read_answer c
      unfolding read_answer
      both_wrong x y =
          by_test (is_unknown (kind_in b))
          (λ t. pass 20 _ s ∙ stop 23 _ t ∙ sym (pass 20 _ (sym same_size ∙ s) ∙ stop 23 _ (ap is_unknown (sym kind) ∙ t)))
          (λ t. pass 20 _ s ∙ pass 23 _ t ∙ stop 26 _ x ∙ sym (pass 20 _ (sym same_size ∙ s) ∙ pass 23 _ (ap is_unknown (sym kind) ∙ t) ∙ stop 26 _ y))

      sized_alike : read_answer b ≡ read_answer c
      unfolding read_answer
      sized_alike = by_count counts
        where
          by_count : (count_of b ≡ count_of c) ⊎ ((length_bad b ≡ true) × (length_bad c ≡ true)) → read_answer b ≡ read_answer c
          by_count (inr w) = both_wrong w.0 w.1
          by_count (inl e) =
              by_test (length_bad b)
              (λ t. both_wrong t (sym (same_length e) ∙ t))
              (λ t. ap first (same_cases e t))

  short_bad : (x : List ℕ) → length x < 77 → size_bad x ≡ true
  unfolding size_bad
  short_bad x h = ap not (and_no _ (and_no _ (lt_leb x h)))
    where
      lt_leb : (x : List ℕ) → length x < 77 → leb 77 (length x) ≡ false
      lt_leb x h = by_test (leb 77 (length x)) (λ t. absurd (omega (arith, leb-true 77 (length x) t))) (λ t. t)

  same_answer : read_answer b ≡ read_answer c
  unfolding read_answer
  same_answer =
      by_test (leb 77 (length b))
      (λ t.
      let h = leb-true 77 (length b) t in
      by_test (size_bad b)
      (λ s. stop 20 _ s ∙ sym (stop 20 _ (sym (same_size h) ∙ s)))
      (λ s. sized_alike h s))
      (λ t.
      let h = leb-false 77 (length b) t in
      stop 20 _ (short_bad b (omega arith)) ∙ sym (stop 20 _ (short_bad c (omega arith))))

  -- ---- what is read of them, where they are accepted
  module _ (z : Accepted b) (y : Accepted c) where
    tall : 77 ≤ length b
    tall = omega (arith, z.least)

    same_kind : kind_in b ≡ kind_in c
    same_kind = kind tall

    same_codes : codes_in b ≡ codes_in c
    same_codes = codes tall

    ended : content_at b + size (content_lines (row_of (kind_in b)) (count_of b)) ≡ 8 * k
    ended = omega (arith, z.right, z.least)

    counts_alike : count_of b ≡ count_of c
    unfolding count_of
    counts_alike =
        let n = at_least (row_of (kind_in b)) (count_of b) in
        let w = ended in
        by_count (counted (kind_in b)) n w
        ∙ ap (λ (f : Kind). count_in (row_of f) (bits c) (content_at b) (content_size b)) same_kind
        ∙ ap₂ (λ (n m : ℕ). count_in (row_of (kind_in c)) (bits c) (24 + 96 * n) m) same_codes (ap₂ (λ (p n : ℕ). p - 77 - 12 * n) long same_codes)
      where
        by_count : (count_size (row_of (kind_in b)).counting ≡ 8) ⊎ ((l m : List ℕ) (q n : ℕ) → count_in (row_of (kind_in b)) l q n ≡ count_in (row_of (kind_in b)) m q n)
            → size (row_of (kind_in b)).before + count_size (row_of (kind_in b)).counting ≤ size (content_lines (row_of (kind_in b)) (count_of b))
            → content_at b + size (content_lines (row_of (kind_in b)) (count_of b)) ≡ 8 * k
            → count_in (row_of (kind_in b)) (bits b) (content_at b) (content_size b) ≡ count_in (row_of (kind_in b)) (bits c) (content_at b) (content_size b)
        by_count (inr g) n w = g (bits b) (bits c) (content_at b) (content_size b)
        by_count (inl e) n w = same_count (kind_in b) (bits b) (bits c) (content_at b) (content_size b) (same_at (content_at b + size (row_of (kind_in b)).before) 8 (omega arith))

    -- lines that end before the time does give the same numbers
    same_numbers : (ts : List Line) (p : ℕ) → p + size ts ≤ 8 * k → numbers_at ts b p ≡ numbers_at ts c p
    same_numbers ts p h = ap (flat ts) (same_lines ts p h)

    parts_in : (size (row_of (kind_in b)).before ≤ size (content_lines (row_of (kind_in b)) (count_of b)))
        × (part_at (row_of (kind_in b)) + size (times (count_of b) (row_of (kind_in b)).each) ≤ size (content_lines (row_of (kind_in b)) (count_of b)))
        × (part_at (row_of (kind_in b)) + count_of b * size (row_of (kind_in b)).each + size (row_of (kind_in b)).after ≤ size (content_lines (row_of (kind_in b)) (count_of b)))
    parts_in =
        let n = content_size_lem (row_of (kind_in b)) (count_of b) in
        let m = size_times (count_of b) (row_of (kind_in b)).each in
        let w = at_least (row_of (kind_in b)) (count_of b) in
        (omega arith, omega arith, omega arith)

    fronts : front_in b ≡ front_in c
    unfolding front_in
    fronts =
        let e = ended in
        let i = parts_in.0 in
        same_numbers (row_of (kind_in b)).before (content_at b) (omega arith)
        ∙ ap₂ (λ (f : Kind) (n : ℕ). numbers_at (row_of f).before c (24 + 96 * n)) same_kind same_codes

    bodies : body_in b ≡ body_in c
    unfolding body_in
    bodies =
        let e = ended in
        let i = parts_in.1 in
        same_numbers (times (count_of b) (row_of (kind_in b)).each) (content_at b + part_at (row_of (kind_in b))) (omega arith)
        ∙ ap₂ (λ (f : Kind) (n : ℕ). numbers_at (times (count_of b) (row_of f).each) c (24 + 96 * n + part_at (row_of f))) same_kind same_codes
        ∙ ap (λ (n : ℕ). numbers_at (times n (row_of (kind_in c)).each) c (content_at c + part_at (row_of (kind_in c)))) counts_alike

    backs : back_in b ≡ back_in c
    unfolding back_in
    backs =
        let e = ended in
        let i = parts_in.2 in
        same_numbers (row_of (kind_in b)).after (content_at b + (part_at (row_of (kind_in b)) + count_of b * size (row_of (kind_in b)).each)) (omega arith)
        ∙ ap₂ (λ (f : Kind) (n : ℕ). numbers_at (row_of f).after c (24 + 96 * n + (part_at (row_of f) + count_of b * size (row_of f).each))) same_kind same_codes
        ∙ ap (λ (n : ℕ). numbers_at (row_of (kind_in c)).after c (content_at c + (part_at (row_of (kind_in c)) + n * size (row_of (kind_in c)).each))) counts_alike

    all_codes : codes_of b ≡ codes_of c
    unfolding codes_of
    all_codes =
        let s : size (times (codes_in b) code) ≡ 96 * codes_in b = size_code (codes_in b) in
        same_numbers (times (codes_in b) code) 24 (omega (arith, z.least)) ∙ ap (λ (n : ℕ). numbers_at (times n code) c 24) same_codes

    contents : content_in b ≡ content_in c
    contents = ap₂ (λ (f : Kind) (xs : List ℕ). content_of f xs (count_of b)) same_kind fronts ∙ ap (content_of (kind_in c) (front_in c)) counts_alike

    digits : digits_in b ≡ digits_in c
    digits = ap₂ (λ (f : Kind) (xs : List ℕ). drop (numbers_in f) xs ++ back_in b) same_kind fronts ∙ ap (λ (xs : List ℕ). drop (numbers_in (kind_in c)) (front_in c) ++ xs) backs

    certificates : run (bits b) (8 * (length b - 70)) 12 4 ≡ run (bits c) (8 * (length c - 70)) 12 4
    certificates =
        let p : 8 * (length b - 70) ≡ 8 * k + 32 = omega (arith, z.least) in
        ap (λ (q : ℕ). run (bits b) q 12 4) p ∙ same_digits tall ∙ ap (λ (q : ℕ). run (bits c) q 12 4) (sym p) ∙ ap (λ (n : ℕ). run (bits c) (8 * (n - 70)) 12 4) long

    fields_alike : signed (fields_of b) 0 (zeros 64) ≡ signed (fields_of c) 0 (zeros 64)
    unfolding fields_of
    fields_alike = rw (contents, digits, certificates, type_same tall, same_codes)

    opened_alike : unsigned (opened_by 0 b) ≡ unsigned (opened_by 0 c)
    opened_alike =
        ap₂ (λ (f : Fields) (xs : List ℕ). record { answer = 0; fields = f; codes = padded 322 xs; entries = padded 272 (cond (has_entries (kind_in b)) (body_in b) []) }) fields_alike all_codes
        ∙ ap₂ (λ (f : Kind) (xs : List ℕ). record { answer = 0; fields = signed (fields_of c) 0 (zeros 64); codes = padded 322 (codes_of c); entries = padded 272 (cond (has_entries f) xs []) }) same_kind bodies

-- a part that ends before the others differ
same_part : (n from m : ℕ) (b c : List ℕ) → take n b ≡ take n c → n ≤ length b → n ≤ length c → from + m ≤ n → take m (drop from b) ≡ take m (drop from c)
same_part n from m b c e hb hc h = one b hb ∙ ap (λ (l : List ℕ). take m (drop from l)) e ∙ sym (one c hc)
  where
    one : (x : List ℕ) → n ≤ length x → take m (drop from x) ≡ take m (drop from (take n x))
    one x g =
        let l = length-take-le n x g in
        ap (λ (y : List ℕ). take m (drop from y)) (sym (take-append-drop n x))
        ∙ ap (take m) (drop-append-le from (take n x) (drop n x) (omega arith))
        ∙ take-append-le m (drop from (take n x)) (drop n x) (omega (arith, length-drop from (take n x)))

-- Of packets of one length with the same bytes but for the time's four and the signature's 64, the reader gives the same answer and the same of all that is
-- read but time and signature, the same body and the same text with the same number: nothing there is ever judged.
pub never_judged : (b c : List ℕ) → Alike b c → (unsigned (opened b) ≡ unsigned (opened c)) × (body_of b ≡ body_of c) × (text_answer b ≡ text_answer c) × (text_of b ≡ text_of c)
unfolding opened body_of text_of
never_judged b c w = (go (read_answer b) refl, body (read_answer b) refl, text (read_answer b) refl, texts (text_answer b) refl)
  where
    e : read_answer b ≡ read_answer c
    e = same_answer b c w.long w.front w.certificate

    go : (a : ℕ) → read_answer b ≡ a → unsigned (opened b) ≡ unsigned (opened c)
    go zero h =
        let i = sym e ∙ h in
        ap (λ (n : ℕ). unsigned (opened_by n b)) h ∙ opened_alike b c w.long w.front w.certificate (accepted b h) (accepted c i) ∙ sym (ap (λ (n : ℕ). unsigned (opened_by n c)) i)
    go (suc a) h = ap (λ (n : ℕ). unsigned (opened_by n b)) h ∙ sym (ap (λ (n : ℕ). unsigned (opened_by n c)) (sym e ∙ h))

    text : (a : ℕ) → read_answer b ≡ a → text_answer b ≡ text_answer c
    text zero h =
        let t = tall b c w.long w.front w.certificate (accepted b h) (accepted c (sym e ∙ h)) in
        text_later b ∙ ap₂ (λ (n m : ℕ). later n (not (eqb m 15))) e (type_same b c w.long w.front w.certificate t) ∙ sym (text_later c)
    text (suc a) h =
        let n : (x : List ℕ) → read_answer x ≡ suc a → text_answer x ≡ suc a = λ x r. text_later x ∙ later_not (read_answer x) (not (eqb (type_in x) 15)) (λ (z : read_answer x ≡ 0). let y = sym r ∙ z in omega arith) ∙ r in
        n b h ∙ sym (n c (sym e ∙ h))

    -- where both are accepted: the same place and the same count, before the time
    body : (a : ℕ) → read_answer b ≡ a → body_of b ≡ body_of c
    body (suc a) h = no_part (read_answer b) _ _ b (λ (z : read_answer b ≡ 0). let y = sym h ∙ z in omega arith) ∙ sym (no_part (read_answer c) _ _ c (λ (z : read_answer c ≡ 0). let y = sym (sym e ∙ h) ∙ z in omega arith))
    body zero h =
        let i = sym e ∙ h in
        let z = accepted b h in
        let y = accepted c i in
        let f = same_kind b c w.long w.front w.certificate z y in
        let n = same_codes b c w.long w.front w.certificate z y in
        let m = counts_alike b c w.long w.front w.certificate z y in
        let from = 3 + 12 * codes_in b + part_at (row_of (kind_in b)) / 8 in
        let many = cond (has_entries (kind_in b)) 0 (count_of b) in
        ap (λ (a : ℕ). part_by a from many b) h
        ∙ same_part (length b - 74) from many b c w.front (omega arith) (omega (arith, w.long)) (omega (arith, body_inside b z))
        ∙ ap₂ (λ (g : Kind) (k : ℕ). take (cond (has_entries g) 0 (count_of b)) (drop (3 + 12 * k + part_at (row_of g) / 8) c)) f n
        ∙ ap (λ (k : ℕ). take (cond (has_entries (kind_in c)) 0 k) (drop (3 + 12 * codes_in c + part_at (row_of (kind_in c)) / 8) c)) m
        ∙ sym (ap (λ (a : ℕ). part_by a (3 + 12 * codes_in c + part_at (row_of (kind_in c)) / 8) (cond (has_entries (kind_in c)) 0 (count_of c)) c) i)

    texts : (a : ℕ) → text_answer b ≡ a → text_of b ≡ text_of c
    texts (suc a) h =
        let i = sym (text (read_answer b) refl) ∙ h in
        no_part (text_answer b) _ _ b (λ (z : text_answer b ≡ 0). let y = sym h ∙ z in omega arith) ∙ sym (no_part (text_answer c) _ _ c (λ (z : text_answer c ≡ 0). let y = sym i ∙ z in omega arith))
    texts zero h =
        let i = sym (text (read_answer b) refl) ∙ h in
        let x = text_there b h in
        let y = text_there c i in
        is_body b x.0 x.1 ∙ body (read_answer b) refl ∙ sym (is_body c y.0 y.1)

-- ---- the writer
-- as many of what is lent as the content counts, where the count is right
body_long : (c : Content) (body : List ℕ) → lent_bad (row_for c).counting (count_for c body) (need (row_for c).each) (length body) ≡ false → length (body_for c body) ≡ count_for c body * need (row_for c).each
unfolding body_for
body_long c body a = bodied_by (parts_of c).count (need (row_for c).each) body (row_for c).counting (one_each (kind_for c)) a

ending_values : (x : ℕ) (v y : List ℕ) → length v ≡ 12 → fill ending (x ∷ (v ++ y)) ≡ (x ∷ []) ∷ v ∷ take 64 y ∷ []
unfolding fill
ending_values x v y h = ap₂ (λ (p q : List ℕ). (x ∷ []) ∷ p ∷ take 64 q ∷ []) (take_at v y 12 h) (drop_at v y 12 h)

-- the numbers before the ending, of fields whose counts are right
module _ (f : Fields) (codes body : List ℕ) (digits_long : length f.digits ≡ 35) (certificate_long : length f.certificate ≡ 12) (t : ℕ) (s : List ℕ) where
  abbrev H : List Line
  H = above (row_for f.content) f.typenumber (size_for f body) f.codes (count_for f.content body)

  abbrev front : List ℕ
  front = codes ++ (front_for f.content f.digits ++ (body_for f.content body ++ back_for f.content f.digits))

  front_need : count_bad f codes body ≡ false → length front ≡ need H
  unfolding count_bad need
  front_need e =
      let c = f.content in
      let x = or_both (not (leb f.codes 255 && eqb (length codes) (f.codes * 23))) _ e in
      let n = eqb-true (length codes) (f.codes * 23) (and_both (leb f.codes 255) (eqb (length codes) (f.codes * 23)) (not-false _ x.0)).1 in
      let F = front_for c f.digits in
      let B = body_for c body in
      let K = back_for c f.digits in
      omega (arith, length-append codes (F ++ (B ++ K)), length-append F (B ++ K), length-append B K, n, front_long c f.digits digits_long, body_long c body x.1, back_long c f.digits digits_long, need_append (times f.codes code) (content_lines (row_for c) (count_for c body)), need_code f.codes, content_need (row_for c) (count_for c body))

  -- the lines of any fields like these, tested for an answer
  split : count_bad f codes body ≡ false → (a : ℕ) (x : ℕ) (y : List ℕ)
      → fine a (table_for f body) (values_for (signed f x y) codes body) ≡ (fine a H (fill H front) && fine a ending ((x ∷ []) ∷ f.certificate ∷ take 64 y ∷ []))
  unfolding table_for numbers_for size_for
  split e a x y =
      let c = f.content in
      let F = front_for c f.digits in
      let B = body_for c body in
      let K = back_for c f.digits in
      let z = x ∷ (f.certificate ++ y) in
      let re : codes ++ (F ++ (B ++ (K ++ z))) ≡ front ++ z = sym (append_assoc codes (F ++ (B ++ K)) z ∙ ap (λ (l : List ℕ). codes ++ l) (append_assoc F (B ++ K) z ∙ ap (λ (l : List ℕ). F ++ l) (append_assoc B K z))) in
      ap₂ (λ (T : List Line) (l : List ℕ). fine a T (fill T l)) (above_ending (row_for c) f.typenumber (size_for f body) f.codes (count_for c body)) re
      ∙ ap (fine a (H ++ ending)) (fill_join H ending front z (front_need e))
      ∙ fine_join a H ending (fill H front) (fill ending z) (length_fill H front)
      ∙ ap (λ (v : List (List ℕ)). fine a H (fill H front) && fine a ending v) (ending_values x f.certificate y certificate_long)

  lines_alike : count_bad f codes body ≡ false → (a : ℕ) → eqb 0 a ≡ false → fine a (table_for f body) (values_for f codes body) ≡ fine a (table_for f body) (values_for (signed f t s) codes body)
  lines_alike e a z =
      split e a f.time f.signature
      ∙ ap (λ (x : Bool). fine a H (fill H front) && x) (ends_alike a (f.time ∷ []) (take 64 f.signature) (t ∷ []) f.certificate (take 64 s) z)
      ∙ sym (split e a t s)

  answers_alike : (room : ℕ) → written_answer f codes body room ≡ written_answer (signed f t s) codes body room
  unfolding written_answer count_bad digit_bad not_taken table_for size_for
  answers_alike room =
      by_test (not_written f.typenumber)
      (λ x. stop 23 _ x ∙ sym (stop 23 _ x))
      (λ x.
      by_test (count_bad f codes body)
      (λ y. pass 23 _ x ∙ stop 26 _ y ∙ sym (pass 23 _ x ∙ stop 26 _ y))
      (λ y.
      let p = lines_alike y 25 refl in
      let q = lines_alike y 27 refl in
      ap₂ (λ (u v : Bool). first ((not_written f.typenumber, 23) ∷ (count_bad f codes body, 26) ∷ (not u || not (inside 0 9 f.digits), 25)
      ∷ (other_type f || (body_lost (row_for f.content).counting (length body) || (digits_lost f.content f.digits || ((eqb f.typenumber 1 && not (eqb f.codes 0)) || (not v || no_such_day f.content)))), 27)
      ∷ (ltb 250 (size_for f body), 20) ∷ (ltb room (size_for f body), 10) ∷ [])) p q))

-- Fields that differ only in time and signature have the same answer and length from the writer, whatever codes, body and room are lent.
pub never_judged_written : (f : Fields) (time : ℕ) (signature codes body : List ℕ) (room : ℕ) → length f.digits ≡ 35 → length f.certificate ≡ 12
    → written f codes body room ≡ written (signed f time signature) codes body room
unfolding written size_for
never_judged_written f t s codes body room d c = ap (λ (a : ℕ). written_by a (size_for f body)) (answers_alike f codes body d c t s room)
