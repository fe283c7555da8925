-- What a reader gives of the bytes that a writer wrote, part by part. Assumes nothing.
use mathlib.Core.Path.{◌≡◌, refl, sym, ap, ap₂, ◌∙◌}
use mathlib.Core.Logic.{◌⊎◌, inl, inr}
use mathlib.Core.List.{List, [], ◌∷◌, ◌++◌, append-nil, append_assoc}
use mathlib.Core.Bool.{true, false, not, ◌||◌, cond}
use Prim.Native.Nat.{ℕ, ◌+◌, ◌*◌, ◌-◌, ◌/◌, ◌≤◌}
use native.Mathlib.Nat.{zero-mul}
use native.Mathlib.Omega.{arith}
use lib.ListN.{length, take, drop, get_or, length-append}
use lib.Seq.{drop_at}
use borrow.Author.Tests.{le-leb, eq-eqb, lt-ltb}
use Rattle.laws.specs.Bits.{at, run, bits}
use Rattle.laws.specs.Scan.{all}
use Rattle.laws.proofs.Bits.{Under, length_run, under_run}
use Rattle.laws.proofs.Refusals.{pass, none_left}
use Rattle.format.specs.declared.Line.{Line}
use Rattle.format.specs.Format.{times, just, size, encode, decode, need, fill, flat, fine}
use Rattle.format.proofs.Tables.{flat_fill, given, given_fine, length_flat, need_times}
use Rattle.format.proofs.Round.{Fits, encode_long, under_encode, read_write}
use Rattle.packet.specs.declared.Kind.{Kind}
use Rattle.packet.specs.declared.Fields.{Fields}
use Rattle.packet.specs.Table.{kind_of, content_bytes, row_of, count_in, content_lines, code, ending, packet}
use Rattle.packet.specs.Content.{kind_for, numbers_of, numbers_in, count_for, no_such_day}
use Rattle.packet.specs.Reading.{type_in, length_in, codes_in, kind_in, content_at, content_size, count_of, part_at, table_of, values_in, numbers_at, front_in, body_in, back_in, content_in, digits_in, padded, codes_of, has_entries, fields_of, size_bad, length_bad, is_unknown, read_answer, opened, body_of}
use Rattle.packet.specs.Writing.{row_for, digits_before, digits_after, front_for, back_for, body_for, size_for, table_for, numbers_for, values_for, bytes_for}
use Rattle.packet.proofs.Column.{content_size_lem, column}
use Rattle.trips.specs.Given.{as_given}
use Rattle.trips.proofs.Parts as parts
use Rattle.trips.proofs.Octets.{octets_at, run_bytes}
use Rattle.trips.proofs.Fitting as fitting
use Rattle.packet.proofs.Contents as packet-contents
use Rattle.trips.proofs.Contents as contents
use Rattle.trips.proofs.EachKind.{one_place}
use Rattle.trips.proofs.Padded.{padded_take}
use Rattle.trips.proofs.Taken.{Taken, Fitted, type_small, lent_long, count_fits, front_long, back_long, whole_body, octet_size}

module _ (f : Fields) (codes body : List ℕ) (a : Taken f codes body) (y : Fitted f codes body) where
  body_long : length body ≡ count_for f.content body * need (row_for f.content).each
  body_long = lent_long f.content body a.lent a.body_kept

  body_whole : body_for f.content body ≡ body
  body_whole = whole_body f.content body body_long

  numbers_fit : length (numbers_for f codes body) ≡ need (table_for f body)
  unfolding numbers_for table_for
  numbers_fit =
      let c = f.content in
      let k = count_for c body in
      let l3 = f.time ∷ (f.certificate ++ f.signature) in
      let e1 = length-append codes (front_for c f.digits ++ (body_for c body ++ (back_for c f.digits ++ l3))) in
      let e2 = length-append (front_for c f.digits) (body_for c body ++ (back_for c f.digits ++ l3)) in
      let e3 = length-append (body_for c body) (back_for c f.digits ++ l3) in
      let e4 = length-append (back_for c f.digits) l3 in
      let e5 = length-append f.certificate f.signature in
      omega (arith, e1, e2, e3, e4, e5, a.codes_long, front_long c f.digits y.digits_long, back_long c f.digits y.digits_long, ap length body_whole, body_long, y.certificate_long, y.signature_long, parts.need_packet (row_for c) f.typenumber (size_for f body) f.codes k, parts.content_need (row_for c) k)

  size_right : size (table_for f body) ≡ 8 * size_for f body
  unfolding table_for size_for
  size_right =
      let c = f.content in
      let k = count_for c body in
      omega (arith, parts.size_packet (row_for c) f.typenumber (size_for f body) f.codes k, column (kind_for c) k)

  given_26 : (w x : ℕ) → given 26 (just w x) ≡ true
  given_26 w x = rw (eq-eqb x x refl)

  clean : fitting.Clean (table_for f body) (values_for f codes body)
  unfolding table_for
  clean =
      let c = f.content in
      let k = count_for c body in
      let r = row_for c in
      let g = contents.fair (kind_for c) in
      let p = size_for f body in
      record {
        c0 = y.bits_hold;
        c24 = given_fine 24 (packet r f.typenumber p f.codes k) (numbers_for f codes body) (parts.all_packet (given 24) r f.typenumber p f.codes k refl refl refl (parts.all_count (given 24) r.counting k refl) refl refl g.given1 g.given2 g.given3);
        c25 = a.c25;
        c26 = given_fine 26 (packet r f.typenumber p f.codes k) (numbers_for f codes body) (parts.all_packet (given 26) r f.typenumber p f.codes k (given_26 5 f.typenumber) (given_26 11 (p - 2)) (given_26 8 f.codes) (parts.all_count (given 26) r.counting k (given_26 8 k)) refl refl g.count1 g.count2 g.count3);
        c27 = a.c27;
      }

  fits : Fits (table_for f body) (values_for f codes body)
  unfolding table_for
  fits =
      let c = f.content in
      let k = count_for c body in
      let r = row_for c in
      let g = contents.fair (kind_for c) in
      let p = size_for f body in
      let t1 : fitting.tight (just 5 f.typenumber) ≡ true = rw (lt-ltb f.typenumber 32 (type_small f.typenumber a.known)) in
      let t2 : fitting.tight (just 11 (p - 2)) ≡ true = rw (lt-ltb (p - 2) 2048 (omega (arith, a.small))) in
      let t3 : fitting.tight (just 8 f.codes) ≡ true = rw (lt-ltb f.codes 256 (omega (arith, a.few))) in
      fitting.fits_fill (packet r f.typenumber p f.codes k) (numbers_for f codes body) numbers_fit
      (parts.all_packet fitting.tight r f.typenumber p f.codes k t1 t2 t3 (count_fits c body a.lent) refl refl g.tight1 g.tight2 g.tight3) clean

  -- ---- the bytes, read
  pub long : length (bytes_for f codes body) ≡ size_for f body
  unfolding bytes_for
  long =
      let x = encode (table_for f body) (values_for f codes body) in
      length_run x 0 (length x / 8) 8 ∙ omega (arith, encode_long (table_for f body) (values_for f codes body) fits, size_right)

  values : decode (table_for f body) (bits (bytes_for f codes body)) 0 ≡ values_for f codes body
  unfolding bytes_for
  values = read_write (table_for f body) (values_for f codes body) fits (omega (arith, size_right))

  -- ---- what the packet says of itself
  type_back : type_in (bytes_for f codes body) ≡ f.typenumber
  unfolding table_for packet decode fill run
  type_back = ap (λ (vs : List (List ℕ)). get_or (get_or vs 0 []) 0 0) values

  length_back : length_in (bytes_for f codes body) ≡ size_for f body - 2
  unfolding table_for packet decode fill run
  length_back = ap (λ (vs : List (List ℕ)). get_or (get_or vs 1 []) 0 0) values

  codes_back : codes_in (bytes_for f codes body) ≡ f.codes
  unfolding table_for packet decode fill run
  codes_back = ap (λ (vs : List (List ℕ)). get_or (get_or vs 2 []) 0 0) values

  kind_back : kind_in (bytes_for f codes body) ≡ kind_for f.content
  kind_back = ap kind_of type_back ∙ a.kind

  bytes_long : content_bytes (kind_for f.content) (count_for f.content body) ≡ content_size (bytes_for f codes body)
  unfolding size_for
  bytes_long = omega (arith, long, codes_back)

  content_long : size (content_lines (row_for f.content) (count_for f.content body)) ≡ 8 * content_size (bytes_for f codes body)
  unfolding size_for
  content_long = omega (arith, long, codes_back, column (kind_for f.content) (count_for f.content body))

  count_back : count_of (bytes_for f codes body) ≡ count_for f.content body
  unfolding count_of table_for
  count_back =
      let c = f.content in
      let b = bytes_for f codes body in
      let h = parts.packet_26 (row_for c) f.typenumber (size_for f body) f.codes (count_for c body) (bits b) (ap (fine 26 (table_for f body)) values ∙ clean.c26) in
      ap (λ (g : Kind). count_in (row_of g) (bits b) (content_at b) (content_size b)) kind_back
      ∙ ap (λ (n : ℕ). count_in (row_for c) (bits b) (24 + 96 * n) (content_size b)) codes_back
      ∙ (contents.count_back c body (bits b) (24 + 96 * f.codes) (content_size b) h content_long)

  table_back : table_of (bytes_for f codes body) ≡ table_for f body
  unfolding table_of table_for
  table_back = rw (count_back, codes_back, kind_back, type_back, long)

  values_back : values_in (bytes_for f codes body) ≡ values_for f codes body
  values_back = ap (λ (T : List Line). decode T (bits (bytes_for f codes body)) 0) table_back ∙ values

  -- ---- its numbers, part by part
  all_numbers : numbers_at (times f.codes code) (bytes_for f codes body) 24
      ++ ((numbers_at (row_for f.content).before (bytes_for f codes body) (24 + 96 * f.codes)
      ++ (numbers_at (times (count_for f.content body) (row_for f.content).each) (bytes_for f codes body) (24 + 96 * f.codes + part_at (row_for f.content))
      ++ numbers_at (row_for f.content).after (bytes_for f codes body) (24 + 96 * f.codes + (part_at (row_for f.content) + count_for f.content body * size (row_for f.content).each))))
      ++ numbers_at ending (bytes_for f codes body) (24 + 96 * f.codes + size (content_lines (row_for f.content) (count_for f.content body))))
      ≡ numbers_for f codes body
  unfolding table_for
  all_numbers =
      let c = f.content in
      let k = count_for c body in
      let l = bits (bytes_for f codes body) in
      sym (parts.packet_flat (row_for c) f.typenumber (size_for f body) f.codes k l ∙ rw (parts.content_flat (row_for c) k l (24 + 96 * f.codes)))
      ∙ ap (flat (table_for f body)) values ∙ flat_fill (table_for f body) (numbers_for f codes body) numbers_fit

  record Numbers : Type 0 where
    n_codes : numbers_at (times f.codes code) (bytes_for f codes body) 24 ≡ codes
    n_front : numbers_at (row_for f.content).before (bytes_for f codes body) (24 + 96 * f.codes) ≡ front_for f.content f.digits
    n_body : numbers_at (times (count_for f.content body) (row_for f.content).each) (bytes_for f codes body) (24 + 96 * f.codes + part_at (row_for f.content)) ≡ body
    n_back : numbers_at (row_for f.content).after (bytes_for f codes body) (24 + 96 * f.codes + (part_at (row_for f.content) + count_for f.content body * size (row_for f.content).each)) ≡ back_for f.content f.digits
    n_end : numbers_at ending (bytes_for f codes body) (24 + 96 * f.codes + size (content_lines (row_for f.content) (count_for f.content body))) ≡ f.time ∷ (f.certificate ++ f.signature)

  numbers : Numbers
  unfolding numbers_for
  numbers =
      let c = f.content in
      let k = count_for c body in
      let b = bytes_for f codes body in
      let l = bits b in
      let q = 24 + 96 * f.codes in
      let p1 = fitting.cut (numbers_at (times f.codes code) b 24) codes _ _ (length_flat (times f.codes code) l 24 ∙ parts.need_code f.codes ∙ sym a.codes_long) all_numbers in
      let A = numbers_at (row_for c).before b q in
      let B = numbers_at (times k (row_for c).each) b (q + part_at (row_for c)) in
      let D = numbers_at (row_for c).after b (q + (part_at (row_for c) + k * size (row_for c).each)) in
      let E = numbers_at ending b (q + size (content_lines (row_for c) k)) in
      let e1 : A ++ (B ++ (D ++ E)) ≡ front_for c f.digits ++ (body_for c body ++ (back_for c f.digits ++ (f.time ∷ (f.certificate ++ f.signature)))) = sym (append_assoc A (B ++ D) E ∙ ap (λ (x : List ℕ). A ++ x) (append_assoc B D E)) ∙ p1.1 in
      let p2 = fitting.cut A (front_for c f.digits) _ _ (length_flat (row_for c).before l q ∙ sym (front_long c f.digits y.digits_long)) e1 in
      let p3 = fitting.cut B (body_for c body) _ _ (length_flat (times k (row_for c).each) l (q + part_at (row_for c)) ∙ need_times k (row_for c).each ∙ sym (ap length body_whole ∙ body_long)) p2.1 in
      let p4 = fitting.cut D (back_for c f.digits) _ _ (length_flat (row_for c).after l (q + (part_at (row_for c) + k * size (row_for c).each)) ∙ sym (back_long c f.digits y.digits_long)) p3.1 in
      record { n_codes = p1.0; n_front = p2.0; n_body = p3.0 ∙ body_whole; n_back = p4.0; n_end = p4.1 }

  -- ---- its fields
  front_back : front_in (bytes_for f codes body) ≡ front_for f.content f.digits
  unfolding front_in
  front_back = rw (kind_back, codes_back) numbers.n_front

  back_back : back_in (bytes_for f codes body) ≡ back_for f.content f.digits
  unfolding back_in
  back_back = rw (kind_back, codes_back, count_back) numbers.n_back

  body_back : body_in (bytes_for f codes body) ≡ body
  unfolding body_in
  body_back = rw (kind_back, codes_back, count_back) numbers.n_body

  content_is : content_in (bytes_for f codes body) ≡ f.content
  unfolding front_for
  content_is =
      let c = f.content in
      rw (kind_back, front_back, count_back) (packet-contents.content_back c (take (digits_before c) f.digits) body)

  digits_is : padded 35 (digits_in (bytes_for f codes body)) ≡ f.digits
  unfolding front_for back_for
  digits_is =
      let c = f.content in
      let ds = f.digits in
      let u = digits_before c in
      let v = digits_after c in
      let e : digits_in (bytes_for f codes body) ≡ take (u + v) ds = rw (kind_back, front_back, back_back) (ap (λ (l : List ℕ). l ++ take v ds) (drop_at (numbers_of c) (take u ds) (numbers_in (kind_for c)) (packet-contents.numbers_long c)) ∙ one (one_place c)) in
      ap (padded 35) e ∙ padded_take (u + v) ds y.digits_long (contents.few_digits c) a.digits_kept
    where
      one : (digits_before f.content ≡ 0) ⊎ (digits_after f.content ≡ 0) → take (digits_before f.content) f.digits ++ take (digits_after f.content) f.digits ≡ take (digits_before f.content + digits_after f.content) f.digits
      one (inl e) = rw e (let z : 0 + digits_after f.content ≡ digits_after f.content = omega arith in rw z)
      one (inr e) = rw e (let z : digits_before f.content + 0 ≡ digits_before f.content = omega arith in rw z (append-nil (take (digits_before f.content) f.digits)))

  -- what follows the content begins 74 bytes before the end
  end_at : 24 + 96 * f.codes + size (content_lines (row_for f.content) (count_for f.content body)) ≡ 8 * (length (bytes_for f codes body) - 74)
  unfolding size_for
  end_at = omega (arith, long, column (kind_for f.content) (count_for f.content body))

  ending_is : at (bits (bytes_for f codes body)) (8 * (length (bytes_for f codes body) - 74)) 32
      ∷ (run (bits (bytes_for f codes body)) (8 * (length (bytes_for f codes body) - 70)) 12 4 ++ run (bits (bytes_for f codes body)) (8 * (length (bytes_for f codes body) - 64)) 64 8)
      ≡ f.time ∷ (f.certificate ++ f.signature)
  unfolding size_for
  ending_is =
      let b = bytes_for f codes body in
      let m = length b in
      let h : 77 ≤ m = omega (arith, long) in
      let p1 : 8 * (m - 74) + 32 ≡ 8 * (m - 70) = omega arith in
      let p2 : 8 * (m - 74) + 80 ≡ 8 * (m - 64) = omega arith in
      sym (ap₂ (λ (x z : ℕ). at (bits b) (8 * (m - 74)) 32 ∷ (run (bits b) x 12 4 ++ run (bits b) z 64 8)) p1 p2)
      ∙ sym (parts.ending_flat (bits b) (8 * (m - 74))) ∙ ap (λ (x : ℕ). numbers_at ending b x) (sym end_at) ∙ numbers.n_end

  time_is : at (bits (bytes_for f codes body)) (8 * (length (bytes_for f codes body) - 74)) 32 ≡ f.time
  time_is = ap (λ (l : List ℕ). get_or l 0 0) ending_is

  signed : (run (bits (bytes_for f codes body)) (8 * (length (bytes_for f codes body) - 70)) 12 4 ≡ f.certificate) × (run (bits (bytes_for f codes body)) (8 * (length (bytes_for f codes body) - 64)) 64 8 ≡ f.signature)
  signed =
      let b = bytes_for f codes body in
      fitting.cut (run (bits b) (8 * (length b - 70)) 12 4) f.certificate _ _ (length_run (bits b) (8 * (length b - 70)) 12 4 ∙ sym y.certificate_long) (ap (drop 1) ending_is)

  fields_is : fields_of (bytes_for f codes body) ≡ f
  unfolding fields_of
  fields_is = rw (content_is, digits_is, time_is, signed.0, signed.1, codes_back, type_back)

  -- ---- the reader's answer
  size_good : size_bad (bytes_for f codes body) ≡ false
  unfolding size_bad size_for
  size_good =
      let b = bytes_for f codes body in
      let h1 : 77 ≤ length b = omega (arith, long) in
      let h2 : length b ≤ 250 = omega (arith, long, a.small) in
      let h3 : length b ≡ length_in b + 2 = omega (arith, long, length_back) in
      let h4 : 77 + 12 * codes_in b ≤ length b = omega (arith, long, codes_back) in
      rw (le-leb 77 (length b) h1, le-leb (length b) 250 h2, eq-eqb (length b) (length_in b + 2) h3, le-leb (77 + 12 * codes_in b) (length b) h4)

  length_good : length_bad (bytes_for f codes body) ≡ false
  unfolding length_bad
  length_good =
      let b = bytes_for f codes body in
      let e : content_bytes (kind_in b) (count_of b) ≡ content_size b = ap₂ content_bytes kind_back count_back ∙ bytes_long in
      ap not (eq-eqb _ _ e)

  known_good : is_unknown (kind_in (bytes_for f codes body)) ≡ false
  known_good = ap (λ (t : ℕ). is_unknown (kind_of t)) type_back ∙ a.known

  fine_good : (k : ℕ) → fine k (table_for f body) (values_for f codes body) ≡ true → fine k (table_of (bytes_for f codes body)) (values_in (bytes_for f codes body)) ≡ true
  fine_good k e = ap₂ (fine k) table_back values_back ∙ e

  answer_is : read_answer (bytes_for f codes body) ≡ 0
  unfolding read_answer
  answer_is =
      pass 20 _ size_good ∙ pass 23 _ known_good ∙ pass 26 _ length_good
      ∙ pass 24 _ (ap not (fine_good 24 clean.c24)) ∙ pass 25 _ (ap not (fine_good 25 a.c25))
      ∙ pass 27 [] (ap₂ ◌||◌ (ap not (fine_good 27 a.c27)) (ap no_such_day content_is ∙ a.day)) ∙ none_left

  -- ---- what is read
  pub opened_is : opened (bytes_for f codes body) ≡ as_given f codes body
  unfolding opened codes_of
  opened_is = rw (answer_is, fields_is, codes_back, numbers.n_codes, kind_back, body_back)

  -- ---- the bytes of the content, as a part of the packet
  pub bytes_under : Under 256 (bytes_for f codes body)
  unfolding bytes_for
  bytes_under = let x = encode (table_for f body) (values_for f codes body) in under_run x 0 (length x / 8) 8 (under_encode (table_for f body) (values_for f codes body))

  body_inside : size (row_for f.content).each ≡ 8 → 3 + 12 * f.codes + part_at (row_for f.content) / 8 + count_for f.content body ≤ length (bytes_for f codes body)
  unfolding size_for
  body_inside w =
      let c = f.content in
      let k = count_for c body in
      let m : k * size (row_for c).each ≡ k * 8 = ap (λ (x : ℕ). k * x) w in
      omega (arith, long, content_size_lem (row_for c) k, column (kind_for c) k, (contents.fair (kind_for c)).even1, m)

  pub body_is : body_of (bytes_for f codes body) ≡ cond (has_entries (kind_for f.content)) [] body
  unfolding body_of
  body_is = rw (answer_is, kind_back, codes_back, count_back) (by (packet-contents.repeated (kind_for f.content)))
    where
      by : packet-contents.Repeated (kind_for f.content) → take (cond (has_entries (kind_for f.content)) 0 (count_for f.content body)) (drop (3 + 12 * f.codes + part_at (row_for f.content) / 8) (bytes_for f codes body)) ≡ cond (has_entries (kind_for f.content)) [] body
      by (packet-contents.entries e q) = rw e
      by (packet-contents.nothing e h z) = rw (e, z _ (length body)) (sym (fitting.nil_of body (body_long ∙ ap (λ (x : ℕ). x * need (row_for f.content).each) (z _ (length body)) ∙ zero-mul (need (row_for f.content).each))))
      by (packet-contents.octet e h) =
          let c = f.content in
          let b = bytes_for f codes body in
          let k = count_for c body in
          let s = 3 + 12 * f.codes + part_at (row_for c) / 8 in
          let g = contents.fair (kind_for c) in
          let p : 24 + 96 * f.codes + part_at (row_for c) ≡ 8 * s = omega (arith, g.even1) in
          let w : size (row_for c).each ≡ 8 = ap size h ∙ octet_size in
          let i : s + k ≤ length b = body_inside w in
          rw e (sym (sym numbers.n_body ∙ ap₂ (λ (T : List Line) (x : ℕ). numbers_at (times k T) b x) h p ∙ octets_at b k (8 * s) ∙ run_bytes b s k bytes_under i))
