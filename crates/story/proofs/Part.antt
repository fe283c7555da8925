-- Where telling is not refused, each part is a packet that the writer takes, and the reader reads it as that part. Assumes nothing.
use mathlib.Core.Path.{◌≡◌, refl, sym, ap, ◌∙◌}
use mathlib.Core.List.{List, [], ◌∷◌}
use mathlib.Core.Bool.{true, not, ◌&&◌, and-true}
use Prim.Native.Nat.{ℕ, zero, suc, ◌+◌, ◌*◌, ◌/◌, ◌%◌, ◌≤◌, ◌<◌}
use native.Mathlib.Omega.{arith}
use lib.ListN.{length, take, drop, get_or, length-append, drop_of_length-le, take-append-drop}
use lib.Seq.{length-take-le, take_all}
use lib.Dec.{leb, ltb, eqb}
use borrow.Author.Tests.{le-leb, eq-eqb, le-ltb, not-false}
use Rattle.laws.specs.Scan.{all}
use Rattle.laws.specs.Refusals.{first}
use Rattle.laws.specs.Bits.{Under}
use Rattle.laws.proofs.Bits.{under_append, length_run}
use Rattle.laws.proofs.Cases.{and_both, and_yes, and_left, or_no, or_both}
use Rattle.laws.proofs.Refusals.{not_due, pass, none_left}
use Rattle.format.specs.Format.{octets, times, size, need, encode, fill, inside, fine, unmet}
use Rattle.format.proofs.Tables.{unmet_fine, all_times}
use Rattle.packet.specs.declared.Fields.{Fields}
use Rattle.packet.specs.declared.Kind.TheVariants.{Text}
use Rattle.packet.specs.declared.Content.TheVariants as content
use Rattle.packet.specs.Table.{row_of, kind_of, type_of, code}
use Rattle.packet.specs.Content.{numbers_of}
use Rattle.packet.specs.Reading.{Opened, is_unknown, part_at, opened, text_answer}
use Rattle.packet.specs.Writing.{front_for, size_for, table_for, values_for, body_for, bytes_for, count_bad, digit_bad, not_taken, written_answer}
use Rattle.packet.proofs.Column.{content_size_lem}
use Rattle.writer.specs.Parts.{Counts, content_size, front_fine, rows_fine, back_fine, own_fine}
use Rattle.writer.proofs.Fine.{inside_append}
use Rattle.writer.proofs.Digits.{fine_25, fine_27}
use Rattle.writer.proofs.Together.{code_size, packet_long}
use Rattle.writer.proofs.Size.{content_bits}
use Rattle.trips.proofs.Taken.{Taken, Fitted, taken}
use Rattle.packet.proofs.Accepted.{accepted}
use Rattle.size.specs.Size.{packet_size}
use Rattle.trips.specs.Given.{Typed, as_given}
use Rattle.trips.proofs.Typed.{fitted}
use Rattle.trips.proofs.Reread.{opened_is, body_is}
use Rattle.trips.proofs.Answers.{read_answer_lem}
use Rattle.trips.proofs.Text.{text_of_packet}
use Rattle.story.specs.declared.Story.{Story}
use Rattle.story.specs.Telling.{head_of, room_with, last_four, four_of, number_after, fields_with, part_fields, part_body, part_packet, own_cases}
use Rattle.story.specs.Joining.{is_part}
use Rattle.story.specs.Given.{Lengths, Given}
use Rattle.story.proofs.Placed.{Reads}

-- the fields of a part with no text
abbrev pub bare : Story → Fields
bare s = fields_with s s.digits 4

-- ---- sizes
pub text_size : (s : Story) (ds : List ℕ) (t : ℕ) (body : List ℕ) → size_for (fields_with s ds t) body ≡ 97 + 12 * s.codes + t
unfolding size_for part_at size
text_size s ds t body = omega (arith, content_size_lem (row_of Text) t)

-- ---- digits
fours : (x : ℕ) → inside 0 9 (four_of x) ≡ true
unfolding inside
fours x =
    let digit : (y : ℕ) → (leb 0 (y % 10) && leb (y % 10) 9) ≡ true = λ y. and_yes _ (le-leb 0 (y % 10) (omega arith)) ∙ le-leb (y % 10) 9 (omega arith) in
    and_yes _ (digit (x / 1000)) ∙ and_yes _ (digit (x / 100)) ∙ and_yes _ (digit (x / 10)) ∙ and_yes _ (digit x)

inside_take : (lo hi n : ℕ) (xs : List ℕ) → inside lo hi xs ≡ true → inside lo hi (take n xs) ≡ true
inside_take lo hi n xs h =
    and_left (inside lo hi (take n xs)) (inside lo hi (drop n xs)) (sym (inside_append lo hi (take n xs) (drop n xs)) ∙ ap (inside lo hi) (take-append-drop n xs) ∙ h)

pub number_inside : (ds : List ℕ) (k : ℕ) → inside 0 9 ds ≡ true → inside 0 9 (number_after ds k) ≡ true
unfolding number_after
number_inside ds k h = inside_append 0 9 (take 31 ds) (four_of (last_four ds + k)) ∙ and_yes _ (inside_take 0 9 31 ds h) ∙ fours (last_four ds + k)

pub number_long : (ds : List ℕ) (k : ℕ) → length ds ≡ 35 → length (number_after ds k) ≡ 35
unfolding number_after
number_long ds k n = length-append (take 31 ds) (four_of (last_four ds + k)) ∙ omega (arith, length-take-le 31 ds (omega arith))

-- ---- the writer's own cases but 10
pub own_written : (s : Story) (codes : List ℕ) → first (own_cases s codes) ≡ 0 → written_answer (bare s) codes (head_of 1 1) 250 ≡ 0
unfolding written_answer
own_written s codes e =
    let a = not_due (is_unknown (kind_of 15)) 23 _ (λ h. omega arith) e in
    let b = not_due (count_bad (bare s) codes (head_of 1 1)) 26 _ (λ h. omega arith) a.1 in
    let d = not_due (digit_bad (bare s) codes (head_of 1 1)) 25 _ (λ h. omega arith) b.1 in
    let g = not_due (not_taken (bare s) codes (head_of 1 1)) 27 _ (λ h. omega arith) d.1 in
    let h = not_due (ltb 250 (size_for (bare s) (head_of 1 1))) 20 _ (λ h. omega arith) g.1 in
    pass 23 _ a.0 ∙ pass 26 _ b.0 ∙ pass 25 _ d.0 ∙ pass 27 _ g.0 ∙ pass 20 _ h.0 ∙ pass 10 _ h.0 ∙ none_left

own_digits : (s : Story) (codes : List ℕ) → first (own_cases s codes) ≡ 0 → inside 0 9 s.digits ≡ true
unfolding digit_bad
own_digits s codes e =
    let a = not_due (is_unknown (kind_of 15)) 23 _ (λ h. omega arith) e in
    let b = not_due (count_bad (bare s) codes (head_of 1 1)) 26 _ (λ h. omega arith) a.1 in
    let d = not_due (digit_bad (bare s) codes (head_of 1 1)) 25 _ (λ h. omega arith) b.1 in
    not-false _ (or_both (not (fine 25 (table_for (bare s) (head_of 1 1)) (values_for (bare s) codes (head_of 1 1)))) (not (inside 0 9 s.digits)) d.0).1

-- ---- fields that differ from these in digits and body alone are taken
octets_fine : (a : ℕ) (t : ℕ) (vs : List (List ℕ)) → unmet a (octets 1) ≡ true → fine a (times t (octets 1 ∷ [])) vs ≡ true
octets_fine a t vs h = unmet_fine a (times t (octets 1 ∷ [])) vs (all_times (unmet a) t (octets 1 ∷ []) (and_yes true h))

counts_of : (s : Story) (ds : List ℕ) (t : ℕ) (codes body : List ℕ) → length body ≡ t → length codes ≡ s.codes * 23 → Counts (fields_with s ds t) codes body
unfolding body_for need
counts_of s ds t codes body n c = record { bodied = ap length (take_all (t * 1) body (omega arith)) ∙ omega arith; coded = c }

-- the first lines of a text: its digits are digits, and its own numbers do not go by its length
text_digits : (k z t : ℕ) (ds : List ℕ) → inside 0 9 ds ≡ true → front_fine 25 (content.Text k z t) ds ≡ true
unfolding fine fill front_for need
text_digits k z t ds h = and-true (inside 0 9 (take 35 (take 35 ds))) ∙ inside_take 0 9 35 (take 35 ds) (inside_take 0 9 35 ds h)

text_own : (k z t u : ℕ) → own_fine (content.Text k z t) ≡ own_fine (content.Text k z u)
text_own k z t u = refl

-- and there are no last lines
text_lines : (a k z t : ℕ) (ds body : List ℕ) → front_fine a (content.Text k z t) ds ≡ true → rows_fine a (content.Text k z t) body ≡ true
    → (front_fine a (content.Text k z t) ds && (rows_fine a (content.Text k z t) body && back_fine a (content.Text k z t) ds)) ≡ true
unfolding fine
text_lines a k z t ds body e f = rw (e, f)

module _ (s : Story) (codes : List ℕ) (y : Lengths s) (own : first (own_cases s codes) ≡ 0) where
  bare_taken : Taken (bare s) codes (head_of 1 1)
  bare_taken = taken (bare s) codes (head_of 1 1) 250 (own_written s codes own)

  pub few_codes : 101 + 12 * s.codes ≤ 250
  few_codes = omega (arith, text_size s s.digits 4 (head_of 1 1), bare_taken.small)

  bare_counts : Counts (bare s) codes (head_of 1 1)
  bare_counts = counts_of s s.digits 4 codes (head_of 1 1) refl bare_taken.codes_long

  bare_25 : (inside 0 9 codes ≡ true) × (inside 0 9 s.certificate ≡ true)
  bare_25 =
      let e = sym (fine_25 (bare s) codes (head_of 1 1) bare_counts y.digits_long y.certificate_long y.signature_long) ∙ bare_taken.c25 in
      let p = and_both (inside 0 9 codes) _ e in
      (p.0, (and_both (front_fine 25 (bare s).content s.digits && (rows_fine 25 (bare s).content (head_of 1 1) && back_fine 25 (bare s).content s.digits)) (inside 0 9 s.certificate) p.1).1)

  bare_27 : own_fine (bare s).content ≡ true
  bare_27 =
      let e = sym (fine_27 (bare s) codes (head_of 1 1) bare_counts y.digits_long y.certificate_long y.signature_long) ∙ bare_taken.c27 in
      (and_both (own_fine (bare s).content) _ e).0

  pub text_taken : (ds : List ℕ) (t : ℕ) (body : List ℕ) → length ds ≡ 35 → inside 0 9 ds ≡ true → length body ≡ t → 97 + 12 * s.codes + t ≤ 250 → Taken (fields_with s ds t) codes body
  unfolding need inside
  text_taken ds t body l d n h =
      let f = fields_with s ds t in
      let c = counts_of s ds t codes body n bare_taken.codes_long in
      record {
        known = bare_taken.known;
        few = bare_taken.few;
        codes_long = bare_taken.codes_long;
        lent = ap not (and_yes _ (le-leb t 255 (omega arith)) ∙ eq-eqb (length body) (t * 1) (omega arith));
        c25 = fine_25 f codes body c l y.certificate_long y.signature_long ∙ and_yes _ bare_25.0 ∙ and_yes _ (text_lines 25 s.kind 0 t ds body (text_digits s.kind 0 t ds d) (octets_fine 25 t (fill (times t (octets 1 ∷ [])) (body_for f.content body)) refl)) ∙ bare_25.1;
        kind = bare_taken.kind;
        body_kept = refl;
        digits_kept = ends ds l;
        c27 = fine_27 f codes body c l y.certificate_long y.signature_long ∙ and_yes _ (text_own s.kind 0 t 4 ∙ bare_27) ∙ octets_fine 27 t (fill (times t (octets 1 ∷ [])) (body_for f.content body)) refl;
        day = refl;
        small = omega (arith, text_size s ds t body);
      }
    where
      ends : (ds : List ℕ) → length ds ≡ 35 → inside 0 0 (drop 35 ds) ≡ true
      ends ds l = ap (inside 0 0) (drop_of_length-le ds {i = 35} (omega arith))

  -- ---- the part of n with k before it, with the text p
  module _ (n k : ℕ) (p : List ℕ) (fits : length p ≤ room_with s.codes) where
    body_length : length (part_body n k p) ≡ 4 + length p
    body_length = length-append (head_of (k + 1) n) p

    pub part_taken : Taken (part_fields s k p) codes (part_body n k p)
    part_taken =
        let f = few_codes in
        text_taken (number_after s.digits k) (4 + length p) (part_body n k p) (number_long s.digits k y.digits_long) (number_inside s.digits k (own_digits s codes own)) body_length (omega arith)

    pub part_long : length (part_packet s codes n k p) ≡ 101 + 12 * s.codes + length p
    unfolding part_packet bytes_for content_size
    part_long =
        let f = part_fields s k p in
        let b = part_body n k p in
        let l = number_long s.digits k y.digits_long in
        let x = encode (table_for f b) (values_for f codes b) in
        let c = counts_of s (number_after s.digits k) (4 + length p) codes b body_length bare_taken.codes_long in
        let q = packet_long f codes b c l y.certificate_long y.signature_long in
        let m : s.codes * size code ≡ s.codes * 96 = ap (λ (w : ℕ). s.codes * w) code_size in
        let t = content_bits f.content b in
        length_run x 0 (length x / 8) 8 ∙ omega (arith, q, m, t)

    pub part_typed : Given s → Under 256 p → k < 9 → n ≤ 9 → Typed (part_fields s k p) (part_body n k p)
    unfolding fine fill
    part_typed z u h g =
        record {
          digits_long = number_long s.digits k y.digits_long;
          certificate_long = y.certificate_long;
          signature_long = y.signature_long;
          content_held = refl;
          time_held = z.time_held;
          signature_held = z.signature_held;
          body_held = under_append 256 (head_of (k + 1) n) p (head_under k n h g) u;
        }
      where
        head_under : (k n : ℕ) → k < 9 → n ≤ 9 → Under 256 (head_of (k + 1) n)
        head_under k n h g zero = omega arith
        head_under k n h g (suc zero) = omega arith
        head_under k n h g (suc (suc zero)) = omega arith
        head_under k n h g (suc (suc (suc zero))) = omega arith
        head_under k n h g (suc (suc (suc (suc i)))) = omega arith

    module _ (z : Given s) (u : Under 256 p) (h : k < 9) (g : n ≤ 9) where
      part_fitted : Fitted (part_fields s k p) codes (part_body n k p)
      part_fitted = fitted (part_fields s k p) codes (part_body n k p) (part_typed z u h g) part_taken

      pub part_reads : last_four s.digits + k ≤ 9999 → Reads n s.digits k (part_packet s codes n k p) p
      unfolding part_packet is_part packet_size
      part_reads r =
          let b = bytes_for (part_fields s k p) codes (part_body n k p) in
          let o : opened b ≡ as_given (part_fields s k p) codes (part_body n k p) = opened_is (part_fields s k p) codes (part_body n k p) part_taken part_fitted in
          let z = ap (λ (x : Opened). x.answer) o in
          let a = accepted b (sym (read_answer_lem b) ∙ z) in
          let t = ((text_of_packet b z).0 (ap (λ (x : Opened). x.fields.typenumber) o)).0 in
          record {
            part = and_yes _ (eq-eqb (text_answer b) 0 t) ∙ ap (λ (x : Opened). eqb (get_or (numbers_of x.fields.content) 1 0) 0) o;
            body = body_is (part_fields s k p) codes (part_body n k p) part_taken part_fitted;
            digits = ap (λ (x : Opened). x.fields.digits) o;
            numbered = r;
            sized = and_yes _ (le-leb 2 (length b) (omega (arith, a.least))) ∙ eq-eqb (length b) (packet_size b) a.field;
          }

    -- the writer takes it wherever there is room
    pub part_written : (room : ℕ) → 101 + 12 * s.codes + length p ≤ room → written_answer (part_fields s k p) codes (part_body n k p) room ≡ 0
    unfolding written_answer count_bad digit_bad not_taken
    part_written room g =
        let a = part_taken in
        let f = part_fields s k p in
        let b = part_body n k p in
        let z = text_size s (number_after s.digits k) (4 + length p) b in
        pass 23 _ a.known
        ∙ pass 26 _ (or_no _ (ap not (and_yes _ (le-leb s.codes 255 a.few) ∙ eq-eqb (length codes) (s.codes * 23) a.codes_long)) ∙ a.lent)
        ∙ pass 25 _ (or_no _ (ap not a.c25) ∙ ap not (number_inside s.digits k (own_digits s codes own)))
        ∙ pass 27 _ (or_no _ (ap not (eq-eqb _ _ (ap type_of a.kind))) ∙ or_no _ (ap not a.digits_kept) ∙ or_no _ (ap not a.c27))
        ∙ pass 20 _ (le-ltb 250 (size_for f b) a.small)
        ∙ pass 10 _ (le-ltb room (size_for f b) (omega arith))
        ∙ none_left
