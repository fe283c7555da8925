-- A packet is its head, codes, content and ending, one behind the other. Assumes nothing.
use mathlib.Core.Path.{◌≡◌, refl, sym, ap, ◌∙◌, ap₂}
use mathlib.Core.List.{List, ◌∷◌, ◌++◌, append_assoc, append-nil}
use Prim.Native.Nat.{ℕ, ◌-◌, ◌*◌, ◌≤◌, ◌+◌}
use native.Mathlib.Omega.{arith}
use lib.ListN.{length, length-append}
use lib.Seq.{sets, take_at, drop_at, take_all}
use Rattle.laws.specs.Bits.{bits, bits_of, spread}
use Rattle.laws.proofs.Bits.{length_bits_of, length_spread}
use Rattle.format.specs.declared.Line.{Line}
use Rattle.format.specs.Format.{just, size, need, encode, fill, times}
use Rattle.format.proofs.Tables.{size_times, need_append, need_times}
use Rattle.packet.specs.declared.Content.{Content}
use Rattle.packet.specs.declared.Fields.{Fields}
use Rattle.packet.specs.Table.{code, ending, packet, content_lines, count_line}
use Rattle.packet.specs.Content.{count_for}
use Rattle.packet.specs.Writing.{row_for, front_for, back_for, body_for, size_for, table_for, numbers_for, values_for}
use Rattle.writer.specs.Puts.{After}
use Rattle.writer.specs.Parts.{lines_for, content_bits, content_size, head_bits, ending_bits, Counts}
use Rattle.writer.proofs.Rows.{encode_size}
use Rattle.writer.proofs.Contents.{length_front, length_back}
use Rattle.writer.proofs.Shapes.{then_put}
use Rattle.writer.proofs.Whole.{two, count_needs}

-- ---- a code's row
pub code_need : need code ≡ 23
unfolding need
code_need = refl

pub code_size : size code ≡ 96
unfolding size
code_size = refl

-- ---- sizes
pub codes_few : (f : Fields) (body : List ℕ) → size_for f body ≤ 250 → f.codes ≤ 14
unfolding size_for
codes_few f body h = omega arith

pub size_least : (f : Fields) (body : List ℕ) → 77 ≤ size_for f body
unfolding size_for
size_least f body = omega arith

-- ---- the head
head_long : (kind p n : ℕ) → length (head_bits kind p n) ≡ 24
unfolding head_bits
head_long kind p n =
    length-append (bits_of 5 kind) (bits_of 11 (p - 2) ++ bits_of 8 n)
    ∙ omega (arith, length-append (bits_of 11 (p - 2)) (bits_of 8 n), length_bits_of 5 kind, length_bits_of 11 (p - 2), length_bits_of 8 n)

headed : (ts : List Line) (xs : List ℕ) (kind p n : ℕ) → encode (just 5 kind ∷ just 11 (p - 2) ∷ just 8 n ∷ ts) (fill (just 5 kind ∷ just 11 (p - 2) ∷ just 8 n ∷ ts) xs) ≡ head_bits kind p n ++ encode ts (fill ts xs)
unfolding encode fill head_bits spread
headed ts xs kind p n =
    rw (append-nil (bits_of 5 kind), append-nil (bits_of 11 (p - 2)), append-nil (bits_of 8 n))
    (sym (append_assoc (bits_of 5 kind) (bits_of 11 (p - 2) ++ bits_of 8 n) (encode ts (fill ts xs)) ∙ ap (λ (l : List ℕ). bits_of 5 kind ++ l) (append_assoc (bits_of 11 (p - 2)) (bits_of 8 n) (encode ts (fill ts xs)))))

ending_long : (time : ℕ) (certificate signature : List ℕ) → length certificate ≡ 12 → length signature ≡ 64 → length (ending_bits time certificate signature) ≡ 592
unfolding ending_bits
ending_long time certificate signature lc ls =
    length-append (bits_of 32 time) (spread 4 certificate ++ spread 8 signature)
    ∙ omega (arith, length-append (spread 4 certificate) (spread 8 signature), length_bits_of 32 time, length_spread 4 certificate, length_spread 8 signature)

-- ---- the parts
module _ (f : Fields) (codes body : List ℕ) (h : Counts f codes body) (d : length f.digits ≡ 35) (lc : length f.certificate ≡ 12) (ls : length f.signature ≡ 64) where
  abbrev c : Content
  c = f.content

  abbrev middle : List ℕ
  middle = front_for c f.digits ++ (body_for c body ++ back_for c f.digits)

  abbrev tail : List ℕ
  tail = f.time ∷ (f.certificate ++ f.signature)

  pub middle_long : length middle ≡ need (lines_for c body)
  unfolding content_lines
  middle_long =
      let k = count_for c body in
      length-append (front_for c f.digits) (body_for c body ++ back_for c f.digits)
      ∙ omega (
        arith,
        length-append (body_for c body) (back_for c f.digits),
        length_front c f.digits d,
        length_back c f.digits d,
        h.bodied,
        need_append (row_for c).before (count_line (row_for c).counting k ++ (times k (row_for c).each ++ (row_for c).after)),
        need_append (count_line (row_for c).counting k) (times k (row_for c).each ++ (row_for c).after),
        need_append (times k (row_for c).each) (row_for c).after,
        need_times k (row_for c).each,
        count_needs (row_for c).counting k,
      )

  ending_bits_lem : encode ending (fill ending tail) ≡ ending_bits f.time f.certificate f.signature
  unfolding encode fill ending_bits spread
  ending_bits_lem =
      rw (take_at f.certificate f.signature 12 lc, drop_at f.certificate f.signature 12 lc, take_all 64 f.signature (omega arith), append-nil (bits_of 32 f.time), append-nil (spread 8 f.signature))

  pub in_order : numbers_for f codes body ≡ codes ++ (middle ++ tail)
  unfolding numbers_for
  in_order =
      ap (λ (l : List ℕ). codes ++ l)
      (sym (append_assoc (front_for c f.digits) (body_for c body ++ back_for c f.digits) tail ∙ ap (λ (l : List ℕ). front_for c f.digits ++ l) (append_assoc (body_for c body) (back_for c f.digits) tail)))

  abbrev rest : List Line
  rest = times f.codes code ++ (lines_for c body ++ ending)

  rest_bits : encode rest (fill rest (codes ++ (middle ++ tail))) ≡ encode (times f.codes code) (fill (times f.codes code) codes) ++ (content_bits c f.digits body ++ ending_bits f.time f.certificate f.signature)
  unfolding content_bits
  rest_bits =
      two (times f.codes code) (lines_for c body ++ ending) codes (middle ++ tail) (h.coded ∙ sym (need_times f.codes code ∙ ap (λ (n : ℕ). f.codes * n) code_need))
      ∙ ap (λ (l : List ℕ). encode (times f.codes code) (fill (times f.codes code) codes) ++ l)
      (two (lines_for c body) ending middle tail middle_long ∙ ap (λ (l : List ℕ). encode (lines_for c body) (fill (lines_for c body) middle) ++ l) ending_bits_lem)

  pub packet_parts : encode (table_for f body) (values_for f codes body)
      ≡ head_bits f.typenumber (size_for f body) f.codes ++ (encode (times f.codes code) (fill (times f.codes code) codes) ++ (content_bits c f.digits body ++ ending_bits f.time f.certificate f.signature))
  unfolding table_for packet
  packet_parts =
      ap (λ (xs : List ℕ). encode (table_for f body) (fill (table_for f body) xs)) in_order
      ∙ headed rest (codes ++ (middle ++ tail)) f.typenumber (size_for f body) f.codes
      ∙ ap (λ (l : List ℕ). head_bits f.typenumber (size_for f body) f.codes ++ l) rest_bits

  codes_long : length (encode (times f.codes code) (fill (times f.codes code) codes)) ≡ f.codes * size code
  codes_long =
      encode_size (times f.codes code) codes (omega (arith, h.coded, need_times f.codes code, ap (λ (n : ℕ). f.codes * n) code_need)) ∙ size_times f.codes code

  content_long : length (content_bits c f.digits body) ≡ content_size c body
  unfolding content_bits content_size
  content_long = encode_size (lines_for c body) middle (omega (arith, middle_long))

  -- so many bits
  pub packet_long : length (encode (table_for f body) (values_for f codes body)) ≡ 24 + (f.codes * size code + (content_size c body + 592))
  packet_long =
      ap length packet_parts
      ∙ length-append (head_bits f.typenumber (size_for f body) f.codes) _
      ∙ ap₂ ◌+◌ (head_long f.typenumber (size_for f body) f.codes)
      (length-append (encode (times f.codes code) (fill (times f.codes code) codes)) _
      ∙ ap₂ ◌+◌ codes_long (length-append (content_bits c f.digits body) (ending_bits f.time f.certificate f.signature) ∙ ap₂ ◌+◌ content_long (ending_long f.time f.certificate f.signature lc ls)))

  -- put one behind the other, they are the packet
  pub packet_put : (out a b e last : List ℕ) (p q r s : ℕ) → After out a 0 (head_bits f.typenumber (size_for f body) f.codes) p 24
      → After a b p (encode (times f.codes code) (fill (times f.codes code) codes)) q (f.codes * size code) → After b e q (content_bits c f.digits body) r (content_size c body)
      → After e last r (ending_bits f.time f.certificate f.signature) s 592
      → bits last ≡ sets (bits out) 0 (encode (table_for f body) (values_for f codes body))
  packet_put out a b e last p q r s x y z w =
      rw packet_parts
      (then_put out a last 0 p s _ _ 24 _ (head_long f.typenumber (size_for f body) f.codes) x
      (then_put a b last p q s _ _ (f.codes * size code) _ codes_long y (then_put b e last q r s _ _ (content_size c body) 592 content_long z w))).put
