-- A content and a packet are their parts, one behind the other. Assumes nothing.
use mathlib.Core.Path.{◌≡◌, refl, sym, ap, ap₂, ◌∙◌}
use mathlib.Core.List.{List, [], ◌++◌, append_assoc}
use Prim.Native.Nat.{ℕ, ◌+◌, ◌-◌, ◌≤◌}
use native.Mathlib.Nat.{le_trans, mul-le-mul_left}
use native.Mathlib.Omega.{arith}
use lib.ListN.{length, length-append}
use Rattle.laws.specs.Bits.{bits_of, spread}
use Rattle.laws.proofs.Bits.{length_bits_of, length_spread}
use Rattle.format.specs.declared.Line.{Line}
use Rattle.format.specs.Format.{size, need, encode, fill, times}
use Rattle.format.proofs.Tables.{fill_join, encode_join, length_fill, size_append, size_times, need_times}
use Rattle.packet.specs.declared.Counting.{Counting}
use Rattle.packet.specs.declared.Counting.TheVariants as counting
use Rattle.packet.specs.declared.Content.{Content}
use Rattle.packet.specs.Table.{count_line, content_lines}
use Rattle.packet.specs.Content.{kind_for, count_for}
use Rattle.packet.specs.Writing.{row_for, front_for, back_for, body_for}
use Rattle.writer.specs.Puts.{After}
use Rattle.writer.specs.Parts.{front_bits, front_size, body_bits, body_size, back_bits, content_bits, content_size, head_bits, ending_bits, Lent, Bodied}
use Rattle.writer.proofs.Rows.{encode_size}
use Rattle.packet.proofs.Good.{good}
use Rattle.writer.proofs.Contents.{length_front, body_whole}
use Rattle.writer.proofs.Shapes.{then_put}

-- a count takes none of the numbers
pub count_needs : (s : Counting) (k : ℕ) → need (count_line s k) ≡ 0
unfolding need
count_needs counting.Fixed k = refl
count_needs counting.Counted k = refl
count_needs counting.Raw k = refl
count_needs counting.Unknown k = refl

-- numbers and bits of lines after lines
pub two : (A B : List Line) (x y : List ℕ) → length x ≡ need A → encode (A ++ B) (fill (A ++ B) (x ++ y)) ≡ encode A (fill A x) ++ encode B (fill B y)
two A B x y e = ap (encode (A ++ B)) (fill_join A B x y e) ∙ encode_join A B (fill A x) (fill B y) (length_fill A x)

module _ (c : Content) (ds body : List ℕ) (d : length ds ≡ 35) (h : Bodied c body) where
  abbrev k : ℕ
  k = count_for c body

  length_body : length (body_for c body) ≡ need (times k (row_for c).each)
  length_body = h ∙ sym (need_times k (row_for c).each)

  pub content_parts : content_bits c ds body ≡ front_bits c ds k ++ (body_bits c body ++ back_bits c ds)
  unfolding content_bits content_lines front_bits body_bits back_bits
  content_parts =
      two (row_for c).before (count_line (row_for c).counting k ++ (times k (row_for c).each ++ (row_for c).after)) (front_for c ds) (body_for c body ++ back_for c ds) (length_front c ds d)
      ∙ ap (λ (l : List ℕ). encode (row_for c).before (fill (row_for c).before (front_for c ds)) ++ l)
      (two (count_line (row_for c).counting k) (times k (row_for c).each ++ (row_for c).after) [] (body_for c body ++ back_for c ds) (sym (count_needs (row_for c).counting k))
      ∙ ap (λ (l : List ℕ). encode (count_line (row_for c).counting k) (fill (count_line (row_for c).counting k) []) ++ l)
      (two (times k (row_for c).each) (row_for c).after (body_for c body) (back_for c ds) length_body))
      ∙ sym (append_assoc (encode (row_for c).before (fill (row_for c).before (front_for c ds))) (encode (count_line (row_for c).counting k) (fill (count_line (row_for c).counting k) [])) _)

  pub content_sizes : content_size c body ≡ front_size c k + (body_size c body + size (row_for c).after)
  unfolding content_size content_lines front_size body_size
  content_sizes =
      size_append (row_for c).before (count_line (row_for c).counting k ++ (times k (row_for c).each ++ (row_for c).after))
      ∙ omega (arith, size_append (count_line (row_for c).counting k) (times k (row_for c).each ++ (row_for c).after), size_append (times k (row_for c).each) (row_for c).after, size_times k (row_for c).each)

  front_long : length (front_bits c ds k) ≡ front_size c k
  unfolding front_bits front_size
  front_long =
      let f = length_front c ds d in
      length-append (encode (row_for c).before (fill (row_for c).before (front_for c ds))) (encode (count_line (row_for c).counting k) (fill (count_line (row_for c).counting k) []))
      ∙ ap₂ ◌+◌ (encode_size (row_for c).before (front_for c ds) (omega arith)) (encode_size (count_line (row_for c).counting k) [] (omega (arith, count_needs (row_for c).counting k)))

  body_long : length (body_bits c body) ≡ body_size c body
  unfolding body_bits body_size
  body_long =
      let l = length_body in
      encode_size (times k (row_for c).each) (body_for c body) (omega arith) ∙ size_times k (row_for c).each

  -- front, body and back put one behind the other
  pub content_put : (out a b last : List ℕ) (p q e r : ℕ) → After out a p (front_bits c ds k) q (front_size c k) → After a b q (body_bits c body) e (body_size c body) → After b last e (back_bits c ds) r (size (row_for c).after)
      → After out last p (content_bits c ds body) r (content_size c body)
  content_put out a b last p q e r x y z =
      rw (content_parts, content_sizes)
      (then_put out a last p q r (front_bits c ds k) (body_bits c body ++ back_bits c ds) (front_size c k) (body_size c body + size (row_for c).after) front_long x
      (then_put a b last q e r (body_bits c body) (back_bits c ds) (body_size c body) (size (row_for c).after) body_long y z))

-- what is lent in full is enough
pub bodied : (c : Content) (body : List ℕ) → Lent c body → Bodied c body
bodied c body h = ap length (body_whole c body h) ∙ h.numbers

-- ---- sizes
count_small : (s : Counting) (k : ℕ) → size (count_line s k) ≤ 8
unfolding size
count_small counting.Fixed k = omega arith
count_small counting.Counted k = omega arith
count_small counting.Raw k = omega arith
count_small counting.Unknown k = omega arith

pub front_small : (c : Content) (k : ℕ) → front_size c k ≤ 160
unfolding front_size
front_small c k = omega (arith, (good (kind_for c)).first, count_small (row_for c).counting k)

pub body_small : (c : Content) (body : List ℕ) → Lent c body → body_size c body ≤ 10200
unfolding body_size
body_small c body h = le_trans (mul-le-mul_left (count_for c body) (good (kind_for c)).row) (let f = h.few in omega arith)

-- ---- what stands before the codes, and behind the content
pub head_put : (out a b last : List ℕ) (kind p n : ℕ) → After out a 0 (bits_of 5 kind) 5 5 → After a b 5 (bits_of 11 (p - 2)) 16 11 → After b last 16 (bits_of 8 n) 24 8 → After out last 0 (head_bits kind p n) 24 24
unfolding head_bits
head_put out a b last kind p n x y z =
    then_put out a last 0 5 24 (bits_of 5 kind) (bits_of 11 (p - 2) ++ bits_of 8 n) 5 19 (length_bits_of 5 kind) x
    (then_put a b last 5 16 24 (bits_of 11 (p - 2)) (bits_of 8 n) 11 8 (length_bits_of 11 (p - 2)) y z)

pub ending_put : (out a b last : List ℕ) (p time : ℕ) (certificate signature : List ℕ) → length certificate ≡ 12 → length signature ≡ 64
    → After out a p (bits_of 32 time) (p + 32) 32 → After a b (p + 32) (spread 4 certificate) (p + 80) 48 → After b last (p + 80) (spread 8 signature) (p + 592) 512 → After out last p (ending_bits time certificate signature) (p + 592) 592
unfolding ending_bits
ending_put out a b last p time certificate signature lc ls x y z =
    then_put out a last p (p + 32) (p + 592) (bits_of 32 time) (spread 4 certificate ++ spread 8 signature) 32 560 (length_bits_of 32 time) x
    (then_put a b last (p + 32) (p + 80) (p + 592) (spread 4 certificate) (spread 8 signature) 48 512 (length_spread 4 certificate ∙ omega arith) y z)
