-- What the rows of the table of contents are, as far as the writer asks, and their parts put into bits. Assumes nothing.
use mathlib.Core.Path.{◌≡◌, refl, sym, ap, ◌∙◌}
use mathlib.Core.Bool.{false, true≢false}
use mathlib.Core.List.{List, [], ◌∷◌, append-nil}
use Prim.Native.Nat.{ℕ, zero, suc, ◌+◌, ◌*◌, ◌≤◌}
use native.Mathlib.Nat.{zero-mul}
use native.Mathlib.Omega.{arith}
use lib.ListN.{length, take, length-append}
use lib.Seq.{length-take-le, take_all}
use Rattle.laws.specs.Bits.{bits_of, spread}
use Rattle.format.specs.Format.{octets, size, need, encode, fill, times}
use Rattle.packet.specs.declared.Content.{Content}
use Rattle.packet.specs.Content.{parts_of, kind_for, numbers_of, count_for}
use Rattle.packet.specs.Reading.{has_entries}
use Rattle.packet.proofs.Good.{good}
use Rattle.packet.proofs.Contents.{numbers_long, Repeated, entries, octet, nothing, repeated}
use Rattle.packet.specs.Writing.{row_for, digits_before, front_for, back_for, body_for}
use Rattle.writer.specs.Puts.{After}
use Rattle.writer.specs.Parts.{body_bits, body_size, Lent}

-- a content has numbers for its first lines, and the digits make up the rest
pub numbers_fit : (c : Content) → (length (numbers_of c) ≤ need (row_for c).before) × (need (row_for c).before ≤ length (numbers_of c) + 35) × (length (numbers_of c) ≤ 6)
numbers_fit c =
    let g = good (kind_for c) in
    let e = numbers_long c in
    (omega (arith, e, g.numbered), omega (arith, e, g.digits), omega (arith, e, g.few))

-- ---- the first lines
module _ (c : Content) (ds : List ℕ) (d : length ds ≡ 35) where
  pub length_front : length (front_for c ds) ≡ need (row_for c).before
  unfolding front_for
  length_front =
      let f = numbers_fit c in
      length-append (numbers_of c) (take (digits_before c) ds) ∙ omega (arith, length-take-le (digits_before c) ds (omega arith), f.0, f.1)

  pub length_back : length (back_for c ds) ≡ need (row_for c).after
  unfolding back_for
  length_back = length-take-le (need (row_for c).after) ds (omega (arith, (good (kind_for c)).last))

-- ---- what is repeated
-- bytes, one to a row
octet_rows : (k : ℕ) (xs : List ℕ) → length xs ≡ k → spread 8 xs ≡ encode (times k (octets 1 ∷ [])) (fill (times k (octets 1 ∷ [])) xs)
unfolding spread encode fill times
octet_rows zero [] h = refl
octet_rows zero (x ∷ xs) h = absurd (omega arith)
octet_rows (suc k) [] h = absurd (omega arith)
octet_rows (suc k) (x ∷ xs) h = rw (append-nil (bits_of 8 x), octet_rows k xs (omega arith))

-- all that is lent is the content's
pub body_whole : (c : Content) (body : List ℕ) → Lent c body → body_for c body ≡ body
unfolding body_for
body_whole c body h = take_all (count_for c body * need (row_for c).each) body (let n = h.numbers in omega arith)

-- contents that have none
empty : (c : Content) (body : List ℕ) → Lent c body → count_for c body ≡ 0 → (spread 8 body ≡ body_bits c body) × (8 * length body ≡ body_size c body) × (length body ≤ 255)
unfolding body_bits body_size spread encode times
empty c body h e =
    let l : length body ≡ 0 = h.numbers ∙ rw e (zero-mul (need (row_for c).each)) in
    let n : body ≡ [] = no_elements body l in
    (ap (spread 8) n ∙ sym (rw e), rw e (let z = zero-mul (size (row_for c).each) in omega arith), omega arith)
  where
    no_elements : (l : List ℕ) → length l ≡ 0 → l ≡ []
    no_elements [] h = refl
    no_elements (x ∷ l) h = absurd (omega arith)

-- contents that have bytes
bytes_put : (c : Content) (body : List ℕ) → Lent c body → (row_for c).each ≡ octets 1 ∷ [] → (spread 8 body ≡ body_bits c body) × (8 * length body ≡ body_size c body) × (length body ≤ 255)
unfolding body_bits body_size size need
bytes_put c body h r =
    let l : length body ≡ count_for c body = h.numbers ∙ rw r (omega arith) in
    let f = h.few in
    (rw (body_whole c body h, r) (octet_rows (count_for c body) body l), rw r (omega arith), omega arith)

-- or nothing too
pub octets_body : (c : Content) (body : List ℕ) → Lent c body → has_entries (kind_for c) ≡ false → (spread 8 body ≡ body_bits c body) × (8 * length body ≡ body_size c body) × (length body ≤ 255)
octets_body c body h n = by (repeated (kind_for c))
  where
    by : Repeated (kind_for c) → (spread 8 body ≡ body_bits c body) × (8 * length body ≡ body_size c body) × (length body ≤ 255)
    by (entries e s) = absurd (true≢false (sym e ∙ n))
    by (octet e r) = bytes_put c body h r
    by (nothing e r z) = empty c body h (z (parts_of c).count (length body))

pub entries_body : (c : Content) (out last body : List ℕ) (k p r : ℕ) → Lent c body → k ≡ count_for c body
    → After out last p (encode (times k (row_for c).each) (fill (times k (row_for c).each) body)) r (k * size (row_for c).each) → After out last p (body_bits c body) r (body_size c body)
unfolding body_bits body_size
entries_body c out last body k p r h e a = rw (body_whole c body h, ← e) a
