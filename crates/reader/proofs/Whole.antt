-- The tests of a whole packet, part by part. Assumes nothing.
use mathlib.Core.Path.{◌≡◌, refl, sym, ap, ◌∙◌}
use mathlib.Core.List.{List, [], ◌++◌}
use mathlib.Core.Bool.{Bool, true, false, not, ◌&&◌, cond, and-true}
use Prim.Native.Nat.{ℕ, ◌+◌, ◌*◌, ◌/◌, ◌≤◌, ◌<◌}
use native.Mathlib.Nat.{le_trans, mul-le-mul_left}
use native.Mathlib.Omega.{arith}
use lib.Dec.{ltb, eqb}
use lib.ListN.{length, take, drop}
use borrow.Author.Tests.{lt-leb, le-leb, ne_eqb, eq-eqb, eqb-true, eqb-false}
use Rattle.laws.specs.Bits.{at, bits}
use Rattle.laws.specs.Scan.{all}
use Rattle.laws.specs.Refusals.{first}
use Rattle.laws.proofs.Bits.{at_small}
use Rattle.laws.proofs.Elements.{by_test}
use Rattle.laws.proofs.Refusals.{stop, pass, none_left}
use Rattle.format.specs.declared.Line.{Line}
use Rattle.format.specs.Format.{times, size, decode, fine}
use Rattle.format.proofs.Tables.{fine_append, size_times, unmet_fine}
use Rattle.packet.specs.declared.Kind.{Kind}
use Rattle.packet.specs.declared.Counting.{Counting}
use Rattle.packet.specs.declared.Counting.TheVariants as counting
use Rattle.packet.specs.Table.{Row, content_bytes, row_of, count_line, count_by, count_in, content_lines, code, ending, packet}
use Rattle.packet.specs.declared.RowLines.{RowLines}
use Rattle.packet.specs.declared.Sizes.{Sizes}
use Rattle.packet.specs.InCode.{row_at}
use Rattle.packet.proofs.Spans.{stands}
use Rattle.packet.proofs.Good.{good}
use Rattle.packet.specs.Reading.{is_unknown, unknown_by, sizes_of, length_in, codes_in, kind_in, content_at, content_size, count_of, part_at, table_of, values_in, size_bad, length_bad, field_bad, read_cases, read_answer, text_answer, text_of, body_of, has_entries}
use Rattle.packet.proofs.ByType.{below_not}
use Rattle.reader.proofs.Zeros.{lead_is}
use Rattle.packet.proofs.Column.{count_size_lem, content_size_lem, column}
use Rattle.packet.proofs.Accepted.{no_size}
pub use Rattle.packet.proofs.Accepted.{Sized, sized, Accepted, accepted, right_size, text_there, text_from, text_inside, body_inside, later, later_not, text_later}

-- ---- answer 20
pub short : (b : List ℕ) → length b < 77 → true ≡ size_bad b
unfolding size_bad
short b h = rw (lt-leb 77 (length b) h)

pub long : (b : List ℕ) → 77 ≤ length b → 250 < length b → true ≡ size_bad b
unfolding size_bad
long b l h = rw (le-leb 77 (length b) l, lt-leb (length b) 250 h)

pub other : (b : List ℕ) → 77 ≤ length b → length b ≤ 250 → (length b ≡ length_in b + 2 → ⊥) → true ≡ size_bad b
unfolding size_bad
other b l h n = rw (le-leb 77 (length b) l, le-leb (length b) 250 h, ne_eqb (length b) (length_in b + 2) n)

pub few : (b : List ℕ) → 77 ≤ length b → length b ≤ 250 → length b ≡ length_in b + 2 → ltb (length b) (77 + 12 * codes_in b) ≡ size_bad b
unfolding size_bad
few b l h e = below_not (length b) (77 + 12 * codes_in b) ∙ rw (le-leb 77 (length b) l, le-leb (length b) 250 h, eq-eqb (length b) (length_in b + 2) e)

-- an accepted packet has at most 250 bytes
pub most : (b : List ℕ) → read_answer b ≡ 0 → length b ≤ 250
most b e = (sized b (no_size b e)).most

-- a count is that of a byte, or of at most as many bytes as there are
count_by_lem : (r : Row) (b : List ℕ) (q m : ℕ) → m < 256 → count_in r (bits b) q m < 256
count_by_lem r b q m h = go r.counting refl
  where
    go : (s : Counting) → r.counting ≡ s → count_in r (bits b) q m < 256
    go counting.Fixed e = rw e (omega arith)
    go counting.Counted e = rw e (at_small b (q + size r.before) 8 8 (omega arith))
    go counting.Raw e = rw e h
    go counting.Unknown e = rw e (omega arith)

pub count_small : (b : List ℕ) → length b ≤ 250 → count_of b < 256
unfolding count_of
count_small b h = count_by_lem (row_of (kind_in b)) b (content_at b) (content_size b) (omega arith)

-- ---- a content, and a packet
count_unmet : (a : ℕ) (s : Counting) (k : ℕ) (l : List ℕ) (p : ℕ) → (a ≡ 26 → ⊥) → fine a (count_line s k) (decode (count_line s k) l p) ≡ true
count_unmet a s k l p h = unmet_fine a (count_line s k) (decode (count_line s k) l p) (go s)
  where
    use_ne : eqb 26 a ≡ false
    use_ne = ne_eqb 26 a (λ e. h (sym e))

    go : (s : Counting) → all (λ (t : Line). not (eqb t.answer a)) (count_line s k) ≡ true
    go counting.Fixed = refl
    go counting.Counted = rw use_ne
    go counting.Raw = refl
    go counting.Unknown = refl

pub content_parts : (a : ℕ) (r : Row) (k : ℕ) (l : List ℕ) (q : ℕ) → (a ≡ 26 → ⊥)
    → fine a (content_lines r k) (decode (content_lines r k) l q)
    ≡ (fine a r.before (decode r.before l q) && (fine a (times k r.each) (decode (times k r.each) l (q + part_at r)) && fine a r.after (decode r.after l (q + part_at r + k * size r.each))))
unfolding content_lines part_at
content_parts a r k l q h =
    let L = count_line r.counting k in
    let M = times k r.each in
    let p1 : q + size r.before + size L ≡ q + (size r.before + size (count_line r.counting 0)) = omega (arith, count_size_lem r.counting k, count_size_lem r.counting 0) in
    let p2 : q + (size r.before + size (count_line r.counting 0)) + size M ≡ q + (size r.before + size (count_line r.counting 0)) + k * size r.each = ap (λ (n : ℕ). q + (size r.before + size (count_line r.counting 0)) + n) (size_times k r.each) in
    rw (fine_append a r.before (L ++ (M ++ r.after)) l q, fine_append a L (M ++ r.after) l (q + size r.before), count_unmet a r.counting k l (q + size r.before) h, p1, fine_append a M r.after l (q + (size r.before + size (count_line r.counting 0))), p2)

pub packet_parts : (a : ℕ) (b : List ℕ) → (a ≡ 26 → ⊥) → size (content_lines (row_of (kind_in b)) (count_of b)) ≡ 8 * content_size b
    → fine a (table_of b) (values_in b)
    ≡ ((fine a (times (codes_in b) code) (decode (times (codes_in b) code) (bits b) 24) && fine a ending (decode ending (bits b) (content_at b + 8 * content_size b)))
    && fine a (content_lines (row_of (kind_in b)) (count_of b)) (decode (content_lines (row_of (kind_in b)) (count_of b)) (bits b) (content_at b)))
unfolding table_of packet fine decode size
packet_parts a b h e =
    let n = codes_in b in
    let K = content_lines (row_of (kind_in b)) (count_of b) in
    let ne : eqb 26 a ≡ false = ne_eqb 26 a (λ x. h (sym x)) in
    let p1 : 24 + size (times n code) ≡ content_at b = ap (λ (x : ℕ). 24 + x) (size_times n code ∙ omega arith) in
    let p2 : content_at b + size K ≡ content_at b + 8 * content_size b = ap (λ (x : ℕ). content_at b + x) e in
    rw (ne, fine_append a (times n code) (K ++ ending) (bits b) 24, p1, fine_append a K ending (bits b) (content_at b), p2)
    (shuffle (fine a (times n code) (decode (times n code) (bits b) 24)) (fine a K (decode K (bits b) (content_at b))) (fine a ending (decode ending (bits b) (content_at b + 8 * content_size b))))
  where
    shuffle : (x y z : Bool) → (x && (y && z)) ≡ ((x && z) && y)
    shuffle true true z = sym (and-true z)
    shuffle true false true = refl
    shuffle true false false = refl
    shuffle false y z = refl

-- ---- counts and lengths from what the code computes
pub count_at : (b : List ℕ) (f : Kind) (n m : ℕ) → f ≡ kind_in b → n ≡ codes_in b → m ≡ content_size b → count_in (row_of f) (bits b) (24 + 96 * n) m ≡ count_of b
unfolding count_of
count_at b f n m e h i = rw (e, h, i)

pub count_is : (b : List ℕ) (f : Kind) (s : Counting) (n m p : ℕ) → f ≡ kind_in b → n ≡ codes_in b → m ≡ content_size b → s ≡ (row_of f).counting → p ≡ 16 + 96 * n + part_at (row_of f) → count_by s (at (bits b) p 8) m ≡ count_of b
count_is b f s n m p e h i es ep = go s es ∙ count_at b f n m e h i
  where
    go : (s : Counting) → s ≡ (row_of f).counting → count_by s (at (bits b) p 8) m ≡ count_in (row_of f) (bits b) (24 + 96 * n) m
    go counting.Fixed e = rw (sym e)
    go counting.Counted e = let q : p ≡ 24 + 96 * n + size (row_of f).before = omega (arith, ep, lead_is f counting.Counted (sym e)) in rw (sym e, q)
    go counting.Raw e = rw (sym e)
    go counting.Unknown e = rw (sym e)

pub length_at : (b : List ℕ) (f : Kind) (k m x y z : ℕ) → f ≡ kind_in b → k ≡ count_of b → m ≡ content_size b → x ≡ part_at (row_of f) → y ≡ size (row_of f).each → z ≡ size (row_of f).after
    → not (eqb (x + k * y + z) (8 * m)) ≡ length_bad b
unfolding length_bad
length_at b f k m x y z e h i p q r =
    let l = content_size_lem (row_of f) k in
    let w : x + k * y + z ≡ 8 * content_bytes f k = rw (p, q, r) (sym l ∙ column f k) in
    ap (λ (n : ℕ). not (eqb n (8 * m))) w ∙ ap not (eighths (content_bytes f k) m) ∙ rw (e, h, i)
  where
    eighths : (n m : ℕ) → eqb (8 * n) (8 * m) ≡ eqb n m
    eighths n m = by_test (eqb n m) (λ t. eq-eqb _ _ (ap (λ (j : ℕ). 8 * j) (eqb-true n m t)) ∙ sym t) (λ t. ne_eqb (8 * n) (8 * m) (λ (g : 8 * n ≡ 8 * m). eqb-false n m t (omega arith)) ∙ sym t)

pub row_fits : (k w : ℕ) → k < 256 → w ≤ 40 → k * w ≤ 10200
row_fits k w h g = le_trans (mul-le-mul_left k g) (omega arith)

pub frame_at : (a : ℕ) (b : List ℕ) (n m : ℕ) → n ≡ codes_in b → m ≡ content_size b
    → (fine a (times n code) (decode (times n code) (bits b) 24) && fine a ending (decode ending (bits b) (24 + 96 * n + 8 * m)))
    ≡ (fine a (times (codes_in b) code) (decode (times (codes_in b) code) (bits b) 24) && fine a ending (decode ending (bits b) (content_at b + 8 * content_size b)))
frame_at a b n m e f = rw (e, f)

pub content_here : (a : ℕ) (b : List ℕ) (f : Kind) (k n : ℕ) → f ≡ kind_in b → k ≡ count_of b → n ≡ codes_in b
    → fine a (content_lines (row_of f) k) (decode (content_lines (row_of f) k) (bits b) (24 + 96 * n))
    ≡ fine a (content_lines (row_of (kind_in b)) (count_of b)) (decode (content_lines (row_of (kind_in b)) (count_of b)) (bits b) (content_at b))
content_here a b f k n e h i = rw (e, h, i)

-- ---- the reader's answers, one law for each way out of the code
module _ (b : List ℕ) where
  pub says_20 : size_bad b ≡ true → 20 ≡ read_answer b
  unfolding read_answer
  says_20 e = sym (stop _ _ e)

  module _ (s : size_bad b ≡ false) where
    pub says_23 : is_unknown (kind_in b) ≡ true → 23 ≡ read_answer b
    unfolding read_answer
    says_23 e = sym (pass _ _ s ∙ stop _ _ e)

    module _ (u : is_unknown (kind_in b) ≡ false) where
      pub says_26 : length_bad b ≡ true → 26 ≡ read_answer b
      unfolding read_answer
      says_26 e = sym (pass _ _ s ∙ pass _ _ u ∙ stop _ _ e)

      pub then_lines : length_bad b ≡ false → (a : ℕ) → a ≡ first (drop 3 (read_cases b)) → a ≡ read_answer b
      unfolding read_answer
      then_lines l a e = e ∙ sym (pass _ _ s ∙ pass _ _ u ∙ pass _ _ l)

  pub says_24 : fine 24 (table_of b) (values_in b) ≡ false → 24 ≡ first (drop 3 (read_cases b))
  says_24 e = sym (stop _ _ (ap not e))

  module _ (r : fine 24 (table_of b) (values_in b) ≡ true) where
    pub says_25 : fine 25 (table_of b) (values_in b) ≡ false → 25 ≡ first (drop 3 (read_cases b))
    says_25 e = sym (pass _ _ (ap not r) ∙ stop _ _ (ap not e))

    module _ (d : fine 25 (table_of b) (values_in b) ≡ true) where
      pub says_27 : field_bad b ≡ true → 27 ≡ first (drop 3 (read_cases b))
      says_27 e = sym (pass _ _ (ap not r) ∙ pass _ _ (ap not d) ∙ stop _ _ e)

      pub says_0 : field_bad b ≡ false → 0 ≡ first (drop 3 (read_cases b))
      says_0 e = sym (pass _ _ (ap not r) ∙ pass _ _ (ap not d) ∙ pass 27 [] e ∙ none_left)

-- ---- the parts that are handed back, from what the code computes: n codes, and k bytes
module _ (b : List ℕ) (n k : ℕ) (codes : n ≡ codes_in b) where
  module _ (l : ℕ) (lead : l ≡ part_at (row_of (kind_in b))) where
    text_begins : text_answer b ≡ 0 → 3 + 12 * n + l / 8 ≡ 23 + 12 * codes_in b
    text_begins e = rw (codes, lead) (text_from b (text_there b e).1).0

    pub text_end : text_answer b ≡ 0 → k ≡ count_of b → 3 + 12 * n + l / 8 + k ≤ length b
    text_end e f = let t = text_there b e in omega (arith, text_inside b (accepted b t.0) t.1, text_begins e, f)

    pub text_part : text_answer b ≡ 0 → k ≡ count_of b → take k (drop (3 + 12 * n + l / 8) b) ≡ text_of b
    unfolding text_of
    text_part e f = rw (text_begins e, e, f)

    pub body_end : read_answer b ≡ 0 → k ≡ cond (has_entries (kind_in b)) 0 (count_of b) → 3 + 12 * n + l / 8 + k ≤ length b
    body_end e f = rw (codes, lead, f) (omega (arith, body_inside b (accepted b e)))

    pub body_part : read_answer b ≡ 0 → k ≡ cond (has_entries (kind_in b)) 0 (count_of b) → take k (drop (3 + 12 * n + l / 8) b) ≡ body_of b
    unfolding body_of
    body_part e f = rw (e, f, lead, codes)

-- the sizes of a kind's row, and how many at most
pub record SizesOf (f : Kind) (z : Sizes) : Type 0 where
  pub lead : z.lead ≡ part_at (row_of f)
  pub each : z.each ≡ size (row_of f).each
  pub rest : z.rest ≡ size (row_of f).after
  pub lead_most : z.lead ≤ 160
  pub each_most : z.each ≤ 40
  pub rest_most : z.rest ≤ 96

pub sizes : (f : Kind) (z : Sizes) → z ≡ sizes_of f → SizesOf f z
sizes f z e =
    let l = ap (λ (x : Sizes). x.lead) e in
    let r = ap (λ (x : Sizes). x.each) e in
    let s = ap (λ (x : Sizes). x.rest) e in
    let g = good f in
    record { lead = l; each = r; rest = s; lead_most = omega (arith, l, g.lead); each_most = omega (arith, r, g.row); rest_most = omega (arith, s, g.rest) }

-- ---- what the functions that ask a heading found
pub unknown_is : (f : Kind) (s : RowLines) (u : Bool) → s ≡ row_at f → u ≡ unknown_by s.counting → u ≡ is_unknown f
unknown_is f s u e h = h ∙ ap unknown_by (stands f e).same

pub count_here : (b : List ℕ) (f : Kind) (s : RowLines) (z : Sizes) (n m k : ℕ) → f ≡ kind_in b → s ≡ row_at f → z ≡ sizes_of f → n ≡ codes_in b → m ≡ content_size b → k ≡ count_by s.counting (at (bits b) (16 + 96 * n + z.lead) 8) m → k ≡ count_of b
count_here b f s z n m k ef es ez en em h = h ∙ count_is b f _ n m _ ef en em (stands f es).same (ap (λ (x : ℕ). 16 + 96 * n + x) (sizes f z ez).lead)

pub long_here : (b : List ℕ) (f : Kind) (z : Sizes) (k m : ℕ) (l : Bool) → f ≡ kind_in b → z ≡ sizes_of f → k ≡ count_of b → m ≡ content_size b → l ≡ not (eqb (z.lead + k * z.each + z.rest) (8 * m)) → l ≡ length_bad b
long_here b f z k m l ef ez ek em h = let Z = sizes f z ez in h ∙ length_at b f k m _ _ _ ef ek em Z.lead Z.each Z.rest
