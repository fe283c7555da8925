-- The tests of the lines of a packet that a reader answers 0. Assumes nothing.
use mathlib.Core.Path.{◌≡◌, refl, sym, ap, ap₂, ◌∙◌}
use mathlib.Core.List.{List, [], ◌∷◌}
use mathlib.Core.Bool.{Bool, true, false, not, ◌&&◌, ◌||◌, or-true}
use Prim.Native.Nat.{ℕ, ◌+◌, ◌*◌, ◌-◌, ◌≤◌}
use native.Mathlib.Nat.{zero-mul}
use native.Mathlib.Omega.{arith}
use lib.ListN.{length}
use lib.Dec.{eqb}
use borrow.Author.Tests.{eqb-true, le-leb, eq-eqb}
use Rattle.laws.specs.Bits.{at, run, bits}
use Rattle.laws.specs.Scan.{all}
use Rattle.laws.proofs.Bits.{at_small}
use Rattle.laws.proofs.Cases.{and_yes, and_no}
use Rattle.format.specs.declared.Line.{Line}
use Rattle.format.specs.Format.{just, size, decode, need, inside, line_ok, fine, unmet}
use Rattle.format.proofs.Tables.{settled}
use Rattle.packet.specs.declared.Kind.{Kind}
use Rattle.packet.specs.declared.Kind.TheVariants.{Frequencies}
use Rattle.packet.specs.declared.Counting.{Counting}
use Rattle.packet.specs.declared.Counting.TheVariants as counting
use Rattle.packet.specs.Table.{Row, row_of, count_line, count_in, content_lines, code, ending, packet}
use Rattle.packet.specs.Content.{content_of, count_for}
use Rattle.packet.specs.Reading.{type_in, codes_in, kind_in, content_at, content_size, count_of, part_at, table_of, values_in, digits_in, padded, fields_of}
use Rattle.packet.specs.Writing.{lent_bad, body_lost}
use Rattle.packet.proofs.Column.{content_size_lem}
use Rattle.trips.proofs.Parts as parts
use Rattle.trips.proofs.Contents as contents

pub of_count : (b : List ℕ) → count_of b ≡ count_in (row_of (kind_in b)) (bits b) (content_at b) (content_size b)
unfolding count_of
of_count b = refl

pub code_26 : all (unmet 26) code ≡ true
code_26 = refl

pub ending_26 : all (unmet 26) ending ≡ true
ending_26 = refl

same_26 : (w x : ℕ) (y : ℕ) → y ≡ x → line_ok 26 (just w x) (y ∷ []) ≡ true
unfolding inside
same_26 w x y e = rw (e, le-leb x x (omega arith))

pub heading : (t p n : ℕ) (l : List ℕ) (R : List Line) → at l 0 5 ≡ t → at l 5 11 ≡ p → at l 16 8 ≡ n → fine 26 R (decode R l 24) ≡ true → fine 26 (just 5 t ∷ just 11 p ∷ just 8 n ∷ R) (decode (just 5 t ∷ just 11 p ∷ just 8 n ∷ R) l 0) ≡ true
unfolding fine decode run
heading t p n l R a b c e = and_yes _ (same_26 5 t (at l 0 5) a) ∙ and_yes _ (same_26 11 p (at l 5 11) b) ∙ and_yes _ (same_26 8 n (at l 16 8) c) ∙ e

pub count_26 : (r : Row) (l : List ℕ) (q m k : ℕ) → k ≡ count_in r l q m → fine 26 (count_line r.counting k) (decode (count_line r.counting k) l (q + size r.before)) ≡ true
unfolding fine decode run
count_26 r l q m k h = go r.counting refl
  where
    go : (s : Counting) → r.counting ≡ s → fine 26 (count_line r.counting k) (decode (count_line r.counting k) l (q + size r.before)) ≡ true
    go counting.Fixed e = rw e
    go counting.Counted e = rw e (and_yes true (same_26 8 k (at l (q + size r.before) 8) (sym (rw e at h))))
    go counting.Raw e = rw e
    go counting.Unknown e = rw e

pub settled_table : (b : List ℕ) → all settled (table_of b) ≡ true
unfolding table_of
settled_table b =
    let g = contents.fair (kind_in b) in
    let r = row_of (kind_in b) in
    let j : (w x : ℕ) → settled (just w x) ≡ true = λ w x. ap (λ (t : Bool). t && true) (eq-eqb x x refl) in
    parts.all_packet settled r (type_in b) (length b) (codes_in b) (count_of b) (j 5 (type_in b)) (j 11 (length b - 2)) (j 8 (codes_in b)) (parts.all_count settled r.counting (count_of b) (j 8 (count_of b))) refl refl g.settled1 g.settled2 g.settled3

pub table_25 : (b : List ℕ) → fine 25 (table_of b) (values_in b) ≡ true → fine 25 (packet (row_of (kind_in b)) (type_in b) (length b) (codes_in b) (count_of b)) (decode (packet (row_of (kind_in b)) (type_in b) (length b) (codes_in b) (count_of b)) (bits b) 0) ≡ true
unfolding table_of
table_25 b e = e

pub digits_of : (b : List ℕ) → inside 0 9 (padded 35 (digits_in b)) ≡ true → inside 0 9 (fields_of b).digits ≡ true
unfolding fields_of
digits_of b e = e

pub later_true : (x y : Bool) → y ≡ true → (x || y) ≡ true
later_true x y e = ap (λ (t : Bool). x || t) e ∙ or-true x

pub only_none : (t n : ℕ) → (t ≡ 1 → n ≡ 0) → (eqb t 1 && not (eqb n 0)) ≡ false
only_none t n h = go (eqb t 1) refl
  where
    go : (x : Bool) → eqb t 1 ≡ x → (eqb t 1 && not (eqb n 0)) ≡ false
    go true e = ap₂ (λ (x y : Bool). x && not y) e (eq-eqb n 0 (h (eqb-true t 1 e)))
    go false e = and_no _ e

pub lent_right : (r : Row) (b : List ℕ) (k : ℕ) (body : List ℕ) (q m : ℕ) → k ≡ count_in r (bits b) q m → length body ≡ k * need r.each → lent_bad r.counting k (need r.each) (length body) ≡ false
lent_right r b k body q m h n = go r.counting refl
  where
    go : (s : Counting) → r.counting ≡ s → lent_bad r.counting k (need r.each) (length body) ≡ false
    go counting.Fixed e = rw e
    go counting.Counted e =
        let c : k ≡ at (bits b) (q + size r.before) 8 = rw e at h in
        rw e (ap not (ap₂ ◌&&◌ (le-leb k 255 (omega (arith, c, at_small b (q + size r.before) 8 8 (omega arith)))) (eq-eqb (length body) (k * need r.each) n)))
    go counting.Raw e = rw e
    go counting.Unknown e = rw e

pub body_right : (r : Row) (b : List ℕ) (k : ℕ) (body : List ℕ) (q m : ℕ) → k ≡ count_in r (bits b) q m → length body ≡ k * need r.each → body_lost r.counting (length body) ≡ false
body_right r b k body q m h n = go r.counting refl
  where
    go : (s : Counting) → r.counting ≡ s → body_lost r.counting (length body) ≡ false
    go counting.Fixed e =
        let c : k ≡ 0 = rw e at h in
        rw e (ap not (eq-eqb (length body) 0 (n ∙ ap (λ (x : ℕ). x * need r.each) c ∙ zero-mul (need r.each))))
    go counting.Counted e = rw e
    go counting.Raw e = rw e
    go counting.Unknown e = rw e

pub entries_few : (f : Kind) (k : ℕ) (body : List ℕ) (m : ℕ) → f ≡ Frequencies → size (content_lines (row_of f) k) ≡ 8 * m → length body ≡ k * need (row_of f).each → m ≤ 173 → length body + 0 ≤ 272
unfolding size need part_at
entries_few f k body m e h n l =
    let s : size (content_lines (row_of Frequencies) k) ≡ 8 + k * 40 + 0 = content_size_lem (row_of Frequencies) k in
    let s1 : size (content_lines (row_of f) k) ≡ 8 + k * 40 + 0 = ap (λ (g : Kind). size (content_lines (row_of g) k)) e ∙ s in
    let n1 : length body ≡ k * 8 = n ∙ ap (λ (g : Kind). k * need (row_of g).each) e in
    omega arith

pub entries_count : (f : Kind) (xs : List ℕ) (k : ℕ) (body : List ℕ) → f ≡ Frequencies → length body ≡ k * need (row_of f).each → count_for (content_of f xs k) [] * 8 ≡ length body
unfolding need
entries_count f xs k body e n = ap (λ (g : Kind). count_for (content_of g xs k) [] * 8) e ∙ sym (n ∙ ap (λ (g : Kind). k * need (row_of g).each) e)
