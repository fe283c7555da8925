-- A packet's table part by part: sizes, numbers, values and tests. Assumes nothing.
use mathlib.Core.Path.{◌≡◌, refl, sym, ap, ◌∙◌}
use mathlib.Core.List.{List, [], ◌∷◌, ◌++◌, append-nil}
use mathlib.Core.Bool.{Bool, true, false}
use Prim.Native.Nat.{ℕ, ◌+◌, ◌*◌, ◌-◌}
use native.Mathlib.Omega.{arith}
use lib.ListN.{length}
use lib.Dec.{eqb}
use Rattle.laws.specs.Bits.{at, run}
use Rattle.laws.specs.Scan.{all}
use Rattle.laws.proofs.Cases.{and_left, and_right, and_yes}
use Rattle.format.specs.declared.Line.{Line}
use Rattle.format.specs.Format.{times, just, size, decode, need, fill, flat, line_ok, fine, unmet}
use Rattle.format.proofs.Tables.{fine_append, fine_join, unmet_fine, size_append, size_times, need_append, need_times, flat_append, fill_join, length_fill, all_append, all_times}
use Rattle.packet.specs.declared.Counting.{Counting}
use Rattle.packet.specs.declared.Counting.TheVariants as counting
use Rattle.packet.specs.Table.{Row, count_line, content_lines, code, ending, packet}
use Rattle.packet.specs.Reading.{part_at}
use Rattle.packet.proofs.Column.{count_size_lem}

-- ---- sizes
pub count_need : (s : Counting) (k : ℕ) → need (count_line s k) ≡ 0
unfolding need
count_need counting.Fixed k = refl
count_need counting.Counted k = refl
count_need counting.Raw k = refl
count_need counting.Unknown k = refl

count_flat : (s : Counting) (k : ℕ) (l : List ℕ) (p : ℕ) → flat (count_line s k) (decode (count_line s k) l p) ≡ []
unfolding flat decode
count_flat counting.Fixed k l p = refl
count_flat counting.Counted k l p = refl
count_flat counting.Raw k l p = refl
count_flat counting.Unknown k l p = refl

pub content_need : (r : Row) (k : ℕ) → need (content_lines r k) ≡ need r.before + k * need r.each + need r.after
unfolding content_lines
content_need r k =
    let L = count_line r.counting k in
    omega (arith, need_append r.before (L ++ (times k r.each ++ r.after)), need_append L (times k r.each ++ r.after), need_append (times k r.each) r.after, need_times k r.each, count_need r.counting k)

pub size_code : (n : ℕ) → size (times n code) ≡ 96 * n
unfolding size
size_code n = size_times n code ∙ omega arith

pub need_code : (n : ℕ) → need (times n code) ≡ n * 23
unfolding need
need_code n = need_times n code

pub size_packet : (r : Row) (t p n k : ℕ) → size (packet r t p n k) ≡ 616 + 96 * n + size (content_lines r k)
unfolding packet size
size_packet r t p n k = omega (arith, size_append (times n code) (content_lines r k ++ ending), size_append (content_lines r k) ending, size_code n)

pub need_packet : (r : Row) (t p n k : ℕ) → need (packet r t p n k) ≡ n * 23 + (need (content_lines r k) + 77)
unfolding packet need
need_packet r t p n k = omega (arith, need_append (times n code) (content_lines r k ++ ending), need_append (content_lines r k) ending, need_code n)

-- ---- the numbers of bits by a table, part by part
abbrev numbers : List Line → List ℕ → ℕ → List ℕ
numbers ts l p = flat ts (decode ts l p)

pub content_flat : (r : Row) (k : ℕ) (l : List ℕ) (q : ℕ)
    → numbers (content_lines r k) l q ≡ numbers r.before l q ++ (numbers (times k r.each) l (q + part_at r) ++ numbers r.after l (q + (part_at r + k * size r.each)))
unfolding content_lines part_at
content_flat r k l q =
    let L = count_line r.counting k in
    let M = times k r.each in
    let p1 : q + size r.before + size L ≡ q + (size r.before + size (count_line r.counting 0)) = omega (arith, count_size_lem r.counting k, count_size_lem r.counting 0) in
    let p2 : q + (size r.before + size (count_line r.counting 0)) + size M ≡ q + (size r.before + size (count_line r.counting 0) + k * size r.each) = omega (arith, size_times k r.each) in
    rw (flat_append r.before (L ++ (M ++ r.after)) l q, flat_append L (M ++ r.after) l (q + size r.before), count_flat r.counting k l (q + size r.before), p1, flat_append M r.after l (q + (size r.before + size (count_line r.counting 0))), p2)

pub packet_flat : (r : Row) (t p n k : ℕ) (l : List ℕ)
    → numbers (packet r t p n k) l 0 ≡ numbers (times n code) l 24 ++ (numbers (content_lines r k) l (24 + 96 * n) ++ numbers ending l (24 + 96 * n + size (content_lines r k)))
unfolding packet flat decode
packet_flat r t p n k l =
    let p1 : 24 + size (times n code) ≡ 24 + 96 * n = ap (λ (x : ℕ). 24 + x) (size_code n) in
    rw (flat_append (times n code) (content_lines r k ++ ending) l 24, p1, flat_append (content_lines r k) ending l (24 + 96 * n))

pub ending_flat : (l : List ℕ) (p : ℕ) → numbers ending l p ≡ at l p 32 ∷ (run l (p + 32) 12 4 ++ run l (p + 80) 64 8)
unfolding flat decode run
ending_flat l p =
    let e : p + 32 + 48 ≡ p + 80 = omega arith in
    simp (one l p 32, e, append-nil)
  where
    one : (l : List ℕ) (p w : ℕ) → run l p 1 w ≡ at l p w ∷ []
    one l p w = refl

-- ---- the values of numbers by a table, part by part
pub content_fill : (r : Row) (k : ℕ) (x y z : List ℕ) → length x ≡ need r.before → length y ≡ k * need r.each
    → fill (content_lines r k) (x ++ (y ++ z)) ≡ fill r.before x ++ (fill (count_line r.counting k) [] ++ (fill (times k r.each) y ++ fill r.after z))
unfolding content_lines
content_fill r k x y z hx hy =
    let L = count_line r.counting k in
    rw (fill_join r.before (L ++ (times k r.each ++ r.after)) x (y ++ z) hx, fill_join L (times k r.each ++ r.after) [] (y ++ z) (sym (count_need r.counting k)), fill_join (times k r.each) r.after y z (hy ∙ sym (need_times k r.each)))

pub packet_fill : (r : Row) (t p n k : ℕ) (x y z : List ℕ) → length x ≡ n * 23 → length y ≡ need (content_lines r k)
    → fill (packet r t p n k) (x ++ (y ++ z)) ≡ (t ∷ []) ∷ ((p - 2) ∷ []) ∷ (n ∷ []) ∷ (fill (times n code) x ++ (fill (content_lines r k) y ++ fill ending z))
unfolding packet fill
packet_fill r t p n k x y z hx hy =
    rw (fill_join (times n code) (content_lines r k ++ ending) x (y ++ z) (hx ∙ sym (need_code n)), fill_join (content_lines r k) ending y z hy)

-- ---- what holds of every line of a packet
pub all_packet : (f : Line → Bool) (r : Row) (t p n k : ℕ) → f (just 5 t) ≡ true → f (just 11 (p - 2)) ≡ true → f (just 8 n) ≡ true → all f (count_line r.counting k) ≡ true → all f code ≡ true → all f ending ≡ true
    → all f r.before ≡ true → all f r.each ≡ true → all f r.after ≡ true → all f (packet r t p n k) ≡ true
unfolding packet content_lines
all_packet f r t p n k h1 h2 h3 hk hc he hb hr ha =
    let c = all_times f n code hc in
    let m = all_times f k r.each hr in
    rw (h1, h2, h3, all_append f (times n code) ((r.before ++ (count_line r.counting k ++ (times k r.each ++ r.after))) ++ ending), c, all_append f (r.before ++ (count_line r.counting k ++ (times k r.each ++ r.after))) ending, all_append f r.before (count_line r.counting k ++ (times k r.each ++ r.after)), hb, all_append f (count_line r.counting k) (times k r.each ++ r.after), hk, all_append f (times k r.each) r.after, m, ha, he)

pub all_count : (f : Line → Bool) (s : Counting) (k : ℕ) → f (just 8 k) ≡ true → all f (count_line s k) ≡ true
all_count f counting.Fixed k h = refl
all_count f counting.Counted k h = rw h
all_count f counting.Raw k h = refl
all_count f counting.Unknown k h = refl

-- ---- the lines after the heading
rest_fine : (a t p n : ℕ) (l : List ℕ) (R : List Line) → fine a (just 5 t ∷ just 11 (p - 2) ∷ just 8 n ∷ R) (decode (just 5 t ∷ just 11 (p - 2) ∷ just 8 n ∷ R) l 0) ≡ true → fine a R (decode R l 24) ≡ true
unfolding fine decode
rest_fine a t p n l R e =
    let x = and_right (line_ok a (just 5 t) (run l 0 1 5)) _ e in
    let y = and_right (line_ok a (just 11 (p - 2)) (run l 5 1 11)) _ x in
    and_right (line_ok a (just 8 n) (run l 16 1 8)) _ y

-- ---- the count line of a packet without a fault of 26
pub packet_26 : (r : Row) (t p n k : ℕ) (l : List ℕ) → fine 26 (packet r t p n k) (decode (packet r t p n k) l 0) ≡ true
    → fine 26 (count_line r.counting k) (decode (count_line r.counting k) l (24 + 96 * n + size r.before)) ≡ true
unfolding packet content_lines
packet_26 r t p n k l e =
    let L = count_line r.counting k in
    let K = r.before ++ (L ++ (times k r.each ++ r.after)) in
    let a = rest_fine 26 t p n l (times n code ++ (K ++ ending)) e in
    let c = and_right (fine 26 (times n code) (decode (times n code) l 24)) _ (sym (fine_append 26 (times n code) (K ++ ending) l 24) ∙ a) in
    let d = and_left (fine 26 K (decode K l (24 + size (times n code)))) _ (sym (fine_append 26 K ending l (24 + size (times n code))) ∙ c) in
    let g = and_right (fine 26 r.before (decode r.before l (24 + size (times n code)))) _ (sym (fine_append 26 r.before (L ++ (times k r.each ++ r.after)) l (24 + size (times n code))) ∙ d) in
    let h = and_left (fine 26 L (decode L l (24 + size (times n code) + size r.before))) _ (sym (fine_append 26 L (times k r.each ++ r.after) l (24 + size (times n code) + size r.before)) ∙ g) in
    sym (ap (λ (x : ℕ). fine 26 L (decode L l (24 + x + size r.before))) (size_code n)) ∙ h

-- ---- tests of values, part by part
pub content_fine : (a : ℕ) (r : Row) (k : ℕ) (x y z : List ℕ) → length x ≡ need r.before → length y ≡ k * need r.each
    → fine a r.before (fill r.before x) ≡ true → all (unmet a) (count_line r.counting k) ≡ true → fine a (times k r.each) (fill (times k r.each) y) ≡ true → fine a r.after (fill r.after z) ≡ true
    → fine a (content_lines r k) (fill (content_lines r k) (x ++ (y ++ z))) ≡ true
unfolding content_lines
content_fine a r k x y z hx hy f1 f2 f3 f4 =
    let L = count_line r.counting k in
    let M = times k r.each in
    ap (fine a (content_lines r k)) (content_fill r k x y z hx hy)
    ∙ fine_join a r.before (L ++ (M ++ r.after)) (fill r.before x) _ (length_fill r.before x) ∙ and_yes _ f1
    ∙ fine_join a L (M ++ r.after) (fill L []) _ (length_fill L []) ∙ and_yes _ (unmet_fine a L (fill L []) f2)
    ∙ fine_join a M r.after (fill M y) (fill r.after z) (length_fill M y) ∙ and_yes _ f3 ∙ f4

pub packet_fine : (a : ℕ) (r : Row) (t p n k : ℕ) (x y z : List ℕ) → eqb 26 a ≡ false
    → fine a (times n code) (fill (times n code) x) ≡ true → fine a (content_lines r k) (fill (content_lines r k) y) ≡ true → fine a ending (fill ending z) ≡ true
    → fine a (packet r t p n k) ((t ∷ []) ∷ ((p - 2) ∷ []) ∷ (n ∷ []) ∷ (fill (times n code) x ++ (fill (content_lines r k) y ++ fill ending z))) ≡ true
unfolding packet fine
packet_fine a r t p n k x y z e f1 f2 f3 =
    rw (e, fine_join a (times n code) (content_lines r k ++ ending) (fill (times n code) x) (fill (content_lines r k) y ++ fill ending z) (length_fill (times n code) x), f1, fine_join a (content_lines r k) ending (fill (content_lines r k) y) (fill ending z) (length_fill (content_lines r k) y), f2, f3)

-- ---- a packet without a fault has none in the lines before and after what is repeated
pub ends_fine : (a : ℕ) (r : Row) (t p n k : ℕ) (l : List ℕ) → fine a (packet r t p n k) (decode (packet r t p n k) l 0) ≡ true
    → (fine a r.before (decode r.before l (24 + 96 * n)) ≡ true) × (fine a r.after (decode r.after l (24 + 96 * n + (part_at r + k * size r.each))) ≡ true)
unfolding packet content_lines part_at
ends_fine a r t p n k l e =
    let L = count_line r.counting k in
    let M = times k r.each in
    let K = r.before ++ (L ++ (M ++ r.after)) in
    let q = 24 + size (times n code) in
    let b = rest_fine a t p n l (times n code ++ (K ++ ending)) e in
    let c = and_right (fine a (times n code) (decode (times n code) l 24)) _ (sym (fine_append a (times n code) (K ++ ending) l 24) ∙ b) in
    let d = and_left (fine a K (decode K l q)) _ (sym (fine_append a K ending l q) ∙ c) in
    let g = sym (fine_append a r.before (L ++ (M ++ r.after)) l q) ∙ d in
    let g1 = and_left (fine a r.before (decode r.before l q)) _ g in
    let g2 = and_right (fine a r.before (decode r.before l q)) _ g in
    let h = and_right (fine a L (decode L l (q + size r.before))) _ (sym (fine_append a L (M ++ r.after) l (q + size r.before)) ∙ g2) in
    let i = and_right (fine a M (decode M l (q + size r.before + size L))) _ (sym (fine_append a M r.after l (q + size r.before + size L)) ∙ h) in
    let w : q + size r.before + size L + size M ≡ 24 + 96 * n + (size r.before + size (count_line r.counting 0) + k * size r.each) = omega (arith, size_code n, count_size_lem r.counting k, count_size_lem r.counting 0, size_times k r.each) in (
      sym (ap (λ (x : ℕ). fine a r.before (decode r.before l (24 + x))) (size_code n)) ∙ g1,
      sym (ap (λ (x : ℕ). fine a r.after (decode r.after l x)) w) ∙ i,
    )
