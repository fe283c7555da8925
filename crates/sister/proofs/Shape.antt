-- Lines of one shape, first numbers, a count, bytes of address, codes: their bits, numbers, values and tests part by part. Assumes nothing.
use mathlib.Core.Path.{◌≡◌, refl, sym, ap, ◌∙◌}
use mathlib.Core.List.{List, [], ◌∷◌, ◌++◌, append-nil, append_assoc}
use mathlib.Core.Bool.{Bool, true, ◌&&◌, and-true}
use Prim.Native.Nat.{ℕ, zero, suc, ◌+◌, ◌*◌, ◌≤◌}
use native.Mathlib.Nat.{zero-mul, mul-zero, mul-suc}
use native.Mathlib.Omega.{arith}
use lib.ListN.{length, take, drop, get_or}
use lib.Seq.{take_at, drop_at, drop-cons}
use borrow.Author.Tests.{le-leb}
use Rattle.laws.specs.Bits.{run, bits_of, spread}
use Rattle.laws.specs.Scan.{all}
use Rattle.laws.proofs.Bits.{Under, length_run}
use Rattle.laws.proofs.Cases.{and_both, and_yes}
use Rattle.format.specs.declared.Line.{Line}
use Rattle.format.specs.Format.{octets, just, times, size, need, encode, decode, fill, flat, inside, fine, unmet}
use Rattle.format.proofs.Tables.{size_append, need_append, size_times, need_times, flat_append, fine_append, fill_join, encode_join, length_fill, length_flat, unmet_fine, all_append, all_times}
use Rattle.packet.specs.Table.{Row, count_line, code}
use Rattle.packet.specs.Reading.{part_at}
use Rattle.packet.proofs.Column.{count_size_lem}
use Rattle.trips.proofs.Fitting.{nil_of}
use Rattle.trips.proofs.Parts.{count_need, all_count, size_code, need_code}
use Rattle.writer.proofs.Fine.{two_fine}

-- ---- rows of rows
times_add : (a b : ℕ) (row : List Line) → times (a + b) row ≡ times a row ++ times b row
unfolding times
times_add zero b row = let e : zero + b ≡ b = omega arith in rw e
times_add (suc a) b row =
    let e : suc a + b ≡ suc (a + b) = omega arith in
    ap (λ (n : ℕ). times n row) e ∙ ap (λ (l : List Line). row ++ l) (times_add a b row) ∙ sym (append_assoc row (times a row) (times b row))

times_mul : (k a : ℕ) (row : List Line) → times k (times a row) ≡ times (a * k) row
unfolding times
times_mul zero a row = ap (λ (n : ℕ). times n row) (sym (mul-zero a))
times_mul (suc k) a row =
    let e : a + a * k ≡ a * suc k = omega (arith, mul-suc a k) in
    ap (λ (l : List Line). times a row ++ l) (times_mul k a row) ∙ sym (times_add a (a * k) row) ∙ ap (λ (n : ℕ). times n row) e

-- rows of the one sort or of the other
either_rows : (a c k : ℕ) (A C : List Line) → a * c ≡ 0 → times k (times a A ++ times c C) ≡ times (a * k) A ++ times (c * k) C
unfolding times
either_rows zero c k A C h = times_mul k c C ∙ ap (λ (n : ℕ). times n A ++ times (c * k) C) (sym (zero-mul k))
either_rows (suc a) zero k A C h =
    ap (times k) (append-nil (times (suc a) A)) ∙ times_mul k (suc a) A ∙ sym (append-nil (times (suc a * k) A))
    ∙ ap (λ (n : ℕ). times (suc a * k) A ++ times n C) (sym (zero-mul k))
either_rows (suc a) (suc c) k A C h = absurd (omega (arith, mul-suc (suc a) c))

-- and rows of the other behind them
pub rows_apart : (a c n k : ℕ) (A C : List Line) → a * c ≡ 0 → times k (times a A ++ times c C) ++ times n C ≡ times (a * k) A ++ times (n + c * k) C
rows_apart a c n k A C h =
    let e : c * k + n ≡ n + c * k = omega arith in
    ap (λ (l : List Line). l ++ times n C) (either_rows a c k A C h) ∙ append_assoc (times (a * k) A) (times (c * k) C) (times n C)
    ∙ ap (λ (l : List Line). times (a * k) A ++ l) (sym (times_add (c * k) n C) ∙ ap (λ (x : ℕ). times x C) e)

-- ---- bytes of address
abbrev pub octet : List Line
octet = octets 1 ∷ []

octets_size : (m : ℕ) → size (times m octet) ≡ 8 * m
unfolding size
octets_size m = size_times m octet ∙ omega arith

pub octets_need : (m : ℕ) → need (times m octet) ≡ m
unfolding need
octets_need m = need_times m octet ∙ omega arith

octets_bits : (m : ℕ) (xs : List ℕ) → length xs ≡ m → encode (times m octet) (fill (times m octet) xs) ≡ spread 8 xs
unfolding times encode fill spread
octets_bits zero [] h = refl
octets_bits zero (x ∷ xs) h = absurd (omega arith)
octets_bits (suc m) [] h = absurd (omega arith)
octets_bits (suc m) (x ∷ xs) h = rw (append-nil (bits_of 8 x), octets_bits m xs (omega arith))

-- they have their eight bits
pub octets_fine : (m : ℕ) (xs : List ℕ) → Under 256 xs → fine 0 (times m octet) (fill (times m octet) xs) ≡ true
unfolding times fine fill inside
octets_fine zero xs u = refl
octets_fine (suc m) [] u = octets_fine m [] u
octets_fine (suc m) (x ∷ xs) u = rw (le-leb 0 x (omega arith), le-leb x 255 (omega (arith, u 0))) (octets_fine m xs (λ i. u (suc i)))

-- ---- lines that are all free, and their numbers by place
abbrev pub free : Line → Bool
free t = t.given

pub fill_free : (ts : List Line) (l : List ℕ) (p : ℕ) → all free ts ≡ true → fill ts (flat ts (decode ts l p)) ≡ decode ts l p
unfolding fill flat decode
fill_free [] l p h = refl
fill_free (t ∷ ts) l p h =
    let a = and_both t.given (all free ts) h in
    let q = p + t.count * t.width in
    let v = run l p t.count t.width in
    let n = length_run l p t.count t.width in
    let f = flat ts (decode ts l q) in
    rw (a.0, take_at v f t.count n, drop_at v f t.count n) (ap (λ (ws : List (List ℕ)). v ∷ ws) (fill_free ts l q a.1))

-- n numbers from place i on, 0 past the end
unfoldable pub firsts : ℕ → ℕ → List ℕ → List ℕ
firsts i zero xs = []
firsts i (suc n) xs = get_or xs i 0 ∷ firsts (suc i) n xs

pub firsts_long : (i n : ℕ) (xs : List ℕ) → length (firsts i n xs) ≡ n
unfolding firsts
firsts_long i zero xs = refl
firsts_long i (suc n) xs = ap suc (firsts_long (suc i) n xs)

pub firsts_are : (i n : ℕ) (xs : List ℕ) → i + n ≤ length xs → firsts i n xs ≡ take n (drop i xs)
unfolding firsts
firsts_are i zero xs h = refl
firsts_are i (suc n) xs h = ap (λ (l : List ℕ). get_or xs i 0 ∷ l) (firsts_are (suc i) n xs (omega arith)) ∙ sym (ap (take (suc n)) (drop-cons xs i 0 (omega arith)))

-- ---- the shape
abbrev pub shaped : Row → ℕ → ℕ → ℕ → List Line
shaped r k m n = r.before ++ (count_line r.counting k ++ (times m octet ++ times n code))

module _ (r : Row) (k m n : ℕ) where
  abbrev B : List Line
  B = r.before

  abbrev L : List Line
  L = count_line r.counting k

  abbrev O : List Line
  O = times m octet

  abbrev C : List Line
  C = times n code

  pub shaped_size : size (shaped r k m n) ≡ part_at r + 8 * m + 96 * n
  unfolding part_at
  shaped_size = omega (arith, size_append B (L ++ (O ++ C)), size_append L (O ++ C), size_append O C, octets_size m, size_code n, count_size_lem r.counting k, count_size_lem r.counting 0)

  pub shaped_need : need (shaped r k m n) ≡ need B + (m + 23 * n)
  shaped_need = omega (arith, need_append B (L ++ (O ++ C)), need_append L (O ++ C), need_append O C, octets_need m, need_code n, count_need r.counting k)

  pub shaped_all : (g : Line → Bool) → g (just 8 k) ≡ true → all g B ≡ true → all g octet ≡ true → all g code ≡ true → all g (shaped r k m n) ≡ true
  shaped_all g hk hb ho hc =
      all_append g B (L ++ (O ++ C)) ∙ and_yes _ hb ∙ all_append g L (O ++ C) ∙ and_yes _ (all_count g r.counting k hk)
      ∙ all_append g O C ∙ and_yes _ (all_times g m octet ho) ∙ all_times g n code hc

  -- where the parts begin
  behind : (p : ℕ) → p + size B + size L ≡ p + part_at r
  unfolding part_at
  behind p = omega (arith, count_size_lem r.counting k, count_size_lem r.counting 0)

  codes_begin : (p : ℕ) → p + size B + size L + size O ≡ p + part_at r + 8 * m
  codes_begin p = omega (arith, behind p, octets_size m)

  -- the numbers of bits
  pub shaped_flat : (l : List ℕ) (p : ℕ)
      → flat (shaped r k m n) (decode (shaped r k m n) l p)
      ≡ flat B (decode B l p) ++ (flat O (decode O l (p + part_at r)) ++ flat C (decode C l (p + part_at r + 8 * m)))
  shaped_flat l p =
      let q = p + size B in
      let e = nil_of (flat L (decode L l q)) (length_flat L l q ∙ count_need r.counting k) in
      flat_append B (L ++ (O ++ C)) l p
      ∙ ap (λ (x : List ℕ). flat B (decode B l p) ++ x)
      (flat_append L (O ++ C) l q ∙ ap (λ (x : List ℕ). x ++ flat (O ++ C) (decode (O ++ C) l (q + size L))) e
      ∙ flat_append O C l (q + size L)
      ∙ ap (λ (x : ℕ). flat O (decode O l (q + size L)) ++ flat C (decode C l x)) (codes_begin p)
      ∙ ap (λ (x : ℕ). flat O (decode O l x) ++ flat C (decode C l (p + part_at r + 8 * m))) (behind p))

  -- an answer that only codes are about, and one that only the first lines are
  module _ (a : ℕ) (hk : unmet a (just 8 k) ≡ true) (ho : all (unmet a) octet ≡ true) where
    pub fine_codes : all (unmet a) B ≡ true → (l : List ℕ) (p : ℕ) → fine a (shaped r k m n) (decode (shaped r k m n) l p) ≡ fine a C (decode C l (p + part_at r + 8 * m))
    fine_codes hb l p =
        fine_append a B (L ++ (O ++ C)) l p ∙ and_yes _ (unmet_fine a B _ hb)
        ∙ fine_append a L (O ++ C) l (p + size B) ∙ and_yes _ (unmet_fine a L _ (all_count (unmet a) r.counting k hk))
        ∙ fine_append a O C l (p + size B + size L) ∙ and_yes _ (unmet_fine a O _ (all_times (unmet a) m octet ho))
        ∙ ap (λ (x : ℕ). fine a C (decode C l x)) (codes_begin p)

    pub fine_first : all (unmet a) code ≡ true → (l : List ℕ) (p : ℕ) → fine a (shaped r k m n) (decode (shaped r k m n) l p) ≡ fine a B (decode B l p)
    fine_first hc l p =
        let R = L ++ (O ++ C) in
        let u = all_append (unmet a) L (O ++ C) ∙ and_yes _ (all_count (unmet a) r.counting k hk) ∙ all_append (unmet a) O C ∙ and_yes _ (all_times (unmet a) m octet ho) ∙ all_times (unmet a) n code hc in
        fine_append a B R l p ∙ ap (λ (b : Bool). fine a B (decode B l p) && b) (unmet_fine a R (decode R l (p + size B)) u) ∙ and-true (fine a B (decode B l p))

  -- the values of numbers
  module _ (x y z : List ℕ) (hx : length x ≡ need B) (hy : length y ≡ m) where
    pub shaped_fine : (a : ℕ) → fine a (shaped r k m n) (fill (shaped r k m n) (x ++ (y ++ z)))
        ≡ (fine a B (fill B x) && (fine a L (fill L []) && (fine a O (fill O y) && fine a C (fill C z))))
    shaped_fine a =
        two_fine a B (L ++ (O ++ C)) x (y ++ z) hx
        ∙ ap (λ (b : Bool). fine a B (fill B x) && b)
        (two_fine a L (O ++ C) [] (y ++ z) (sym (count_need r.counting k))
        ∙ ap (λ (b : Bool). fine a L (fill L []) && b) (two_fine a O C y z (hy ∙ sym (octets_need m))))

    pub shaped_encode : encode (shaped r k m n) (fill (shaped r k m n) (x ++ (y ++ z)))
        ≡ encode B (fill B x) ++ (encode L (fill L []) ++ (spread 8 y ++ encode C (fill C z)))
    shaped_encode =
        two B (L ++ (O ++ C)) x (y ++ z) hx
        ∙ ap (λ (l : List ℕ). encode B (fill B x) ++ l)
        (two L (O ++ C) [] (y ++ z) (sym (count_need r.counting k))
        ∙ ap (λ (l : List ℕ). encode L (fill L []) ++ l)
        (two O C y z (hy ∙ sym (octets_need m)) ∙ ap (λ (l : List ℕ). l ++ encode C (fill C z)) (octets_bits m y hy)))
      where
        two : (S T : List Line) (u v : List ℕ) → length u ≡ need S → encode (S ++ T) (fill (S ++ T) (u ++ v)) ≡ encode S (fill S u) ++ encode T (fill T v)
        two S T u v e = ap (encode (S ++ T)) (fill_join S T u v e) ∙ encode_join S T (fill S u) (fill T v) (length_fill S u)
