-- A command put into bits part by part, and the lines that the writer's answers are about. Assumes nothing.
use mathlib.Core.Path.{◌≡◌, refl, sym, ap, ap₂, ◌∙◌}
use mathlib.Core.List.{List, [], ◌∷◌, ◌++◌, append-nil, append_assoc}
use mathlib.Core.Bool.{Bool, false, ◌&&◌, and-true}
use Prim.Native.Nat.{ℕ, suc, ◌+◌, ◌*◌, ◌-◌, ◌≤◌, ◌<◌}
use native.Mathlib.Omega.{arith}
use lib.ListN.{length, take, drop, length-append, length-drop}
use lib.Seq.{sets, length-take-le, drop-drop}
use lib.Dec.{leb, eqb}
use borrow.Author.Tests.{leb-true, eqb-true, not-false}
use Rattle.laws.specs.Bits.{bits, bits_of, spread}
use Rattle.laws.specs.Scan.{all}
use Rattle.laws.proofs.Bits.{length_bits_of, length_spread}
use Rattle.laws.proofs.Cases.{if_yes, and_both, and_yes}
use Rattle.laws.proofs.Writes.{sets_append, join}
use Rattle.format.specs.declared.Line.{Line}
use Rattle.format.specs.Format.{times, encode, fill, inside, fine, unmet}
use Rattle.format.specs.Reach.{field_bits, fields_bits}
use Rattle.format.proofs.Leaves.{reached}
use Rattle.format.proofs.Tables.{unmet_fine, all_times}
use Rattle.packet.specs.Table.{code, count_line}
use Rattle.packet.specs.Reading.{part_at}
use Rattle.packet.proofs.Column.{count_size_lem}
use Rattle.trips.proofs.Parts.{count_need, all_count}
use Rattle.writer.proofs.Rows.{encode_size}
use Rattle.writer.proofs.Rules.{codes_digits}
use Rattle.sister.specs.declared.Kind.{Kind}
use Rattle.sister.specs.declared.Command.{Command}
use Rattle.sister.specs.declared.Command.TheVariants.{Clock, Resource, Lock}
use Rattle.sister.specs.declared.parts.Layout.{Layout}
use Rattle.sister.specs.Table.{tag_of, row_for, content_bytes, address_count, code_count, parts_of, kind_for, count_for}
use Rattle.sister.specs.Writing.{table_for, numbers_for, values_for, count_bad}
use Rattle.sister.specs.Layout.{codes_at, layout_of, head_bits, number_bits, code_bits}
use Rattle.sister.proofs.Shape.{octet, shaped, shaped_fine, shaped_encode}
use Rattle.sister.proofs.Rows as rows
use Rattle.sister.proofs.There.{numbers_long}

-- ---- what is lent is as much as the command has
pub record Counted (c : Command) (address codes : List ℕ) : Type 0 where
  pub few : count_for c ≤ 255
  pub address_long : length address ≡ address_count (kind_for c) (count_for c)
  pub codes_long : length codes ≡ 23 * code_count (kind_for c) (count_for c)

pub counted : (c : Command) (address codes : List ℕ) → count_bad c address codes ≡ false → Counted c address codes
unfolding count_bad
counted c address codes e =
    let a = and_both (leb (count_for c) 255) _ (not-false _ e) in
    let b = and_both (eqb (length address) (address_count (kind_for c) (count_for c))) _ a.1 in
    record { few = leb-true (count_for c) 255 a.0; address_long = eqb-true _ _ b.0; codes_long = eqb-true _ _ b.1 }

-- ---- one number, and several, as far as the functions go
pub number_put : (o o'' : List ℕ) (p w x : ℕ) → p < 65536 → w ≤ 32 → bits o'' ≡ sets (bits o) p (field_bits p w x) → bits o'' ≡ sets (bits o) p (bits_of w x)
number_put o o'' p w x h k e = e ∙ ap (sets (bits o) p) (if_yes (bits_of w x) [] (reached p 1 w h (omega arith) k))

pub numbers_put : (o o'' xs : List ℕ) (p w : ℕ) → p < 65536 → w ≤ 32 → length xs ≤ 255 → bits o'' ≡ sets (bits o) p (fields_bits p w xs) → bits o'' ≡ sets (bits o) p (spread w xs)
numbers_put o o'' xs p w h k n e = e ∙ ap (sets (bits o) p) (if_yes (spread w xs) [] (reached p (length xs) w h (omega arith) k))

-- ---- codes
one_more : (m : ℕ) (xs : List ℕ) → code_bits (suc m) xs ≡ bits_of 4 15 ++ (spread 4 (take 23 xs) ++ code_bits m (drop 23 xs))
unfolding code_bits times encode fill spread
one_more m xs = rw (append-nil (bits_of 4 15))

pub code_turn : (codes o o' o'' all : List ℕ) (n j q i : ℕ) → j < n → length codes ≡ 23 * n → i ≡ 23 * j
    → all ≡ sets (bits o) q (code_bits (n - j) (drop i codes)) → bits o' ≡ sets (bits o) q (bits_of 4 15) → bits o'' ≡ sets (bits o') (q + 4) (spread 4 (take 23 (drop i codes)))
    → all ≡ sets (bits o'') (q + 96) (code_bits (n - (j + 1)) (drop (i + 23) codes))
code_turn codes o o' o'' all n j q i h l k e f g =
    let r : n - j ≡ suc (n - (j + 1)) = omega arith in
    let x = drop i codes in
    let y = spread 4 (take 23 x) in
    let z = code_bits (n - (j + 1)) (drop 23 x) in
    let m : length (take 23 x) ≡ 23 = length-take-le 23 x (omega (arith, length-drop i codes)) in
    let w : q + 4 + length y ≡ q + 96 = omega (arith, length_spread 4 (take 23 x)) in
    let v : q + length (bits_of 4 15) ≡ q + 4 = omega (arith, length_bits_of 4 15) in
    e ∙ ap (λ (n : ℕ). sets (bits o) q (code_bits n x)) r ∙ ap (sets (bits o) q) (one_more (n - (j + 1)) x)
    ∙ sets_append (bits_of 4 15) (y ++ z) (bits o) q
    ∙ ap₂ (λ (s : List ℕ) (n : ℕ). sets s n (y ++ z)) (sym f) v
    ∙ sets_append y z (bits o') (q + 4)
    ∙ ap₂ (λ (s : List ℕ) (n : ℕ). sets s n z) (sym g) w
    ∙ ap (λ (t : List ℕ). sets (bits o'') (q + 96) (code_bits (n - (j + 1)) t)) (drop-drop 23 i codes)

pub code_end : (codes o all : List ℕ) (n j q i : ℕ) → n ≤ j → all ≡ sets (bits o) q (code_bits (n - j) (drop i codes)) → bits o ≡ all
unfolding code_bits times encode
code_end codes o all n j q i h e = let r : n - j ≡ 0 = omega arith in sym (e ∙ rw r)

-- ---- the whole command
module _ (c : Command) (address codes : List ℕ) (h : Counted c address codes) where
  abbrev f : Kind
  f = kind_for c

  abbrev k : ℕ
  k = count_for c

  abbrev m : ℕ
  m = address_count f k

  abbrev n : ℕ
  n = code_count f k

  abbrev xs : List ℕ
  xs = (parts_of c).numbers ++ (address ++ codes)

  pub all_bits : encode (table_for c) (values_for c address codes) ≡ head_bits (tag_of f) (content_bytes f k) ++ (number_bits c ++ (spread 8 address ++ code_bits n codes))
  unfolding table_for numbers_for encode fill spread number_bits code_bits
  all_bits =
      let B = (row_for f).before in
      let L = count_line (row_for f).counting k in
      let t = bits_of 8 (tag_of f) in
      let s = bits_of 16 (content_bytes f k) in
      let S = shaped (row_for f) k m n in
      let E = encode S (fill S xs) in
      ap (λ (ts : List Line). encode ts (fill ts xs)) (rows.whole f k)
      ∙ ap₂ (λ (u v : List ℕ). u ++ (v ++ E)) (append-nil t) (append-nil s) ∙ sym (append_assoc t s E)
      ∙ ap (λ (l : List ℕ). (t ++ s) ++ l)
      (shaped_encode (row_for f) k m n (parts_of c).numbers address codes (numbers_long c) h.address_long
      ∙ sym (append_assoc (encode B (fill B (parts_of c).numbers)) (encode L (fill L [])) (spread 8 address ++ encode (times n code) (fill (times n code) codes))))

  -- ---- the lines that an answer is about
  pub fine_25 : fine 25 (table_for c) (values_for c address codes) ≡ inside 0 9 codes
  unfolding table_for numbers_for fine fill
  fine_25 =
      ap (λ (ts : List Line). fine 25 ts (fill ts xs)) (rows.whole f k)
      ∙ shaped_fine (row_for f) k m n (parts_of c).numbers address codes (numbers_long c) h.address_long 25
      ∙ and_yes _ (unmet_fine 25 (row_for f).before _ (rows.first_25 f))
      ∙ and_yes _ (unmet_fine 25 (count_line (row_for f).counting k) _ (all_count (unmet 25) (row_for f).counting k refl))
      ∙ and_yes _ (unmet_fine 25 (times m octet) _ (all_times (unmet 25) m octet refl))
      ∙ codes_digits n codes (omega (arith, h.codes_long))

  pub fine_27 : fine 27 (table_for c) (values_for c address codes) ≡ fine 27 (row_for f).before (fill (row_for f).before (parts_of c).numbers)
  unfolding table_for numbers_for fine fill
  fine_27 =
      let F = fine 27 (row_for f).before (fill (row_for f).before (parts_of c).numbers) in
      ap (λ (ts : List Line). fine 27 ts (fill ts xs)) (rows.whole f k)
      ∙ shaped_fine (row_for f) k m n (parts_of c).numbers address codes (numbers_long c) h.address_long 27
      ∙ ap (λ (b : Bool). F && b)
      (and_yes _ (unmet_fine 27 (count_line (row_for f).counting k) _ (all_count (unmet 27) (row_for f).counting k refl))
      ∙ and_yes _ (unmet_fine 27 (times m octet) _ (all_times (unmet 27) m octet refl))
      ∙ unmet_fine 27 (times n code) _ (all_times (unmet 27) n code refl))
      ∙ and-true F

-- ---- the bits of numbers and count, as the code puts them
pub clock_bits : (year month day hour minute second : ℕ) → bits_of 16 year ++ spread 8 (month ∷ day ∷ hour ∷ minute ∷ second ∷ []) ≡ number_bits (Clock year month day hour minute second)
unfolding number_bits encode fill spread
clock_bits year month day hour minute second = simp (append-nil, append_assoc)

pub resource_bits : (m : ℕ) → bits_of 8 m ≡ number_bits (Resource m)
unfolding number_bits encode fill spread
resource_bits m = simp append-nil

pub lock_bits : (khz n : ℕ) → bits_of 32 khz ++ bits_of 8 n ≡ number_bits (Lock khz n)
unfolding number_bits encode fill spread
lock_bits khz n = simp append-nil

-- ---- the parts one behind the other
numbers_end : (c : Command) → length (number_bits c) ≡ part_at (row_for (kind_for c))
unfolding number_bits part_at
numbers_end c =
    let B = (row_for (kind_for c)).before in
    let s = (row_for (kind_for c)).counting in
    let L = count_line s (count_for c) in
    length-append (encode B (fill B (parts_of c).numbers)) (encode L (fill L []))
    ∙ omega (arith, encode_size B (parts_of c).numbers (omega (arith, numbers_long c)), encode_size L [] (omega (arith, count_need s (count_for c))), count_size_lem s (count_for c), count_size_lem s 0)

-- how far a layout goes
pub reaches : (c : Command) (l : Layout) → l ≡ layout_of (kind_for c) (count_for c) → count_for c ≤ 255 → (l.bytes < 65536) × (8 * l.address ≤ l.place) × (l.place ≤ 2200) × (l.codes ≤ 255) × (l.address ≤ 255)
unfolding codes_at
reaches c l e h =
    let z = rows.places (kind_for c) (count_for c) h in
    let a = ap (λ (y : Layout). y.address) e in
    let p = ap (λ (y : Layout). y.place) e in
    (omega (arith, ap (λ (y : Layout). y.bytes) e, rows.few_bytes (kind_for c) (count_for c) h), omega (arith, a, p), omega (arith, p, z.0), omega (arith, ap (λ (y : Layout). y.codes) e, z.1), omega (arith, a, z.2))

pub together : (c : Command) (address codes o o₁ o₂ o₃ o₄ : List ℕ) (l : Layout) (t : ℕ) → Counted c address codes → l ≡ layout_of (kind_for c) (count_for c) → t ≡ tag_of (kind_for c)
    → bits o₁ ≡ sets (bits o) 0 (head_bits t l.bytes)
    → bits o₂ ≡ sets (bits o₁) 24 (number_bits c)
    → bits o₃ ≡ sets (bits o₂) (l.place - 8 * l.address) (fields_bits (l.place - 8 * l.address) 8 address)
    → bits o₄ ≡ sets (bits o₃) l.place (code_bits l.codes codes)
    → bits o₄ ≡ sets (bits o) 0 (encode (table_for c) (values_for c address codes))
unfolding codes_at
together c address codes o o₁ o₂ o₃ o₄ l t h e et e₁ e₂ e₃ e₄ =
    let f = kind_for c in
    let k = count_for c in
    let H = head_bits t l.bytes in
    let N = number_bits c in
    let A = spread 8 address in
    let C = code_bits l.codes codes in
    let q = l.place - 8 * l.address in
    let z = reaches c l e h.few in
    let a = ap (λ (y : Layout). y.address) e in
    let p = ap (λ (y : Layout). y.place) e in
    let hl : length H ≡ 24 = length-append (bits_of 8 t) (bits_of 16 l.bytes) ∙ omega (arith, length_bits_of 8 t, length_bits_of 16 l.bytes) in
    let w = numbers_put o₂ o₃ address q 8 (omega (arith, z.2)) (omega arith) (omega (arith, h.address_long, a, z.4)) e₃ in
    let x = join (bits o₂) (bits o₃) (bits o₄) A C q l.place w e₄ (omega (arith, z.1, a, h.address_long, length_spread 8 address)) in
    let y = join (bits o₁) (bits o₂) (bits o₄) N (A ++ C) 24 q e₂ x (omega (arith, p, a, numbers_end c)) in
    join (bits o) (bits o₁) (bits o₄) H (N ++ (A ++ C)) 0 24 e₁ y (omega (arith, hl))
    ∙ ap₂ (λ (u : ℕ) (v : Layout). sets (bits o) 0 (head_bits u v.bytes ++ (N ++ (A ++ code_bits v.codes codes)))) et e
    ∙ ap (sets (bits o) 0) (sym (all_bits c address codes h))
