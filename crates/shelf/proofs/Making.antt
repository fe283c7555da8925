-- What is made keeps the rules, and a packet comes back: from the record that was made of it, and from the hex of a record's line. Assumes nothing.
use mathlib.Core.Path.{◌≡◌, refl, sym, ap, ap₂, ◌∙◌}
use mathlib.Core.Bool.{true, false, cond, not, ◌&&◌}
use mathlib.Core.List.{List, [], ◌∷◌, ◌++◌, append_assoc}
use Prim.Native.Nat.{ℕ, zero, suc, ◌+◌, ◌-◌, ◌*◌, ◌/◌, ◌%◌, ◌<◌, ◌≤◌}
use native.Mathlib.Omega.{arith}
use lib.ListN.{length, take, drop, length-append, length-replicate, replicate}
use lib.Dec.{eqb, leb, ltb}
use lib.Seq.{take_at, drop_at, drop-append_seam}
use borrow.Author.Tests.{eq-eqb, le-leb, ltb-true, ltb-false, lt-ltb, le-ltb, leb-true, eqb-true, not-false}
use Rattle.laws.specs.Bits.{Under}
use Rattle.laws.specs.Scan.{all}
use Rattle.laws.proofs.Bits.{under_take, under_drop}
use Rattle.laws.proofs.Cases.{if_yes, if_no, and_yes, and_both}
use Rattle.laws.proofs.Elements.{by_test}
use Rattle.laws.proofs.Refusals.{not_due}
use Rattle.frame.specs.Heading.{reserved}
use Rattle.size.specs.Size.{packet_size}
use Rattle.air.specs.OnAir.{sized}
use Rattle.print.specs.Lines.{glyph, hex_of}
use Rattle.print.specs.Records.{front, record_line}
use Rattle.print.proofs.Laws.{length_hex}
use Rattle.shelf.specs.Record.{level_in, version_in, size_in, packet_in, fill_in, closing_in, right, record_of}
use Rattle.shelf.specs.Shelf.{make_cases, make_answer, made, line_in}
use Rattle.shelf.specs.Back.{digit_of, bytes_of, hex_in}

-- ---- the parts of a record that was made
all_same : (n x : ℕ) → all (eqb x) (replicate n x) ≡ true
all_same zero x = refl
all_same (suc n) x = and_yes _ (eq-eqb x x refl) ∙ all_same n x

module _ (l v : ℕ) (p : List ℕ) (h : length p ≤ 250) where
  abbrev head : List ℕ
  head = l ∷ v ∷ length p / 256 ∷ length p % 256 ∷ []

  abbrev fill : List ℕ
  fill = replicate (250 - length p) 0xFF

  abbrev end : List ℕ
  end = 0 ∷ 0 ∷ []

  size_made : size_in (record_of l v p) ≡ length p
  unfolding record_of
  size_made = omega arith

  -- A packet comes back from its record.
  pub packet_from_record : packet_in (record_of l v p) ≡ p
  unfolding record_of
  packet_from_record = ap (λ (n : ℕ). take n (p ++ (fill ++ end))) size_made ∙ take_at p (fill ++ end) (length p) refl

  fill_made : fill_in (record_of l v p) ≡ fill
  unfolding record_of
  fill_made =
      ap (λ (n : ℕ). take (250 - n) (drop (4 + n) (record_of l v p))) size_made
      ∙ ap (take (250 - length p)) (drop_at (head ++ p) (fill ++ end) (4 + length p) (length-append head p))
      ∙ take_at fill end (250 - length p) (length-replicate (250 - length p) 0xFF)

  closing_made : closing_in (record_of l v p) ≡ end
  unfolding record_of
  closing_made =
      let k : length (head ++ p ++ fill) ≡ 254 = omega (arith, length-append (head ++ p) fill, length-append head p, length-replicate {A = ℕ} (250 - length p) 0xFF) in
      ap (take 2) (ap (drop 254) (sym (append_assoc (head ++ p) fill end)) ∙ drop_at (head ++ p ++ fill) end 254 k)

  level_made : level_in (record_of l v p) ≡ l
  unfolding record_of
  level_made = refl

  version_made : version_in (record_of l v p) ≡ v
  unfolding record_of
  version_made = refl

  right_made : reserved l ≡ false → v ≤ 31 → 2 ≤ length p → length p ≡ packet_size p → right (record_of l v p) ≡ true
  unfolding right
  right_made a b c d =
      and_yes _ (ap not (ap reserved level_made ∙ a))
      ∙ and_yes _ (ap (λ (x : ℕ). leb x 31) version_made ∙ le-leb v 31 b)
      ∙ and_yes _ (ap (leb 2) size_made ∙ le-leb 2 (length p) c)
      ∙ and_yes _ (ap (λ (x : ℕ). leb x 250) size_made ∙ le-leb (length p) 250 h)
      ∙ and_yes _ (ap₂ (λ (x : ℕ) (q : List ℕ). eqb x (packet_size q)) size_made packet_from_record ∙ eq-eqb (length p) (packet_size p) d)
      ∙ and_yes _ (ap (all (eqb 0xFF)) fill_made ∙ all_same (250 - length p) 0xFF)
      ∙ ap (all (eqb 0)) closing_made ∙ all_same 2 0

-- What is made keeps the rules: it is never answered 35.
pub made_right : (l v : ℕ) (p o : List ℕ) → make_answer l v p o ≡ 0 → right (made l v p o) ≡ true
unfolding make_answer make_cases made sized
made_right l v p o e =
    let a = not_due (not (leb 2 (length p) && (leb (length p) 250 && eqb (length p) (packet_size p)))) 20 _ (λ (z : 20 ≡ 0). omega arith) e in
    let b = not_due (reserved l) 13 _ (λ (z : 13 ≡ 0). omega arith) a.1 in
    let c = not_due (ltb 31 v) 27 _ (λ (z : 27 ≡ 0). omega arith) b.1 in
    let f = and_both (leb 2 (length p)) (leb (length p) 250 && eqb (length p) (packet_size p)) (not-false _ a.0) in
    let g = and_both (leb (length p) 250) (eqb (length p) (packet_size p)) f.1 in
    ap right (if_yes _ _ (eq-eqb (make_answer l v p o) 0 e))
    ∙ right_made l v p (leb-true (length p) 250 g.0) b.0 (ltb-false 31 v c.0) (leb-true 2 (length p) f.0) (eqb-true (length p) (packet_size p) g.1)

-- ---- hex
digit_back : (d : ℕ) → d < 16 → digit_of (glyph d) ≡ d
unfolding digit_of
digit_back d h =
    by_test (ltb d 10)
    (λ t.
    let k = ltb-true d 10 t in
    let z : 48 + d - 48 ≡ d = omega arith in
    ap (λ (c : ℕ). cond (ltb c 58) (c - 48) (c - 55)) (if_yes _ _ t) ∙ if_yes _ _ (lt-ltb (48 + d) 58 (omega arith)) ∙ z)
    (λ t.
    let k = ltb-false d 10 t in
    let z : 55 + d - 55 ≡ d = omega arith in
    ap (λ (c : ℕ). cond (ltb c 58) (c - 48) (c - 55)) (if_no _ _ t) ∙ if_no _ _ (le-ltb (55 + d) 58 (omega arith)) ∙ z)

bytes_back : (p : List ℕ) → Under 256 p → bytes_of (hex_of p) ≡ p
unfolding hex_of bytes_of
bytes_back [] u = refl
bytes_back (b ∷ p) u =
    let k : b < 256 = u 0 in
    let whole : b / 16 * 16 + b % 16 ≡ b = omega arith in
    ap₂ (λ (x : ℕ) (l : List ℕ). x ∷ l)
    (ap₂ (λ (x y : ℕ). x * 16 + y) (digit_back (b / 16) (omega arith)) (digit_back (b % 16) (omega arith)) ∙ whole)
    (bytes_back p (λ i. u (suc i)))

-- A record's packet comes back from the hex of its line.
pub packet_from_line : (r : List ℕ) → Under 256 r → bytes_of (hex_in r) ≡ packet_in r
unfolding hex_in line_in record_line
packet_from_line r u =
    let p = packet_in r in
    let f = front (level_in r) (version_in r) (length p) in
    ap (λ (x : List ℕ). bytes_of (take (2 * length p) x)) (drop-append_seam f (hex_of p ++ (10 ∷ [])))
    ∙ ap bytes_of (take_at (hex_of p) (10 ∷ []) (2 * length p) (length_hex p))
    ∙ bytes_back p (under_take 256 (size_in r) (drop 4 r) (under_drop 256 4 r u))
