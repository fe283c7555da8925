-- The lines of a content's row in code, part by part, put into bits. Assumes nothing.
use mathlib.Core.Path.{◌≡◌, refl, sym, ap, ◌∙◌, subst}
use mathlib.Core.List.{List, [], ◌++◌, append-nil}
use Prim.Native.Nat.{ℕ, ◌+◌, ◌-◌, ◌*◌, ◌<◌, ◌≤◌}
use native.Mathlib.Omega.{arith}
use lib.Dec.{ltb}
use lib.ListN.{length, take, drop}
use lib.Seq.{length-take-le}
use Rattle.format.specs.declared.Line.{Line}
use Rattle.format.specs.Format.{size, need, encode, fill, times}
use Rattle.format.proofs.Tables.{size_append, need_append}
use Rattle.packet.specs.declared.Kind.{Kind}
use Rattle.packet.specs.declared.Lines.{Lines}
use Rattle.packet.specs.declared.RowLines.{RowLines}
use Rattle.packet.specs.declared.Laid.{Laid}
use Rattle.packet.specs.declared.Content.{Content}
use Rattle.packet.specs.Table.{row_of}
use Rattle.packet.specs.Content.{kind_for, numbers_of}
use Rattle.packet.specs.Reading.{has_entries}
use Rattle.packet.specs.InCode.{row_at, every_line, lines_in, own_of, beside_of}
use Rattle.packet.specs.Writing.{row_for, digits_before, front_for, back_for}
use Rattle.packet.proofs.Good.{good}
use Rattle.packet.proofs.Contents.{numbers_long}
use Rattle.packet.proofs.Spans.{Listed, parted, stands}
use Rattle.writer.specs.Puts.{After, Puttable, Rows, Known}
use Rattle.writer.specs.Parts.{own_bits, beside_bits, back_bits}
use Rattle.writer.proofs.Rows.{encode_size}
use Rattle.writer.proofs.Shapes.{then_put, can_put_rows, have_put_rows}
use Rattle.writer.proofs.Whole.{two}
use Rattle.writer.proofs.Plain.{own_need, both_lines, own_fill, own_puttable}

-- ---- what a row in code says of its lines
pub record Told (f : Kind) (s : RowLines) : Type 0 where
  pub first_bits : s.before.bits ≡ size (row_of f).before
  pub first_numbers : s.before.numbers ≡ need (row_of f).before
  pub each_bits : s.each.bits ≡ size (row_of f).each
  pub each_numbers : s.each.numbers ≡ need (row_of f).each
  pub each_lines : ltb 1 s.each.m ≡ has_entries f
  pub last_bits : s.after.bits ≡ size (row_of f).after
  pub last_numbers : s.after.numbers ≡ need (row_of f).after

row_told : (f : Kind) → Told f (row_at f)
unfolding row_at
row_told f = record { first_bits = refl; first_numbers = refl; each_bits = refl; each_numbers = refl; each_lines = refl; last_bits = refl; last_numbers = refl }

pub told : (f : Kind) {s : RowLines} → s ≡ row_at f → Told f s
told f e = subst (λ (s : RowLines). Told f s) (sym e) (row_told f)

-- ---- lines that stand once
once : (ts : List Line) → times 1 ts ≡ ts
unfolding times
once ts = append-nil ts

pub put_once : (ts : Lines) (ls : List Line) → Listed ts ls → (out last xs : List ℕ) (p r : ℕ) → After out last p (encode (times 1 (lines_in ts)) (fill (times 1 (lines_in ts)) xs)) r (1 * size (lines_in ts)) → After out last p (encode ls (fill ls xs)) r (size ls)
put_once ts ls h out last xs p r a =
    let e : 1 * size ls ≡ size ls = omega arith in
    ap_after e (subst (λ (l : List Line). After out last p (encode l (fill l xs)) r (1 * size ls)) (once ls) (have_put_rows ts ls h out last xs 1 p r a))
  where
    ap_after : {v : List ℕ} {m n : ℕ} → m ≡ n → After out last p v r m → After out last p v r n
    ap_after {v} e a = subst (λ (k : ℕ). After out last p v r k) e a

-- ---- a content's first lines
module _ (c : Content) where
  pub first_size : size (row_for c).before ≡ size (own_of (kind_for c)) + size (beside_of (kind_for c))
  first_size = ap size (both_lines (kind_for c)) ∙ size_append (own_of (kind_for c)) (beside_of (kind_for c))

  pub beside_need : need (beside_of (kind_for c)) ≡ digits_before c
  beside_need = omega (arith, ap need (both_lines (kind_for c)) ∙ need_append (own_of (kind_for c)) (beside_of (kind_for c)), own_need c)

  pub first_put : (ds out mid last : List ℕ) (p q e : ℕ) → After out mid p (own_bits c) q (size (own_of (kind_for c))) → After mid last q (beside_bits c ds) e (size (beside_of (kind_for c)))
      → After out last p (encode (row_for c).before (fill (row_for c).before (front_for c ds))) e (size (row_for c).before)
  unfolding own_bits beside_bits front_for
  first_put ds out mid last p q e a b =
      let n = own_need c in
      let B = beside_of (kind_for c) in
      let w : encode (row_for c).before (fill (row_for c).before (numbers_of c ++ take (digits_before c) ds)) ≡ encode (own_of (kind_for c)) (fill (own_of (kind_for c)) (numbers_of c)) ++ encode B (fill B (take (digits_before c) ds)) =
      ap (λ (ts : List Line). encode ts (fill ts (numbers_of c ++ take (digits_before c) ds))) (both_lines (kind_for c)) ∙ two (own_of (kind_for c)) B (numbers_of c) (take (digits_before c) ds) n in
      rw (w, first_size)
      (then_put out mid last p q e _ _ (size (own_of (kind_for c))) (size B) (encode_size (own_of (kind_for c)) (numbers_of c) (omega (arith, n))) a b)

  -- the digits beside, in code
  module _ (l : Laid) (s : RowLines) (h : Known c l s) where
    abbrev rest : ℕ → ℕ → Lines
    rest b w = record { from = s.before.from + s.own; m = s.before.m - s.own; bits = b; numbers = w }

    pub own_ready : (ts : Lines) (p : ℕ) → ts ≡ record { from = s.before.from; m = s.own; bits = 0; numbers = 0 } → p ≤ 29000 → Puttable ts l.numbers p
    own_ready ts p e k = subst (λ (t : Lines). Puttable t l.numbers p) (sym e) (own_puttable c s.own s.before (parted (kind_for c) h.row) p l.numbers (ap (λ (x : Laid). x.numbers) h.laid) k)

    pub own_put : (ts : Lines) (out last : List ℕ) (p r : ℕ) → ts ≡ record { from = s.before.from; m = s.own; bits = 0; numbers = 0 } → After out last p (encode (lines_in ts) (fill (lines_in ts) l.numbers)) r (size (lines_in ts))
        → After out last p (own_bits c) r (size (own_of (kind_for c)))
    unfolding own_bits
    own_put ts out last p r e a =
        let O = own_of (kind_for c) in
        subst (λ (vs : List (List ℕ)). After out last p (encode O vs) r (size O)) (ap (λ (x : Laid). fill O x.numbers) h.laid ∙ own_fill c)
        (subst (λ (T : List Line). After out last p (encode T (fill T l.numbers)) r (size T)) (ap lines_in e ∙ (parted (kind_for c) h.row).own) a)

    pub beside_listed : (b w : ℕ) → Listed (rest b w) (beside_of (kind_for c))
    beside_listed b w =
        let p = parted (kind_for c) h.row in
        record { lines = p.beside; few = (omega (arith, p.some, p.few.0), omega (arith, p.some, p.few.1)) }

    pub beside_count : (l.n ≤ s.before.numbers) × (s.before.numbers - l.n ≡ digits_before c) × (s.before.numbers - l.n ≤ 35)
    beside_count =
        let t = told (kind_for c) h.row in
        let n = ap (λ (x : Laid). x.n) h.laid in
        let g = good (kind_for c) in
        (omega (arith, t.first_numbers, n, numbers_long c, g.numbered), omega (arith, t.first_numbers, n), omega (arith, t.first_numbers, n, numbers_long c, g.digits))

    pub beside_rows : (ds : List ℕ) (p w b'' : ℕ) → length ds ≡ 35 → w ≡ s.before.numbers - l.n → p < 4000 → Rows (rest b'' w) 1 w (take w ds) p
    beside_rows ds p w b'' d e k =
        let b = beside_count in
        can_put_rows (rest b'' w) (beside_of (kind_for c)) (beside_listed b'' w) 1 w (take w ds) p (beside_need ∙ sym (e ∙ b.1)) (omega (arith, b.2, e)) (omega (arith, first_size, (good (kind_for c)).first)) (omega arith) (length-take-le w ds (omega (arith, b.2, e)) ∙ omega arith) (omega arith)

    pub beside_put : (ds out last : List ℕ) (p w b'' r : ℕ) → w ≡ s.before.numbers - l.n → After out last p (encode (times 1 (lines_in (rest b'' w))) (fill (times 1 (lines_in (rest b'' w))) (take w ds))) r (1 * size (lines_in (rest b'' w)))
        → After out last p (beside_bits c ds) r (size (beside_of (kind_for c)))
    unfolding beside_bits
    beside_put ds out last p w b'' r e a =
        let q : w ≡ digits_before c = omega (arith, e, beside_count.1) in
        subst (λ (k : ℕ). After out last p (encode (beside_of (kind_for c)) (fill (beside_of (kind_for c)) (take k ds))) r (size (beside_of (kind_for c)))) q (put_once (rest b'' w) (beside_of (kind_for c)) (beside_listed b'' w) out last (take w ds) p r a)

  -- ---- a content's last lines
  module _ (s : RowLines) (h : s ≡ row_at (kind_for c)) where
    pub back_rows : (ds : List ℕ) (p : ℕ) → length ds ≡ 35 → p < 30000 → Rows s.after 1 s.after.numbers (take s.after.numbers ds) p
    back_rows ds p d k =
        let t = told (kind_for c) h in
        let g = good (kind_for c) in
        let n : s.after.numbers ≤ 35 = omega (arith, t.last_numbers, g.last) in
        can_put_rows s.after (row_for c).after (stands (kind_for c) h).last 1 s.after.numbers (take s.after.numbers ds) p (sym t.last_numbers) (omega arith) (omega (arith, g.rest)) (omega arith) (length-take-le s.after.numbers ds (omega arith) ∙ omega arith) (omega arith)

    -- or none
    pub back_none : (ds out : List ℕ) (p : ℕ) → s.after.m ≡ 0 → After out out p (back_bits c ds) p (size (row_for c).after)
    unfolding back_bits encode size
    back_none ds out p e =
        let n : (row_for c).after ≡ [] = sym (stands (kind_for c) h).last.lines ∙ ap (λ (m : ℕ). take m (drop s.after.from every_line)) e in
        rw n (record { put = refl; place = omega arith })

    pub back_put : (ds out last : List ℕ) (p r : ℕ) → After out last p (encode (times 1 (lines_in s.after)) (fill (times 1 (lines_in s.after)) (take s.after.numbers ds))) r (1 * size (lines_in s.after))
        → After out last p (back_bits c ds) r (size (row_for c).after)
    unfolding back_bits back_for
    back_put ds out last p r a =
        let q : s.after.numbers ≡ need (row_for c).after = omega (arith, (told (kind_for c) h).last_numbers) in
        subst (λ (k : ℕ). After out last p (encode (row_for c).after (fill (row_for c).after (take k ds))) r (size (row_for c).after)) q (put_once s.after (row_for c).after (stands (kind_for c) h).last out last (take s.after.numbers ds) p r a)
