-- A content's parts by columns: what each asks, and what they are together. Assumes nothing.
use mathlib.Core.Path.{◌≡◌, refl, sym, ap, subst, ◌∙◌}
use mathlib.Core.Bool.{Bool, true, false, not, ◌&&◌, ◌||◌}
use mathlib.Core.List.{List}
use Prim.Native.Nat.{min, ℕ, ◌+◌, ◌-◌, ◌*◌, ◌/◌, ◌%◌, ◌<◌, ◌≤◌}
use native.Mathlib.Nat.{mul_assoc, mul-le-mul_left, zero-mul}
use native.Mathlib.Omega.{arith}
use lib.ListN.{length, take-append-drop}
use lib.Dec.{ltb, eqb}
use borrow.Author.Tests.{eqb-true, leb-true}
use Rattle.laws.specs.Scan.{all}
use Rattle.laws.specs.Strips.{every}
use Rattle.laws.proofs.Cases.{and_both, or_no}
use Rattle.format.specs.declared.Line.{Line}
use Rattle.format.specs.Format.{times, size, need, decode, fine}
use Rattle.format.proofs.Tables.{size_append, need_append, fine_append}
use Rattle.packet.specs.declared.Kind.{Kind}
use Rattle.packet.specs.declared.Lines.{Lines}
use Rattle.packet.specs.declared.RowLines.{RowLines}
use Rattle.packet.specs.declared.Sizes.{Sizes}
use Rattle.packet.specs.Table.{kinds, row_of, content_lines}
use Rattle.packet.specs.Content.{numbers_in}
use Rattle.packet.specs.Columns.{columns, single}
use Rattle.packet.specs.InCode.{own_lines, own_of, beside_of, row_at}
use Rattle.packet.specs.Reading.{part_at, has_entries}
use Rattle.packet.proofs.Each.{each_kind}
use Rattle.packet.proofs.Good.{good}
use Rattle.packet.proofs.Columns.{columned}
use Rattle.packet.proofs.Spans.{Parted, StandsFor, stands, parted}
use Rattle.reader.specs.Due.{plain, Judged}
use Rattle.reader.specs.Taking.{Rows, Own, Entries, Holding}
use Rattle.reader.proofs.Due.{both, asked_not}
use Rattle.reader.proofs.ByColumns.{ends, one_due}
use Rattle.reader.proofs.Whole.{SizesOf, sizes, content_parts}

-- ---- what a computed test finds of every kind: what is repeated begins at a byte's edge, and bytes are due nothing
abbrev edged : Kind → Bool
edged f = eqb (part_at (row_of f) % 8) 0 && (has_entries f || all plain (row_of f).each)

all_edged : all edged kinds ≡ true
unfolding part_at size
all_edged = refl

edge : (f : Kind) → part_at (row_of f) % 8 ≡ 0
edge f = eqb-true _ _ (and_both (eqb (part_at (row_of f) % 8) 0) (has_entries f || all plain (row_of f).each) (each_kind edged all_edged f)).0

bytes_due : (f : Kind) → has_entries f ≡ false → all plain (row_of f).each ≡ true
bytes_due f e = sym (or_no _ e) ∙ (and_both (eqb (part_at (row_of f) % 8) 0) (has_entries f || all plain (row_of f).each) (each_kind edged all_edged f)).1

-- whole bytes, any number of times
whole_times : (k s : ℕ) → s % 8 ≡ 0 → k * s % 8 ≡ 0
whole_times k s e =
    let a : s ≡ s / 8 * 8 = omega arith in
    let b : k * s ≡ k * (s / 8) * 8 = ap (λ (x : ℕ). k * x) a ∙ sym (mul_assoc k (s / 8) 8) in
    omega (arith, b)

-- ---- the two parts of the first lines
size_two : (f : Kind) → size (row_of f).before ≡ size (own_of f) + size (beside_of f)
size_two f = ap size (sym (take-append-drop (own_lines f) (row_of f).before)) ∙ size_append (own_of f) (beside_of f)

need_two : (f : Kind) → need (row_of f).before ≡ numbers_in f + need (beside_of f)
need_two f = ap need (sym (take-append-drop (own_lines f) (row_of f).before)) ∙ need_append (own_of f) (beside_of f) ∙ ap (λ (x : ℕ). x + need (beside_of f)) (columned f).numbers

-- the lines behind the first own ones
abbrev pub others : RowLines → Lines
others s = record { from = s.before.from + s.own; m = s.before.m - s.own; bits = s.before.bits; numbers = s.before.numbers }

-- a row's spans have the bits and the numbers of their lines
record Spanned (f : Kind) (s : RowLines) : Type 0 where
  bits : s.before.bits ≡ size (row_of f).before
  numbers : s.before.numbers ≡ need (row_of f).before
  each_bits : s.each.bits ≡ size (row_of f).each
  each_numbers : s.each.numbers ≡ need (row_of f).each
  each_lines : s.each.m ≡ length (row_of f).each
  after_bits : s.after.bits ≡ size (row_of f).after
  after_numbers : s.after.numbers ≡ need (row_of f).after

spanned : (f : Kind) (s : RowLines) → s ≡ row_at f → Spanned f s
unfolding row_at
spanned f s e =
    record {
      bits = ap (λ (r : RowLines). r.before.bits) e;
      numbers = ap (λ (r : RowLines). r.before.numbers) e;
      each_bits = ap (λ (r : RowLines). r.each.bits) e;
      each_numbers = ap (λ (r : RowLines). r.each.numbers) e;
      each_lines = ap (λ (r : RowLines). r.each.m) e;
      after_bits = ap (λ (r : RowLines). r.after.bits) e;
      after_numbers = ap (λ (r : RowLines). r.after.numbers) e;
    }

pub has_entries_lem : (f : Kind) (s : RowLines) → s ≡ row_at f → ltb 1 s.each.m ≡ has_entries f
has_entries_lem f s e = ap (ltb 1) (spanned f s e).each_lines

-- the only row there is
none : (n w : ℕ) → n < 1 → n * w ≡ 0
none n w l = let o : n ≡ 0 = omega arith in ap (λ (x : ℕ). x * w) o ∙ zero-mul w

lead_least : (f : Kind) → size (row_of f).before ≤ part_at (row_of f)
unfolding part_at
lead_least f = omega arith

-- at most so many entries
few_entries : (f : Kind) (k : ℕ) → has_entries f ≡ true → k * size (row_of f).each ≤ 1384 → k * need (row_of f).each ≤ 272
few_entries f k e h =
    let a : 40 ≤ size (row_of f).each = leb-true _ _ (sym (or_no _ (ap not e)) ∙ (columned f).entry) in
    let b : k * 40 ≤ k * size (row_of f).each = mul-le-mul_left k a in
    let d : k * need (row_of f).each ≤ k * 8 = mul-le-mul_left k (good f).entry in
    omega arith

-- ---- what each part asks
module _ (f : Kind) (s : RowLines) (z : Sizes) (k bytes q : ℕ) (digits entries : List ℕ) (h : Holding f s z k bytes q digits entries) where
  P : Parted f s.own s.before
  P = parted f h.row

  S : StandsFor s (row_of f)
  S = stands f h.row

  Z : SizesOf f z
  Z = sizes f z h.sizes

  B : Spanned f s
  B = spanned f s h.row

  pub own_asked : Own s.before.from s.own q
  own_asked =
      record {
        few = omega (arith, P.some, P.few.0);
        there = omega (arith, P.some, P.few.1);
        ones = ap (all single) P.own ∙ (columned f).ones;
        place = omega (arith, h.inside, h.short);
      }

  pub beside_asked : (p : ℕ) → p ≡ q + size (own_of f) → Rows (others s) 1 bytes p 35 0
  beside_asked p e =
      record {
        few = (omega (arith, P.few.0), omega (arith, P.some, P.few.1));
        fits = ap (columns 0) P.beside ∙ (columned f).beside;
        start = omega (arith, e, h.start, (columned f).edge);
        wide = rw P.beside (omega (arith, B.numbers, need_two f));
        inside = λ n l. let o : n * (s.before.bits / 8 * 8) ≡ 0 = none n (s.before.bits / 8 * 8) l in rw P.beside (omega (arith, o, e, h.inside, size_two f, lead_least f));
        room = λ n l. let o : n * s.before.numbers ≡ 0 = none n s.before.numbers l in rw P.beside (omega (arith, o, need_two f, (good f).last));
        near = omega (arith, e, h.inside, h.short, B.bits, (good f).first, size_two f);
        low = omega (arith, B.numbers, (good f).digits, (good f).few);
      }

  pub entries_asked : Entries s.each k bytes (q + z.lead) 272
  entries_asked =
      record {
        few = S.rows.few;
        fits = ap (columns 0) S.rows.lines ∙ (columned f).each;
        bits = B.each_bits ∙ ap size (sym S.rows.lines);
        numbers = B.each_numbers ∙ ap need (sym S.rows.lines);
        bytes_plain = λ e. ap (all plain) S.rows.lines ∙ bytes_due f (ap (ltb 1) (sym B.each_lines) ∙ e);
        start = omega (arith, h.start, edge f, Z.lead);
        inside = rw S.rows.lines (omega (arith, h.inside, Z.lead));
        short = h.short;
        room = λ e. rw S.rows.lines (few_entries f k (ap (ltb 1) (sym B.each_lines) ∙ e) (omega (arith, h.inside, h.short, h.behind)));
        low = rw S.rows.lines (omega (arith, mul-le-mul_left k (good f).entry, h.count));
      }

  pub after_asked : (p i : ℕ) → p ≡ q + z.lead + k * z.each → i ≡ need (row_of f).before - numbers_in f → Rows s.after 1 bytes p 35 i
  after_asked p i e ei =
      let x : k * z.each ≡ k * size (row_of f).each = ap (λ (y : ℕ). k * y) Z.each in
      record {
        few = S.last.few;
        fits = ap (columns 0) S.last.lines ∙ (columned f).after;
        start = omega (arith, e, x, h.start, edge f, Z.lead, whole_times k (size (row_of f).each) (omega (arith, ends (row_of f).each 0 (columned f).each)));
        wide = rw S.last.lines (omega (arith, B.after_numbers));
        inside = λ n l. let o : n * (s.after.bits / 8 * 8) ≡ 0 = none n (s.after.bits / 8 * 8) l in rw S.last.lines (omega (arith, o, e, x, h.inside, Z.lead));
        room = λ n l. let o : n * s.after.numbers ≡ 0 = none n s.after.numbers l in rw S.last.lines (omega (arith, o, ei, (good f).last));
        near = omega (arith, e, x, h.inside, h.short, Z.lead, B.after_bits, (good f).rest);
        low = omega (arith, ei, B.after_numbers, (good f).last);
      }

-- ---- what they are due, and what stands beside
module _ (f : Kind) (k : ℕ) (l : List ℕ) (q : ℕ) where
  pub content_due : (p r u v w x d y : ℕ) → p ≡ q + size (own_of f) → r ≡ q + part_at (row_of f) + k * size (row_of f).each
      → Judged (λ (a : ℕ). fine a (own_of f) (decode (own_of f) l q)) u → Judged (λ (a : ℕ). every 1 (λ (n : ℕ). fine a (beside_of f) (decode (beside_of f) l (p + n * x)))) v
      → Judged (λ (a : ℕ). fine a (times k (row_of f).each) (decode (times k (row_of f).each) l (q + part_at (row_of f)))) w
      → Judged (λ (a : ℕ). every 1 (λ (n : ℕ). fine a (row_of f).after (decode (row_of f).after l (r + n * y)))) d
      → Judged (λ (a : ℕ). fine a (content_lines (row_of f) k) (decode (content_lines (row_of f) k) l q)) (min (min u v) (min w d))
  content_due p r u v w x d y ep er ju jv jw jd =
      let F = (row_of f).before in
      let front : Judged (λ (a : ℕ). fine a F (decode F l q)) (min u v) =
      both _ _ _ u v _ ju (one_due (beside_of f) l p x v jv) (λ a h. two a ∙ ap (λ (z : ℕ). fine a (own_of f) (decode (own_of f) l q) && fine a (beside_of f) (decode (beside_of f) l z)) (sym ep)) refl
      in
      let rest : Judged (λ (a : ℕ). fine a (times k (row_of f).each) (decode (times k (row_of f).each) l (q + part_at (row_of f))) && fine a (row_of f).after (decode (row_of f).after l (q + part_at (row_of f) + k * size (row_of f).each))) (min w d) =
      both _ _ _ w d _ jw (one_due (row_of f).after l r y d jd) (λ a h. ap (λ (z : ℕ). fine a (times k (row_of f).each) (decode (times k (row_of f).each) l (q + part_at (row_of f))) && fine a (row_of f).after (decode (row_of f).after l z)) (sym er)) refl
      in
      both _ _ _ (min u v) (min w d) _ front rest (λ a h. content_parts a (row_of f) k l q (asked_not a h)) refl
    where
      two : (a : ℕ) → fine a (row_of f).before (decode (row_of f).before l q) ≡ (fine a (own_of f) (decode (own_of f) l q) && fine a (beside_of f) (decode (beside_of f) l (q + size (own_of f))))
      two a = ap (λ (ts : List Line). fine a ts (decode ts l q)) (sym (take-append-drop (own_lines f) (row_of f).before)) ∙ fine_append a (own_of f) (beside_of f) l q

  -- the same of the lines that code has for the row
  pub held_due : (O N E A : List Line) (p t r x y u v w d e : ℕ) → O ≡ own_of f → N ≡ beside_of f → E ≡ (row_of f).each → A ≡ (row_of f).after → p ≡ q + size O → t ≡ q + part_at (row_of f) → r ≡ t + k * size (row_of f).each
      → Judged (λ (a : ℕ). fine a O (decode O l q)) u → Judged (λ (a : ℕ). every 1 (λ (n : ℕ). fine a N (decode N l (p + n * x)))) v
      → Judged (λ (a : ℕ). fine a (times k E) (decode (times k E) l t)) w → Judged (λ (a : ℕ). every 1 (λ (n : ℕ). fine a A (decode A l (r + n * y)))) d
      → e ≡ min (min u v) (min w d) → Judged (λ (a : ℕ). fine a (content_lines (row_of f) k) (decode (content_lines (row_of f) k) l q)) e
  held_due O N E A p t r x y u v w d e eo en ee ea ep et er ju jv jw jd g =
      subst (Judged _) (sym g)
      (content_due p r u v w x d y (ep ∙ ap (λ (ts : List Line). q + size ts) eo) (er ∙ ap (λ (n : ℕ). n + k * size (row_of f).each) et)
      (subst (λ (ts : List Line). Judged (λ (a : ℕ). fine a ts (decode ts l q)) u) eo ju)
      (subst (λ (ts : List Line). Judged (λ (a : ℕ). every 1 (λ (n : ℕ). fine a ts (decode ts l (p + n * x)))) v) en jv)
      (subst (λ (n : ℕ). Judged (λ (a : ℕ). fine a (times k (row_of f).each) (decode (times k (row_of f).each) l n)) w) et (subst (λ (ts : List Line). Judged (λ (a : ℕ). fine a (times k ts) (decode (times k ts) l t)) w) ee jw))
      (subst (λ (ts : List Line). Judged (λ (a : ℕ). every 1 (λ (n : ℕ). fine a ts (decode ts l (r + n * y)))) d) ea jd))
