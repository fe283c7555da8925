-- A content's first lines are those of its own numbers and those of the digits beside it; what either asks. Assumes nothing.
use mathlib.Core.Path.{◌≡◌, refl, sym, ap, ap₂, ◌∙◌}
use mathlib.Core.Bool.{Bool, true, not, ◌&&◌, ◌||◌, and-true}
use mathlib.Core.List.{List, [], ◌∷◌, ◌++◌}
use Prim.Native.Nat.{ℕ, ◌≤◌}
use native.Mathlib.Omega.{arith}
use lib.Dec.{eqb}
use lib.ListN.{length, take, drop, take-append-drop}
use lib.Seq.{take_all}
use borrow.Author.Tests.{eqb-true}
use Rattle.laws.specs.Scan.{all}
use Rattle.laws.proofs.Cases.{and_yes, and_both, or_no, if_yes, if_no}
use Rattle.laws.proofs.Elements.{by_test, all_head, all_tail, all_map}
use Rattle.format.specs.declared.Line.{Line}
use Rattle.format.specs.Format.{own, need, fill, inside, line_ok, fine, unmet}
use Rattle.format.proofs.Tables.{unmet_fine, given, given_fine}
use Rattle.packet.specs.declared.Kind.{Kind}
use Rattle.packet.specs.declared.Lines.{Lines}
use Rattle.packet.specs.declared.Content.{Content}
use Rattle.packet.specs.Table.{kinds, row_of}
use Rattle.packet.specs.Content.{kind_for, numbers_of}
use Rattle.packet.specs.Reading.{padded}
use Rattle.packet.specs.Columns.{single}
use Rattle.packet.specs.InCode.{own_lines, lines_for, own_of, beside_of}
use Rattle.packet.specs.Writing.{row_for, digits_before, front_for, back_for}
use Rattle.packet.proofs.Each.{each_kind}
use Rattle.packet.proofs.Good.{good}
use Rattle.packet.proofs.Columns.{columned}
use Rattle.packet.proofs.Contents.{numbers_long}
use Rattle.packet.proofs.Spans.{Parted}
use Rattle.writer.specs.Puts.{value_of, Puttable}
use Rattle.writer.specs.Parts.{front_fine, rows_fine, back_fine, own_fine}
use Rattle.writer.proofs.Fine.{two_fine, inside_append}
use Rattle.writer.proofs.Front.{six_first, six_long}
use Rattle.writer.proofs.Rows.{same_fill}

-- ---- own lines, and those beside
pub own_need : (c : Content) → length (numbers_of c) ≡ need (own_of (kind_for c))
own_need c = numbers_long c ∙ sym (columned (kind_for c)).numbers

pub both_lines : (f : Kind) → (row_of f).before ≡ own_of f ++ beside_of f
both_lines f = sym (take-append-drop (own_lines f) (row_of f).before)

-- six numbers begin with the content's
pub own_fill : (c : Content) → fill (own_of (kind_for c)) (padded 6 (numbers_of c)) ≡ fill (own_of (kind_for c)) (numbers_of c)
own_fill c =
    let n = own_need c in
    let l : length (numbers_of c) ≤ 6 = omega (arith, numbers_long c, (good (kind_for c)).few) in
    let s = six_long (numbers_of c) in
    same_fill (own_of (kind_for c)) (padded 6 (numbers_of c)) (numbers_of c) (omega (arith, s, n, l)) (omega (arith, n))
    (ap (λ (k : ℕ). take k (padded 6 (numbers_of c))) (sym n) ∙ six_first (numbers_of c) l ∙ sym (take_all (need (own_of (kind_for c))) (numbers_of c) (omega (arith, n))))

-- ---- what lines of digits or reserved bits ask
abbrev tame : Line → Bool
tame t = given 27 t && (unmet 25 t || (t.given && (eqb t.lo 0 && eqb t.hi 9)))

abbrev passed : Kind → Bool
passed f = all (unmet 25) (own_of f) && (all tame (beside_of f) && all tame (row_of f).after)

all_pass : all passed kinds ≡ true
unfolding own_lines lines_for
all_pass = refl

record Tamed (f : Kind) : Type 0 where
  own : all (unmet 25) (own_of f) ≡ true
  beside : all tame (beside_of f) ≡ true
  after : all tame (row_of f).after ≡ true

tamed : (f : Kind) → Tamed f
tamed f =
    let a = and_both (all (unmet 25) (own_of f)) (all tame (beside_of f) && all tame (row_of f).after) (each_kind passed all_pass f) in
    let b = and_both (all tame (beside_of f)) (all tame (row_of f).after) a.1 in
    record { own = a.0; beside = b.0; after = b.1 }

tame_range : (ts : List Line) (xs : List ℕ) → all tame ts ≡ true → fine 27 ts (fill ts xs) ≡ true
tame_range ts xs h = given_fine 27 ts xs (all_map tame (given 27) ts (λ t e. (and_both (given 27 t) (unmet 25 t || (t.given && (eqb t.lo 0 && eqb t.hi 9))) e).0) h)

inside_parts : (lo hi n : ℕ) (xs : List ℕ) → inside lo hi xs ≡ true → (inside lo hi (take n xs) ≡ true) × (inside lo hi (drop n xs) ≡ true)
inside_parts lo hi n xs h =
    and_both (inside lo hi (take n xs)) (inside lo hi (drop n xs)) (sym (inside_append lo hi (take n xs) (drop n xs)) ∙ ap (inside lo hi) (take-append-drop n xs) ∙ h)

tame_line : (t : Line) (xs : List ℕ) → tame t ≡ true → inside 0 9 xs ≡ true → line_ok 25 t (value_of t xs) ≡ true
tame_line t xs h e =
    by_test (eqb t.answer 25)
    (λ q.
    let a = (and_both (given 27 t) (unmet 25 t || (t.given && (eqb t.lo 0 && eqb t.hi 9))) h).1 in
    let b = and_both t.given (eqb t.lo 0 && eqb t.hi 9) (sym (or_no _ (ap not q)) ∙ a) in
    let d = and_both (eqb t.lo 0) (eqb t.hi 9) b.1 in
    if_yes _ _ q ∙ ap (inside t.lo t.hi) (if_yes _ _ b.0) ∙ ap₂ (λ (x y : ℕ). inside x y (take t.count xs)) (eqb-true t.lo 0 d.0) (eqb-true t.hi 9 d.1) ∙ (inside_parts 0 9 t.count xs e).0)
    (λ q. if_no _ _ q)

tame_digits : (ts : List Line) (xs : List ℕ) → all tame ts ≡ true → inside 0 9 xs ≡ true → fine 25 ts (fill ts xs) ≡ true
unfolding fine fill
tame_digits [] xs h e = refl
tame_digits (t ∷ ts) xs h e =
    and_yes _ (tame_line t xs (all_head tame t ts h) e) ∙ tame_digits ts (drop (own t) xs) (all_tail tame t ts h) (inside_parts 0 9 (own t) xs e).1

-- ---- what is left of a content to test
module _ (c : Content) (ds body : List ℕ) where
  front_parts : (a : ℕ) → front_fine a c ds
      ≡ (fine a (own_of (kind_for c)) (fill (own_of (kind_for c)) (numbers_of c)) && fine a (beside_of (kind_for c)) (fill (beside_of (kind_for c)) (take (digits_before c) ds)))
  unfolding front_for
  front_parts a =
      ap (λ (ts : List Line). fine a ts (fill ts (numbers_of c ++ take (digits_before c) ds))) (both_lines (kind_for c))
      ∙ two_fine a (own_of (kind_for c)) (beside_of (kind_for c)) (numbers_of c) (take (digits_before c) ds) (own_need c)

  -- where every digit is one, entries alone
  pub only_entries : inside 0 9 ds ≡ true → (front_fine 25 c ds && (rows_fine 25 c body && back_fine 25 c ds)) ≡ rows_fine 25 c body
  unfolding back_for
  only_entries e =
      let t = tamed (kind_for c) in
      ap (λ (b : Bool). b && (rows_fine 25 c body && back_fine 25 c ds))
      (front_parts 25 ∙ and_yes _ (unmet_fine 25 (own_of (kind_for c)) _ t.own) ∙ tame_digits (beside_of (kind_for c)) (take (digits_before c) ds) t.beside (inside_parts 0 9 (digits_before c) ds e).0)
      ∙ ap (λ (b : Bool). rows_fine 25 c body && b) (tame_digits (row_for c).after _ t.after (inside_parts 0 9 (need (row_for c).after) ds e).0)
      ∙ and-true (rows_fine 25 c body)

  -- the content's own numbers, and entries
  pub own_and_entries : (front_fine 27 c ds && (rows_fine 27 c body && back_fine 27 c ds)) ≡ (own_fine c && rows_fine 27 c body)
  own_and_entries =
      let t = tamed (kind_for c) in
      ap₂ (λ (x y : Bool). x && (rows_fine 27 c body && y))
      (front_parts 27 ∙ ap (λ (b : Bool). own_fine c && b) (tame_range (beside_of (kind_for c)) (take (digits_before c) ds) t.beside) ∙ and-true (own_fine c))
      (tame_range (row_for c).after (back_for c ds) t.after)
      ∙ ap (λ (b : Bool). own_fine c && b) (and-true (rows_fine 27 c body))

-- ---- the own lines in code
module _ (c : Content) (o : ℕ) (b : Lines) (h : Parted (kind_for c) o b) where
  pub own_puttable : (p : ℕ) (xs : List ℕ) → xs ≡ padded 6 (numbers_of c) → p ≤ 29000 → Puttable (record { from = b.from; m = o; bits = 0; numbers = 0 }) xs p
  own_puttable p xs e k =
      let l : length xs ≡ 6 = ap length e ∙ six_long (numbers_of c) in
      record {
        few = (omega (arith, h.some, h.few.0), omega (arith, h.some, h.few.1));
        ones = ap (all single) h.own ∙ (columned (kind_for c)).ones;
        numbers = omega (arith, l, ap need h.own, (columned (kind_for c)).numbers, (good (kind_for c)).few);
        brief = omega (arith, l);
        place = omega arith;
      }
