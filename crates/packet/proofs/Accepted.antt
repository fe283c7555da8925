-- What it says of a packet that a reader answers 0: its sizes, its lines, and that its text and its bytes end inside it. Assumes nothing.
use mathlib.Core.Path.{◌≡◌, refl, sym, ap, ◌∙◌}
use mathlib.Core.List.{List, [], ◌∷◌}
use mathlib.Core.Bool.{Bool, true, false, not, ◌&&◌, ◌||◌, cond}
use Prim.Native.Nat.{ℕ, zero, suc, ◌+◌, ◌*◌, ◌/◌, ◌≤◌}
use native.Mathlib.Omega.{arith}
use lib.ListN.{length}
use lib.Dec.{leb, eqb}
use borrow.Author.Tests.{leb-true, eqb-true, not-false}
use Rattle.laws.specs.Bits.{at, bits}
use Rattle.laws.specs.Refusals.{first}
use Rattle.laws.proofs.Cases.{and_both, or_both}
use Rattle.laws.proofs.Refusals.{not_due}
use Rattle.format.specs.Format.{size, fine}
use Rattle.packet.specs.declared.Kind.{Kind}
use Rattle.packet.specs.declared.Kind.TheVariants.{Text}
use Rattle.packet.specs.Table.{kind_of, content_bytes, row_of, content_lines}
use Rattle.packet.specs.Content.{no_such_day}
use Rattle.packet.specs.Reading.{type_in, length_in, codes_in, kind_in, content_at, content_size, count_of, table_of, values_in, part_at, content_in, has_entries, size_bad, length_bad, is_unknown, field_bad, read_answer, text_answer}
use Rattle.packet.proofs.Column.{column}
use Rattle.packet.proofs.Bytes.{part_least}

-- ---- what a right size says
pub record Sized (b : List ℕ) : Type 0 where
  pub least : 77 + 12 * codes_in b ≤ length b
  pub most : length b ≤ 250
  pub field : length b ≡ length_in b + 2

pub sized : (b : List ℕ) → size_bad b ≡ false → Sized b
unfolding size_bad
sized b e =
    let a = and_both (leb 77 (length b) && leb (length b) 250) _ (not-false _ e) in
    let c = and_both (leb 77 (length b)) (leb (length b) 250) a.0 in
    let d = and_both (eqb (length b) (length_in b + 2)) (leb (77 + 12 * codes_in b) (length b)) a.1 in
    record { least = leb-true _ _ d.1; most = leb-true _ _ c.1; field = eqb-true _ _ d.0 }

-- and a right length
pub right_length : (b : List ℕ) → length_bad b ≡ false → content_bytes (kind_in b) (count_of b) ≡ content_size b
unfolding length_bad
right_length b e = eqb-true _ _ (not-false _ e)

pub right_size : (b : List ℕ) → length_bad b ≡ false → size (content_lines (row_of (kind_in b)) (count_of b)) ≡ 8 * content_size b
right_size b e = column (kind_in b) (count_of b) ∙ ap (λ (m : ℕ). 8 * m) (right_length b e)

-- ---- what a reader's 0 says
pub record Accepted (b : List ℕ) : Type 0 where
  pub least : 77 + 12 * codes_in b ≤ length b
  pub most : length b ≤ 250
  pub field : length b ≡ length_in b + 2
  pub known : is_unknown (kind_in b) ≡ false
  pub bytes : content_bytes (kind_in b) (count_of b) ≡ content_size b
  pub right : size (content_lines (row_of (kind_in b)) (count_of b)) ≡ 8 * content_size b
  pub c24 : fine 24 (table_of b) (values_in b) ≡ true
  pub c25 : fine 25 (table_of b) (values_in b) ≡ true
  pub c27 : fine 27 (table_of b) (values_in b) ≡ true
  pub day : no_such_day (content_in b) ≡ false

pub accepted : (b : List ℕ) → read_answer b ≡ 0 → Accepted b
unfolding read_answer
accepted b e =
    let p = not_due (size_bad b) 20 _ (λ h. omega arith) e in
    let q = not_due (is_unknown (kind_in b)) 23 _ (λ h. omega arith) p.1 in
    let r = not_due (length_bad b) 26 _ (λ h. omega arith) q.1 in
    let s = not_due _ 24 _ (λ h. omega arith) r.1 in
    let t = not_due _ 25 _ (λ h. omega arith) s.1 in
    let w = not_due _ 27 _ (λ h. omega arith) t.1 in
    let z = sized b p.0 in
    let d = or_both (not (fine 27 (table_of b) (values_in b))) (no_such_day (content_in b)) w.0 in
    record {
      least = z.least;
      most = z.most;
      field = z.field;
      known = q.0;
      bytes = right_length b r.0;
      right = right_size b r.0;
      c24 = not-false _ s.0;
      c25 = not-false _ t.0;
      c27 = not-false _ d.0;
      day = d.1;
    }

pub no_size : (b : List ℕ) → read_answer b ≡ 0 → size_bad b ≡ false
unfolding read_answer
no_size b e = (not_due (size_bad b) 20 _ (λ h. omega arith) e).0

-- ---- one more case of 27 after the reader's
abbrev pub later : ℕ → Bool → ℕ
later zero y = cond y 27 0
later (suc a) y = suc a

pub later_not : (a : ℕ) (y : Bool) → (a ≡ 0 → ⊥) → later a y ≡ a
later_not zero y h = absurd (h refl)
later_not (suc a) y h = refl

one_more : (t1 t2 t3 t4 t5 x y : Bool) → first ((t1, 20) ∷ (t2, 23) ∷ (t3, 26) ∷ (t4, 24) ∷ (t5, 25) ∷ (x || y, 27) ∷ []) ≡ later (first ((t1, 20) ∷ (t2, 23) ∷ (t3, 26) ∷ (t4, 24) ∷ (t5, 25) ∷ (x, 27) ∷ [])) y
unfolding first
one_more true t2 t3 t4 t5 x y = refl
one_more false true t3 t4 t5 x y = refl
one_more false false true t4 t5 x y = refl
one_more false false false true t5 x y = refl
one_more false false false false true x y = refl
one_more false false false false false true y = refl
one_more false false false false false false true = refl
one_more false false false false false false false = refl

pub text_later : (b : List ℕ) → text_answer b ≡ later (read_answer b) (not (eqb (type_in b) 15))
unfolding text_answer read_answer
text_later b = one_more (size_bad b) (is_unknown (kind_in b)) (length_bad b) (not (fine 24 (table_of b) (values_in b))) (not (fine 25 (table_of b) (values_in b))) (field_bad b) (not (eqb (type_in b) 15))

-- a text is there in an accepted packet of type 15
pub text_there : (b : List ℕ) → text_answer b ≡ 0 → (read_answer b ≡ 0) × (type_in b ≡ 15)
text_there b e = go (read_answer b) (eqb (type_in b) 15) refl refl (sym (text_later b) ∙ e)
  where
    go : (a : ℕ) (t : Bool) → read_answer b ≡ a → eqb (type_in b) 15 ≡ t → later (read_answer b) (not (eqb (type_in b) 15)) ≡ 0 → (read_answer b ≡ 0) × (type_in b ≡ 15)
    go zero true h k z = (h, eqb-true _ _ k)
    go zero false h k z = absurd (let w : ◌≡◌ {A = ℕ} 27 0 = rw (h, k) at z in omega arith)
    go (suc a) t h k z = absurd (let w : suc a ≡ 0 = rw (h) at z in omega arith)

-- ---- parts end inside the packet
at_most : (x : Bool) (k : ℕ) → cond x 0 k ≤ k
at_most true k = omega arith
at_most false k = omega arith

-- the bytes of a content end before the time begins, 74 bytes before the end
pub body_inside : (b : List ℕ) → Accepted b → 3 + 12 * codes_in b + part_at (row_of (kind_in b)) / 8 + cond (has_entries (kind_in b)) 0 (count_of b) + 74 ≤ length b
unfolding count_of
body_inside b z =
    let r = row_of (kind_in b) in
    omega (arith, part_least (kind_in b) (at (bits b) (content_at b + size r.before) 8) (content_size b), at_most (has_entries (kind_in b)) (count_of b), z.bytes, z.least)

-- a text begins 20 bytes into the content
pub text_from : (b : List ℕ) → type_in b ≡ 15 → (3 + 12 * codes_in b + part_at (row_of (kind_in b)) / 8 ≡ 23 + 12 * codes_in b) × (cond (has_entries (kind_in b)) 0 (count_of b) ≡ count_of b)
unfolding kind_of part_at size
text_from b e =
    let f : kind_in b ≡ Text = ap kind_of e in
    let p : part_at (row_of (kind_in b)) / 8 ≡ 20 = ap (λ (g : Kind). part_at (row_of g) / 8) f in
    (omega arith, ap (λ (g : Kind). cond (has_entries g) 0 (count_of b)) f)

pub text_inside : (b : List ℕ) → Accepted b → type_in b ≡ 15 → 23 + 12 * codes_in b + count_of b ≤ length b
text_inside b z e = let t = text_from b e in omega (arith, body_inside b z, t.0, t.1)
