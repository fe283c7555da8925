-- What it says of fields, codes and a body that a writer answers 0, and how long their parts are. Assumes nothing.
use mathlib.Core.Path.{◌≡◌, refl, sym, ◌∙◌}
use mathlib.Core.List.{List, [], ◌∷◌}
use mathlib.Core.Bool.{Bool, true, false, not, ◌&&◌, true≢false}
use Prim.Native.Nat.{ℕ, ◌+◌, ◌*◌, ◌<◌, ◌≤◌}
use native.Mathlib.Omega.{arith}
use lib.ListN.{length, take, drop, length-append}
use lib.Seq.{length-take-le, take_all}
use lib.Dec.{leb, ltb, eqb}
use borrow.Author.Tests.{leb-true, eqb-true, ltb-true, ltb-false, not-false, lt-ltb}
use Rattle.laws.specs.Scan.{all}
use Rattle.laws.proofs.Cases.{and_both, or_both}
use Rattle.format.specs.Format.{just, octets, size, need, inside, fine, unmet}
use Rattle.packet.specs.declared.Content.{Content}
use Rattle.packet.specs.declared.Fields.{Fields}
use Rattle.packet.specs.Table.{kind_of, only_read, count_line, code}
use Rattle.packet.specs.Content.{kind_for, numbers_of, count_for, no_such_day}
use Rattle.packet.specs.Reading.{is_unknown}
use Rattle.packet.specs.Writing.{row_for, digits_before, digits_after, front_for, back_for, body_for, size_for, table_for, values_for, lent_bad, not_written, count_bad, digit_bad, other_type, body_lost, digits_lost, not_taken, written_answer}
use Rattle.packet.proofs.ByType as types
use Rattle.trips.proofs.Fitting as fitting
use Rattle.trips.proofs.Contents as contents
use Rattle.laws.proofs.Refusals.{not_due}
use Rattle.packet.specs.declared.Counting.{Counting}
use Rattle.packet.specs.declared.Counting.TheVariants as counting
use Rattle.packet.specs.Table.{count_by}
use Rattle.packet.specs.Content.{parts_of}
use Rattle.packet.proofs.Good.{good}
use Rattle.packet.proofs.Lent.{one_each, lent_enough, lent_by}
use Rattle.packet.proofs.Contents.{numbers_long, content_known}

-- ---- what a writer's 0 says
pub record Taken (f : Fields) (codes body : List ℕ) : Type 0 where
  pub known : is_unknown (kind_of f.typenumber) ≡ false
  pub few : f.codes ≤ 255
  pub codes_long : length codes ≡ f.codes * 23
  pub lent : lent_bad (row_for f.content).counting (count_for f.content body) (need (row_for f.content).each) (length body) ≡ false
  pub c25 : fine 25 (table_for f body) (values_for f codes body) ≡ true
  pub kind : kind_of f.typenumber ≡ kind_for f.content
  pub body_kept : body_lost (row_for f.content).counting (length body) ≡ false
  pub digits_kept : inside 0 0 (drop (digits_before f.content + digits_after f.content) f.digits) ≡ true
  pub c27 : fine 27 (table_for f body) (values_for f codes body) ≡ true
  pub day : no_such_day f.content ≡ false
  pub small : size_for f body ≤ 250

pub taken : (f : Fields) (codes body : List ℕ) (room : ℕ) → written_answer f codes body room ≡ 0 → Taken f codes body
unfolding written_answer count_bad digit_bad not_taken
taken f codes body room e =
    let a = not_due (not_written f.typenumber) 23 _ (λ h. omega arith) e in
    let b = not_due _ 26 _ (λ h. omega arith) a.1 in
    let d = not_due _ 25 _ (λ h. omega arith) b.1 in
    let g = not_due _ 27 _ (λ h. omega arith) d.1 in
    let h = not_due (ltb 250 (size_for f body)) 20 _ (λ h. omega arith) g.1 in
    let b1 = or_both (not (leb f.codes 255 && eqb (length codes) (f.codes * 23))) _ b.0 in
    let b2 = and_both (leb f.codes 255) (eqb (length codes) (f.codes * 23)) (not-false _ b1.0) in
    let d1 = or_both (not (fine 25 (table_for f body) (values_for f codes body))) _ d.0 in
    let g1 = or_both (other_type f) _ g.0 in
    let g2 = or_both (body_lost (row_for f.content).counting (length body)) _ g1.1 in
    let g3 = or_both (digits_lost f.content f.digits) _ g2.1 in
    let g4 = or_both (eqb f.typenumber 1 && not (eqb f.codes 0)) _ g3.1 in
    let g5 = or_both (not (fine 27 (table_for f body) (values_for f codes body))) (no_such_day f.content) g4.1 in
    record {
      known = (or_both (only_read f.typenumber) (is_unknown (kind_of f.typenumber)) a.0).1;
      few = leb-true f.codes 255 b2.0;
      codes_long = eqb-true (length codes) (f.codes * 23) b2.1;
      lent = b1.1;
      c25 = not-false _ d1.0;
      kind = types.same_kind (kind_of f.typenumber) (kind_for f.content) (eqb-true _ _ (not-false _ g1.0));
      body_kept = g2.0;
      digits_kept = not-false _ g3.0;
      c27 = not-false _ g5.0;
      day = g5.1;
      small = ltb-false 250 (size_for f body) h.0;
    }

-- so many digits and bytes, and numbers that the bits of the untested lines hold
pub record Fitted (f : Fields) (codes body : List ℕ) : Type 0 where
  pub digits_long : length f.digits ≡ 35
  pub certificate_long : length f.certificate ≡ 12
  pub signature_long : length f.signature ≡ 64
  pub bits_hold : fine 0 (table_for f body) (values_for f codes body) ≡ true

-- ---- small facts
-- a type of a known kind has five bits
pub type_small : (t : ℕ) → is_unknown (kind_of t) ≡ false → t < 32
type_small t e = go (ltb t 25) refl
  where
    go : (x : Bool) → ltb t 25 ≡ x → t < 32
    go true h = omega (arith, ltb-true t 25 h)
    go false h = absurd (true≢false (sym (types.unknown_above t (ltb-false t 25 h)) ∙ e))

-- what is lent is what the content counts
pub lent_long : (c : Content) (body : List ℕ) → lent_bad (row_for c).counting (count_for c body) (need (row_for c).each) (length body) ≡ false → body_lost (row_for c).counting (length body) ≡ false → length body ≡ count_for c body * need (row_for c).each
lent_long c body a b = lent_by (parts_of c).count (need (row_for c).each) body (row_for c).counting (one_each (kind_for c)) (content_known c) b a

-- a number of the table has its bits
tight_8 : (k : ℕ) → k ≤ 255 → all fitting.tight (just 8 k ∷ []) ≡ true
tight_8 k h = rw (lt-ltb k 256 (omega arith))

tight_none : all fitting.tight [] ≡ true
tight_none = refl

-- a count has eight bits where there is one
pub count_fits : (c : Content) (body : List ℕ) → lent_bad (row_for c).counting (count_for c body) (need (row_for c).each) (length body) ≡ false → all fitting.tight (count_line (row_for c).counting (count_for c body)) ≡ true
count_fits c body = by (row_for c).counting (parts_of c).count (need (row_for c).each)
  where
    by : (s : Counting) (k w : ℕ) → lent_bad s (count_by s k (length body)) w (length body) ≡ false → all fitting.tight (count_line s (count_by s k (length body))) ≡ true
    by counting.Fixed k w a = tight_none
    by counting.Counted k w a = tight_8 k (lent_enough k w body a).0
    by counting.Raw k w a = tight_none
    by counting.Unknown k w a = tight_none

-- ---- the numbers are as many as the table needs
pub front_long : (c : Content) (ds : List ℕ) → length ds ≡ 35 → length (front_for c ds) ≡ need (row_for c).before
unfolding front_for
front_long c ds n =
    length-append (numbers_of c) (take (digits_before c) ds)
    ∙ omega (arith, length-take-le (digits_before c) ds (omega (arith, contents.few_digits c)), numbers_long c, (good (kind_for c)).numbered)

pub back_long : (c : Content) (ds : List ℕ) → length ds ≡ 35 → length (back_for c ds) ≡ need (row_for c).after
unfolding back_for
back_long c ds n = length-take-le (digits_after c) ds (omega (arith, contents.few_digits c))

pub whole_body : (c : Content) (body : List ℕ) → length body ≡ count_for c body * need (row_for c).each → body_for c body ≡ body
unfolding body_for
whole_body c body h = take_all (count_for c body * need (row_for c).each) body (omega (arith, h))

pub code_unmet : all (unmet 0) code ≡ true
code_unmet = refl

pub octet_size : size (octets 1 ∷ []) ≡ 8
unfolding size
octet_size = refl
