-- Answers 26 and 27 by the tests of the code, and what the counts then say. Assumes nothing.
use mathlib.Core.Path.{◌≡◌, refl, sym, ap, ◌∙◌}
use mathlib.Core.Bool.{Bool, true, false, not, ◌&&◌, ◌||◌, false≢true, true≢false}
use mathlib.Core.List.{List}
use Prim.Native.Nat.{ℕ, ◌*◌, ◌≤◌}
use lib.Dec.{leb, eqb}
use lib.ListN.{length}
use borrow.Author.Tests.{leb-true, eqb-true, not-false}
use Rattle.laws.proofs.Cases.{and_yes, and_no, and_both}
use Rattle.format.specs.Format.{need, fine}
use Rattle.packet.specs.declared.Counting.{Counting}
use Rattle.packet.specs.declared.Counting.TheVariants as counting
use Rattle.packet.specs.declared.Content.{Content}
use Rattle.packet.specs.declared.Fields.{Fields}
use Rattle.packet.specs.Table.{kind_of, type_of}
use Rattle.packet.specs.Content.{parts_of, kind_for, count_for, no_such_day}
use Rattle.packet.specs.Reading.{has_entries}
use Rattle.packet.proofs.Lent.{one_each, lent_enough, bodied_by}
use Rattle.packet.proofs.Contents.{Repeated, entries, octet, nothing, repeated}
use Rattle.packet.specs.Writing.{row_for, body_for, table_for, values_for, lent_bad, count_bad, other_type, body_lost, digits_lost, not_taken}
use Rattle.writer.specs.Parts.{Lent, Bodied, Counts, something_lost}

-- ---- the counts
-- a counted content: all of it
pub counted_lent : (c : Content) (body : List ℕ) → (row_for c).counting ≡ counting.Counted → lent_bad (row_for c).counting (count_for c body) (need (row_for c).each) (length body) ≡ false → Lent c body
counted_lent c body s e =
    let a = lent_enough (count_for c body) (need (row_for c).each) body (sym (ap (λ (t : Counting). lent_bad t (count_for c body) (need (row_for c).each) (length body)) s) ∙ e) in
    record { few = a.0; numbers = a.1 }

-- any content: as much as its rows need
pub bodied_of : (c : Content) (body : List ℕ) → lent_bad (row_for c).counting (count_for c body) (need (row_for c).each) (length body) ≡ false → Bodied c body
unfolding body_for
bodied_of c body e = bodied_by (parts_of c).count (need (row_for c).each) body (row_for c).counting (one_each (kind_for c)) e

-- what counts that are not bad say
pub record Good (f : Fields) (codes body : List ℕ) : Type 0 where
  pub counts : Counts f codes body
  pub few : f.codes ≤ 255
  pub bad : lent_bad (row_for f.content).counting (count_for f.content body) (need (row_for f.content).each) (length body) ≡ false

pub good_counts : (f : Fields) (codes body : List ℕ) → count_bad f codes body ≡ false → Good f codes body
unfolding count_bad
good_counts f codes body e =
    let a = parts (not (leb f.codes 255 && eqb (length codes) (f.codes * 23))) _ e in
    let b = and_both (leb f.codes 255) (eqb (length codes) (f.codes * 23)) (not-false (leb f.codes 255 && eqb (length codes) (f.codes * 23)) a.0) in
    record {
      counts = record { bodied = bodied_of f.content body a.1; coded = eqb-true (length codes) (f.codes * 23) b.1 };
      few = leb-true f.codes 255 b.0;
      bad = a.1;
    }
  where
    parts : (x y : Bool) → (x || y) ≡ false → (x ≡ false) × (y ≡ false)
    parts true y h = absurd (false≢true (sym h))
    parts false y h = (refl, h)

-- entries are counted
pub entries_lent : (f : Fields) (codes body : List ℕ) → Good f codes body → has_entries (kind_for f.content) ≡ true → Lent f.content body
entries_lent f codes body g q = by (repeated (kind_for f.content))
  where
    by : Repeated (kind_for f.content) → Lent f.content body
    by (entries e s) = counted_lent f.content body s g.bad
    by (octet e r) = absurd (true≢false (sym q ∙ e))
    by (nothing e r z) = absurd (true≢false (sym q ∙ e))

-- ---- answer 27
-- a body is lost only where a content is of a fixed size
pub not_lost : (s : Counting) (lent : ℕ) → (s ≡ counting.Fixed → ⊥) → false ≡ body_lost s lent
not_lost counting.Fixed lent n = absurd (n refl)
not_lost counting.Counted lent n = refl
not_lost counting.Raw lent n = refl
not_lost counting.Unknown lent n = refl

-- and a count is wrong only where a content is counted
pub not_counted : (s : Counting) (k w lent : ℕ) → (s ≡ counting.Counted → ⊥) → false ≡ lent_bad s k w lent
not_counted counting.Fixed k w lent n = refl
not_counted counting.Counted k w lent n = absurd (n refl)
not_counted counting.Raw k w lent n = refl
not_counted counting.Unknown k w lent n = refl

-- tests joined in code, the second one made only where the first holds
pub then_both : {v a b x : Bool} → v ≡ b → b ≡ x → a ≡ true → v ≡ (a && x)
then_both {v} {a} {b} {x} e f h = e ∙ f ∙ sym (and_yes x h)

pub else_none : {v a : Bool} (x : Bool) → v ≡ false → a ≡ false → v ≡ (a && x)
else_none x e h = e ∙ sym (and_no x h)

none_of : (a b c d : Bool) → not (not a || (b || (c || d))) ≡ (((a && not b) && not c) && not d)
none_of false b c d = refl
none_of true true c d = refl
none_of true false true d = refl
none_of true false false d = refl

pub none_lost : (f : Fields) (body : List ℕ) → not (something_lost f body)
    ≡ (((eqb (type_of (kind_of f.typenumber)) (type_of (kind_for f.content)) && not (body_lost (row_for f.content).counting (length body))) && not (digits_lost f.content f.digits)) && not (eqb f.typenumber 1 && not (eqb f.codes 0)))
unfolding something_lost
none_lost f body = none_of (eqb (type_of (kind_of f.typenumber)) (type_of (kind_for f.content))) (body_lost (row_for f.content).counting (length body)) (digits_lost f.content f.digits) (eqb f.typenumber 1 && not (eqb f.codes 0))

-- the two parts together
pub taken_parts : (a b c d x y : Bool) → not (a || (b || (c || (d || (not x || y))))) ≡ (not (a || (b || (c || d))) && (x && not y))
taken_parts true b c d x y = refl
taken_parts false true c d x y = refl
taken_parts false false true d x y = refl
taken_parts false false false true x y = refl
taken_parts false false false false true y = refl
taken_parts false false false false false y = refl

pub taken_is : (f : Fields) (codes body : List ℕ) (x : Bool) → fine 27 (table_for f body) (values_for f codes body) ≡ x → not (not_taken f codes body) ≡ (not (something_lost f body) && (x && not (no_such_day f.content)))
unfolding not_taken something_lost
taken_is f codes body x e =
    ap (λ (b : Bool). not (other_type f || (body_lost (row_for f.content).counting (length body) || (digits_lost f.content f.digits || ((eqb f.typenumber 1 && not (eqb f.codes 0)) || (not b || no_such_day f.content)))))) e
    ∙ taken_parts (other_type f) (body_lost (row_for f.content).counting (length body)) (digits_lost f.content f.digits) (eqb f.typenumber 1 && not (eqb f.codes 0)) x (no_such_day f.content)
