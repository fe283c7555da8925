-- What is lent for a content whose count no answer 26 refuses, by the sort of its row. Assumes nothing.
use mathlib.Core.Path.{◌≡◌, refl, sym, ap, ◌∙◌}
use mathlib.Core.Bool.{false, not, ◌&&◌}
use mathlib.Core.List.{List}
use Prim.Native.Nat.{ℕ, ◌*◌, ◌≤◌}
use native.Mathlib.Nat.{zero-mul}
use native.Mathlib.Omega.{arith}
use lib.Dec.{leb, eqb}
use lib.ListN.{length, take}
use lib.Seq.{take_all}
use borrow.Author.Tests.{leb-true, eqb-true, not-false}
use Rattle.laws.proofs.Cases.{and_both, or_no}
use Rattle.format.specs.Format.{need}
use Rattle.packet.specs.declared.Counting.{Counting}
use Rattle.packet.specs.declared.Counting.TheVariants as counting
use Rattle.packet.specs.declared.Kind.{Kind}
use Rattle.packet.specs.Table.{row_of, count_by}
use Rattle.packet.specs.Writing.{lent_bad, body_lost}
use Rattle.packet.proofs.Good.{raw_by, good}

-- a raw content has rows of one number
pub one_each : (f : Kind) → (row_of f).counting ≡ counting.Raw → need (row_of f).each ≡ 1
one_each f e = eqb-true (need (row_of f).each) 1 (sym (or_no _ (ap (λ (s : Counting). not (raw_by s)) e)) ∙ (good f).raw_one)

-- what a count that is not bad is
pub lent_enough : (k w : ℕ) (body : List ℕ) → not (leb k 255 && eqb (length body) (k * w)) ≡ false → (k ≤ 255) × (length body ≡ k * w)
lent_enough k w body e =
    let a = and_both (leb k 255) (eqb (length body) (k * w)) (not-false (leb k 255 && eqb (length body) (k * w)) e) in
    (leb-true k 255 a.0, eqb-true (length body) (k * w) a.1)

module _ (k w : ℕ) (body : List ℕ) where
  -- as much as its rows need
  pub bodied_by : (s : Counting) → (s ≡ counting.Raw → w ≡ 1) → lent_bad s (count_by s k (length body)) w (length body) ≡ false → length (take (count_by s k (length body) * w) body) ≡ count_by s k (length body) * w
  bodied_by counting.Fixed r e = rw (zero-mul w)
  bodied_by counting.Counted r e = let a = lent_enough k w body e in ap length (take_all (k * w) body (omega (arith, a.1))) ∙ a.1
  bodied_by counting.Raw r e =
      let n : length body * w ≡ length body = rw (r refl) (omega arith) in
      ap length (take_all (length body * w) body (omega arith)) ∙ sym n
  bodied_by counting.Unknown r e = rw (zero-mul w)

  -- and no more, where none is lost
  pub lent_by : (s : Counting) → (s ≡ counting.Raw → w ≡ 1) → (s ≡ counting.Unknown → ⊥) → body_lost s (length body) ≡ false → lent_bad s (count_by s k (length body)) w (length body) ≡ false → length body ≡ count_by s k (length body) * w
  lent_by counting.Fixed o u l b = eqb-true (length body) 0 (not-false (eqb (length body) 0) l) ∙ sym (zero-mul w)
  lent_by counting.Counted o u l b = (lent_enough k w body b).1
  lent_by counting.Raw o u l b = sym (rw (o refl) (omega arith))
  lent_by counting.Unknown o u l b = absurd (u refl)
