-- What the sizes of a content's row say: its digits, its bytes, its count. Assumes nothing.
use mathlib.Core.Path.{◌≡◌, sym, ap, ◌∙◌}
use mathlib.Core.Bool.{Bool}
use Prim.Native.Nat.{ℕ, ◌+◌, ◌-◌, ◌*◌, ◌/◌, ◌≤◌}
use native.Mathlib.Omega.{arith}
use lib.ListN.{length}
use Rattle.format.specs.Format.{size, need}
use Rattle.packet.specs.declared.Content.{Content}
use Rattle.packet.specs.declared.Laid.{Laid}
use Rattle.packet.specs.declared.Sizes.{Sizes}
use Rattle.packet.specs.declared.Counting.{Counting}
use Rattle.packet.specs.Table.{content_bytes, row_of, count_by}
use Rattle.packet.specs.InCode.{laid_of}
use Rattle.packet.specs.Content.{kind_for, numbers_of}
use Rattle.packet.specs.Reading.{sizes_of}
use Rattle.packet.specs.Writing.{row_for, digits_before, digits_after, lent_bad}
use Rattle.packet.proofs.Good.{good}
use Rattle.packet.proofs.Bytes.{bytes_are, bytes_most}
use Rattle.packet.proofs.Contents.{numbers_long}
use Rattle.writer.specs.Puts.{count_lent}
use Rattle.writer.specs.Parts.{bytes_of}

module _ (c : Content) (z : Sizes) (e : z ≡ sizes_of (kind_for c)) where
  first_is : z.first ≡ need (row_for c).before
  first_is = ap (λ (x : Sizes). x.first) e

  pub row_is : z.row ≡ need (row_for c).each
  row_is = ap (λ (x : Sizes). x.row) e

  pub each_is : z.each ≡ size (row_for c).each
  each_is = ap (λ (x : Sizes). x.each) e

  last_is : z.last ≡ need (row_for c).after
  last_is = ap (λ (x : Sizes). x.last) e

  pub row_few : z.row ≤ 8
  row_few = omega (arith, row_is, (good (kind_for c)).entry)

  -- the digits that it uses
  pub used_is : (n : ℕ) → n ≡ length (numbers_of c) → (n ≤ z.first) × (z.first - n + z.last ≡ digits_before c + digits_after c) × (z.first - n + z.last ≤ 35)
  used_is n m =
      let g = good (kind_for c) in
      let l = numbers_long c in
      (omega (arith, first_is, m, l, g.numbered), omega (arith, first_is, last_is, m), omega (arith, first_is, last_is, m, l, g.last))

  -- its bytes
  module _ (k lent : ℕ) (q : k ≡ count_lent c lent) where
    pub bytes_for : (z.lead + k * z.each + z.rest) / 8 ≡ bytes_of c lent
    bytes_for = bytes_are (kind_for c) k z.lead z.each z.rest (ap (λ (x : Sizes). x.lead) e) each_is (ap (λ (x : Sizes). x.rest) e) ∙ ap (content_bytes (kind_for c)) q

    pub bits_most : k ≤ 1000 → z.lead + k * z.each + z.rest ≤ 80263
    bits_most h = omega (arith, bytes_for, bytes_most (kind_for c) (count_lent c lent) (omega (arith, q)))

    -- its count against what is lent
    pub bad_by : (b : Bool) (s : Counting) → (row_for c).counting ≡ s → b ≡ lent_bad s k z.row lent → b ≡ lent_bad (row_for c).counting (count_lent c lent) (need (row_for c).each) lent
    bad_by b s h f = f ∙ rw (q, row_is, ← h)

-- its count, by the numbers that it is laid out as
pub counted : (c : Content) (lent : ℕ) (l : Laid) (s : Counting) → l ≡ laid_of c → (row_of l.kind).counting ≡ s → count_by s l.count lent ≡ count_lent c lent
counted c lent l s e h = ap (λ (t : Counting). count_by t l.count lent) (sym h) ∙ ap (λ (x : Laid). count_by (row_of x.kind).counting x.count lent) e
