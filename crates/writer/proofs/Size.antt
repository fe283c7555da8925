-- The size of a packet by paper 01's column of content bytes. Assumes nothing.
use mathlib.Core.Path.{◌≡◌, refl, sym, ◌∙◌}
use mathlib.Core.Bool.{cond}
use mathlib.Core.List.{List}
use Prim.Native.Nat.{ℕ, ◌+◌, ◌*◌, ◌<◌, ◌≤◌}
use native.Mathlib.Omega.{arith}
use lib.Dec.{ltb}
use lib.ListN.{length}
use borrow.Author.Tests.{ltb-true}
use Rattle.laws.proofs.Cases.{if_yes, if_no}
use Rattle.laws.proofs.Elements.{by_test}
use Rattle.packet.specs.declared.Content.{Content}
use Rattle.packet.specs.declared.Fields.{Fields}
use Rattle.packet.specs.Content.{parts_of, kind_for, count_for}
use Rattle.packet.specs.Writing.{size_for}
use Rattle.packet.proofs.Column.{column}
use Rattle.packet.proofs.Bytes.{bytes_least}
use Rattle.writer.specs.Puts.{count_lent}
use Rattle.writer.specs.Parts.{content_size, bytes_of}

pub content_bits : (c : Content) (body : List ℕ) → content_size c body ≡ 8 * bytes_of c (length body)
unfolding content_size
content_bits c body = column (kind_for c) (count_for c body)

pub size_is : (f : Fields) (body : List ℕ) → size_for f body ≡ 77 + 12 * f.codes + bytes_of f.content (length body)
unfolding size_for
size_is f body = refl

-- as `size_of` gives it: above 250 where the packet's is, else the packet's
pub size_by : (f : Fields) (body : List ℕ) (s : ℕ) → s ≡ cond (ltb 1000 (count_lent f.content (length body))) 251 (77 + 12 * f.codes + bytes_of f.content (length body)) → (250 < s → 250 < size_for f body) × (s ≤ 250 → s ≡ size_for f body)
size_by f body s e =
    let c = f.content in
    let p = size_is f body in
    by_test (ltb 1000 (count_lent c (length body)))
    (λ q.
    let v : s ≡ 251 = e ∙ if_yes _ _ q in
    (λ h. omega (arith, ltb-true 1000 (count_lent c (length body)) q, bytes_least (kind_for c) (parts_of c).count (length body)), λ h. absurd (omega arith)))
    (λ q.
    let v : s ≡ size_for f body = e ∙ if_no _ _ q ∙ sym p in
    (λ h. omega arith, λ h. v))
