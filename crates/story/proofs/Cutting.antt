-- Packets back to back are cut by their length fields where one ends and the next begins. Assumes nothing.
use mathlib.Core.Path.{◌≡◌, refl, sym, ap, ap₂, ◌∙◌}
use mathlib.Core.List.{List, [], ◌∷◌, ◌++◌}
use mathlib.Core.Bool.{Bool, true, ◌&&◌, false≢true}
use Prim.Native.Nat.{ℕ, zero, suc, ◌+◌, ◌≤◌}
use native.Mathlib.Nat.{le_of_suc-le-suc}
use native.Mathlib.Omega.{arith}
use lib.ListN.{length}
use lib.Seq.{take_at, drop_at}
use lib.Dec.{leb, eqb}
use borrow.Author.Tests.{leb-true, eqb-true}
use Rattle.laws.specs.Bits.{at, bits}
use Rattle.laws.specs.Scan.{all}
use Rattle.laws.proofs.Bits.{at_left, length_spread, spread_append}
use Rattle.laws.proofs.Cases.{and_both}
use Rattle.laws.proofs.Elements.{all_head, all_tail}
use Rattle.size.specs.Size.{packet_size}
use Rattle.laws.specs.Lists.{together}
use Rattle.story.specs.Joining.{cut}

-- as long as it says itself
abbrev pub stated : List ℕ → Bool
stated b = leb 2 (length b) && eqb (length b) (packet_size b)

-- the length field is that of the first packet, whatever follows
length_first : (b rest : List ℕ) → 2 ≤ length b → packet_size (b ++ rest) ≡ packet_size b
unfolding packet_size
length_first b rest h =
    ap (λ (n : ℕ). n + 2) (ap (λ (l : List ℕ). at l 5 11) (spread_append 8 b rest) ∙ at_left (bits b) (bits rest) 5 11 (omega (arith, length_spread 8 b)))

pub cut_back : (bs : List (List ℕ)) (n : ℕ) → length bs ≤ n → all stated bs ≡ true → cut n (together bs) ≡ bs
unfolding cut together
cut_back [] zero h e = refl
cut_back [] (suc n) h e = refl
cut_back (b ∷ bs) zero h e = absurd (omega arith)
cut_back ([] ∷ bs) (suc n) h e = absurd (false≢true (all_head stated [] bs e))
cut_back ((x ∷ b) ∷ bs) (suc n) h e =
    let s = and_both (leb 2 (length (x ∷ b))) (eqb (length (x ∷ b)) (packet_size (x ∷ b))) (all_head stated (x ∷ b) bs e) in
    let l : length (x ∷ b) ≡ packet_size ((x ∷ b) ++ together bs) =
    eqb-true (length (x ∷ b)) (packet_size (x ∷ b)) s.1 ∙ sym (length_first (x ∷ b) (together bs) (leb-true 2 (length (x ∷ b)) s.0)) in
    ap₂ (λ (p : List ℕ) (ps : List (List ℕ)). p ∷ ps)
    (take_at (x ∷ b) (together bs) (packet_size ((x ∷ b) ++ together bs)) l)
    (ap (cut n) (drop_at (x ∷ b) (together bs) (packet_size ((x ∷ b) ++ together bs)) l) ∙ cut_back bs n (le_of_suc-le-suc h) (all_tail stated (x ∷ b) bs e))
