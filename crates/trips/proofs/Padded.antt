-- Zeros after a list, up to a length: what stands before them, and that they are zeros. Assumes nothing.
use mathlib.Core.Path.{◌≡◌, refl, sym, ap, ◌∙◌}
use mathlib.Core.List.{List, [], ◌∷◌, ◌++◌, append_assoc}
use mathlib.Core.Bool.{true, ◌&&◌}
use Prim.Native.Nat.{ℕ, zero, suc, ◌+◌, ◌-◌, ◌≤◌}
use native.Mathlib.Omega.{arith}
use lib.ListN.{length, take, drop, replicate, length-append, length-drop, length-replicate, take-append-drop}
use lib.Seq.{length-take-le, take_at}
use lib.Dec.{leb}
use borrow.Author.Tests.{leb-true, le-leb}
use Rattle.laws.proofs.Cases.{and_both, and_yes}
use Rattle.laws.proofs.Writes.{from_front}
use Rattle.format.specs.Format.{inside}
use Rattle.format.proofs.Tables.{same_inside}
use Rattle.packet.specs.Reading.{zeros, padded}

-- the digits that are used, and zeros after them
zero_is : (v : List ℕ) → inside 0 0 v ≡ true → v ≡ replicate (length v) 0
zero_is v e = same_inside 0 v e

drop_zeros : (n m : ℕ) → m ≤ n → drop m (zeros n) ≡ zeros (n - m)
unfolding zeros
drop_zeros n zero h = let e : n ≡ n - 0 = omega arith in ap zeros e
drop_zeros zero (suc m) h = absurd (omega arith)
drop_zeros (suc n) (suc m) h = let e : n - m ≡ suc n - suc m = omega arith in drop_zeros n m (omega arith) ∙ ap zeros e

pub padded_take : (m : ℕ) (ds : List ℕ) → length ds ≡ 35 → m ≤ 35 → inside 0 0 (drop m ds) ≡ true → padded 35 (take m ds) ≡ ds
unfolding zeros
padded_take m ds n h e =
    let z : List ℕ = zeros 35 in
    let zl : length z ≡ 35 = length-replicate {A = ℕ} 35 0 in
    let k : length (take m ds) ≡ m = length-take-le m ds (omega arith) in
    let r : drop m ds ≡ zeros (35 - m) = zero_is (drop m ds) e ∙ ap zeros (length-drop m ds ∙ ap (λ (x : ℕ). x - m) n) in
    from_front (take m ds) z (omega (arith, zl)) ∙ ap (λ (x : ℕ). take m ds ++ drop x z) k ∙ ap (λ (l : List ℕ). take m ds ++ l) (drop_zeros 35 m h ∙ sym r) ∙ take-append-drop m ds

pub padded_is : (m : ℕ) (xs : List ℕ) → length xs ≤ m → padded m xs ≡ xs ++ drop (length xs) (zeros m)
unfolding zeros
padded_is m xs h = from_front xs (zeros m) (omega (arith, length-replicate {A = ℕ} m 0))

pub take_padded : (m : ℕ) (u v : List ℕ) → length u + length v ≤ m → take (length u) (padded m (u ++ v)) ≡ u
take_padded m u v h =
    ap (take (length u)) (padded_is m (u ++ v) (omega (arith, length-append u v)) ∙ append_assoc u v (drop (length (u ++ v)) (zeros m))) ∙ take_at u (v ++ drop (length (u ++ v)) (zeros m)) (length u) refl

pub rest_zeros : (n m : ℕ) → inside 0 0 (drop m (zeros n)) ≡ true
unfolding zeros inside
rest_zeros zero zero = refl
rest_zeros (suc n) zero = rest_zeros n zero
rest_zeros zero (suc m) = refl
rest_zeros (suc n) (suc m) = rest_zeros n m

pub inside_append : (lo hi : ℕ) (u v : List ℕ) → inside lo hi u ≡ true → inside lo hi v ≡ true → inside lo hi (u ++ v) ≡ true
unfolding inside
inside_append lo hi [] v a b = b
inside_append lo hi (x ∷ u) v a b =
    let h = and_both (leb lo x && leb x hi) (inside lo hi u) a in
    and_yes _ h.0 ∙ inside_append lo hi u v h.1 b

pub wider : (v : List ℕ) → inside 0 0 v ≡ true → inside 0 9 v ≡ true
unfolding inside
wider [] h = refl
wider (x ∷ v) h =
    let a = and_both (leb 0 x && leb x 0) (inside 0 0 v) h in
    let b = and_both (leb 0 x) (leb x 0) a.0 in
    rw (b.0, le-leb x 9 (omega (arith, leb-true x 0 b.1))) (wider v a.1)
