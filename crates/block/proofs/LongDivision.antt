-- The long division as it is done on paper, a bit of the dividend after another: the rest so far, and its three laws. Assumes nothing.
use mathlib.Core.Path.{◌≡◌, refl, sym, ap, ◌∙◌}
use Prim.Native.Nat.{ℕ, suc, ◌+◌, ◌-◌, ◌*◌, ◌/◌, ◌%◌, ◌^◌, ◌≤◌, ◌<◌}
use native.Mathlib.Omega.{arith}
use lib.Pow.{shr-shr}
use lib.Bits.{xor_comm}
use Rattle.laws.specs.Poly.{◌⊕◌, reduce, remainder}
use Rattle.laws.proofs.Remainder.{remainder_lt, reduce_low}
use Rattle.block.specs.Block.{generator, syndrome}

-- what is left of the bits brought down so far, with so many of the 26 still to come
unfoldable pub rest_so_far : ℕ → ℕ → ℕ
rest_so_far dividend left = remainder 10 generator (26 - left) (dividend / 2 ^ left)

pub rest_first : (dividend : ℕ) → rest_so_far dividend 26 ≡ 0
unfolding rest_so_far remainder
rest_first dividend = refl

pub rest_small : (dividend left : ℕ) → rest_so_far dividend left < 1024
unfolding rest_so_far
rest_small dividend left = remainder_lt 10 generator refl (26 - left) (dividend / 2 ^ left)

-- the next bit stands behind the rest, and the generator is taken off
brought : (dividend left : ℕ) → left < 26 → rest_so_far dividend left ≡ reduce 10 generator (rest_so_far dividend (left + 1) * 2 + dividend / 2 ^ left % 2)
unfolding rest_so_far remainder
brought dividend left h =
    let n : 26 - left ≡ suc (26 - (left + 1)) = omega arith in
    ap (λ (m : ℕ). remainder 10 generator m (dividend / 2 ^ left)) n
    ∙ ap (λ (x : ℕ). reduce 10 generator (remainder 10 generator (26 - (left + 1)) x * 2 + dividend / 2 ^ left % 2)) (shr-shr dividend left 1)

module _ (dividend left rest : ℕ) (h : left < 26) (e : rest ≡ rest_so_far dividend (left + 1)) where
  -- where x^10 does not stand in it, nothing is taken off
  pub rest_kept : rest * 2 + dividend / 2 ^ left % 2 < 1024 → rest * 2 + dividend / 2 ^ left % 2 ≡ rest_so_far dividend left
  rest_kept l =
      sym (brought dividend left h ∙ ap (λ (x : ℕ). reduce 10 generator (x * 2 + dividend / 2 ^ left % 2)) (sym e) ∙ reduce_low 10 generator _ l)

  -- where it stands, the generator is taken off once
  pub rest_less : 1024 ≤ rest * 2 + dividend / 2 ^ left % 2 → (rest * 2 + dividend / 2 ^ left % 2) ⊕ generator ≡ rest_so_far dividend left
  unfolding reduce
  rest_less l =
      sym (brought dividend left h ∙ ap (λ (x : ℕ). reduce 10 generator (x * 2 + dividend / 2 ^ left % 2)) (sym e) ∙ once (rest * 2 + dividend / 2 ^ left % 2) l (let s = rest_small dividend (left + 1) in omega arith))
    where
      once : (t : ℕ) → 1024 ≤ t → t < 2048 → reduce 10 generator t ≡ t ⊕ generator
      once t l u = ap (λ (x : ℕ). x * generator ⊕ t) (let q : t / 1024 ≡ 1 = omega arith in q) ∙ xor_comm generator t

pub rest_last : (dividend : ℕ) → rest_so_far dividend 0 ≡ syndrome dividend
unfolding rest_so_far syndrome
rest_last dividend = ap (remainder 10 generator 26) (let e : dividend / 1 ≡ dividend = omega arith in e)
