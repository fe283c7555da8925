-- No sum and no product is rounded; and a state that is reached is a good one. Assumes nothing.
use mathlib.Core.Path.{◌≡◌, refl, sym, ap, ap₂, ◌∙◌, subst}
use mathlib.Core.List.{List}
use Prim.Native.Nat.{ℕ, zero, suc, ◌+◌, ◌*◌, ◌≤◌, ◌^◌}
use native.Mathlib.Nat.{le_trans, mul-le-mul}
use native.Mathlib.Numerals.{add-one}
use native.Mathlib.Omega.{arith}
use mathlib.Core.Bool.{Bool, true, false, cond}
use lib.Dec.{T, eqb, eqb→eq, lit≤}
use lib.ListN.{length, get_or}
use lib.IntN.{ℤ, pos, negsuc, nat_abs, ◌*ℤ◌}
use lib.Ieee.{Float, nan, fin, binary64, of_int, add, sub, mul}
use lib.Ieee.Fits.{and_i}
use Rattle.laws.specs.Scan.{all}
use Rattle.samples.specs.Whole.{is_whole, whole_of, of_whole, within}
use Rattle.samples.specs.Symbol.{is_part, is_sample, is_pair, total, part, product, verdict_of, pair_of, fresh_pair, refusal, taken, decide_answer, decided}
use Rattle.samples.specs.Unrounded.{Is, float_sum, float_part, float_product, carried, Unrounded}
use Rattle.samples.specs.declared.Pair.{Pair}
use Rattle.samples.specs.Symbol.{Decided}
use Rattle.samples.proofs.Arithmetic.{of_means, between_parts, mul_means, whole_means}
use Rattle.samples.proofs.Answers.{answer_is}
use Rattle.samples.proofs.Steps.{holds, passed_all, is_taken, means_back, within_means, total_abs, total_more, part_is, part_means, part_good, part_between, part_size, pair_part, dot_is, product_small}

-- plus zero for 0
pub zero_plus : of_whole (pos 0) ≡ fin false 0 (pos 0)
unfolding of_int
zero_plus = refl

carried_is : (z : ℤ) → carried (verdict_of z) ≡ of_whole z
unfolding verdict_of
carried_is (pos zero) = refl
carried_is (pos (suc n)) = refl
carried_is (negsuc n) = refl

-- ---- a symbol of 32 samples
module _ (xs : List Float) (l : length xs ≡ 32) (t : T (all is_sample xs)) where
  sum_is : (at n : ℕ) → at ≤ 17 → n ≤ 8 → float_sum xs at n ≡ of_whole (total xs at n)
  unfolding float_sum total
  sum_is at zero h k = refl
  sum_is at (suc n) h k =
      ap (λ (x : Float). add binary64 x (get_or xs (at + 2 * n) nan)) (sum_is at n h (omega arith))
      ∙ total_more xs at n t (omega arith) (omega arith)
      ∙ ap (λ (m : ℕ). of_whole (total xs at m)) (add-one n)

  part_float : (at : ℕ) → at ≤ 1 → float_part xs at ≡ of_whole (part xs at)
  part_float at h =
      ap (λ (x : Float). sub binary64 x (float_sum xs (at + 16) 8)) (sum_is at 8 (omega arith) (omega arith))
      ∙ ap (λ (x : Float). sub binary64 (of_whole (total xs at 8)) x) (sum_is (at + 16) 8 (omega arith) (omega arith))
      ∙ part_is xs at t

  part_stands : (at : ℕ) → at ≤ 1 → Is (float_part xs at) (part xs at)
  part_stands at h = subst (λ (x : Float). Is x (part xs at)) (sym (part_float at h)) (means_back (of_whole (part xs at)) (part xs at) (part_means xs at t))

  sum_stands : (at n : ℕ) → at ≤ 17 → n ≤ 8 → Is (float_sum xs at n) (total xs at n)
  sum_stands at n h k =
      subst (λ (x : Float). Is x (total xs at n)) (sym (sum_is at n h k))
      (means_back (of_whole (total xs at n)) (total xs at n) (of_means binary64 (total xs at n) (total_abs xs t at n k)))

  -- one product of a state's number and the symbol's
  times : (x : Float) (at : ℕ) → at ≤ 1 → T (is_part x) → Is (mul binary64 x (float_part xs at)) (whole_of x *ℤ part xs at)
  times x at h a =
      let y = float_part xs at in
      let k = part_stands at h in
      let b : nat_abs (part xs at) ≤ 524280 = (between_parts 524279 524280 (part xs at) (part_between xs at t)).2 in
      subst (λ (z : ℤ). Is (mul binary64 x y) (whole_of x *ℤ z)) k.1
      (means_back (mul binary64 x y) (whole_of x *ℤ whole_of y)
      (mul_means binary64 x y (whole_of x) (whole_of y) (within_means (negsuc 524279) (pos 524280) x a) (whole_means y k.0)
      (le_trans (mul-le-mul (part_size x a) (subst (λ (z : ℤ). nat_abs z ≤ 524280) (sym k.1) b)) (lit≤ {m = 524280 * 524280} {n = 2 ^ 53} tt))))

-- ---- what is taken
module _ (s : Pair) (xs : List Float) (a : T (is_pair s)) (l : length xs ≡ 32) (t : T (all is_sample xs)) where
  abbrev symbol : Pair
  symbol = pair_of (part xs 0) (part xs 1)

  abbrev z : ℤ
  z = product (whole_of s.inphase) (whole_of s.quadrature) (part xs 0) (part xs 1)

  good_symbol : T (is_pair symbol)
  good_symbol = and_i (is_part (of_whole (part xs 0))) (is_part (of_whole (part xs 1))) (part_good xs 0 t) (part_good xs 1 t)

  product_float : float_product s symbol ≡ of_whole z
  product_float =
      dot_is s symbol a good_symbol
      ∙ ap₂ (λ (i q : ℤ). of_whole (product (whole_of s.inphase) (whole_of s.quadrature) i q))
      (means_back (of_whole (part xs 0)) (part xs 0) (part_means xs 0 t)).1
      (means_back (of_whole (part xs 1)) (part xs 1) (part_means xs 1 t)).1

  small : nat_abs z ≤ 2 ^ 53
  small =
      let k = pair_part s a in
      product_small (whole_of s.inphase) (whole_of s.quadrature) (part xs 0) (part xs 1) (part_size s.inphase k.0) (part_size s.quadrature k.1)
      (between_parts 524279 524280 (part xs 0) (part_between xs 0 t)).2 (between_parts 524279 524280 (part xs 1) (part_between xs 1 t)).2

  unrounded : decided s xs ≡ taken s xs → Unrounded s xs
  unrounded e =
      let same : (decided s xs).state ≡ symbol = ap (λ (d : Decided). d.state) e in
      record {
        sums = sum_stands xs l t;
        inphase = part_stands xs l t 0 (omega arith);
        quadrature = part_stands xs l t 1 (omega arith);
        next = same ∙ ap₂ (λ (i q : Float). record { inphase = i; quadrature = q }) (sym (part_float xs l t 0 (omega arith))) (sym (part_float xs l t 1 (omega arith)));
        first_product = times xs l t s.inphase 0 (omega arith) (pair_part s a).0;
        second_product = times xs l t s.quadrature 1 (omega arith) (pair_part s a).1;
        product_is = subst (λ (p : Pair). Is (float_product s p) z) (sym same) (subst (λ (x : Float). Is x z) (sym product_float) (means_back (of_whole z) z (of_means binary64 z small)));
        handed_back = ap (λ (d : Decided). carried d.verdict) e ∙ carried_is z ∙ sym product_float ∙ ap (float_product s) (sym same);
      }

-- Of every symbol and state that is taken, every sum and every product is that of whole-number arithmetic: nothing is rounded.
pub exact : (s : Pair) (xs : List Float) → (decided s xs).answer ≡ 0 → Unrounded s xs
exact s xs h =
    let z = sym (sym (answer_is s xs) ∙ h) in
    let p = passed_all s xs z in
    unrounded s xs p.0 p.1 p.2 (sym (is_taken s xs z))

-- a state that is reached from a good one is good: 28 never comes in a run from a fresh state
pub stays_good : (s : Pair) (xs : List Float) → T (is_pair s) → T (is_pair (decided s xs).state)
unfolding decided
stays_good s xs a = by (eqb (decide_answer s xs) 0) refl
  where
    by : (t : Bool) → eqb (decide_answer s xs) 0 ≡ t → T (is_pair (cond t (taken s xs) (refusal (decide_answer s xs) s)).state)
    by true e =
        let h = passed_all s xs (sym (eqb→eq (decide_answer s xs) 0 (holds e))) in
        and_i (is_part (of_whole (part xs 0))) (is_part (of_whole (part xs 1))) (part_good xs 0 h.2) (part_good xs 1 h.2)
    by false e = a

pub fresh_good : T (is_pair fresh_pair)
unfolding within is_whole whole_of of_int
fresh_good = tt
